-- In a small fleet all that is sent can be carried, and cores stay sound.
use Rattle.std.proofs.Common.{◌≡◌, ℕ, ◌≤◌, true, false, arith}
use Rattle.std.proofs.lemmas.List.{length-replicate}
use Rattle.std.proofs.lemmas.List.Elements.{All-nil}
use Rattle.ncc_tx.specs.declared.entry.Item.{Item}
use Rattle.ncc_raft.specs.declared.message.Body.TheVariants.{Pull}
use Rattle.ncc_raft.specs.Carried.{Carried}
use Rattle.ncc_raft.specs.Core.{IsSeat, IsSound}
use Rattle.ncc_raft.specs.Laws.{MayCome}
use Rattle.ncc_raft.specs.Member.{Seat, Member, Event, Timeout, Beat, Receive, Propose, letter, is_core, restarted}
use Rattle.ncc_raft.specs.Step.{step}
use Rattle.ncc_raft.proofs.Sends.{sends}
use Rattle.ncc_raft.proofs.Stays.{stays}
use Rattle.ncc_safety.specs.Cluster.{new_member}
use Rattle.ncc_safety.specs.Fleet.{Shape, IsSmall, seat_at, is_replica, Seen, Reached}
use Rattle.ncc_safety.specs.FleetLaws.{CanBeCarried, CoresAreSound}
use Rattle.ncc_safety.proofs.Fleets.{core_within, replica_within}
use Rattle.ncc_safety.proofs.Lasting.{IsAllowed, Meets, SoBehind, Lasts, IsSoSeen, always_so}

seat_is : (shape : Shape) (i : ℕ) → IsSmall shape → is_core shape.cores i ≡ true → IsSeat (seat_at shape i)
seat_is shape i small b =
    let w = core_within shape.cores i b in
    record { this = w.0; among = w.1; few = small.few; some = small.room; limit = small.limit }

may_come : (event : Event) → Meets (λ e. Carried e) event → MayCome event
may_come Timeout m = tt
may_come Beat m = tt
may_come (Propose entry) m = m
may_come (Receive e) m = m

again_sound : (seat : Seat) (m : Member) → IsSound seat m → IsSound seat (restarted seat.cores 0 m)
again_sound seat m s = record {
  saved = s.saved;
  commit = omega arith;
  few = s.few;
  votes = length-replicate seat.cores false;
  next = length-replicate seat.cores 0;
  match = length-replicate seat.cores 0;
  leads = λ e. absurd (cc);
}

new_sound : (shape : Shape) (i : ℕ) → IsSmall shape → is_core shape.cores i ≡ true → IsSound (seat_at shape i) (new_member shape.cores)
unfolding new_member
new_sound shape i small b = record {
  saved = record { term = omega arith; vote = omega arith; terms = tt; entries = All-nil (λ (x : Item). IsAllowed x); few = omega arith };
  commit = omega arith;
  few = omega arith;
  votes = length-replicate shape.cores false;
  next = length-replicate shape.cores 0;
  match = length-replicate shape.cores 0;
  leads = λ e. absurd (cc);
}

module _ (shape : Shape) (small : IsSmall shape) where
  abbrev Sound : ℕ → Member → Type 0
  Sound i m = IsSound (seat_at shape i) m

  step_sound : (i : ℕ) (m : Member) (event : Event) → is_core shape.cores i ≡ true → Sound i m → Meets (λ e. Carried e) event →
      SoBehind (λ j n. Sound j n) (λ e. Carried e) i (step (seat_at shape i) m event)
  step_sound i m event b s c = (
    stays (seat_at shape i) m event (seat_is shape i small b) s (may_come event c),
    (sends (seat_at shape i) m event (seat_is shape i small b) s (may_come event c)).0,
  )

  ask_carried : (j i have : ℕ) → is_replica shape j ≡ true → is_core shape.cores i ≡ true → have ≤ shape.limit →
      Carried (letter j i (Pull have))
  ask_carried j i have d b l =
      let v = replica_within shape j d in
      let w = core_within shape.cores i b in
      let few = small.few in
      let replicas = small.replicas in
      let limit = small.limit in
      record { from = (omega arith, omega arith); to = (omega arith, omega arith); body = omega arith }

  carried_lasts : Lasts shape (λ j n. Sound j n) (λ e. Carried e)
  carried_lasts = record {
    new = λ i b. new_sound shape i small b;
    steps = step_sound;
    again = λ i m s. again_sound (seat_at shape i) m s;
    asks = ask_carried;
    logs = λ i m s. s.saved.entries;
    batches = λ from j first items c. let b = c.body in b.3.entries;
  }

  so : (x : Seen) → Reached shape x → IsSoSeen shape (λ j n. Sound j n) (λ e. Carried e) carried_lasts x
  so x r = always_so shape (λ j n. Sound j n) (λ e. Carried e) carried_lasts x r

pub can_be_carried : CanBeCarried
can_be_carried shape x r small = (so shape small x r).fleet.sent

pub cores_are_sound : CoresAreSound
cores_are_sound shape x r small i b = record { seat = seat_is shape i small b; sound = (so shape small x r).fleet.cores i b }
