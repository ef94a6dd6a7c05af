-- Events of members over Raft: where one is not refused, it is what members do by themselves, or a member starts again.
use Rattle.std.proofs.Common.{◌≡◌, ℕ, ◌+◌, ◌-◌, ◌<◌, ◌≤◌, nat_le, Bool, true, false, not, ◌&&◌, cond, List, [], ◌∷◌, Option, None, Some, refl}
use Rattle.std.proofs.Common.{ap, sym, ◌∙◌, leb-true, leb-false, arith, length}
use Rattle.std.specs.Prelude.{slice_get}
use Rattle.ncc_tx.specs.declared.entry.Item.{Item}
use Rattle.ncc_raft.specs.declared.message.Envelope.{Envelope}
use Rattle.ncc_raft.specs.declared.message.Body.{Body}
use Rattle.ncc_raft.specs.declared.message.Body.TheVariants as body
use Rattle.ncc_raft.specs.Member.{Event, Timeout, Beat, Receive, letter, is_core}
use Rattle.ncc_raft.specs.Pulled.{Taken, Grown, Gap, Stale, Contradicted, taken}
use Rattle.ncc_safety.specs.Fleet.{Fleet, Moves, TimesOut, Beats, Hears, Asks, Takes, Rests, Again, Empties, WasSent, is_replica, list_at}
use Rattle.ncc_safety.specs.Fleet.{steps_to, starts_again, list_becomes, also_sends}
use Rattle.ncc_world.specs.declared.setup.Setup.{Setup}
use Rattle.ncc_world.specs.declared.error.WorldError.{WorldError}
use Rattle.ncc_world.specs.declared.error.WorldError.TheVariants.{NoMember, WrongRole}
use Rattle.ncc_world.specs.Setting.{Seats, over_list, over_raft, shape_of, MovesTo, RestartsTo}
use Rattle.ncc_world.specs.Rafts.{unless, has_member, refuses_core, refuses_message, refuses_pull, refuses_crash}
use Rattle.ncc_world.specs.Rafts.{stepping, grown_by, took, hears, delivered, pulled, restarted}
use Rattle.ncc_world.proofs.Rooms.{lt_yes}

-- ---- what is not refused

both : (a b : Bool) → (a && b) ≡ true → (a ≡ true) × (b ≡ true)
both true true e = (refl, refl)
both true false e = absurd (cc)
both false b e = absurd (cc)

pub not_refused : (b : Bool) (error : WorldError) → unless b error ≡ None → b ≡ true
not_refused true error e = refl
not_refused false error e = absurd (cc)

by_both : (a b : Bool) → cond a (unless b WrongRole) (Some NoMember) ≡ None → (a ≡ true) × (b ≡ true)
by_both true true e = (refl, refl)
by_both true false e = absurd (cc)
by_both false b e = absurd (cc)

not_true : (b : Bool) → not b ≡ true → b ≡ false
not_true true e = absurd (cc)
not_true false e = refl

core_by : (n member : ℕ) → 1 ≤ member → nat_le member n ≡ true → is_core n member ≡ true
unfolding is_core
core_by n member low e = ap (λ (b : Bool). b && nat_le member n) (lt_yes 0 member (omega (arith, low))) ∙ e

has_low : (s : Setup) (member : ℕ) → has_member s member ≡ true → 1 ≤ member
has_low s member e = leb-true 1 member (both (nat_le 1 member) (nat_le member (s.cores + s.replicas)) e).0

has_high : (s : Setup) (member : ℕ) → has_member s member ≡ true → nat_le member (s.cores + s.replicas) ≡ true
has_high s member e = (both (nat_le 1 member) (nat_le member (s.cores + s.replicas)) e).1

pub core_is : (s : Setup) (f : Fleet) (member : ℕ) → refuses_core s (over_raft f) member ≡ None → is_core s.cores member ≡ true
core_is s f member e =
    let h = by_both (has_member s member) (nat_le member s.cores) e in core_by s.cores member (has_low s member h.0) h.1

replica_by : (s : Setup) (member : ℕ) → has_member s member ≡ true → nat_le member s.cores ≡ false → is_replica (shape_of s) member ≡ true
replica_by s member e f =
    let past : s.cores < member = leb-false member s.cores f in
    ap (λ (b : Bool). b && nat_le member (s.cores + s.replicas)) (lt_yes s.cores member past) ∙ has_high s member e

-- ---- moves

core_moves : (s : Setup) (event : Event)
    → ((f : Fleet) (i : ℕ) → is_core s.cores i ≡ true → Moves (shape_of s) f (steps_to (shape_of s) f i event))
    → (seats : Seats) (member : ℕ) → refuses_core s seats member ≡ None → MovesTo s seats (stepping s seats member event)
core_moves s event by (over_list lists) member e = absurd (cc)
core_moves s event by (over_raft f) member e = (steps_to (shape_of s) f member event, by f member (core_is s f member e), refl)

pub times_out : (s : Setup) (seats : Seats) (member : ℕ) → refuses_core s seats member ≡ None
    → MovesTo s seats (stepping s seats member Timeout)
times_out s seats member e = core_moves s Timeout (λ f i h. TimesOut i h) seats member e

pub beats : (s : Setup) (seats : Seats) (member : ℕ) → refuses_core s seats member ≡ None → MovesTo s seats (stepping s seats member Beat)
beats s seats member e = core_moves s Beat (λ f i h. Beats i h) seats member e

grown_moves : (s : Setup) (f : Fleet) (from to first : ℕ) (items : List Item) (t : Taken) → is_replica (shape_of s) to ≡ true
    → WasSent f (letter from to (body.Batch first items)) → taken (list_at (shape_of s) f to) first items ≡ t
    → Moves (shape_of s) f (grown_by s f to t)
grown_moves s f from to first items (Grown list) r w e = Takes to from first items list r w e
grown_moves s f from to first items (Gap have at) r w e = Rests
grown_moves s f from to first items (Stale have last) r w e = Rests
grown_moves s f from to first items (Contradicted conflict) r w e = Rests

took_moves : (s : Setup) (f : Fleet) (from to : ℕ) (b : Body) → is_replica (shape_of s) to ≡ true → WasSent f (letter from to b)
    → Moves (shape_of s) f (took s f to b)
took_moves s f from to (body.Batch first items) r w =
    grown_moves s f from to first items (taken (list_at (shape_of s) f to) first items) r w refl
took_moves s f from to (body.VoteAsk term place last) r w = Rests
took_moves s f from to (body.VoteReply term granted) r w = Rests
took_moves s f from to (body.Append term prev prev_term commit items) r w = Rests
took_moves s f from to (body.AppendReply term has place) r w = Rests
took_moves s f from to (body.Pull have) r w = Rests

hears_moves : (s : Setup) (f : Fleet) (n : ℕ) (o : Option Envelope) → slice_get f.sent n ≡ o → Moves (shape_of s) f (hears s f o)
hears_moves s f n None h = Rests
hears_moves s f n (Some e) h = go (is_core s.cores e.to) (is_replica (shape_of s) e.to) refl refl where
  go : (a b : Bool) → is_core s.cores e.to ≡ a → is_replica (shape_of s) e.to ≡ b
      → Moves (shape_of s) f (cond a (steps_to (shape_of s) f e.to (Receive e)) (cond b (took s f e.to e.body) f))
  go true b c d = Hears e c (n, h)
  go false true c d = took_moves s f e.from e.to e.body d (n, h)
  go false false c d = Rests

pub delivers : (s : Setup) (seats : Seats) (message : ℕ) → refuses_message seats message ≡ None
    → MovesTo s seats (delivered s seats message)
delivers s (over_list lists) message e = absurd (cc)
delivers s (over_raft f) message e =
    (hears s f (slice_get f.sent (message - 1)), hears_moves s f (message - 1) (slice_get f.sent (message - 1)) refl, refl)

pub pulls : (s : Setup) (seats : Seats) (replica core : ℕ) → refuses_pull s seats replica core ≡ None
    → MovesTo s seats (pulled s seats replica core)
pulls s (over_list lists) replica core e = absurd (cc)
pulls s (over_raft f) replica core e =
    let h = by_both (has_member s replica && has_member s core) (not (nat_le replica s.cores) && nat_le core s.cores) e in
    let there = both (has_member s replica) (has_member s core) h.0 in
    let roles = both (not (nat_le replica s.cores)) (nat_le core s.cores) h.1 in (
      also_sends f (letter replica core (body.Pull (length (list_at (shape_of s) f replica))) ∷ []),
      Asks replica core (replica_by s replica there.0 (not_true (nat_le replica s.cores) roles.0))
          (core_by s.cores core (has_low s core there.1) roles.1),
      refl,
    )

-- ---- a member starts again

pub restarts : (s : Setup) (seats : Seats) (member : ℕ) → refuses_crash s seats member ≡ None
    → RestartsTo s seats member (restarted s seats member)
restarts s (over_list lists) member e = absurd (cc)
restarts s (over_raft f) member e = go (is_core s.cores member) (nat_le member s.cores) refl refl where
  there : has_member s member ≡ true
  there = not_refused (has_member s member) NoMember e

  clash : is_core s.cores member ≡ false → nat_le member s.cores ≡ true → ⊥
  clash c d = let k = core_by s.cores member (has_low s member there) d in absurd (let z : false ≡ true = sym c ∙ k in cc)

  go : (a b : Bool) → is_core s.cores member ≡ a → nat_le member s.cores ≡ b
      → RestartsTo s (over_raft f) member
      (over_raft (cond a (starts_again (shape_of s) f member) (list_becomes (shape_of s) f member [])))
  go true b c d = (starts_again (shape_of s) f member, Again c, refl)
  go false true c d = absurd (clash c d)
  go false false c d = (list_becomes (shape_of s) f member [], Empties (replica_by s member there d), refl)
