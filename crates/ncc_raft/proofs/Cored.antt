-- The calls of a core are the steps of its member.
use Rattle.std.proofs.Common.{◌≡◌, ◌↔◌, ℕ, false, Result, Ok, Err, length, refl, sym, ap, subst}
use Rattle.std.specs.Prelude.{IfOk, OnErr, OnOk, IsTrue}
use Rattle.ncc_tx.specs.declared.entry.Entry.{Entry}
use Rattle.ncc_tx.specs.Items.{entry_allowed}
use Rattle.ncc_tx.specs.Kept.{Leads}
use Rattle.ncc_raft.specs.declared.message.ProposeError.{ProposeError}
use Rattle.ncc_raft.specs.declared.message.ProposeError.TheVariants.{Elsewhere, Full}
use Rattle.ncc_raft.specs.declared.message.Step.{Step}
use Rattle.ncc_raft.specs.declared.state.Seat as held
use Rattle.ncc_raft.specs.declared.state.State.{State}
use Rattle.ncc_raft.specs.Core.{IsCore, IsSound, Seated}
use Rattle.ncc_raft.specs.Laws.{MayCome}
use Rattle.ncc_raft.specs.Member.{Event, Propose, is_leader, kept}
use Rattle.ncc_raft.specs.State.{IsSoundAt, Made, Proposed, member_of, seat_of, step_of}
use Rattle.ncc_raft.specs.Step.{step}
use Rattle.ncc_raft.proofs.Stays.{stays}

abbrev pub seated_as : held.Seat → State → Seated
seated_as seat s = record { seat = seat_of seat; member = member_of s }

-- ---- what a call finds

pub sound_at : (seat : held.Seat) (s : State) → IsCore (seated_as seat s) → IsSoundAt seat s.standing s
unfolding IsSoundAt
sound_at seat s c = c.sound

-- ---- what it leaves

pub keeps_core : {E : Type 0} (event : Event) (seat : held.Seat) (old new : State) (r : Result Step E) → IsCore (seated_as seat old) →
    MayCome event →
    IfOk r (λ s. Made old new (step_of seat old event) s) → OnErr r (new ≡ old) → IsCore (seated_as seat new)
unfolding step_of
keeps_core event seat old new (Ok s) c m made err = record {
  seat = c.seat;
  sound = subst (IsSound (seat_of seat)) (sym made.member) (stays (seat_of seat) (member_of old) event c.seat c.sound m);
}
keeps_core event seat old new (Err e) c m made err = subst (λ (s : State). IsCore (seated_as seat s)) (sym err) c

pub record Called {E : Type 0} (event : Event) (old new : Seated) (r : Result Step E) : Type 0 where
  pub seat : new.seat ≡ old.seat
  pub member : OnOk r (new.member ≡ (step old.seat old.member event).member)
  pub sent : IfOk r (λ s. s.out ≡ (step old.seat old.member event).sent)
  pub note : IfOk r (λ s. s.note ≡ (step old.seat old.member event).note)
  pub change : IfOk r (λ s. Leads (kept old.member) (kept new.member) s.change)
  pub err : OnErr r (new ≡ old)

of_state : {E : Type 0} (event : Event) (seat : held.Seat) (old new : State) (r : Result Step E) →
    IfOk r (λ s. Made old new (step_of seat old event) s) → OnErr r (new ≡ old) → Called event (seated_as seat old) (seated_as seat new) r
unfolding step_of
of_state event seat old new (Ok s) made err =
    record { seat = refl; member = made.member; sent = made.sent; note = made.note; change = made.change; err = tt }
of_state event seat old new (Err e) made err =
    record { seat = refl; member = tt; sent = tt; note = tt; change = tt; err = ap (seated_as seat) err }

pub called : {E : Type 0} (event : Event) (value : Seated) (seat : held.Seat) (old new : State) (r : Result Step E) → seated_as seat old
    ≡ value →
    IfOk r (λ s. Made old new (step_of seat old event) s) → OnErr r (new ≡ old) → Called event value (seated_as seat new) r
called event value seat old new r e made err = subst (λ (v : Seated). Called event v (seated_as seat new) r) e
    (of_state event seat old new r made err)

-- ---- a proposal

abbrev pub Answer : Type 0
Answer = Result (ℕ × ℕ × Step) ProposeError

pub keeps_proposed : (seat : held.Seat) (old new : State) (entry : Entry) (r : Answer) → IsCore (seated_as seat old) → IsTrue
    (entry_allowed entry) →
    Proposed seat old new entry r → IsCore (seated_as seat new)
unfolding step_of
keeps_proposed seat old new entry (Ok x) c ok p = record {
  seat = c.seat;
  sound = subst (IsSound (seat_of seat)) (sym p.made.member) (stays (seat_of seat) (member_of old) (Propose entry) c.seat c.sound ok);
}
keeps_proposed seat old new entry (Err e) c ok p = subst (λ (s : State). IsCore (seated_as seat s)) (sym p.err) c

pub record Asked (entry : Entry) (old new : Seated) (r : Answer) : Type 0 where
  pub seat : new.seat ≡ old.seat
  pub member : OnOk r (new.member ≡ (step old.seat old.member (Propose entry)).member)
  pub sent : IfOk r (λ x. x.2.out ≡ (step old.seat old.member (Propose entry)).sent)
  pub note : IfOk r (λ x. x.2.note ≡ (step old.seat old.member (Propose entry)).note)
  pub change : IfOk r (λ x. Leads (kept old.member) (kept new.member) x.2.change)
  pub place : IfOk r (λ x. x.0 ≡ length new.member.log)
  pub term : IfOk r (λ x. x.1 ≡ new.member.term)
  pub elsewhere : (r ≡ Err Elsewhere) ↔ (is_leader old.member.role ≡ false)
  pub full : (entries : ℕ) → (r ≡ Err (Full entries)) ↔ (IsTrue (is_leader old.member.role) × (length old.member.log ≡ old.seat.limit)
      × (entries ≡ old.seat.limit))
  pub err : OnErr r (new ≡ old)

of_proposed : (entry : Entry) (seat : held.Seat) (old new : State) (r : Answer) → Proposed seat old new entry r → Asked entry
    (seated_as seat old) (seated_as seat new) r
unfolding step_of
of_proposed entry seat old new (Ok x) p = record {
  seat = refl;
  member = p.made.member;
  sent = p.made.sent;
  note = p.made.note;
  change = p.made.change;
  place = p.place;
  term = p.term;
  elsewhere = p.elsewhere;
  full = p.full;
  err = tt;
}
of_proposed entry seat old new (Err e) p = record {
  seat = refl;
  member = tt;
  sent = tt;
  note = tt;
  change = tt;
  place = tt;
  term = tt;
  elsewhere = p.elsewhere;
  full = p.full;
  err = ap (seated_as seat) p.err;
}

pub asked : (entry : Entry) (value : Seated) (seat : held.Seat) (old new : State) (r : Answer) → seated_as seat old ≡ value →
    Proposed seat old new entry r →
    Asked entry value (seated_as seat new) r
asked entry value seat old new r e p = subst (λ (v : Seated). Asked entry v (seated_as seat new) r) e (of_proposed entry seat old new r p)
