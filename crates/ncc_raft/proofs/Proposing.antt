-- What is answered to a proposal.
use Rattle.std.proofs.Common.{◌≡◌, ℕ, Bool, true, false, length, Option, Some, None, Result, Ok, Err, refl, sym, ap}
use Rattle.std.proofs.Common.{◌∙◌, arith, inl, inr}
use Rattle.std.specs.Prelude.{IsTrue, nat_eq, nat_lt, if◌then◌else◌}
use Rattle.std.proofs.lemmas.Bool.{and_from, cases_Bool, cases_eq, eq-eqb, lt-ltb, ne_eqb}
use Rattle.std.proofs.lemmas.Option.{none-some, same_Some}
use Rattle.ncc_tx.specs.declared.entry.Entry.{Entry}
use Rattle.ncc_raft.specs.declared.message.ProposeError.{ProposeError}
use Rattle.ncc_raft.specs.declared.message.ProposeError.TheVariants.{Elsewhere, Full, Memory}
use Rattle.ncc_raft.specs.declared.message.Step.{Step}
use Rattle.ncc_raft.specs.declared.state.Seat as held
use Rattle.ncc_raft.specs.declared.state.State.{State}
use Rattle.ncc_raft.specs.Member.{Propose, is_leader}
use Rattle.ncc_raft.specs.State.{IsSoundAt, Made, Proposed, member_of, refusal_of, seat_of, step_of}
use Rattle.ncc_raft.specs.Step.{may_add}

-- ---- by role and length

record Cases (seat : held.Seat) (s : State) (r : Option ProposeError) : Type 0 where
  elsewhere : is_leader s.standing.role ≡ false → r ≡ Some Elsewhere
  full : is_leader s.standing.role ≡ true → length s.log ≡ seat.limit → r ≡ Some (Full seat.limit)
  room : is_leader s.standing.role ≡ true → (length s.log ≡ seat.limit → ⊥) → r ≡ None

abbrev choose : Bool → Bool → ℕ → Option ProposeError
choose lead full limit = if lead then (if full then Some (Full limit) else None) else Some Elsewhere

cases : (seat : held.Seat) (s : State) → Cases seat s (refusal_of seat s)
unfolding refusal_of
cases seat s = record {
  elsewhere = λ e. ap (λ (b : Bool). choose b (nat_eq (length s.log) seat.limit) seat.limit) e;
  full = λ e f. ap (λ (b : Bool). choose b (nat_eq (length s.log) seat.limit) seat.limit) e ∙ ap
      (λ (b : Bool). choose true b seat.limit) (eq-eqb (length s.log) seat.limit f);
  room = λ e f. ap (λ (b : Bool). choose b (nat_eq (length s.log) seat.limit) seat.limit) e ∙ ap
      (λ (b : Bool). choose true b seat.limit) (ne_eqb (length s.log) seat.limit f);
}

-- where nothing refuses it, it may be added
pub may_add_since : (seat : held.Seat) (s : State) (r : Option ProposeError) → r ≡ refusal_of seat s → r ≡ None →
    IsSoundAt seat s.standing s → IsTrue (may_add (seat_of seat) (member_of s))
unfolding IsSoundAt
may_add_since seat s r e n sound = elim (cases_Bool (is_leader s.standing.role)) [
  | inl lead ↦ elim (cases_eq (length s.log) seat.limit) [
    | inl full ↦ absurd (none-some (Full seat.limit) (sym n ∙ e ∙ (cases seat s).full lead full))
    | inr room ↦ and_from (is_leader s.standing.role) (nat_lt (length s.log) seat.limit) lead (lt-ltb (length s.log) seat.limit
        (omega (arith, sound.few, room)))
  ]
  | inr not_it ↦ absurd (none-some Elsewhere (sym n ∙ e ∙ (cases seat s).elsewhere not_it))
]

leads : (seat : held.Seat) (s : State) (r : Option ProposeError) → r ≡ refusal_of seat s → r ≡ None → (is_leader s.standing.role ≡ true)
    × (length s.log ≡ seat.limit → ⊥)
leads seat s r e n = elim (cases_Bool (is_leader s.standing.role)) [
  | inl lead ↦ (lead, λ full. absurd (none-some (Full seat.limit) (sym n ∙ e ∙ (cases seat s).full lead full)))
  | inr not_it ↦ absurd (none-some Elsewhere (sym n ∙ e ∙ (cases seat s).elsewhere not_it))
]

-- ---- the answers

abbrev Answer : Type 0
Answer = Result (ℕ × ℕ × Step) ProposeError

pub refused : (seat : held.Seat) (s : State) (entry : Entry) (r : Option ProposeError) (x : ProposeError) → r ≡ refusal_of seat s → r
    ≡ Some x → Proposed seat s s entry (Err x)
refused seat s entry r x e f =
    let c = cases seat s in
    let is : Some x ≡ refusal_of seat s = sym f ∙ e in
    record {
      made = tt;
      place = tt;
      term = tt;
      err = refl;
      elsewhere = (
        λ h. elim (cases_Bool (is_leader s.standing.role)) [
          | inl lead ↦ elim (cases_eq (length s.log) seat.limit) [
            | inl full ↦ let g : Some x ≡ Some (Full seat.limit) = is ∙ c.full lead full in absurd
                (other x seat.limit h (same_Some x (Full seat.limit) g))
            | inr room ↦ absurd (none-some x (sym (is ∙ c.room lead room)))
          ]
          | inr not_it ↦ not_it
        ],
        λ not_it. let g : Some x ≡ Some Elsewhere = is ∙ c.elsewhere not_it in ap (λ (y : ProposeError). Err y) (same_Some x Elsewhere g),
      );
      full = λ entries. (
        λ h. elim (cases_Bool (is_leader s.standing.role)) [
          | inl lead ↦ elim (cases_eq (length s.log) seat.limit) [
            | inl full ↦ let g : Some x ≡ Some (Full seat.limit) = is ∙ c.full lead full in (
              lead,
              full,
              number x entries seat.limit h
                  (same_Some x (Full seat.limit) g),
            )
            | inr room ↦ absurd (none-some x (sym (is ∙ c.room lead room)))
          ]
          | inr not_it ↦
              let g : Some x ≡ Some Elsewhere = is ∙ c.elsewhere not_it in absurd (not_full x entries h (same_Some x Elsewhere g))
        ],
        λ h. let g : Some x ≡ Some (Full seat.limit) = is ∙ c.full h.0 h.1 in
            ap (λ (y : ProposeError). Err y) (same_Some x (Full seat.limit) g ∙ ap (λ (n : ℕ). Full n) (sym h.2)),
      );
    }
  where
    answer : ProposeError → Answer
    answer y = Err y

    other : (x : ProposeError) (n : ℕ) → answer x ≡ answer Elsewhere → x ≡ Full n → ⊥
    other x n h k = let g : answer (Full n) ≡ answer Elsewhere = ap answer (sym k) ∙ h in absurd (cc)

    number : (x : ProposeError) (n limit : ℕ) → answer x ≡ answer (Full n) → x ≡ Full limit → n ≡ limit
    number x n limit h k = let g : answer (Full limit) ≡ answer (Full n) = ap answer (sym k) ∙ h in cc

    not_full : (x : ProposeError) (n : ℕ) → answer x ≡ answer (Full n) → x ≡ Elsewhere → ⊥
    not_full x n h k = let g : answer Elsewhere ≡ answer (Full n) = ap answer (sym k) ∙ h in absurd (cc)

pub out_of_memory : (seat : held.Seat) (s new : State) (entry : Entry) (r : Option ProposeError) → r ≡ refusal_of seat s → r ≡ None →
    new ≡ s → Proposed seat s new entry (Err Memory)
out_of_memory seat s new entry r e n same =
    let l = leads seat s r e n in
    record {
      made = tt;
      place = tt;
      term = tt;
      err = same;
      elsewhere = (λ h. absurd (cc), λ not_it. let f : true ≡ false = sym l.0 ∙ not_it in absurd (cc));
      full = λ entries. (λ h. absurd (cc), λ h. absurd (l.1 h.1));
    }

pub appended : (seat : held.Seat) (s new : State) (entry : Entry) (r : Option ProposeError) (place : ℕ) (step : Step) → r
    ≡ refusal_of seat s → r ≡ None →
    Made s new (step_of seat s (Propose entry)) step → place ≡ length new.log → Proposed seat s new entry
    (Ok (place, new.standing.term, step))
appended seat s new entry r place step e n made at =
    let l = leads seat s r e n in
    record {
      made = made;
      place = at;
      term = refl;
      err = tt;
      elsewhere = (λ h. absurd (cc), λ not_it. let f : true ≡ false = sym l.0 ∙ not_it in absurd (cc));
      full = λ entries. (λ h. absurd (cc), λ h. absurd (l.1 h.1));
    }
