-- Who is first.
use Rattle.std.proofs.Common.{◌≡◌, ◌⊎◌, inl, inr, ℕ, suc, ◌<◌, true, false, if◌then◌else◌, List, []}
use Rattle.std.proofs.Common.{◌∷◌, refl, ap, arith, Option, Some, None}
use Rattle.std.specs.Prelude.{◌↔◌}
use Rattle.std.specs.List.{AllByRecursion, Contains}
use Rattle.ncc_wait.specs.declared.outcomes.Outcome.{Outcome}
use Rattle.ncc_wait.specs.declared.outcomes.Outcome.TheVariants.{Ready, NotYet, Late}
use Rattle.ncc_wait.specs.declared.parked.Parked.{Parked}
use Rattle.ncc_wait.specs.Room.{Ascending, IsNext, is_settled, next, outcome_for}
use Rattle.ncc_wait.proofs.Orders.{all_more}

abbrev Told : Type 0
Told = Option (ℕ × Outcome)

-- what stands for one and those behind it
abbrev told_at : ℕ → Outcome → Told → Told
told_at conn o rest = if is_settled o then Some (conn, o) else rest

none_at : (conn : ℕ) (o : Outcome) (rest : Told) → told_at conn o rest ≡ None → (o ≡ NotYet) × (rest ≡ None)
none_at conn Ready rest e = absurd (cc)
none_at conn Late rest e = absurd (cc)
none_at conn NotYet rest e = (refl, e)

waits_at : (conn : ℕ) (o : Outcome) (rest : Told) → o ≡ NotYet → told_at conn o rest ≡ rest
waits_at conn Ready rest e = absurd (cc)
waits_at conn Late rest e = absurd (cc)
waits_at conn NotYet rest e = refl

pub nobody : (at now : ℕ) (ps : List Parked) → (next at now ps ≡ None) ↔ AllByRecursion (λ p. outcome_for at now p ≡ NotYet) ps
unfolding next
nobody at now [] = (λ e. tt, λ a. refl)
nobody at now (p ∷ ps) =
    let more = nobody at now ps in (
      λ e. let both = none_at p.conn (outcome_for at now p) (next at now ps) e in (both.0, more.0 both.1),
      λ a. let here = waits_at p.conn (outcome_for at now p) (next at now ps) a.0 in let rest = more.1 a.1 in cc,
    )

record Here (own conn : ℕ) (o outcome : Outcome) : Type 0 where
  conn_is : own ≡ conn
  outcome_is : o ≡ outcome
  settled : o ≡ NotYet → ⊥

abbrev conn_in : Told → ℕ
conn_in None = 0
conn_in (Some x) = x.0

abbrev outcome_in : Told → Outcome
outcome_in None = NotYet
outcome_in (Some x) = x.1

some_at : (own conn : ℕ) (o outcome : Outcome) (rest : Told) → told_at own o rest ≡ Some (conn, outcome) →
    Here own conn o outcome ⊎ ((o ≡ NotYet) × (rest ≡ Some (conn, outcome)))
some_at own conn Ready outcome rest e = inl (record { conn_is = ap conn_in e; outcome_is = ap outcome_in e; settled = λ x. absurd (cc) })
some_at own conn Late outcome rest e = inl (record { conn_is = ap conn_in e; outcome_is = ap outcome_in e; settled = λ x. absurd (cc) })
some_at own conn NotYet outcome rest e = inr (refl, e)

pub lowest : (at now conn : ℕ) (outcome : Outcome) (ps : List Parked) → Ascending ps → next at now ps ≡ Some (conn, outcome) →
    IsNext at now conn outcome ps
unfolding next Ascending
lowest at now conn outcome [] s e = absurd (cc)
lowest at now conn outcome (p ∷ ps) s e = elim (some_at p.conn conn (outcome_for at now p) outcome (next at now ps) e) [
  | inl here ↦ record {
    parked = p;
    waits = (0, omega arith, refl);
    conn_is = here.conn_is;
    outcome_is = here.outcome_is;
    settled = λ x. here.settled (cc (here.outcome_is, x));
    lowest = (
      λ lt. absurd (omega (arith, lt, here.conn_is)),
      all_more (λ q. p.conn < q.conn) (λ q. q.conn < conn → outcome_for at now q ≡ NotYet)
          (λ q above lt. absurd (omega (arith, above, lt, here.conn_is))) ps s.0,
    );
  }
  | inr later ↦
      let more = lowest at now conn outcome ps s.1 later.1 in
      record {
        parked = more.parked;
        waits = (suc more.waits.0, omega (arith, more.waits.1), more.waits.2);
        conn_is = more.conn_is;
        outcome_is = more.outcome_is;
        settled = more.settled;
        lowest = (λ lt. later.0, more.lowest);
      }
]
