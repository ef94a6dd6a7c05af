-- What a member says fits the question, stands no further than what it has applied, and lets in only where the place is reached.
use Rattle.std.proofs.Common.{◌≡◌, ℕ, ◌≤◌, Bool, true, false, not, T, None, Some, refl, ap, sym, arith, subst}
use Rattle.std.specs.Prelude.{◌==◌, if◌then◌else◌}
use Rattle.std.proofs.Math.Dec.{eqb_refl}
use Rattle.ncc_tx.specs.declared.stamp.Stamp.{Stamp}
use Rattle.ncc_session.specs.declared.ask.Fact.{Fact}
use Rattle.ncc_session.specs.declared.ask.Fact.TheVariants.{Placed, Stale, Replaced}
use Rattle.ncc_session.specs.Question.{Question, fits, fits_leave, some_writes}
use Rattle.ncc_clients.specs.Members.{Cluster, applied, at_of}
use Rattle.ncc_clients.specs.Run.{Run, Client, Placing, found_at}
use Rattle.ncc_clients.specs.Lawful.{place_of}
use Rattle.ncc_clients.proofs.Known.{Known}
use Rattle.ncc_clients.proofs.Says.{Says, says_entered, says_late, says_rows, says_faulted, says_elsewhere, says_done, says_nothing}
use Rattle.ncc_clients.proofs.Says.{says_found, says_unsure, says_routed}
use Rattle.ncc_clients.proofs.Asked.{Enters}

by_test : (b : Bool) → T b → b ≡ true
by_test true t = refl
by_test false t = absurd t

pub same_test : (n : ℕ) → (n == n) ≡ true
same_test n = by_test (n == n) (eqb_refl n)

-- what holds of each fact that a proposal can be told of an item holds of the one that it is told
pub found_by : (P : Fact → Type 0) (p : Placing) (s : Stamp) → P (Placed p.place) → P (Stale p.place)
    → P (Replaced p.place p.term s.term) → P (found_at p s)
found_by P p s a b c = go (s.term == p.term) s.valid where
  go : (t v : Bool) → P (if t then (if v then Placed p.place else Stale p.place) else Replaced p.place p.term s.term)
  go true true = a
  go true false = b
  go false v = c

module _ {S : Type 0} (C : Cluster S) (r : Run S) (c : Client) where
  pub said_fits : Known → (q : Question) (fact : Fact) → Says C r c q fact → fits q fact ≡ true
  said_fits known _ _ (says_entered need h) = refl
  said_fits known _ _ (says_late need h) = same_test need
  said_fits known _ _ (says_rows calls end h) = known.rows (applied C r.members c.member) calls end h
  said_fits known _ _ (says_faulted calls fault h) = refl
  said_fits known _ _ (says_elsewhere calls h k) = h
  said_fits known _ _ (says_done calls told h) = ap not h
  said_fits known _ _ says_nothing = refl
  said_fits known _ _ (says_found calls told p fact w is f) =
      subst (λ x. fits_leave (some_writes calls) x ≡ true) (sym f.fact_is)
      (found_by (λ x. fits_leave (some_writes calls) x ≡ true) p _ w w w)
  said_fits known _ _ (says_unsure calls told p w is h) = w
  said_fits known _ _ says_routed = refl

  pub said_below : (q : Question) (fact : Fact) → Says C r c q fact → place_of fact ≤ at_of C r.members c.member
  said_below _ _ (says_entered need h) = omega arith
  said_below _ _ (says_late need h) = omega arith
  said_below _ _ (says_rows calls end h) = omega arith
  said_below _ _ (says_faulted calls fault h) = omega arith
  said_below _ _ (says_elsewhere calls h k) = omega arith
  said_below _ _ (says_done calls told h) = omega arith
  said_below _ _ says_nothing = omega arith
  said_below _ _ (says_found calls told p fact w is f) =
      subst (λ x. place_of x ≤ at_of C r.members c.member) (sym f.fact_is)
      (found_by (λ x. place_of x ≤ at_of C r.members c.member) p _ f.reached f.reached f.reached)
  said_below _ _ (says_unsure calls told p w is h) = omega arith
  said_below _ _ says_routed = omega arith

  pub said_enters : (q : Question) (fact : Fact) → Says C r c q fact → Enters q fact (at_of C r.members c.member)
  said_enters _ _ (says_entered need h) = λ held e. h
  said_enters _ _ (says_late need h) = λ held e. absurd (let k : None ≡ Some held = e in cc)
  said_enters _ _ (says_rows calls end h) = tt
  said_enters _ _ (says_faulted calls fault h) = tt
  said_enters _ _ (says_elsewhere calls h k) = tt
  said_enters _ _ (says_done calls told h) = tt
  said_enters _ _ says_nothing = tt
  said_enters _ _ (says_found calls told p fact w is f) = tt
  said_enters _ _ (says_unsure calls told p w is h) = tt
  said_enters _ _ says_routed = tt
