-- Steps of the loop that adds terms.
use Rattle.std.proofs.Common.{◌≡◌, ℕ, ◌+◌, ◌<◌, ◌≤◌, length, get_or, drop, List, Ok, Err, refl, sym, ◌∙◌}
use Rattle.std.proofs.lemmas.List.{drop_more, drop_all}
use Rattle.ncc_cypher.specs.declared.tree.Term.{Term}
use Rattle.ncc_store.specs.declared.scalar.Scalar.{Scalar}
use Rattle.ncc_store.specs.declared.fault.RunError.{RunError}
use Rattle.ncc_store.specs.Scalar.{plus}
use Rattle.ncc_store.specs.Props.{Props}
use Rattle.ncc_store.specs.Sum.{Answer, ◌>>=◌, term, added}
use Rattle.ncc_store.specs.Answers.{Gives}
use Rattle.ncc_store.proofs.Faults.{hands_on}

module _ (params props : Props) (ts : List Term) (i : ℕ) (t : Term) (x : Scalar) (all : Answer Scalar) (lt : i < length ts) (is : t
    ≡ get_or ts i t) (so_far : added params props x (drop i ts) ≡ all) where
  next : all ≡ (term params props t >>= λ y. plus x y >>= λ z. added params props z (drop (i + 1) ts))
  unfolding added
  next = sym so_far ∙ rw (drop_more ts i t lt, ← is) refl

  pub term_fails : (e : RunError) → Gives {X = Scalar} (λ x. x) (Err e) (term params props t) → Gives {X = Scalar} (λ x. x) (Err e) all
  term_fails e h = hands_on {X = Scalar} {Z = Scalar} (λ x. x) (λ x. x) e (term params props t) all (λ fault f. next ∙ rw f refl) h

  pub plus_fails : (y : Scalar) (e : RunError) → term params props t ≡ Ok y → Gives {X = Scalar} (λ x. x) (Err e) (plus x y)
      → Gives {X = Scalar} (λ x. x) (Err e) all
  plus_fails y e of h = hands_on {X = Scalar} {Z = Scalar} (λ x. x) (λ x. x) e (plus x y) all (λ fault f. next ∙ rw (of, f) refl) h

  pub goes_on : (y z : Scalar) → term params props t ≡ Ok y → plus x y ≡ Ok z → added params props z (drop (i + 1) ts) ≡ all
  goes_on y z of sum = sym (next ∙ rw (of, sum) refl)

pub ended : (params props : Props) (ts : List Term) (i : ℕ) (x : Scalar) (all : Answer Scalar) → length ts ≤ i
    → added params props x (drop i ts) ≡ all → all ≡ Ok x
unfolding added
ended params props ts i x all le so_far = sym so_far ∙ rw (drop_all i ts le) refl
