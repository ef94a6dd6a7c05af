-- A key of a list of pairs with one more.
use Rattle.std.proofs.Common.{◌≡◌, Bool, true, false, ◌||◌, List, [], ◌∷◌, ◌++◌, refl, sym, ap, ◌∙◌}
use Rattle.std.specs.Str.{bytes_eq}
use Rattle.ncc_cypher.specs.declared.tree.Pair.{Pair}
use Rattle.ncc_cypher.specs.Grammar.{Name, has}

or_false : (x : Bool) → (x || false) ≡ x
or_false true = refl
or_false false = refl

or_more : (a b c : Bool) → (a || (b || c)) ≡ ((a || b) || c)
or_more true b c = refl
or_more false b c = refl

pub has_more : (q : Name) (ps : List Pair) (p : Pair) → has q (ps ++ (p ∷ [])) ≡ (has q ps || bytes_eq p.key q)
has_more q [] p = or_false (bytes_eq p.key q)
has_more q (x ∷ xs) p = ap (λ (z : Bool). bytes_eq x.key q || z) (has_more q xs p) ∙ or_more (bytes_eq x.key q) (has q xs) (bytes_eq p.key q)
