-- The greatest place of a list of bookmarks.
use Rattle.std.proofs.Common.{◌≡◌, suc, ◌≤◌, ◌<◌, List, [], ◌∷◌, All, Any, ◌⊎◌, inl, inr, refl, arith, ◌∙◌}
use Rattle.std.proofs.lemmas.Bool.{cases_lt}
use Rattle.std.proofs.lemmas.List.Elements.{All-nil, All-cons, All-weaker}
use Rattle.ncc_bookmark.specs.Point.{Point, greatest_place}

pub greatest_covers : (ps : List Point) → All (λ b. b.place ≤ greatest_place ps) ps
greatest_covers [] = All-nil (λ b. b.place ≤ 0)
greatest_covers (p ∷ ps) =
    All-cons (λ b. b.place ≤ greatest_place (p ∷ ps)) p ps (omega arith)
    (All-weaker (λ b. b.place ≤ greatest_place ps) (λ b. b.place ≤ greatest_place (p ∷ ps)) (λ b h. omega arith) ps (greatest_covers ps))

reached_by : (p : Point) (ps : List Point) → (greatest_place ps ≡ 0) ⊎ Any (λ b. b.place ≡ greatest_place ps) ps →
    (greatest_place ps < p.place) ⊎ (p.place ≤ greatest_place ps) → (greatest_place (p ∷ ps) ≡ 0)
    ⊎ Any (λ b. b.place ≡ greatest_place (p ∷ ps)) (p ∷ ps)
reached_by p ps h (inl lt) = inr (0, p, omega arith, refl, omega arith)
reached_by p ps (inl none) (inr le) = inl (omega arith)
reached_by p ps (inr some) (inr le) = inr (suc some.0, some.1, omega (arith, some.2), some.3, some.4 ∙ omega arith)

pub greatest_reached : (ps : List Point) → (greatest_place ps ≡ 0) ⊎ Any (λ b. b.place ≡ greatest_place ps) ps
greatest_reached [] = inl refl
greatest_reached (p ∷ ps) = reached_by p ps (greatest_reached ps) (cases_lt (greatest_place ps) p.place)
