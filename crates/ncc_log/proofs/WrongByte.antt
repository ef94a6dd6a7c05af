-- The first wrong byte, looked for one by one.
use Rattle.std.proofs.Common.{◌≡◌, ◌≢◌, ℕ, ◌+◌, ◌<◌, ◌≤◌, Some, None, List, [], ◌∷◌, length, get_or, drop, refl, sym, ◌∙◌, ap, arith}
use Rattle.std.proofs.lemmas.Bool.Decides.{nat_tests}
use Rattle.std.proofs.lemmas.List.{drop_more, drop_all}
use Rattle.ncc_log.specs.Header.{first_wrong, magic}

cons_same : (w b : ℕ) (ws bs : List ℕ) (at : ℕ) → b ≡ w → first_wrong (w ∷ ws) (b ∷ bs) at ≡ first_wrong ws bs (at + 1)
cons_same w b ws bs at is = grind (arith, nat_tests)

cons_other : (w b : ℕ) (ws bs : List ℕ) (at : ℕ) → b ≢ w → first_wrong (w ∷ ws) (b ∷ bs) at ≡ Some at
cons_other w b ws bs at is = grind (arith, nat_tests)

none_left : (ws : List ℕ) (at : ℕ) → first_wrong ws [] at ≡ None
none_left [] at = refl
none_left (w ∷ ws) at = refl

module _ (bytes : List ℕ) (i : ℕ) (few : i < 5) (so_far : first_wrong magic bytes 0 ≡ first_wrong (drop i magic) (drop i bytes) i) where
  both : i < length bytes → first_wrong (drop i magic) (drop i bytes) i
      ≡ first_wrong (get_or magic i 0 ∷ drop (i + 1) magic) (get_or bytes i 0 ∷ drop (i + 1) bytes) i
  both long =
      ap (λ (l : List ℕ). first_wrong l (drop i bytes) i) (drop_more magic i 0 few)
      ∙ ap (λ (l : List ℕ). first_wrong (get_or magic i 0 ∷ drop (i + 1) magic) l i) (drop_more bytes i 0 long)

  pub wrong_step : i < length bytes → get_or bytes i 0 ≡ get_or magic i 0 →
      first_wrong magic bytes 0 ≡ first_wrong (drop (i + 1) magic) (drop (i + 1) bytes) (i + 1)
  wrong_step long same = so_far ∙ both long
      ∙ cons_same (get_or magic i 0) (get_or bytes i 0) (drop (i + 1) magic) (drop (i + 1) bytes) i same

  pub wrong_found : i < length bytes → get_or bytes i 0 ≢ get_or magic i 0 → Some i ≡ first_wrong magic bytes 0
  wrong_found long other = sym (so_far ∙ both long
      ∙ cons_other (get_or magic i 0) (get_or bytes i 0) (drop (i + 1) magic) (drop (i + 1) bytes) i other)

  pub wrong_short : length bytes ≤ i → None ≡ first_wrong magic bytes 0
  wrong_short short = sym (so_far ∙ ap (λ (l : List ℕ). first_wrong (drop i magic) l i) (drop_all i bytes short)
      ∙ none_left (drop i magic) i)
