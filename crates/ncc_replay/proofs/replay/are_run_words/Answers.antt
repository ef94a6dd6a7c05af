use native.Mathlib.Omega.{arith}
use Rattle.std.proofs.Common.{◌≡◌, ◌≢◌, ℕ, ◌<◌, ◌≤◌, Bool, true, false, IsTrue, List, [], ◌∷◌, length, codes, refl, ap, sym, ◌∙◌}
use Rattle.std.proofs.Common.{subst, get_or, MatchBool, nat_eq}
use Rattle.std.specs.Cmp.Lexicographic.{told_text, pointwise}
use Rattle.std.proofs.lemmas.Bool.{false≢true}
use Rattle.ncc_replay.specs.Replay.{run_words}
use Rattle.ncc_replay.proofs.replay.are_run_words.Goals as goal

single : (ws : List (List ℕ)) (w : List ℕ) → 1 ≤ length ws → length ws < 2 → w ≡ get_or ws 0 w → ws ≡ w ∷ []
single [] w a b e = absurd (omega (arith, a))
single (x ∷ []) w a b e = ap (λ y. y ∷ []) (sym e)
single (x ∷ y ∷ zs) w a b e = absurd (omega (arith, b))

tells : (b : Bool) (w : List ℕ) → MatchBool b (w ≡ codes "run") (w ≢ codes "run") → (IsTrue b → w ∷ [] ≡ run_words)
    × (w ∷ [] ≡ run_words → IsTrue b)
tells true w e = (λ _. ap (λ y. y ∷ []) e, λ _. refl)
tells false w n = (λ t. absurd (false≢true t), λ e. absurd (n cc))

pub returns-in-len1 : goal.returns-in-len1
returns-in-len1 c =
    let one : c.as_slice.result.now ≡ c.word-item.result ∷ [] =
    single c.as_slice.result.now c.word-item.result c.in-len1.len_at_least c.in-len1.len_below c.word-item.is in
    let whole : c.args.words.now ≡ c.word-item.result ∷ [] = sym c.as_slice.ensures.same ∙ one in
    let told : (IsTrue c.eq.result → c.word-item.result ∷ [] ≡ run_words)
    × (c.word-item.result ∷ [] ≡ run_words → IsTrue c.eq.result) =
    tells c.eq.result c.word-item.result (told_text c.word-item.result (codes "run") c.eq.result
    (subst (λ x. c.eq.result ≡ pointwise nat_eq x (codes "run")) c.as_str.ensures.same c.eq.ensures)) in
    (λ t. whole ∙ told.0 t, λ e. told.1 (sym whole ∙ e))
