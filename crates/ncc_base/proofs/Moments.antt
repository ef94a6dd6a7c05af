-- The moments of a clock in memory.
use Rattle.std.proofs.Common.{◌≡◌, ◌∙◌, ℕ, zero, suc, ◌+◌, ◌-◌, ◌<◌, ◌≤◌, ◌^◌, Bool, true, false}
use Rattle.std.proofs.Common.{if◌then◌else◌, List, [], ◌∷◌, ◌++◌, length, take}
use Rattle.std.proofs.Common.{replicate, get_or, refl, sym, ap, ap₂, arith, append_assoc, ltb, Some, None}
use Rattle.std.proofs.lemmas.Bool.{lt-ltb, ltb-true}
use Rattle.std.proofs.lemmas.List.{replicate_more}
use Rattle.std.specs.Prelude.{IsTrue, ◌↔◌, min}
use Rattle.std.specs.Bool.{MatchBool}
use Rattle.std.specs.List.Sorted.{IsNonDecreasing}
use Rattle.ncc_base.specs.Clock.{MayTell, Tells, last_of}
use Rattle.ncc_base.specs.MemClock.{all_told}

-- ---- the test

pub decided : (r : Bool) (xs : List ℕ) →
    MatchBool r (IsNonDecreasing xs) ((k : ℕ) × (k + 1 < length xs) × ((d : ℕ) → get_or xs (k + 1) d < get_or xs k d)) →
    IsTrue r ↔ IsNonDecreasing xs
decided true xs m = (λ t. m, λ n. refl)
decided false xs m = (λ t. absurd (cc), λ n. absurd (omega (arith, m.2 0, n m.0 (m.0 + 1) 0 (omega arith) m.1)))

-- ---- the moment told last

at_any : (ms : List ℕ) (n d e : ℕ) → n < length ms → get_or ms n d ≡ get_or ms n e
at_any [] n d e lt = absurd (omega arith)
at_any (m ∷ ms) zero d e lt = refl
at_any (m ∷ ms) (suc n) d e lt = at_any ms n d e (omega arith)

last_at : (from : ℕ) (ms : List ℕ) (n d : ℕ) → n < length ms → last_of from (take (suc n) ms) ≡ get_or ms n d
last_at from [] n d lt = absurd (omega arith)
last_at from (m ∷ ms) zero d lt = refl
last_at from (m ∷ ms) (suc n) d lt = last_at m ms n d (omega arith)

-- the moment of a place is the last of those up to it
pub last_is : (ms : List ℕ) (g n x : ℕ) → g ≡ n + 1 → n < length ms → x ≡ get_or ms n x → last_of 0 (take g ms) ≡ x
last_is ms g n x e lt is =
    let s : g ≡ suc n = omega arith in
    ap (λ (k : ℕ). last_of 0 (take k ms)) s ∙ last_at 0 ms n x lt ∙ sym is

pub next_no_less : (ms : List ℕ) (g x : ℕ) → MayTell ms → g < length ms → x ≡ get_or ms g x → last_of 0 (take g ms) ≤ x
next_no_less ms zero x may lt is = omega arith
next_no_less ms (suc g) x may lt is = omega (arith, last_at 0 ms g x (omega arith), may.rising g (suc g) x (omega arith) lt, is)

-- ---- all that was told

tells_at : (b c : Bool) (front : List ℕ) (n k m x : ℕ) → (c ≡ true → (b ≡ true) × (k ≡ n + 1)) → m ≡ x →
    Tells (if b then Some (front ++ replicate n m) else None) (if c then Some (front ++ replicate k m) else None) (x ∷ [])
tells_at b false front n k m x f e = tt
tells_at false true front n k m x f e = absurd (cc (f refl).0)
tells_at true true front n k m x f e =
    let more : replicate k m ≡ replicate n m ++ x ∷ [] =
    ap (λ (i : ℕ). replicate i m) (f refl).1 ∙ sym (replicate_more n m) ∙ ap (λ (y : ℕ). replicate n m ++ y ∷ []) e in
    ap (λ (l : List ℕ). front ++ l) more ∙ sym (append_assoc front (replicate n m) (x ∷ []))

pub tells_again : (ms : List ℕ) (g n k x : ℕ) → last_of 0 (take g ms) ≡ x → n < 2 ^ 64 → k ≡ min (n + 1) (2 ^ 64 - 1) →
    Tells (all_told (record { moments = ms; given = g; again = n })) (all_told (record { moments = ms; given = g; again = k })) (x ∷ [])
tells_again ms g n k x last fits e =
    tells_at (ltb (n + 1) (2 ^ 64)) (ltb (k + 1) (2 ^ 64)) (take g ms) n k (last_of 0 (take g ms)) x
    (λ t. let lt = ltb-true (k + 1) (2 ^ 64) t in (lt-ltb (n + 1) (2 ^ 64) (omega arith), omega arith)) last
