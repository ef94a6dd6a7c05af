-- The moment that a clock in memory told last is the last of all that it told.
use Rattle.std.proofs.Common.{◌≡◌, ◌∙◌, ℕ, zero, suc, ◌+◌, Bool, true, false, if◌then◌else◌, List, []}
use Rattle.std.proofs.Common.{◌∷◌, ◌++◌, take, replicate, refl, sym, ap}
use Rattle.std.proofs.Common.{Option, Some, None}
use Rattle.ncc_base.specs.Clock.{last_of}
use Rattle.ncc_base.specs.MemClock.{Handed, all_told, last_told}

pub last_of_both : (from : ℕ) (xs ys : List ℕ) → last_of from (xs ++ ys) ≡ last_of (last_of from xs) ys
last_of_both from [] ys = refl
last_of_both from (x ∷ xs) ys = last_of_both x xs ys

pub last_of_same : (n m : ℕ) → last_of m (replicate n m) ≡ m
last_of_same zero m = refl
last_of_same (suc n) m = last_of_same n m

told_at : (b : Bool) (xs all : List ℕ) → (if b then Some xs else None) ≡ Some all → xs ≡ all
told_at true xs all e = cc
told_at false xs all e = absurd (cc)

pub told_last : (h : Handed) (all : List ℕ) → all_told h ≡ Some all → last_told h ≡ last_of 0 all
told_last h all e =
    let front = take h.given h.moments in
    let same : front ++ replicate h.again (last_told h) ≡ all = told_at _ _ all e in
    sym (ap (last_of 0) (sym same) ∙ last_of_both 0 front (replicate h.again (last_told h)) ∙ last_of_same h.again (last_told h))
