-- Choices whose test is known.
use Rattle.std.proofs.Common.{◌≡◌, Bool, true, false, cond, refl}

pub at_true : {A : Type 0} (b : Bool) (x y : A) → b ≡ true → cond b x y ≡ x
at_true true x y e = refl
at_true false x y e = absurd (cc)

pub at_false : {A : Type 0} (b : Bool) (x y : A) → b ≡ false → cond b x y ≡ y
at_false false x y e = refl
at_false true x y e = absurd (cc)
