-- What `decode` gives, and that no spelling begins another.
use Rattle.std.proofs.Common.{◌≡◌, ℕ, zero, suc, ◌+◌, ◌-◌, ◌≤◌, List, [], ◌∷◌, ◌++◌, length, take, drop, Result, Ok, Err, refl, sym, ap}
use Rattle.std.proofs.Common.{◌∙◌, arith}
use Rattle.std.proofs.lemmas.List.{take_at, drop_at, drop_all, take-append-drop, length-append, length-take}
use Rattle.ncc_pack.specs.declared.value.Value.{Value}
use Rattle.ncc_pack.specs.declared.error.PackError.{PackError}
use Rattle.ncc_pack.specs.Reading.{Fails, value_at}
use Rattle.ncc_pack.specs.Spells.{Spells, levels}
use Rattle.ncc_pack.proofs.Fields.{IsBytes, ok_is}
use Rattle.ncc_pack.proofs.Lists.{fails_on}
use Rattle.ncc_pack.proofs.Spelled.{value_again}
use Rattle.ncc_pack.proofs.Taken.{value_taken}

abbrev okay : {A : Type 0} → A → Result A PackError
okay y = Ok y

pub used : (total d : ℕ) (bytes : List ℕ) (x : Value) (rest : List ℕ) → IsBytes bytes → value_at total d bytes ≡ Ok (x, rest)
    → length rest ≤ length bytes
used total d bytes x rest fits e =
    let t = value_taken total d bytes (x, rest) fits e in
    omega (arith, ap length t.parts, length-append t.front rest)

pub found : (total d : ℕ) (bytes : List ℕ) (x : Value) (rest : List ℕ) → IsBytes bytes → value_at total d bytes ≡ Ok (x, rest)
    → Spells (levels d) x (take (length bytes - length rest) bytes) × (drop (length bytes - length rest) bytes ≡ rest)
found total d bytes x rest fits e =
    let t = value_taken total d bytes (x, rest) fits e in
    let n : length bytes - length rest ≡ length t.front = omega (arith, ap length t.parts, length-append t.front rest) in
    let f : take (length bytes - length rest) bytes ≡ t.front = ap (λ (k : ℕ). take k bytes) n ∙ ap (take (length t.front)) t.parts
    ∙ take_at t.front rest (length t.front) refl in
    let b : drop (length bytes - length rest) bytes ≡ rest = ap (λ (k : ℕ). drop k bytes) n ∙ ap (drop (length t.front)) t.parts
    ∙ drop_at t.front rest (length t.front) refl in
    (rw f t.spells, b)

never : {A : Type 0} (y : A) (err : PackError) → okay y ≡ Err err → ⊥
never y err e = cc

reads_so : (total d : ℕ) (bytes : List ℕ) (x : Value) (b rest : List ℕ) → Spells (levels d) x b → bytes ≡ b ++ rest
    → value_at total d bytes ≡ Ok (x, rest)
reads_so total d bytes x b rest sp e = ap (value_at total d) e ∙ value_again total d x b rest sp

pub only_ok : (total d : ℕ) (bytes : List ℕ) (y : Value) (left : List ℕ) → value_at total d bytes ≡ Ok (y, left)
    → (x : Value) (b rest : List ℕ) → Spells (levels d) x b → bytes ≡ b ++ rest
    → (x ≡ y) × (length b ≡ length bytes - length left)
only_ok total d bytes y left e x b rest sp parts =
    let same : (x, rest) ≡ (y, left) = ok_is (x, rest) (y, left) (sym (reads_so total d bytes x b rest sp parts) ∙ e) in
    let r : rest ≡ left = ap (λ (p : Value × List ℕ). p.1) same in
    (ap (λ (p : Value × List ℕ). p.0) same, omega (arith, ap length parts, length-append b rest, ap length r))

pub only_err : (total d : ℕ) (bytes : List ℕ) (err : PackError) → Fails err (value_at total d bytes) → (x : Value) (b rest : List ℕ)
    → Spells (levels d) x b → bytes ≡ b ++ rest
    → Fails {Y = Value × ℕ} err (Ok (x, length b))
only_err total d bytes err fails x b rest sp parts =
    let g = reads_so total d bytes x b rest sp parts in
    fails_on err (value_at total d bytes) (Ok (x, length b)) (λ h. absurd (never (x, rest) err (sym g ∙ h))) fails

pub one_form : (d : ℕ) (x y : Value) (a b r s : List ℕ) → Spells (levels d) x a → Spells (levels d) y b → a ++ r ≡ b ++ s → (x ≡ y)
    × (a ≡ b)
one_form d x y a b r s p q e =
    let same : (x, r) ≡ (y, s) = ok_is (x, r) (y, s) (sym (value_again 0 d x a r p) ∙ ap (value_at 0 d) e ∙ value_again 0 d y b s q) in
    let rs : r ≡ s = ap (λ (z : Value × List ℕ). z.1) same in
    let len : length a ≡ length b = omega (arith, ap length e, length-append a r, length-append b s, ap length rs) in
    let first : take (length a) (a ++ r) ≡ a = take_at a r (length a) refl in
    let second : take (length a) (b ++ s) ≡ b = take_at b s (length a) (sym len) in
    (ap (λ (z : Value × List ℕ). z.0) same, sym first ∙ ap (take (length a)) e ∙ second)

-- ---- from a place on

abbrev none : List ℕ
none = []

pub drop_more : (n m : ℕ) (bytes : List ℕ) → drop (n + m) bytes ≡ drop m (drop n bytes)
drop_more zero m bytes = let e : 0 + m ≡ m = omega arith in rw e refl
drop_more (suc n) m [] = drop_all (suc n + m) none (omega arith) ∙ sym (drop_all m none (omega arith))
drop_more (suc n) m (b ∷ bytes) = let e : suc n + m ≡ suc (n + m) = omega arith in rw e (drop_more n m bytes)

pub drop_size : (n : ℕ) (bytes : List ℕ) → n ≤ length bytes → length (drop n bytes) ≡ length bytes - n
drop_size n bytes le =
    let parts = ap length (take-append-drop n bytes) in
    omega (arith, parts, length-append (take n bytes) (drop n bytes), length-take n bytes)
