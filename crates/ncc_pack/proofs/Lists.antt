-- Steps of the loop over items.
use Rattle.std.proofs.Common.{◌≡◌, ℕ, zero, suc, ◌-◌, ◌+◌, ◌<◌, ◌≤◌, List, [], ◌∷◌, ◌++◌, Result, Ok, Err, refl, sym, ap, ◌∙◌}
use Rattle.std.proofs.Common.{append_assoc, arith}
use Rattle.std.proofs.lemmas.List.{append-nil}
use Rattle.ncc_pack.specs.declared.error.PackError.{PackError}
use Rattle.ncc_pack.specs.declared.error.PackError.TheVariants as e
use Rattle.ncc_pack.specs.declared.error.PackError.TheVariants.{Short, Float, BadMarker, BadUtf8, TooDeep, TooLong, RepeatedKey}
use Rattle.ncc_pack.specs.declared.error.PackError.TheVariants.{KeyNotText, Memory}
use Rattle.ncc_pack.specs.declared.mark.Size.{Size}
use Rattle.ncc_pack.specs.Reading.{◌>>=◌, Read, Fails, size_at, items_at, pairs_at, fields_at, within, list_of, dict_of, value_at}

abbrev pub with_front : {A : Type 0} → List A → Read (List A) → Read (List A)
with_front front read = read >>= λ x. Ok (front ++ x.0, x.1)

pub regroup : {A : Type 0} (front : List A) (n : A) (r : Read (List A))
    → with_front front (r >>= λ others. Ok (n ∷ others.0, others.1)) ≡ with_front (front ++ n ∷ []) r
regroup front n (Ok x) = ap (λ (ns : List _). Ok (ns, x.1)) (sym (append_assoc front (n ∷ []) x.0))
regroup front n (Err e) = refl

pub begins : {A : Type 0} (r : Read (List A)) → with_front [] r ≡ r
begins (Ok x) = refl
begins (Err e) = refl

pub goes_on : {A : Type 0} (one : List ℕ → Read A) (front : List A) (count i : ℕ) (bytes : List ℕ) (n : A) (after : List ℕ)
    (total : Read (List A)) → i < count → one bytes ≡ Ok (n, after)
    → with_front front (items_at one (count - i) bytes) ≡ total
    → with_front (front ++ n ∷ []) (items_at one (count - (i + 1)) after) ≡ total
unfolding items_at
goes_on one front count i bytes n after total lt h so_far =
    let k : count - i ≡ suc (count - (i + 1)) = omega arith in
    let one : with_front front (items_at one (count - i) bytes) ≡ with_front (front ++ n ∷ []) (items_at one (count - (i + 1)) after) =
    rw (k, h) (regroup front n (items_at one (count - (i + 1)) after)) in
    sym one ∙ so_far

-- where one reading fails, so does another
pub fails_on : {Y Z : Type 0} (err : PackError) (r : Result Y PackError) (s : Result Z PackError) → (r ≡ Err err → s ≡ Err err)
    → Fails err r → Fails err s
fails_on Memory r s f h = tt
fails_on Short r s f h = f h
fails_on (Float at) r s f h = f h
fails_on (BadMarker at) r s f h = f h
fails_on (BadUtf8 at) r s f h = f h
fails_on (TooDeep at) r s f h = f h
fails_on (TooLong at) r s f h = f h
fails_on (RepeatedKey at) r s f h = f h
fails_on (KeyNotText at) r s f h = f h

pub ends : {A : Type 0} (one : List ℕ → Read A) (err : PackError) (front : List A) (count i : ℕ) (bytes : List ℕ) (total : Read (List A))
    → i < count → Fails err (one bytes)
    → with_front front (items_at one (count - i) bytes) ≡ total → Fails err total
unfolding items_at
ends one err front count i bytes total lt h so_far =
    let k : count - i ≡ suc (count - (i + 1)) = omega arith in
    fails_on err (one bytes) total (λ f. let e : with_front front (items_at one (count - i) bytes) ≡ Err err =
    rw (k, f) refl in sym so_far ∙ e) h

pub is_done : {A : Type 0} (one : List ℕ → Read A) (front : List A) (count i : ℕ) (bytes : List ℕ) (total : Read (List A)) → count ≤ i
    → with_front front (items_at one (count - i) bytes) ≡ total → total ≡ Ok (front, bytes)
unfolding items_at
is_done one front count i bytes total le so_far =
    let k : count - i ≡ 0 = omega arith in
    let e : with_front front (items_at one (count - i) bytes) ≡ Ok (front, bytes) =
    rw k (ap (λ (ns : List _). Ok (ns, bytes)) (append-nil front)) in
    sym so_far ∙ e

-- ---- with levels left, and with none

pub list_more : (total d at : ℕ) (s : Size) (bytes : List ℕ) → 0 < d
    → (within total d).list at s bytes ≡ (size_at at s bytes >>= λ n. items_at (value_at total (d - 1)) n.0 n.1)
unfolding within list_of
list_more total zero at s bytes lt = absurd (omega arith)
list_more total (suc d) at s bytes lt = let e : suc d - 1 ≡ d = omega arith in rw e refl

pub list_none : (total at : ℕ) (s : Size) (bytes : List ℕ) → (within total 0).list at s bytes ≡ Err (e.TooDeep at)
unfolding within
list_none total at s bytes = refl

pub dict_more : (total d at : ℕ) (s : Size) (bytes : List ℕ) → 0 < d
    → (within total d).dict at s bytes ≡ (size_at at s bytes >>= λ n. pairs_at total (value_at total (d - 1)) [] n.0 n.1)
unfolding within dict_of
dict_more total zero at s bytes lt = absurd (omega arith)
dict_more total (suc d) at s bytes lt = let e : suc d - 1 ≡ d = omega arith in rw e refl

pub dict_none : (total at : ℕ) (s : Size) (bytes : List ℕ) → (within total 0).dict at s bytes ≡ Err (e.TooDeep at)
unfolding within
dict_none total at s bytes = refl

pub node_more : (total d at : ℕ) (bytes : List ℕ) → 1 < d → (within total d).node at bytes ≡ fields_at total (within total (d - 1)) bytes
unfolding within
node_more total zero at bytes lt = absurd (omega arith)
node_more total (suc zero) at bytes lt = absurd (omega arith)
node_more total (suc (suc d)) at bytes lt = let e : suc (suc d) - 1 ≡ suc d = omega arith in rw e refl

pub node_none : (total d at : ℕ) (bytes : List ℕ) → d < 2 → (within total d).node at bytes ≡ Err (e.TooDeep at)
unfolding within
node_none total zero at bytes lt = refl
node_none total (suc zero) at bytes lt = refl
node_none total (suc (suc d)) at bytes lt = absurd (omega arith)
