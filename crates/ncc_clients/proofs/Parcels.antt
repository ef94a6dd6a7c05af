-- The bytes that do not count, what is left of a parcel, and how many requests wait.
use Rattle.std.proofs.Common.{◌≡◌, ◌≤◌, ◌+◌, ◌-◌, ℕ, zero, suc, List, [], ◌∷◌, length, drop, Some, true, false, Bool, if◌then◌else◌}
use Rattle.std.proofs.Common.{refl, sym, ap, subst, ◌∙◌, arith}
use Rattle.std.specs.Prelude.{take, slice_get, slice_index_or, ◌<◌}
use Rattle.std.proofs.lemmas.List.{length-drop}
use Rattle.ncc_chunk.specs.Chunked.{chunks_of, chunks_by}
use Rattle.ncc_driver.specs.Requests.{shake_bytes}
use Rattle.ncc_clients.specs.Links.{Parcel, goodbye_bytes, requests_in}

pub goodbye_is : goodbye_bytes ≡ 0 ∷ 2 ∷ 176 ∷ 2 ∷ 0 ∷ 0 ∷ []
unfolding chunks_of chunks_by
goodbye_is = refl

pub shake_is : shake_bytes ≡ 96 ∷ 96 ∷ 176 ∷ 23 ∷ 0 ∷ 0 ∷ 4 ∷ 4 ∷ 0 ∷ 0 ∷ 0 ∷ 0 ∷ 0 ∷ 0 ∷ 0 ∷ 0 ∷ 0 ∷ 0 ∷ 0 ∷ 0 ∷ []
shake_is = refl

pub within : (gone count : ℕ) (bytes : List ℕ) → gone ≤ length bytes → count ≤ length (drop gone bytes) → gone + count ≤ length bytes
within gone count bytes there more =
    let most : count ≤ length bytes - gone = subst (λ (n : ℕ). count ≤ n) (length-drop gone bytes) more in omega (arith, there, most)

abbrev nil : List ℕ
nil = []

none : (n : ℕ) → drop n nil ≡ nil
none zero = refl
none (suc n) = refl

pub drop_more : (gone count : ℕ) (bytes : List ℕ) → drop count (drop gone bytes) ≡ drop (gone + count) bytes
drop_more zero count [] = none count ∙ sym (none (0 + count))
drop_more zero count (b ∷ bs) =
    let e : count ≡ 0 + count = omega (arith) in ap (λ (n : ℕ). drop n (b ∷ bs)) e
drop_more (suc gone) count [] = none count ∙ sym (none (suc gone + count))
drop_more (suc gone) count (b ∷ bs) =
    let e : suc (gone + count) ≡ suc gone + count = omega (arith) in
    drop_more gone count bs ∙ ap (λ (n : ℕ). drop n (b ∷ bs)) e

-- ---- how many requests there are up to a parcel

abbrev more : Bool → ℕ → ℕ
more b n = if b then suc n else n

swapped : (a b : Bool) (n m : ℕ) → n ≡ more a m → more b n ≡ more a (more b m)
swapped true true n m e = ap suc e
swapped true false n m e = e
swapped false true n m e = ap suc e
swapped false false n m e = e

none_up : (ps : List Parcel) → requests_in (take 0 ps) ≡ 0
none_up [] = refl
none_up (p ∷ ps) = refl

up_to : (ps : List Parcel) (i : ℕ) (p : Parcel) → slice_get ps i ≡ Some p
    → requests_in (take (suc i) ps) ≡ more p.counts (requests_in (take i ps))
up_to [] i p e = absurd (cc)
up_to (q ∷ qs) zero p e =
    let same : q ≡ p = search (e) in
    ap (λ (n : ℕ). more q.counts n) (none_up qs) ∙ ap (λ (x : Parcel). more x.counts 0) same
up_to (q ∷ qs) (suc i) p e =
    swapped p.counts q.counts (requests_in (take (suc i) qs)) (requests_in (take i qs)) (up_to qs i p e)

pub one_more : (ps : List Parcel) (i : ℕ) (p : Parcel) (b : Bool) → slice_get ps i ≡ Some p → b ≡ p.counts
    → requests_in (take (i + 1) ps) ≡ more b (requests_in (take i ps))
one_more ps i p b e c =
    let next : i + 1 ≡ suc i = omega (arith) in
    ap (λ (n : ℕ). requests_in (take n ps)) next ∙ up_to ps i p e ∙ ap (λ (x : Bool). more x (requests_in (take i ps))) (sym c)

pub there : (ps : List Parcel) (i : ℕ) (p : Parcel) → i < length ps → p ≡ slice_index_or ps i p → slice_get ps i ≡ Some p
there [] i p h e = absurd (omega (arith, h))
there (q ∷ qs) zero p h e = ap Some (sym e)
there (q ∷ qs) (suc i) p h e = there qs i p (omega (arith, h)) e
