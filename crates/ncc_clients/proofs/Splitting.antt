-- What moves of parcels and what stays are together what waited.
use Rattle.std.proofs.Common.{◌≡◌, ℕ, zero, suc, ◌-◌, Bool, true, false, List, [], ◌∷◌, ◌++◌, length, take, drop, Option, Some, None}
use Rattle.std.proofs.Common.{refl, sym, ap}
use Rattle.std.proofs.Common.{◌∙◌, append_assoc, append-nil}
use Rattle.std.proofs.lemmas.List.{take-append-drop}
use Rattle.std.specs.Prelude.{if◌then◌else◌, nat_le}
use Rattle.ncc_clients.specs.Links.{Lifted, Parcel, bytes_in, requests_in, with_first, rest_of, lift_bytes, lift_requests, lift_all}
use Rattle.ncc_clients.specs.Drives.{lift_to}
use Rattle.ncc_clients.specs.Course.{Splits, LiftsSplit, FrontsAreTaken}
use Rattle.ncc_clients.proofs.Doing.{bytes_join}

abbrev Whole : Lifted → List ℕ → Type 0
Whole l bytes = l.moved ++ bytes_in l.left ≡ bytes

first_whole : (p : Parcel) (ps : List Parcel) (l : Lifted) → Whole l (bytes_in ps) → Whole (with_first p.bytes l) (bytes_in (p ∷ ps))
first_whole p ps l h = append_assoc p.bytes l.moved (bytes_in l.left) ∙ ap (λ (b : List ℕ). p.bytes ++ b) h

whole_if : (b : Bool) (x y : Lifted) (bytes : List ℕ) → Whole x bytes → Whole y bytes → Whole (if b then x else y) bytes
whole_if true x y bytes h k = h
whole_if false x y bytes h k = k

rest_bytes : (n : ℕ) (p : Parcel) → bytes_in (rest_of n p) ≡ drop n p.bytes
rest_bytes n p = go (drop n p.bytes) where
  go : (bytes : List ℕ)
      → bytes_in (elim bytes [ [] ↦ [] | b ∷ bs ↦ record { bytes = b ∷ bs; counts = p.counts } ∷ [] ]) ≡ bytes
  go [] = refl
  go (b ∷ bs) = append-nil (b ∷ bs)

part_whole : (n : ℕ) (p : Parcel) (ps : List Parcel) → Whole (record { moved = take n p.bytes; left = rest_of n p ++ ps }) (bytes_in
    (p ∷ ps))
part_whole n p ps =
    ap (λ (b : List ℕ). take n p.bytes ++ b) (bytes_join (rest_of n p) ps ∙ ap (λ (b : List ℕ). b ++ bytes_in ps) (rest_bytes n p))
    ∙ sym (append_assoc (take n p.bytes) (drop n p.bytes) (bytes_in ps))
    ∙ ap (λ (b : List ℕ). b ++ bytes_in ps) (take-append-drop n p.bytes)

bytes_split : (n : ℕ) → Splits (lift_bytes n)
unfolding lift_bytes
bytes_split n [] = refl
bytes_split n (p ∷ ps) =
    whole_if (nat_le (length p.bytes) n) (with_first p.bytes (lift_bytes (n - length p.bytes) ps))
    (record { moved = take n p.bytes; left = rest_of n p ++ ps }) (bytes_in (p ∷ ps))
    (first_whole p ps (lift_bytes (n - length p.bytes) ps) (bytes_split (n - length p.bytes) ps)) (part_whole n p ps)

requests_split : (n : ℕ) → Splits (lift_requests n)
unfolding lift_requests
requests_split zero ps = refl
requests_split (suc n) [] = refl
requests_split (suc n) (p ∷ ps) =
    whole_if p.counts (with_first p.bytes (lift_requests n ps)) (with_first p.bytes (lift_requests (suc n) ps)) (bytes_in (p ∷ ps))
    (first_whole p ps (lift_requests n ps) (requests_split n ps)) (first_whole p ps (lift_requests (suc n) ps) (requests_split (suc n) ps))

all_split : Splits lift_all
all_split ps = append-nil (bytes_in ps)

to_split : (limit : Option ℕ) → Splits (lift_to limit)
to_split None ps = all_split ps
to_split (Some n) ps =
    whole_if (nat_le n (requests_in ps)) (lift_requests n ps) (lift_all ps) (bytes_in ps) (requests_split n ps) (all_split ps)

pub lifts_split : LiftsSplit
lifts_split = (bytes_split, requests_split, all_split, to_split)

pub fronts_are_taken : FrontsAreTaken
fronts_are_taken = (λ n bytes. (drop n bytes, take-append-drop n bytes), λ bytes. ([], append-nil bytes))
