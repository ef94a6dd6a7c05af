-- The front that one message takes, by the sizes of its entries.
use Rattle.std.proofs.Common.{◌≡◌, ℕ, zero, suc, ◌+◌, ◌-◌, ◌<◌, ◌≤◌, Bool, true, false, List, [], ◌∷◌, length, get_or, take, drop, refl}
use Rattle.std.proofs.Common.{sym, ap, ◌∙◌, arith}
use Rattle.std.specs.Prelude.{map, nat_le, if◌then◌else◌}
use Rattle.std.proofs.lemmas.Bool.{le-leb, lt-leb}
use Rattle.std.proofs.lemmas.List.{drop_all, drop_more, drop-map}
use Rattle.ncc_tx.specs.declared.entry.Item.{Item}
use Rattle.ncc_raft.specs.Logs.{allowed_front, entry_size, front_within}
use Rattle.ncc_raft.specs.Fronts.{front_number}

pub front_is : (number bytes : ℕ) (items : List Item) → front_within number bytes items ≡ take (front_number number bytes
    (map entry_size items)) items
unfolding front_within front_number
front_is number bytes [] = refl
front_is zero bytes (i ∷ is) = refl
front_is (suc number) bytes (i ∷ is) = go (nat_le (entry_size i) bytes) (front_is number (bytes - entry_size i) is)
  where
    go : (b : Bool) → front_within number (bytes - entry_size i) is ≡ take (front_number number (bytes - entry_size i)
        (map entry_size is)) is →
        (if b then i ∷ front_within number (bytes - entry_size i) is else []) ≡
        take (if b then suc (front_number number (bytes - entry_size i) (map entry_size is)) else 0) (i ∷ is)
    go true h = ap (λ (l : List Item). i ∷ l) h
    go false h = refl

-- the items of which so many sizes were counted
pub front_taken : (items : List Item) (sizes : List ℕ) (start n : ℕ) → sizes ≡ map entry_size items →
    n ≡ front_number 64 1_048_576 (drop start sizes) → take n (drop start items) ≡ allowed_front (drop start items)
unfolding allowed_front
front_taken items sizes start n e number =
    let behind : drop start sizes ≡ map entry_size (drop start items) = ap (drop start) e ∙ drop-map entry_size start items in
    ap (λ (k : ℕ). take k (drop start items)) (number ∙ ap (front_number 64 1_048_576) behind)
    ∙ sym (front_is 64 1_048_576 (drop start items))

pub front_none : (place : ℕ) (items : List Item) → length items ≤ place → [] ≡ allowed_front (drop place items)
unfolding allowed_front front_within
front_none place items le = sym (ap allowed_front (drop_all place items le))

-- ---- the loop

one_more : (number bytes s : ℕ) (ss : List ℕ) → s ≤ bytes →
    front_number (suc number) bytes (s ∷ ss) ≡ suc (front_number number (bytes - s) ss)
unfolding front_number
one_more number bytes s ss le = ap (λ (b : Bool). if b then suc (front_number number (bytes - s) ss) else 0) (le-leb s bytes le)

too_large : (number bytes s : ℕ) (ss : List ℕ) → bytes < s → front_number number bytes (s ∷ ss) ≡ 0
unfolding front_number
too_large zero bytes s ss lt = refl
too_large (suc number) bytes s ss lt = ap (λ (b : Bool). if b then suc (front_number number (bytes - s) ss) else 0) (lt-leb s bytes lt)

no_more : (bytes : ℕ) (ss : List ℕ) → front_number 0 bytes ss ≡ 0
unfolding front_number
no_more bytes [] = refl
no_more bytes (s ∷ ss) = refl

none_left : (number bytes : ℕ) → front_number number bytes [] ≡ 0
unfolding front_number
none_left number bytes = refl

-- so many are taken, with so many bytes left
pub record TakenSoFar (sizes : List ℕ) (i room : ℕ) : Type 0 where
  pub few : i ≤ 64
  pub within : room ≤ 1_048_576
  pub number : front_number 64 1_048_576 sizes ≡ i + front_number (64 - i) room (drop i sizes)

pub taken_none : (sizes : List ℕ) → TakenSoFar sizes 0 1_048_576
taken_none sizes = record { few = omega arith; within = omega arith; number = omega arith }

next_is : (sizes : List ℕ) (i s : ℕ) → i < length sizes → s ≡ get_or sizes i 0 → drop i sizes ≡ s ∷ drop (i + 1) sizes
next_is sizes i s lt e = drop_more sizes i 0 lt ∙ ap (λ (x : ℕ). x ∷ drop (i + 1) sizes) (sym e)

pub taken_more : (sizes : List ℕ) (i room s : ℕ) → i < length sizes → s ≡ get_or sizes i 0 → i < 64 → s ≤ room →
    TakenSoFar sizes i room → TakenSoFar sizes (i + 1) (room - s)
taken_more sizes i room s lt e few le t =
    let n : 64 - i ≡ suc (64 - (i + 1)) = omega arith in
    let a : front_number (64 - i) room (drop i sizes) ≡ front_number (suc (64 - (i + 1))) room (s ∷ drop (i + 1) sizes) =
    ap (λ (k : ℕ). front_number k room (drop i sizes)) n ∙ ap (front_number (suc (64 - (i + 1))) room) (next_is sizes i s lt e) in
    let b = one_more (64 - (i + 1)) room s (drop (i + 1) sizes) le in
    record {
      few = omega arith;
      within = omega (arith, t.within);
      number = t.number ∙ ap (λ (k : ℕ). i + k) (a ∙ b) ∙ omega arith;
    }

pub taken_full : (sizes : List ℕ) (i room : ℕ) → i ≡ 64 → TakenSoFar sizes i room → i ≡ front_number 64 1_048_576 sizes
taken_full sizes i room full t =
    let n : 64 - i ≡ 0 = omega arith in
    sym (t.number ∙ ap (λ (k : ℕ). i + k) (ap (λ (k : ℕ). front_number k room (drop i sizes)) n ∙ no_more room (drop i sizes))
    ∙ omega arith)

pub taken_large : (sizes : List ℕ) (i room s : ℕ) → i < length sizes → s ≡ get_or sizes i 0 → room < s →
    TakenSoFar sizes i room → i ≡ front_number 64 1_048_576 sizes
taken_large sizes i room s lt e large t =
    sym (t.number ∙ ap (λ (k : ℕ). i + k) (ap (front_number (64 - i) room) (next_is sizes i s lt e)
    ∙ too_large (64 - i) room s (drop (i + 1) sizes) large) ∙ omega arith)

pub taken_all : (sizes : List ℕ) (i room : ℕ) → i ≡ length sizes → TakenSoFar sizes i room → length sizes ≡ front_number 64 1_048_576 sizes
taken_all sizes i room end t =
    sym (t.number ∙ ap (λ (k : ℕ). i + k) (ap (front_number (64 - i) room) (drop_all i sizes (omega arith)) ∙ none_left (64 - i) room)
    ∙ omega arith)

pub ruleset of_taken = (taken_none, taken_more, taken_full, taken_large, taken_all)
