-- What writing needs of room, and what it gives.
use Rattle.std.proofs.Common.{◌≡◌, ℕ, zero, suc, ◌+◌, ◌-◌, ◌^◌, ◌<◌, ◌≤◌, min, List, [], ◌∷◌, ◌++◌, length, map, take, get_or, refl}
use Rattle.std.proofs.Common.{ap, ◌∙◌, arith}
use Rattle.std.specs.Prelude.{IsTrue, false, ◌&&◌, ℤ, pos, negsuc, int_le, int_lt}
use Rattle.std.specs.Int.{w64, to_be_bytes, cast_unsigned}
use Rattle.std.proofs.lemmas.List.{length-append, length-map}
use Rattle.ncc_pack.specs.declared.value.Value.{Value}
use Rattle.ncc_pack.specs.declared.value.NodeValue.{NodeValue}
use Rattle.ncc_pack.specs.Limits.{max_size, max_depth}
use Rattle.ncc_pack.specs.Spells.{Kind, texts, lists, dicts, bytes_mark}
use Rattle.ncc_pack.specs.Short.{head, wide_head, integer, text, bytes, concat, pairs, list, dict, short, short_pair, short_node}
use Rattle.ncc_pack.specs.Fits.{fits}
use Rattle.ncc_pack.specs.Writing.{Spelled, HeadSpelled}
use Rattle.ncc_pack.proofs.Loops.{node_short_by}
use Rattle.ncc_pack.proofs.Sizes.{stays}
use Rattle.ncc_pack.proofs.Trip.{short_is, head_is}

-- a length that did not pass the greatest number is told as it is
pub exact_length : (len wanted : ℕ) → len ≡ min wanted (2 ^ 64 - 1) → len < 2 ^ 63 → wanted ≡ len
exact_length len wanted e lt = grind arith

-- one told is no more than the true one
pub told_length : (len wanted : ℕ) → len ≡ min wanted (2 ^ 64 - 1) → len ≤ wanted
told_length len wanted e = grind arith

-- a head is short
pub head_told : (n len : ℕ) → ((kind : Kind) → len ≡ length (head kind n)) → len ≤ 5 → len ≡ min (length (head lists n)) (2 ^ 64 - 1)
head_told n len is le = stays len (omega arith) ∙ ap (λ (k : ℕ). min k (2 ^ 64 - 1)) (is lists)

-- ---- lengths of what is written part by part

pub text_length : (t : List ℕ) → length (text t) ≡ length (head texts (length t)) + length t
unfolding text
text_length t = length-append (head texts (length t)) t

pub bytes_length : (b : List ℕ) → length (bytes b) ≡ length (wide_head bytes_mark (length b)) + length b
unfolding bytes
bytes_length b = length-append (wide_head bytes_mark (length b)) b

pub list_length : (xs : List Value) → length (list (map short xs)) ≡ length (head lists (length xs)) + length (concat (map short xs))
unfolding list
list_length xs = rw (length-map xs short) (length-append (head lists (length xs)) (concat (map short xs)))

pub dict_length : (ps : List (List ℕ × Value)) → length (dict (map short_pair ps))
    ≡ length (head dicts (length ps)) + length (pairs (map short_pair ps))
unfolding dict
dict_length ps = rw (length-map ps short_pair) (length-append (head dicts (length ps)) (pairs (map short_pair ps)))

pub node_length : (n : NodeValue) → length (short_node n) ≡ 2 + length (integer n.id) + length (list (map short n.labels)) + length
    (dict (map short_pair n.props))
node_length n =
    let a : List ℕ = 0xB3 ∷ 0x4E ∷ integer n.id in
    let b : List ℕ = list (map short n.labels) in
    let c : List ℕ = dict (map short_pair n.props) in
    let two : length a ≡ 2 + length (integer n.id) = omega arith in
    rw (node_short_by n, length-append (a ++ b) c, length-append a b, two) refl

-- what stands before an item, and the item, are no longer than all items
before_item : (xs : List Value) (i : ℕ) (x : Value) → i < length xs → x ≡ get_or xs i x
    → length (concat (map short (take i xs))) + length (short x) ≤ length (concat (map short xs))
before_item [] i x lt is = absurd (omega arith)
before_item (y ∷ ys) zero x lt is =
    let same : length (short x) ≡ length (short y) = ap (λ (v : Value). length (short v)) is in
    omega (arith, same, length-append (short y) (concat (map short ys)))
before_item (y ∷ ys) (suc i) x lt is =
    let lt' : i < length ys = omega arith in
    omega (
      arith,
      before_item ys i x lt' is,
      length-append (short y) (concat (map short (take i ys))),
      length-append (short y)
          (concat (map short ys)),
    )

before_pair : (ps : List (List ℕ × Value)) (i : ℕ) (p : List ℕ × Value) → i < length ps → p ≡ get_or ps i p
    → length (pairs (map short_pair (take i ps))) + (length (text p.0) + length (short p.1)) ≤ length (pairs (map short_pair ps))
before_pair [] i p lt is = absurd (omega arith)
before_pair (q ∷ qs) zero p lt is =
    let same : length (text p.0 ++ short p.1) ≡ length (text q.0 ++ short q.1) =
    ap (λ (v : List ℕ × Value). length (text v.0 ++ short v.1)) is in
    omega (arith, same, length-append (text p.0) (short p.1), length-append (text q.0 ++ short q.1) (pairs (map short_pair qs)))
before_pair (q ∷ qs) (suc i) p lt is =
    let lt' : i < length qs = omega arith in
    omega (
      arith,
      before_pair qs i p lt' is,
      length-append (text q.0 ++ short q.1) (pairs (map short_pair (take i qs))),
      length-append
          (text q.0 ++ short q.1) (pairs (map short_pair qs)),
    )

-- Room for a whole list is room for its next item: n are there before the list, m behind its head, k behind the items so far.
pub item_room : (xs ys : List Value) (i : ℕ) (x : Value) (size n m k c0 c1 c2 : ℕ) → ys ≡ xs → i < length ys → x ≡ get_or ys i x
    → size ≡ length xs
    → n + length (list (map short xs)) ≤ c0 → m ≡ n + length (head lists size) → c0 ≤ c1 → k ≡ m + length (concat (map short (take i ys)))
    → c1 ≤ c2 → k + length (short x) ≤ c2
item_room xs ys i x size n m k c0 c1 c2 same lt is sized room first le now le' =
    let most : length (concat (map short (take i ys))) + length (short x) ≤ length (concat (map short xs)) =
    rw (← same) (before_item ys i x lt is) in
    let front : length (head lists size) ≡ length (head lists (length xs)) = ap (λ (s : ℕ). length (head lists s)) sized in
    omega (arith, list_length xs, most, front, room, first, le, now, le')

pub pair_room : (ps qs : List (List ℕ × Value)) (i : ℕ) (p : List ℕ × Value) (size n m k c0 c1 c2 : ℕ) → qs ≡ ps → i < length qs
    → p ≡ get_or qs i p → size ≡ length ps
    → n + length (dict (map short_pair ps)) ≤ c0 → m ≡ n + length (head dicts size) → c0 ≤ c1
    → k ≡ m + length (pairs (map short_pair (take i qs))) → c1 ≤ c2 → k + (length (text p.0) + length (short p.1)) ≤ c2
pair_room ps qs i p size n m k c0 c1 c2 same lt is sized room first le now le' =
    let most : length (pairs (map short_pair (take i qs))) + (length (text p.0) + length (short p.1)) ≤ length
    (pairs (map short_pair ps)) = rw (← same) (before_pair qs i p lt is) in
    let front : length (head dicts size) ≡ length (head dicts (length ps)) = ap (λ (s : ℕ). length (head dicts s)) sized in
    omega (arith, dict_length ps, most, front, room, first, le, now, le')

-- the length behind one more item
pub longer : (m k k' : ℕ) (a b c : List ℕ) → k ≡ m + length a → k' ≡ k + length b → c ≡ a ++ b → k' ≡ m + length c
longer m k k' a b c e f g = let l : length c ≡ length a + length b = rw g (length-append a b) in omega (arith, e, f, l)

pub longer_two : (m k j k' : ℕ) (a b b' c : List ℕ) → k ≡ m + length a → j ≡ k + length b → k' ≡ j + length b' → c ≡ a ++ (b ++ b')
    → k' ≡ m + length c
longer_two m k j k' a b b' c e f h g =
    let l : length c ≡ length a + (length b + length b') = rw (g, length-append a (b ++ b'), length-append b b') refl in
    omega (arith, e, f, h, l)

-- ---- what is written is a spelling

pub spelled : (x : Value) (old new : List ℕ) → IsTrue (fits x) → new ≡ old ++ short x → Spelled x old new
spelled x old new h e = (short x, short_is max_depth x h, e)

pub head_spelled : (n : ℕ) (old new : List ℕ) → n ≤ max_size → new ≡ old ++ head lists n → HeadSpelled n old new
head_spelled n old new le e = (head lists n, head_is lists n le, e)

-- ---- integers

-- an integer that needs eight bytes
pub in_eight : (z : ℤ) → (int_le (negsuc 0x7FFF_FFFF) z && int_lt z (pos 0x8000_0000)) ≡ false
    → integer z ≡ 0xCB ∷ to_be_bytes w64 (cast_unsigned w64 z)
unfolding integer
in_eight (pos n) e = grind arith
in_eight (negsuc n) e = grind arith
