-- Sums of lengths that stay at the greatest 64-bit number.
use Rattle.std.proofs.Common.{◌≡◌, ℕ, ◌+◌, ◌-◌, ◌^◌, ◌≤◌, min, List, [], ◌∷◌, ◌++◌, length, map, take, refl, sym, ap, ◌∙◌, arith}
use Rattle.std.proofs.lemmas.List.{append-nil, length-append, length-map, take_all}
use Rattle.std.proofs.Common.{append_assoc}
use Rattle.ncc_pack.specs.declared.value.Value.{Value}
use Rattle.ncc_pack.specs.declared.value.NodeValue.{NodeValue}
use Rattle.ncc_pack.specs.Spells.{lists, dicts, bytes_mark}
use Rattle.ncc_pack.specs.Short.{head, wide_head, bytes, concat, pairs, short, short_pair, short_node, integer, list, dict}
use Rattle.ncc_pack.proofs.Loops.{node_short_by}

abbrev pub greatest : ℕ
greatest = 2 ^ 64 - 1

pub stays : (n : ℕ) → n ≤ 2 ^ 40 → n ≡ min n greatest
stays n le = grind arith

pub sum_stays : (s t x y : ℕ) → s ≡ min x greatest → t ≡ min y greatest → min (s + t) greatest ≡ min (x + y) greatest
sum_stays s t x y e f = rw (e, f) (grind arith)

pub starts : (n : ℕ) (h : List ℕ) → n ≡ length h → n ≤ 5 → n ≡ min (length (h ++ [])) greatest
starts n h e le = stays n (omega arith) ∙ rw (e, append-nil h) refl

pub goes_on : (sum t : ℕ) (h a b c : List ℕ) → sum ≡ min (length (h ++ a)) greatest → t ≡ min (length b) greatest → c ≡ a ++ b
    → min (sum + t) greatest ≡ min (length (h ++ c)) greatest
goes_on sum t h a b c e f g =
    let n : length (h ++ c) ≡ length (h ++ a) + length b = rw (g, ← append_assoc h a b) (length-append (h ++ a) b) in
    sum_stays sum t (length (h ++ a)) (length b) e f ∙ rw n refl

-- a pair is its key and then its value
pub pair_goes_on : (sum first t u : ℕ) (h a b b' c : List ℕ) → sum ≡ min (length (h ++ a)) greatest → t ≡ length b → t ≤ 2 ^ 40
    → u ≡ min (length b') greatest → first ≡ min (sum + t) greatest → c ≡ a ++ (b ++ b')
    → min (first + u) greatest ≡ min (length (h ++ c)) greatest
pair_goes_on sum first t u h a b b' c e is le f one g =
    let text_is : t ≡ min (length b) greatest = stays t le ∙ ap (λ (n : ℕ). min n greatest) is in
    goes_on first u h (a ++ b) b' c (one ∙ goes_on sum t h a b (a ++ b) e text_is refl) f (g ∙ sym (append_assoc a b b'))

pub bytes_is : (front : ℕ) (b : List ℕ) → front ≡ length (wide_head bytes_mark (length b)) → front + length b ≡ length (bytes b)
unfolding bytes
bytes_is front b e = rw (length-append (wide_head bytes_mark (length b)) b, e) refl

pub list_ends : (xs ys : List Value) (i : ℕ) → ys ≡ xs → length ys ≤ i
    → head lists (length xs) ++ concat (map short (take i ys)) ≡ list (map short xs)
unfolding list
list_ends xs ys i same le = rw (take_all i ys le, same, length-map xs short) refl

pub dict_ends : (ps qs : List (List ℕ × Value)) (i : ℕ) → qs ≡ ps → length qs ≤ i
    → head dicts (length ps) ++ pairs (map short_pair (take i qs)) ≡ dict (map short_pair ps)
unfolding dict
dict_ends ps qs i same le = rw (take_all i qs le, same, length-map ps short_pair) refl

pub node_len : (n : NodeValue) (front l d : ℕ) → front ≡ length (integer n.id) → front ≤ 9
    → l ≡ min (length (list (map short n.labels))) greatest → d ≡ min (length (dict (map short_pair n.props))) greatest
    → min (min ((2 + front) + l) greatest + d) greatest ≡ min (length (short_node n)) greatest
node_len n front l d e le f g =
    let a : List ℕ = 0xB3 ∷ 0x4E ∷ integer n.id in
    let b : List ℕ = list (map short n.labels) in
    let c : List ℕ = dict (map short_pair n.props) in
    let size : length (short_node n) ≡ (length a + length b) + length c =
    rw (node_short_by n, length-append (a ++ b) c, length-append a b) refl in
    let two : length a ≡ 2 + length (integer n.id) = omega arith in
    let first : 2 + front ≡ min (length a) greatest = stays (2 + front) (omega arith) ∙ rw (two, e) refl in
    sum_stays (min ((2 + front) + l) greatest) d (length a + length b) (length c)
    (sum_stays (2 + front) l (length a) (length b) first f) g ∙ rw size refl
