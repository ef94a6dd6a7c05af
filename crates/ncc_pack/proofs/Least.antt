-- No spelling of a value is shorter than its shortest.
use Rattle.std.proofs.Common.{◌≡◌, ℕ, zero, suc, ◌^◌, ◌<◌, ◌≤◌, Bool, true, false, cond, ◌&&◌, List, [], ◌∷◌, ◌++◌, length, map}
use Rattle.std.proofs.Common.{refl, sym, ap, ◌∙◌, arith}
use Rattle.std.specs.Prelude.{ℤ, pos, negsuc, int_le, int_lt, nat_lt}
use Rattle.std.specs.Int.{w8, w16, w32, w64, cast_signed}
use Rattle.std.proofs.lemmas.List.{length-append, length-map}
use Rattle.std.proofs.lemmas.Bool.{ltb-false}
use borrow.Author.Differences.{ints}
use Rattle.ncc_pack.specs.declared.value.Value.{Value, fold-roll-Value, roll-Value, map-Value}
use Rattle.ncc_pack.specs.declared.value.Value.TheOpen.{Value-F}
use Rattle.ncc_pack.specs.declared.value.Value.TheVariants as v
use Rattle.ncc_pack.specs.declared.value.NodeValue.{NodeValue}
use Rattle.ncc_pack.specs.Short.{head, wide_head, integer, text, bytes, list, dict, concat, pairs, short, short_pair, short_node}
use Rattle.ncc_pack.specs.Short.{short_step, node_step}
use Rattle.ncc_pack.specs.Spells.{Kind, texts, lists, dicts, bytes_mark, IsWide, IsHead, SpellsInt, SpellsText, Each, Listed, Pair}
use Rattle.ncc_pack.specs.Spells.{Label, Holding, Spells, Fields, levels}
use Rattle.ncc_pack.specs.Spells as s
use Rattle.ncc_pack.proofs.Loops.{node_short_by, short_text, short_list, short_dict}

-- ---- heads

one_of : {A : Type 0} (b : Bool) (x y : List A) (n : ℕ) → (b ≡ true → length x ≤ n) → (b ≡ false → length y ≤ n) → length (cond b x y) ≤ n
one_of true x y n p q = p refl
one_of false x y n p q = q refl

-- a size takes as many bytes as it needs
wide_least : (mark n : ℕ) (h : List ℕ) → IsWide mark n h → length (wide_head mark n) ≤ length h
wide_least mark n _ (s.one lt) = one_of (nat_lt n 0x100) _ _ 2 (λ _. omega arith) (λ e. let le = ltb-false n 0x100 e in
    absurd (omega arith))
wide_least mark n _ (s.two lt) = one_of (nat_lt n 0x100) _ _ 3 (λ _. omega arith)
    (λ _. one_of (nat_lt n 0x1_0000) _ _ 3 (λ _. omega arith) (λ e. let le = ltb-false n 0x1_0000 e in absurd (omega arith)))
wide_least mark n _ (s.four le) = one_of (nat_lt n 0x100) _ _ 5 (λ _. omega arith)
    (λ _. one_of (nat_lt n 0x1_0000) _ _ 5 (λ _. omega arith) (λ _. omega arith))

wide_some : (mark n : ℕ) (h : List ℕ) → IsWide mark n h → 2 ≤ length h
wide_some mark n _ (s.one lt) = omega arith
wide_some mark n _ (s.two lt) = omega arith
wide_some mark n _ (s.four le) = omega arith

head_least : (kind : Kind) (n : ℕ) (h : List ℕ) → IsHead kind n h → length (head kind n) ≤ length h
unfolding head
head_least kind n _ (s.tiny lt) = one_of (nat_lt n 16) _ _ 1 (λ _. omega arith) (λ e. let le = ltb-false n 16 e in absurd (omega arith))
head_least kind n _ (s.wide h w) =
    let some = wide_some kind.wide n h w in
    let least = wide_least kind.wide n h w in
    one_of (nat_lt n 16) _ _ (length h) (λ _. omega arith) (λ _. least)

-- ---- integers

abbrev tiny : ℤ → Bool
tiny z = int_le (negsuc 15) z && int_lt z (pos 128)

abbrev in_one : ℤ → Bool
in_one z = int_le (negsuc 127) z && int_lt z (pos 128)

abbrev in_two : ℤ → Bool
in_two z = int_le (negsuc 0x7FFF) z && int_lt z (pos 0x8000)

abbrev in_four : ℤ → Bool
in_four z = int_le (negsuc 0x7FFF_FFFF) z && int_lt z (pos 0x8000_0000)

differ : (b : Bool) → b ≡ true → b ≡ false → ⊥
differ true p q = cc
differ false p q = cc

up_to : (z : ℤ) (n : ℕ) → (tiny z ≡ false → 2 ≤ n) → (in_one z ≡ false → 3 ≤ n) → (in_two z ≡ false → 5 ≤ n) →
    (in_four z ≡ false → 9 ≤ n) → 1 ≤ n → length (integer z) ≤ n
unfolding integer
up_to z n a b c d some =
    one_of (tiny z) _ _ n (λ _. some) (λ e. let two = a e in
    one_of (in_one z) _ _ n (λ _. two) (λ f. let three = b f in
    one_of (in_two z) _ _ n (λ _. three) (λ g. let five = c g in
    one_of (in_four z) _ _ n (λ _. five) (λ h. let nine = d h in nine))))

one_fits : (n : ℕ) → n < 2 ^ 8 → (in_one (cast_signed w8 n) ≡ true) × (in_two (cast_signed w8 n) ≡ true)
    × (in_four (cast_signed w8 n) ≡ true)
one_fits n lt = (grind (arith, ints), grind (arith, ints), grind (arith, ints))

two_fits : (n : ℕ) → n < 2 ^ 16 → (in_two (cast_signed w16 n) ≡ true) × (in_four (cast_signed w16 n) ≡ true)
two_fits n lt = (grind (arith, ints), grind (arith, ints))

four_fits : (n : ℕ) → n < 2 ^ 32 → in_four (cast_signed w32 n) ≡ true
four_fits n lt = grind (arith, ints)

int_least : (z : ℤ) (b : List ℕ) → SpellsInt z b → length (integer z) ≤ length b
int_least _ _ (s.positive n lt) =
    up_to (pos n) 1 (λ e. absurd (differ (tiny (pos n)) (grind (arith, ints)) e))
    (λ e. absurd (differ (in_one (pos n)) (grind (arith, ints)) e))
    (λ e. absurd (differ (in_two (pos n)) (grind (arith, ints)) e)) (λ e. absurd (differ (in_four (pos n)) (grind (arith, ints)) e))
    (omega arith)
int_least _ _ (s.negative n lt) =
    up_to (negsuc n) 1 (λ e. absurd (differ (tiny (negsuc n)) (grind (arith, ints)) e))
    (λ e. absurd (differ (in_one (negsuc n)) (grind (arith, ints)) e))
    (λ e. absurd (differ (in_two (negsuc n)) (grind (arith, ints)) e))
    (λ e. absurd (differ (in_four (negsuc n)) (grind (arith, ints)) e)) (omega arith)
int_least _ _ (s.int1 n lt) =
    let f = one_fits n lt in
    up_to (cast_signed w8 n) 2 (λ _. omega arith) (λ e. absurd (differ _ f.0 e)) (λ e. absurd (differ _ f.1 e))
    (λ e. absurd (differ _ f.2 e)) (omega arith)
int_least _ _ (s.int2 n lt) =
    let f = two_fits n lt in
    up_to (cast_signed w16 n) 3 (λ _. omega arith) (λ _. omega arith) (λ e. absurd (differ _ f.0 e)) (λ e. absurd (differ _ f.1 e))
    (omega arith)
int_least _ _ (s.int4 n lt) =
    let f = four_fits n lt in
    up_to (cast_signed w32 n) 5 (λ _. omega arith) (λ _. omega arith) (λ _. omega arith) (λ e. absurd (differ _ f e)) (omega arith)
int_least _ _ (s.int8 n lt) = up_to (cast_signed w64 n) 9 (λ _. omega arith) (λ _. omega arith) (λ _. omega arith)
    (λ _. omega arith) (omega arith)

-- ---- texts, bytes, and one after another

text_least : (t b : List ℕ) → SpellsText t b → length (text t) ≤ length b
unfolding text
text_least t b sp =
    let least = head_least texts (length t) sp.0 sp.1 in
    omega (arith, length-append (head texts (length t)) t, ap length sp.3, length-append sp.0 t)

bytes_least : (t h : List ℕ) → IsWide bytes_mark (length t) h → length (bytes t) ≤ length (h ++ t)
unfolding bytes
bytes_least t h w =
    let least = wide_least bytes_mark (length t) h w in
    omega (arith, length-append (wide_head bytes_mark (length t)) t, length-append h t)

each_least : {A : Type 0} (R : A → List ℕ → Type 0) (f : A → List ℕ) → ((x : A) (b : List ℕ) → R x b → length (f x) ≤ length b)
    → (xs : List A) (b : List ℕ) → Each R xs b → length (concat (map f xs)) ≤ length b
each_least R f least [] b each = omega arith
each_least R f least (x ∷ xs) b each =
    let one = least x each.0 each.2 in
    let more = each_least R f least xs each.1 each.3 in
    omega (arith, length-append (f x) (concat (map f xs)), ap length each.4, length-append each.0 each.1)

abbrev Least : (Value → List ℕ → Type 0) → Type 0
Least R = (x : Value) (b : List ℕ) → R x b → length (short x) ≤ length b

pairs_least : (R : Value → List ℕ → Type 0) → Least R → (ps : List (List ℕ × Value)) (b : List ℕ) → Each (Pair R) ps b →
    length (pairs (map short_pair ps)) ≤ length b
pairs_least R least [] b each = omega arith
pairs_least R least (p ∷ ps) b each =
    let one = each.2 in
    let key = text_least p.0 one.0 one.2 in
    let value = least p.1 one.1 one.3 in
    let more = pairs_least R least ps each.1 each.3 in
    omega (
      arith,
      length-append (text p.0 ++ short p.1) (pairs (map short_pair ps)),
      length-append (text p.0) (short p.1),
      ap length each.4,
      length-append each.0 each.1,
      ap length one.4,
      length-append one.0 one.1,
    )

listed_least : {A : Type 0} (R : A → List ℕ → Type 0) (f : A → List ℕ) → ((x : A) (b : List ℕ) → R x b → length (f x) ≤ length b)
    → (xs : List A) (b : List ℕ) → Listed lists R xs b → length (list (map f xs)) ≤ length b
unfolding list
listed_least R f least xs b sp =
    let h = head_least lists (length xs) sp.0 sp.2 in
    let more = each_least R f least xs sp.1 sp.3 in
    let same : length (head lists (length (map f xs))) ≡ length (head lists (length xs)) =
    ap (λ (n : ℕ). length (head lists n)) (length-map xs f) in
    omega (arith, same, length-append (head lists (length (map f xs))) (concat (map f xs)), ap length sp.4, length-append sp.0 sp.1)

dict_least : (R : Value → List ℕ → Type 0) → Least R → (ps : List (List ℕ × Value)) (b : List ℕ) → Listed dicts (Pair R) ps b →
    length (dict (map short_pair ps)) ≤ length b
unfolding dict
dict_least R least ps b sp =
    let h = head_least dicts (length ps) sp.0 sp.2 in
    let more = pairs_least R least ps sp.1 sp.3 in
    let same : length (head dicts (length (map short_pair ps))) ≡ length (head dicts (length ps)) =
    ap (λ (n : ℕ). length (head dicts n)) (length-map ps short_pair) in
    omega (
      arith,
      same,
      length-append (head dicts (length (map short_pair ps))) (pairs (map short_pair ps)),
      ap length sp.4,
      length-append sp.0 sp.1,
    )

-- ---- what holds values

pub record HoldsLeast (h : Holding) : Type 0 where
  pub list : (xs : List Value) (b : List ℕ) → h.list xs b → length (list (map short xs)) ≤ length b
  pub dict : (ps : List (List ℕ × Value)) (b : List ℕ) → h.dict ps b → length (dict (map short_pair ps)) ≤ length b
  pub node : (n : NodeValue) (b : List ℕ) → h.node n b → length (short_node n) ≤ length b

short_of : (l : Value-F Value NodeValue) →
    short (roll-Value l) ≡ short_step (map-Value Value NodeValue (List ℕ) (List ℕ) short short_node l)
short_of l = fold-roll-Value (List ℕ) (List ℕ) short_step node_step l

by_layer : (x : Value) (l : Value-F Value NodeValue) → roll-Value l ≡ x →
    short x ≡ short_step (map-Value Value NodeValue (List ℕ) (List ℕ) short short_node l)
by_layer x l e = ap short (sym e) ∙ short_of l

no_longer : (x : Value) (y b : List ℕ) → short x ≡ y → length y ≤ length b → length (short x) ≤ length b
no_longer x y b e le = let l = ap length e in omega arith

value_least : (h : Holding) → HoldsLeast h → Least (Spells h)
value_least h o _ _ s.null = no_longer v.Null (0xC0 ∷ []) (0xC0 ∷ []) (by_layer v.Null Value-F.Null v.rolls-Null) (omega arith)
value_least h o _ _ s.no = no_longer (v.Bool false) (0xC2 ∷ []) (0xC2 ∷ [])
    (by_layer (v.Bool false) (Value-F.Bool false) (v.rolls-Bool false)) (omega arith)
value_least h o _ _ s.yes = no_longer (v.Bool true) (0xC3 ∷ []) (0xC3 ∷ [])
    (by_layer (v.Bool true) (Value-F.Bool true) (v.rolls-Bool true)) (omega arith)
value_least h o _ _ (s.int z b sp) = no_longer (v.Int z) (integer z) b (by_layer (v.Int z) (Value-F.Int z) (v.rolls-Int z))
    (int_least z b sp)
value_least h o _ _ (s.bytes t head w) = no_longer (v.Bytes t) (bytes t) (head ++ t)
    (by_layer (v.Bytes t) (Value-F.Bytes t) (v.rolls-Bytes t)) (bytes_least t head w)
value_least h o _ _ (s.text t b sp) = no_longer (v.Text t) (text t) b (short_text t) (text_least t b sp)
value_least h o _ _ (s.list xs b sp) = no_longer (v.List xs) (list (map short xs)) b (short_list xs) (o.list xs b sp)
value_least h o _ _ (s.dict ps b sp) = no_longer (v.Dict ps) (dict (map short_pair ps)) b (short_dict ps) (o.dict ps b sp)
value_least h o _ _ (s.node n b sp) = no_longer (v.Node n) (short_node n) b (by_layer (v.Node n) (Value-F.Node n) (v.rolls-Node n))
    (o.node n b sp)

label_least : Least Label
label_least _ _ (s.label t b sp) = no_longer (v.Text t) (text t) b (short_text t) (text_least t b sp)

fields_least : (h : Holding) → HoldsLeast h → (n : NodeValue) (b : List ℕ) → Fields h n b → length (short_node n) ≤ length b
fields_least h o n b sp =
    let id = int_least n.id sp.0 sp.3 in
    let labels = listed_least Label short label_least n.labels sp.1 sp.4 in
    let props = o.dict n.props sp.2 sp.5 in
    let i = integer n.id in
    let l = list (map short n.labels) in
    let d = dict (map short_pair n.props) in
    omega (
      arith,
      ap length (node_short_by n),
      length-append (0xB3 ∷ 0x4E ∷ i) l,
      length-append ((0xB3 ∷ 0x4E ∷ i) ++ l) d,
      ap length sp.6,
      length-append (0xB3 ∷ 0x4E ∷ sp.0) sp.1,
      length-append ((0xB3 ∷ 0x4E ∷ sp.0) ++ sp.1) sp.2,
    )

node_least : (d : ℕ) → HoldsLeast (levels d) → (n : NodeValue) (b : List ℕ) → (levels (suc d)).node n b → length (short_node n) ≤ length b
unfolding levels
node_least zero o n b sp = absurd sp
node_least (suc d) o n b sp = fields_least (levels (suc d)) o n b sp

hold_least : (d : ℕ) → HoldsLeast (levels d)
unfolding levels
hold_least zero = record { list = λ xs b sp. absurd sp; dict = λ ps b sp. absurd sp; node = λ n b sp. absurd sp }
hold_least (suc d) =
    let inside = hold_least d in
    let one = value_least (levels d) inside in
    record {
      list = listed_least (Spells (levels d)) short one;
      dict = λ ps b sp. dict_least (Spells (levels d)) one ps b sp.0;
      node = node_least d inside;
    }

pub shortest : (d : ℕ) (x : Value) (b : List ℕ) → Spells (levels d) x b → length (short x) ≤ length b
shortest d = value_least (levels d) (hold_least d)
