-- The rows of each call keep the limits of one step.
use Rattle.std.proofs.Common.{◌≡◌, ℕ, suc, ◌+◌, ◌<◌, ◌≤◌, ◌^◌, ℤ, pos, ◌+ℤ◌, ◌<ℤ◌, ◌≤ℤ◌, int_lt, int_le, negsuc, nat_lt, nat_le, Bool}
use Rattle.std.proofs.Common.{true, false, cond, ◌&&◌, List, [], ◌∷◌, ◌++◌, length, map, All, Option, Some, None, Ok, Err, IsTrue, refl}
use Rattle.std.proofs.Common.{sym, ap, ap₂, subst, ◌∙◌, ◌⊎◌, inl, inr, arith, length-append}
use Rattle.std.specs.List.{list_all}
use Rattle.std.specs.Int.{w8, w16, w32, w64, to_be_bytes, cast_unsigned}
use Rattle.std.proofs.lemmas.Int.{ints}
use Rattle.std.proofs.lemmas.Bool.{le-leb, lt-ltb}
use Rattle.std.proofs.lemmas.List.{length-map}
use Rattle.std.proofs.lemmas.List.Elements.{All-nil, All-cons, All-head, All-tail, All-weaker}
use Rattle.ncc_pack.specs.declared.value.Value.{Value, fold-roll-Value}
use Rattle.ncc_pack.specs.declared.value.Value.TheVariants as v
use Rattle.ncc_pack.specs.declared.value.Value.TheOpen.{Value-F}
use Rattle.ncc_pack.specs.Limits.{max_size, max_depth}
use Rattle.ncc_pack.specs.Spells.{lists}
use Rattle.ncc_pack.specs.Short.{integer, list, head, short, short_step, node_step}
use Rattle.ncc_pack.specs.Fits.{Fit, fit, fits, fits_i64, fits_list, fits_step, fits_node_step}
use Rattle.ncc_cypher.specs.declared.tree.Statement.{Statement}
use Rattle.ncc_cypher.specs.declared.tree.Head.{Head}
use Rattle.ncc_cypher.specs.declared.tree.Head.TheVariants as h
use Rattle.ncc_cypher.specs.declared.tree.Item.{Item}
use Rattle.ncc_cypher.specs.declared.tree.Tail.{Tail}
use Rattle.ncc_cypher.specs.declared.tree.Tail.TheVariants as l
use Rattle.ncc_cypher.specs.Parsed.{parsed}
use Rattle.ncc_store.specs.declared.call.Call.{Call}
use Rattle.ncc_store.specs.declared.node.StoredNode.{StoredNode}
use Rattle.ncc_store.specs.declared.fault.RunFault.{RunFault}
use Rattle.ncc_store.specs.declared.fault.RunFault.TheVariants.{TooLong, TooManyRows}
use Rattle.ncc_store.specs.Props.{Props}
use Rattle.ncc_store.specs.Sum.{Answer, ◌>>=◌}
use Rattle.ncc_store.specs.Graph.{Graph, IsPlaced, find}
use Rattle.ncc_store.specs.Rows.{Row, items, row, row_len, row_keeps, short_enough, rows, rows_len, rows_keep, few, max_row, max_rows}
use Rattle.ncc_store.specs.Rows.{max_bytes, returned}
use Rattle.ncc_store.specs.Exec.{Ended, Headed, exec, step, run, nodes_of}
use Rattle.ncc_store.proofs.Placed.{Ascends, Above, Under, From, above_head, ascends_tail}
use Rattle.ncc_store.proofs.Seen.{under_from, from_from}
use Rattle.ncc_store.proofs.Returns.{is_few}
use Rattle.ncc_store.proofs.Joined.{Given, bound, first_of, nothing_run, parts_of, call_ran}
use Rattle.ncc_store.proofs.Lasting.{IsHead, head_is, placed_step}

-- ---- a row with one number

fit_int : (z : ℤ) → fit (v.Int z) ≡ fits_step (Value-F.Int z)
fit_int z = ap fit (sym (v.rolls-Int z)) ∙ fold-roll-Value Fit (ℕ → Bool) fits_step fits_node_step (Value-F.Int z)

fit_list : (xs : List Value) → fit (v.List xs) ≡ fits_step (Value-F.List (map fit xs))
fit_list xs = ap fit (sym (v.rolls-List xs)) ∙ fold-roll-Value Fit (ℕ → Bool) fits_step fits_node_step (Value-F.List xs)

short_int : (z : ℤ) → short (v.Int z) ≡ integer z
short_int z = ap short (sym (v.rolls-Int z)) ∙ fold-roll-Value (List ℕ) (List ℕ) short_step node_step (Value-F.Int z)

short_list : (xs : List Value) → short (v.List xs) ≡ list (map short xs)
short_list xs = ap short (sym (v.rolls-List xs)) ∙ fold-roll-Value (List ℕ) (List ℕ) short_step node_step (Value-F.List xs)

short_integer : (z : ℤ) → length (integer z) ≤ 9
unfolding integer
short_integer z = go (int_le (negsuc 15) z && int_lt z (pos 128)) (int_le (negsuc 127) z && int_lt z (pos 128))
    (int_le (negsuc 0x7FFF) z && int_lt z (pos 0x8000)) (int_le (negsuc 0x7FFF_FFFF) z && int_lt z (pos 0x8000_0000)) where
      go : (a b c d : Bool) → length (cond a (cast_unsigned w8 z ∷ []) (cond b (0xC8 ∷ cast_unsigned w8 z ∷ [])
          (cond c (0xC9 ∷ to_be_bytes w16 (cast_unsigned w16 z)) (cond d (0xCA ∷ to_be_bytes w32 (cast_unsigned w32 z))
          (0xCB ∷ to_be_bytes w64 (cast_unsigned w64 z)))))) ≤ 9
      go true b c d = omega arith
      go false true c d = omega arith
      go false false true d = omega arith
      go false false false true = omega arith
      go false false false false = omega arith

one_list_len : (b : List ℕ) → length (list (b ∷ [])) ≡ suc (length (b ++ []))
unfolding list head
one_list_len b = refl

count_len : (z : ℤ) → row_len (v.Int z ∷ []) ≤ 10
count_len z =
    let e : row_len (v.Int z ∷ []) ≡ suc (length (integer z ++ [])) = ap length (short_list (v.Int z ∷ []))
    ∙ one_list_len (short (v.Int z)) ∙ ap (λ (b : List ℕ). suc (length (b ++ []))) (short_int z) in
    let n : length (integer z ++ []) ≡ length (integer z) + 0 = length-append (integer z) [] in
    let s : length (integer z) ≤ 9 = short_integer z in
    omega arith

count_fits : (z : ℤ) → fits_i64 z ≡ true → fits (v.List (v.Int z ∷ [])) ≡ true
count_fits z e =
    ap (λ (f : Fit). f.levels max_depth) (fit_list (v.Int z ∷ [])) ∙ ap (λ (f : Fit). fits_list (f ∷ []) max_depth) (fit_int z)
    ∙ ap (λ (t : Bool). t && true) e

both_true : (a b : Bool) → a ≡ true → b ≡ true → (a && b) ≡ true
both_true a b e f = ap₂ (λ (x : Bool) (y : Bool). x && y) e f

count_keeps : (z : ℤ) → fits_i64 z ≡ true → row_keeps (v.Int z ∷ []) ≡ true
count_keeps z e =
    both_true (fits (v.List (v.Int z ∷ []))) (nat_le (row_len (v.Int z ∷ [])) max_row) (count_fits z e) (le-leb (row_len (v.Int z ∷ []))
    max_row (let s = count_len z in omega arith))

counted_keep : (n : ℕ) → n < 2 ^ 63 → rows_keep ((v.Int (pos n) ∷ []) ∷ []) ≡ true
counted_keep n lt =
    both_true (row_keeps (v.Int (pos n) ∷ []) && true) (few 1 (row_len (v.Int (pos n) ∷ []) + 0))
    (both_true (row_keeps (v.Int (pos n) ∷ [])) true (count_keeps (pos n) (lt-ltb n (2 ^ 63) lt)) refl)
    (is_few 1 (row_len (v.Int (pos n) ∷ []) + 0) (omega arith) (let s = count_len (pos n) in omega arith))

-- ---- the rows of items

row_is : (params : Props) (is : List Item) (n : Row) (r : List Value) → row params is n ≡ Ok r → row_keeps r ≡ true
row_is params is n r e =
    let one = bound (items params n is) short_enough r e in
    go one.0 (row_keeps one.0) refl one.1.1 where
      go : (xs : List Value) (t : Bool) → row_keeps xs ≡ t → cond t (Ok xs) (Err TooLong) ≡ Ok r → row_keeps r ≡ true
      go xs true k f = let same : xs ≡ r = cc in subst (λ ys. row_keeps ys ≡ true) same k
      go xs false k f = absurd (cc)

abbrev Kept : ℕ → ℕ → List (List Value) → Type 0
Kept count bytes rs = (list_all row_keeps rs ≡ true) × (few (count + length rs) (bytes + rows_len rs) ≡ true)

one_more : (count bytes : ℕ) (r : List Value) (rest : List (List Value)) → row_keeps r ≡ true → Kept (count + 1) (bytes + row_len r)
    rest → Kept count bytes (r ∷ rest)
one_more count bytes r rest k h = (
  both_true (row_keeps r) (list_all row_keeps rest) k h.0,
  (let a : count + suc (length rest) ≡ (count + 1) + length rest = omega arith in
      let b : bytes + (row_len r + rows_len rest) ≡ (bytes + row_len r) + rows_len rest = omega arith in
      ap₂ few a b ∙ h.1),
)

rows_are : (params : Props) (is : List Item) (count bytes : ℕ) (ns : List Row) (rs : List (List Value)) → few count bytes ≡ true
    → rows params is count bytes ns ≡ Ok rs → Kept count bytes rs
unfolding rows
rows_are params is count bytes [] rs f e =
    let same : [] ≡ rs = cc in
    let a : count + 0 ≡ count = omega arith in
    let b : bytes + 0 ≡ bytes = omega arith in
    subst (Kept count bytes) same (refl, ap₂ few a b ∙ f)
rows_are params is count bytes (n ∷ ns) rs f e =
    let one = bound (row params is n) (λ r. cond (few (count + 1) (bytes + row_len r)) (rows params is (count + 1) (bytes + row_len r)
    ns >>= λ xs. Ok (r ∷ xs)) (Err TooManyRows)) rs e in
    go one.0 (row_is params is n one.0 one.1.0) (few (count + 1) (bytes + row_len one.0)) refl one.1.1 (λ r xs g h. rows_are params is
    (count + 1) (bytes + row_len r) ns xs g h) where
      go : (r : List Value) → row_keeps r ≡ true → (t : Bool) → few (count + 1) (bytes + row_len r) ≡ t
          → cond t (rows params is (count + 1) (bytes + row_len r) ns >>= λ xs. Ok (r ∷ xs)) (Err TooManyRows) ≡ Ok rs
          → ((x : List Value) (xs : List (List Value)) → few (count + 1) (bytes + row_len x) ≡ true
          → rows params is (count + 1) (bytes + row_len x) ns ≡ Ok xs → Kept (count + 1) (bytes + row_len x) xs) → Kept count bytes rs
      go r k true g q again =
          let two = bound (rows params is (count + 1) (bytes + row_len r) ns) (λ xs. Ok (r ∷ xs)) rs q in
          let same : r ∷ two.0 ≡ rs = (let w = two.1.1 in cc) in
          subst (Kept count bytes) same (one_more count bytes r two.0 k (again r two.0 g two.1.0))
      go r k false g q again = absurd (cc)

returned_keep : (params : Props) (t : Tail) (ns : List Row) (rs : List (List Value)) → length ns < 2 ^ 63 → returned params t ns ≡ Ok rs
    → rows_keep rs ≡ true
returned_keep params l.Nothing ns rs lt e = let same : [] ≡ rs = cc in subst (λ xs. rows_keep xs ≡ true) same refl
returned_keep params l.Count ns rs lt e = let same : (v.Int (pos (length ns)) ∷ []) ∷ [] ≡ rs = cc in
    subst (λ xs. rows_keep xs ≡ true) same (counted_keep (length ns) lt)
returned_keep params (l.Items is) ns rs lt e =
    let k = rows_are params is 0 0 ns rs refl e in
    both_true (list_all row_keeps rs) (few (length rs) (rows_len rs)) k.0 (sym (ap₂ few (let a : 0 + length rs ≡ length rs =
    omega arith in a) (let b : 0 + rows_len rs ≡ rows_len rs = omega arith in b)) ∙ k.1)

-- ---- how many nodes there are

room : (ns : List StoredNode) (low high : ℤ) → Ascends ns → From low ns → Under high ns → low ≤ℤ high → (low +ℤ pos (length ns)) ≤ℤ high
room [] low high a f u le = omega (arith, ints)
room (n ∷ ns) low high a f u le =
    let from : low ≤ℤ n.id = f.0 in
    let under : n.id <ℤ high = u.0 in
    let rest : ((n.id +ℤ pos 1) +ℤ pos (length ns)) ≤ℤ high = room ns (n.id +ℤ pos 1) high (ascends_tail n ns a)
    (from_above ns (above_head n ns a)) u.1 (omega (arith, ints)) in
    omega (arith, ints) where
      from_above : (ms : List StoredNode) → Above n.id ms → From (n.id +ℤ pos 1) ms
      from_above [] b = tt
      from_above (m ∷ ms) b = (let x : n.id <ℤ m.id = b.0 in omega (arith, ints), from_above ms b.1)

few_nodes : (g : Graph) → IsPlaced g → length g.nodes ≤ 2 ^ 62
few_nodes g p =
    let from : From (pos 0) g.nodes = from_from (pos 0) g.nodes (All-weaker (λ n. (pos 0 ≤ℤ n.id) × (n.id <ℤ g.next))
    (λ n. pos 0 ≤ℤ n.id) (λ n k. k.0) g.nodes p.below) in
    let under : Under g.next g.nodes = under_from g.next g.nodes (All-weaker (λ n. (pos 0 ≤ℤ n.id) × (n.id <ℤ g.next))
    (λ n. n.id <ℤ g.next) (λ n k. k.1) g.nodes p.below) in
    let fill : (pos 0 +ℤ pos (length g.nodes)) ≤ℤ g.next = room g.nodes (pos 0) g.next p.ascending from under p.low in
    let high : g.next ≤ℤ pos (2 ^ 62) = p.high in
    omega (arith, ints)

few_rows : (b : Head) (g : Graph) (is : List ℤ) (n : ℕ) → length is ≤ n → 1 ≤ n → length (nodes_of b g is) ≤ n
few_rows h.Alone g is n le one = one
few_rows (h.Create l ps) g is n le one = subst (λ k. k ≤ n) (sym (length-map is (λ (id : ℤ). find id g.nodes))) le
few_rows (h.Find l p) g is n le one = subst (λ k. k ≤ n) (sym (length-map is (λ (id : ℤ). find id g.nodes))) le
few_rows (h.Merge l p) g is n le one = subst (λ k. k ≤ n) (sym (length-map is (λ (id : ℤ). find id g.nodes))) le

few_headed : (g : Graph) (r : Headed) → IsPlaced g → IsHead g r → length r.1 ≤ 2 ^ 62
few_headed g r p (inl k) = let a : length g.nodes ≤ 2 ^ 62 = few_nodes g p in let b : length r.1 ≤ length g.nodes = k.1 in omega arith
few_headed g r p (inr m) = subst (λ (x : Headed). length x.1 ≤ 2 ^ 62) (sym m.1.1.1) (let a : 1 ≤ 2 ^ 62 = omega arith in a)

-- ---- the rows of calls

step_keeps : (g after : Graph) (call : Call) (rows : Given) → IsPlaced g → step g call ≡ Ok (rows, after) → IsTrue (rows_keep rows)
step_keeps g after call rows p e = go (call_ran g call rows after e) where
  go : ((rows ≡ []) × (g ≡ after)) ⊎ ((x : Statement) × ((parsed call.source ≡ Ok x) × (run g call.params x ≡ Ok (rows, after))))
      → rows_keep rows ≡ true
  go (inl k) = subst (λ xs. rows_keep xs ≡ true) (sym k.0) refl
  go (inr w) =
      let q = parts_of g call.params w.0 rows after w.1.1 in
      let few : length q.headed.1 ≤ 2 ^ 62 = few_headed g q.headed p (head_is call.params g w.0.head q.headed q.head) in
      let fewer : length (nodes_of w.0.head after q.headed.1) ≤ 2 ^ 62 = few_rows w.0.head after q.headed.1 (2 ^ 62) few (omega arith) in
      returned_keep call.params w.0.tail (nodes_of w.0.head after q.headed.1) rows (omega arith) q.returned

pub all_keep : (g : Graph) (calls : List Call) (e : Ended) → IsPlaced g → exec g calls ≡ Ok e → All (λ rows. IsTrue (rows_keep rows)) e.rows
all_keep g [] e p is = subst (λ (x : Ended). All (λ rows. IsTrue (rows_keep rows)) x.rows) (nothing_run g e is) (All-nil _)
all_keep g (x ∷ xs) e p is =
    let f = first_of g x xs e is in
    subst (λ (y : Ended). All (λ rows. IsTrue (rows_keep rows)) y.rows) f.same
    (All-cons (λ rows. IsTrue (rows_keep rows)) f.rows f.rest.rows (step_keeps g f.graph x f.rows p f.step) (all_keep f.graph xs f.rest
    (placed_step g f.graph x f.rows p f.step) f.others))
