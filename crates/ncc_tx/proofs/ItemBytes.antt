-- The bytes of items, their lengths, and what may be written.
use Rattle.std.proofs.Common.{◌≡◌, ℕ, ◌+◌, ◌-◌, ◌^◌, ◌<◌, ◌≤◌, ◌&&◌, Bool, true, false, min, List, [], ◌∷◌, ◌++◌, length, get_or}
use Rattle.std.proofs.Common.{take, Result, Ok, Err, refl, sym, ap, ◌∙◌, append_assoc, subst, arith, length-append}
use Rattle.std.specs.Prelude.{IsOk, IsTrue, OnErr, nat_le}
use Rattle.std.proofs.Math.Nat.{lt_of_not-le}
use Rattle.std.specs.Int.{w32, w64, to_be_bytes}
use Rattle.std.specs.List.{All, flat_map}
use Rattle.std.proofs.lemmas.List.{append-nil, take_all, take_more}
use Rattle.std.proofs.lemmas.List.Concat.{flat_map-append}
use Rattle.std.proofs.lemmas.List.Elements.{All-weaker}
use Rattle.std.proofs.lemmas.List.Folds.{length-flat_map-take}
use Rattle.ncc_tx.specs.declared.entry.ChangeSet.{ChangeSet}
use Rattle.ncc_tx.specs.declared.entry.Entry.{Entry}
use Rattle.ncc_tx.specs.declared.entry.Item.{Item}
use Rattle.ncc_tx.specs.Items.{Begins, counted, entry_allowed, item_bytes, items_bytes, max_entry}
use Rattle.ncc_tx.specs.Kept.{AllAllowed, payload}
use Rattle.ncc_tx.specs.Spelled.{entry_fits, spelled}

-- ---- an entry that is allowed

both : (a b : Bool) → IsTrue (a && b) → IsTrue a × IsTrue b
both true b h = (refl, h)
both false b h = absurd (cc)

pub allowed_fits : (x : Entry) → IsTrue (entry_allowed x) → IsTrue (entry_fits x)
unfolding entry_allowed
allowed_fits x h = (both (entry_fits x) (nat_le (length (spelled x)) max_entry) h).0

pub allowed_short : (x : Entry) → IsTrue (entry_allowed x) → length (spelled x) ≤ 1_048_576
unfolding entry_allowed
allowed_short x h = let s = (both (entry_fits x) (nat_le (length (spelled x)) max_entry) h).1 in grind arith

pub allowed_by : (x : Entry) → IsTrue (entry_fits x) → length (spelled x) ≤ 1_048_576 → IsTrue (entry_allowed x)
unfolding entry_allowed
allowed_by x f le =
    let short : IsTrue (nat_le (length (spelled x)) max_entry) = grind arith in
    ap (λ (b : Bool). b && nat_le (length (spelled x)) max_entry) f ∙ short

pub all_fit : (items : List Item) → AllAllowed items → All (λ i. IsTrue (entry_fits i.entry)) items
all_fit items all = All-weaker (λ (i : Item). IsTrue (entry_allowed i.entry)) (λ (i : Item). IsTrue (entry_fits i.entry))
    (λ i h. allowed_fits i.entry h) items all

-- ---- lengths

pub length_item : (i : Item) → length (item_bytes i) ≡ 12 + length (spelled i.entry)
unfolding item_bytes
length_item i =
    let head : length (to_be_bytes w64 i.term ++ to_be_bytes w32 (length (spelled i.entry))) ≡ 12 = refl in
    omega (arith, head, length-append (to_be_bytes w64 i.term ++ to_be_bytes w32 (length (spelled i.entry))) (spelled i.entry))

pub length_counted : (is : List Item) → length (counted is) ≡ 4 + length (items_bytes is)
unfolding counted
length_counted is =
    let head : length (to_be_bytes w32 (length is)) ≡ 4 = refl in
    omega (arith, head, length-append (to_be_bytes w32 (length is)) (items_bytes is))

pub length_payload : (c : ChangeSet) → length (payload c) ≡ 17 + length (counted c.items)
unfolding payload
length_payload c =
    let front : List ℕ = to_be_bytes w64 c.term ++ c.vote ∷ to_be_bytes w64 c.keep in
    let head : length front ≡ 17 = refl in
    omega (arith, head, length-append front (counted c.items))

pub items_more : (items : List Item) (i : ℕ) (x : Item) → i < length items → x ≡ get_or items i x →
    items_bytes (take (i + 1) items) ≡ items_bytes (take i items) ++ item_bytes x
items_more items i x lt is =
    ap (flat_map item_bytes) (take_more items i x lt ∙ ap (λ (y : Item). take i items ++ y ∷ []) (sym is))
    ∙ flat_map-append item_bytes (take i items) (x ∷ [])
    ∙ ap (λ (l : List ℕ). items_bytes (take i items) ++ l) (append-nil (item_bytes x))

abbrev pub greatest : ℕ
greatest = 2 ^ 64 - 1

pub adds_item : (items : List Item) (i sum t : ℕ) (x : Item) → i < length items → x ≡ get_or items i x →
    sum ≡ min (4 + length (items_bytes (take i items))) greatest → t ≡ min (length (item_bytes x)) greatest
    → min (sum + t) greatest ≡ min (4 + length (items_bytes (take (i + 1) items))) greatest
adds_item items i sum t x lt is e f =
    let more : length (items_bytes (take (i + 1) items)) ≡ length (items_bytes (take i items)) + length (item_bytes x) =
    ap length (items_more items i x lt is) ∙ length-append (items_bytes (take i items)) (item_bytes x) in
    grind arith

pub all_added : (items : List Item) (i sum : ℕ) → length items ≤ i → sum ≡ min (4 + length (items_bytes (take i items))) greatest →
    sum ≡ min (length (counted items)) greatest
all_added items i sum le e =
    let all : items_bytes (take i items) ≡ items_bytes items = ap (flat_map item_bytes) (take_all i items le) in
    e ∙ ap (λ (l : List ℕ). min (4 + length l) greatest) all ∙ ap (λ (n : ℕ). min n greatest) (sym (length_counted items))

-- ---- what is written

pub item_put : (old a b new : List ℕ) (size : ℕ) (i : Item) → a ≡ old ++ to_be_bytes w64 i.term → b ≡ a ++ to_be_bytes w32 size →
    new ≡ b ++ spelled i.entry → size ≡ length (spelled i.entry) → new ≡ old ++ item_bytes i
unfolding item_bytes
item_put old a b new size i e f g s =
    let t : List ℕ = to_be_bytes w64 i.term in
    let n : List ℕ = to_be_bytes w32 (length (spelled i.entry)) in
    let h : b ≡ (old ++ t) ++ n = f ∙ ap (λ (l : List ℕ). l ++ to_be_bytes w32 size) e
    ∙ ap (λ (k : ℕ). (old ++ t) ++ to_be_bytes w32 k) s in
    g ∙ ap (λ (l : List ℕ). l ++ spelled i.entry) (h ∙ append_assoc old t n) ∙ append_assoc old (t ++ n) (spelled i.entry)

pub one_put : (items : List Item) (i : ℕ) (x : Item) (init into new : List ℕ) → i < length items → x ≡ get_or items i x →
    into ≡ init ++ items_bytes (take i items) → new ≡ into ++ item_bytes x → new ≡ init ++ items_bytes (take (i + 1) items)
one_put items i x init into new lt is e f =
    f ∙ ap (λ (l : List ℕ). l ++ item_bytes x) e ∙ append_assoc init (items_bytes (take i items)) (item_bytes x)
    ∙ ap (λ (l : List ℕ). init ++ l) (sym (items_more items i x lt is))

pub all_put : (items : List Item) (i : ℕ) (init into : List ℕ) → length items ≤ i → into ≡ init ++ items_bytes (take i items) →
    into ≡ init ++ items_bytes items
all_put items i init into le e = e ∙ ap (λ (l : List Item). init ++ items_bytes l) (take_all i items le)

pub counted_put : (old a new : List ℕ) (number : ℕ) (items : List Item) → a ≡ old ++ to_be_bytes w32 number →
    new ≡ a ++ items_bytes items → number ≡ length items → new ≡ old ++ counted items
unfolding counted
counted_put old a new number items e f s =
    f ∙ ap (λ (l : List ℕ). l ++ items_bytes items) (e ∙ ap (λ (n : ℕ). old ++ to_be_bytes w32 n) s)
    ∙ append_assoc old (to_be_bytes w32 (length items)) (items_bytes items)

pub length_front : (items : List Item) (i : ℕ) (x : Item) → i < length items → x ≡ get_or items i x →
    length (items_bytes (take i items)) + length (item_bytes x) ≤ length (items_bytes items)
length_front items i x lt is =
    let e : length (item_bytes (get_or items i x)) ≡ length (item_bytes x) = ap (λ (y : Item). length (item_bytes y)) (sym is) in
    omega (arith, e, length-flat_map-take item_bytes items i x lt)

-- ---- what is left where the room is too small

pub begins_on : (init a b x : List ℕ) → a ≡ init ++ x → Begins a b → Begins init b
begins_on init a b x e h = (x ++ h.0, h.1 ∙ ap (λ (l : List ℕ). l ++ h.0) e ∙ append_assoc init x h.0)

pub full_on : (items : List Item) (i : ℕ) (x : Item) (init into : List ℕ) (room now : ℕ) → i < length items → x ≡ get_or items i x →
    into ≡ init ++ items_bytes (take i items) → room ≤ now
    → now < length into + length (item_bytes x) → room < length init + length (items_bytes items)
full_on items i x init into room now lt is e le small = omega (
  arith,
  length_front items i x lt is,
  ap length e,
  length-append init (items_bytes (take i items)),
)

pub any_error : {T E : Type 0} (r : Result T E) (P : Type 0) → P → OnErr r P
any_error (Ok x) P p = tt
any_error (Err e) P p = p

-- refused only where the room is too small
pub full_of : {T E : Type 0} (r : Result T E) (need room : ℕ) → (need ≤ room → IsOk r) → OnErr r (room < need)
full_of (Ok x) need room h = tt
full_of {T} {E} (Err e) need room h = lt_of_not-le (λ le. let bad : IsOk {T = T} {E = E} (Err e) = h le in cc)

pub roomy_of : {T E : Type 0} (r : Result T E) (need room : ℕ) → OnErr r (room < need) → need ≤ room → IsOk r
roomy_of (Ok x) need room h le = refl
roomy_of (Err e) need room h le = absurd (omega (arith, h, le))

-- what the writing of one item, and of all, takes
pub ruleset puts_one = (length_item, allowed_fits, allowed_short, item_put)

pub ruleset puts_all = (one_put, all_put, begins_on, full_on)
