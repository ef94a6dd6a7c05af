-- Items one behind the other: what was read grows by one, and the same bytes begin with one list, or break at one place.
use Rattle.std.proofs.Common.{◌≡◌, inl, inr, ℕ, ◌+◌, ◌^◌, ◌<◌, ◌≤◌, Bool, List, [], ◌∷◌, ◌++◌, length, drop, refl, sym, ap}
use Rattle.std.proofs.Common.{◌∙◌, append_assoc, subst, arith, length-append, length-drop}
use Rattle.std.specs.Prelude.{IsTrue}
use Rattle.std.proofs.lemmas.Bool.{cases_lt}
use Rattle.std.proofs.lemmas.List.{append-nil, append_cancel_left, drop-drop, drop_at}
use Rattle.std.proofs.lemmas.List.Concat.{flat_map-append}
use Rattle.std.proofs.lemmas.List.Elements.{All-head, All-nil, All-push, All-tail}
use Rattle.ncc_tx.specs.declared.entry.Item.{Item}
use Rattle.ncc_tx.specs.declared.field.ItemField.{ItemField}
use Rattle.ncc_tx.specs.declared.field.ItemField.TheVariants.{Term, Size, Entry as EntryField}
use Rattle.ncc_tx.specs.Fields.{BeginsWith, IsWrong, offset}
use Rattle.ncc_tx.specs.Items.{entry_allowed, item_bytes, items_bytes}
use Rattle.ncc_tx.specs.Kept.{AllAllowed}
use Rattle.ncc_tx.proofs.Entries.{one_entry}
use Rattle.ncc_tx.proofs.ItemRead.{begins_right, none_wrong, one_front, one_wrong}
use Rattle.ncc_wire.specs.declared.listing.Listing.{Listing}
use Rattle.ncc_wire.specs.Reading.{AreWithin, Breaks, Stand, least_behind, next_least}

abbrev allowed : Item → Type 0
allowed i = IsTrue (entry_allowed i.entry)

-- ---- one more item

items_pushed : (items : List Item) (i : Item) → items_bytes (items ++ i ∷ []) ≡ items_bytes items ++ item_bytes i
items_pushed items i = flat_map-append item_bytes items (i ∷ []) ∙ ap (λ (l : List ℕ). items_bytes items ++ l) (append-nil (item_bytes i))

within_pushed : (rising : Bool) (least greatest : ℕ) (items : List Item) (i : Item) → AreWithin rising least greatest items →
    least_behind rising least items ≤ i.term → i.term ≤ greatest → AreWithin rising least greatest (items ++ i ∷ [])
within_pushed rising least greatest [] i w low high = (low, high, tt)
within_pushed rising least greatest (x ∷ xs) i w low high =
    (w.0, w.1, within_pushed rising (next_least rising least x.term) greatest xs i w.2 low high)

least_pushed : (rising : Bool) (least : ℕ) (items : List Item) (i : Item) →
    least_behind rising least (items ++ i ∷ []) ≡ next_least rising (least_behind rising least items) i.term
least_pushed rising least [] i = refl
least_pushed rising least (x ∷ xs) i = least_pushed rising (next_least rising least x.term) xs i

-- so many items were read from a place on, and this is where they end
pub record Pending (o : Listing) (frame : List ℕ) (at count : ℕ) (items : List Item) (place least : ℕ) : Type 0 where
  pub stand : Stand o (drop at frame) items
  pub rest_is : stand.rest ≡ drop place frame
  pub number : length items ≡ count
  pub place_is : place ≡ at + length (items_bytes items)
  pub inside : place ≤ length frame
  pub least_is : least ≡ least_behind o.rising o.least items

pub pending_none : (o : Listing) (frame : List ℕ) (at : ℕ) (items : List Item) → items ≡ [] → at ≤ length frame →
    Pending o frame at 0 items at o.least
pending_none o frame at items e le = subst (λ (l : List Item). Pending o frame at 0 l at o.least) (sym e) record {
  stand = record { rest = drop at frame; same = refl; terms = tt; entries = All-nil allowed };
  rest_is = refl;
  number = refl;
  place_is = omega arith;
  inside = le;
  least_is = refl;
}

pub pending_more : (o : Listing) (frame : List ℕ) (at count : ℕ) (items new : List Item) (place behind least then : ℕ) (i : Item) →
    BeginsWith least o.greatest (drop place frame) i → behind ≡ place + length (item_bytes i) → new ≡ items ++ i ∷ [] →
    then ≡ next_least o.rising least i.term → Pending o frame at count items place least → Pending o frame at (count + 1) new behind then
pending_more o frame at count items new place behind least then i b is e t p =
    let pushed = items_pushed items i in
    let rest : drop behind frame ≡ b.rest = ap (λ (n : ℕ). drop n frame) is ∙ sym (drop-drop (length (item_bytes i)) place frame)
    ∙ ap (drop (length (item_bytes i))) b.same ∙ drop_at (item_bytes i) b.rest (length (item_bytes i)) refl in
    let low : least_behind o.rising o.least items ≤ i.term = omega (arith, p.least_is, b.above) in
    subst (λ (l : List Item). Pending o frame at (count + 1) l behind then) (sym e) record {
      stand = record {
        rest = b.rest;
        same = p.stand.same ∙ ap (λ (l : List ℕ). items_bytes items ++ l) (p.rest_is ∙ b.same)
            ∙ sym (append_assoc (items_bytes items) (item_bytes i) b.rest) ∙ ap (λ (l : List ℕ). l ++ b.rest) (sym pushed);
        terms = within_pushed o.rising o.least o.greatest items i p.stand.terms low b.below;
        entries = All-push allowed items i p.stand.entries b.allowed;
      };
      rest_is = sym rest;
      number = omega (arith, p.number, length-append items (i ∷ []));
      place_is = omega (arith, is, p.place_is, ap length pushed, length-append (items_bytes items) (item_bytes i));
      inside = omega (arith, is, p.inside, ap length b.same, length-append (item_bytes i) b.rest, length-drop place frame);
      least_is = t ∙ ap (λ (n : ℕ). next_least o.rising n i.term) p.least_is ∙ sym (least_pushed o.rising o.least items i);
    }

-- an item with a wrong field stands at the place
pub pending_breaks : (o : Listing) (frame : List ℕ) (at count : ℕ) (items : List Item) (place least : ℕ) (field : ItemField) →
    count < o.count → IsWrong least o.greatest (drop place frame) field → Pending o frame at count items place least
    → (n : ℕ) × Breaks o (drop at frame) n × (place + offset field ≡ at + n)
pending_breaks o frame at count items place least field few wrong p = (
  length (items_bytes items) + offset field,
  record {
    front = items;
    stand = p.stand;
    fewer = omega (arith, p.number);
    field = field;
    wrong = subst (λ (l : List ℕ). IsWrong (least_behind o.rising o.least items) o.greatest l field) (sym p.rest_is)
        (subst (λ (n : ℕ). IsWrong n o.greatest (drop place frame) field) p.least_is wrong);
    place_is = refl;
  },
  omega (arith, p.place_is),
)

pub offset_small : (field : ItemField) → offset field ≤ 12
offset_small Term = omega arith
offset_small Size = omega arith
offset_small EntryField = omega arith

-- no items stand everywhere
pub stand_none : (o : Listing) (bytes : List ℕ) (items : List Item) → items ≡ [] → Stand o bytes items
stand_none o bytes items e = subst (Stand o bytes) (sym e) record { rest = bytes; same = refl; terms = tt; entries = All-nil allowed }

-- ---- one list, or one place

-- the second list begins with the first, and goes on from where that ends
record Goes (rising : Bool) (least greatest : ℕ) (is js : List Item) (r s : List ℕ) : Type 0 where
  more : List Item
  joined : js ≡ is ++ more
  terms : AreWithin rising (least_behind rising least is) greatest more
  entries : AllAllowed more
  same : r ≡ items_bytes more ++ s

goes_on : (rising : Bool) (least greatest : ℕ) (is js : List Item) (r s : List ℕ) → greatest < 2 ^ 64 →
    AreWithin rising least greatest is → AreWithin rising least greatest js → AllAllowed is → AllAllowed js → length is ≤ length js
    → items_bytes is ++ r ≡ items_bytes js ++ s → Goes rising least greatest is js r s
goes_on rising least greatest [] js r s few v w a b le e = record { more = js; joined = refl; terms = w; entries = b; same = e }
goes_on rising least greatest (i ∷ is) [] r s few v w a b le e = absurd (omega arith)
goes_on rising least greatest (i ∷ is) (j ∷ js) r s few v w a b le e =
    let x : List ℕ = items_bytes is ++ r in
    let y : List ℕ = items_bytes js ++ s in
    let whole : item_bytes i ++ x ≡ item_bytes j ++ y = sym (append_assoc (item_bytes i) (items_bytes is) r) ∙ e
    ∙ append_assoc (item_bytes j) (items_bytes js) s in
    let first : i ≡ j = one_front one_entry (item_bytes i ++ x) i j x y (omega (arith, v.1)) (omega (arith, w.1))
    (All-head allowed i is a) (All-head allowed j js b) refl whole in
    let tail : x ≡ y = append_cancel_left (item_bytes i) x y (whole ∙ ap (λ (z : Item). item_bytes z ++ y) (sym first)) in
    let others : AreWithin rising (next_least rising least i.term) greatest js =
    subst (λ (z : Item). AreWithin rising (next_least rising least z.term) greatest js) (sym first) w.2 in
    let g = goes_on rising (next_least rising least i.term) greatest is js r s few v.2 others (All-tail allowed i is a)
    (All-tail allowed j js b) (omega arith) tail in
    record {
      more = g.more;
      joined = ap (λ (z : Item). z ∷ js) (sym first) ∙ ap (λ (l : List Item). i ∷ l) g.joined;
      terms = g.terms;
      entries = g.entries;
      same = g.same;
    }

between : (o : Listing) (bytes : List ℕ) (is js : List Item) (a : Stand o bytes is) (b : Stand o bytes js) → o.greatest < 2 ^ 64 →
    length is ≤ length js → Goes o.rising o.least o.greatest is js a.rest b.rest
between o bytes is js a b few le = goes_on o.rising o.least o.greatest is js a.rest b.rest few a.terms b.terms a.entries b.entries le
    (sym a.same ∙ b.same)

no_more : (is js more : List Item) → js ≡ is ++ more → length js ≤ length is → more ≡ []
no_more is js [] e le = refl
no_more is js (x ∷ xs) e le = absurd (omega (arith, ap length e, length-append is (x ∷ xs)))

pub one_stand : (o : Listing) (bytes : List ℕ) (is js : List Item) → o.greatest < 2 ^ 64 → length is ≡ length js → Stand o bytes is →
    Stand o bytes js → is ≡ js
one_stand o bytes is js few n a b =
    let g = between o bytes is js a b few (omega arith) in
    let none = no_more is js g.more g.joined (omega arith) in
    sym (g.joined ∙ ap (λ (l : List Item). is ++ l) none ∙ append-nil is)

-- where an item stands no field is wrong
right_there : (rising : Bool) (least greatest : ℕ) (more : List Item) (r s : List ℕ) (field : ItemField) → greatest < 2 ^ 64 →
    0 < length more →
    AreWithin rising least greatest more → AllAllowed more → r ≡ items_bytes more ++ s → IsWrong least greatest r field → ⊥
right_there rising least greatest [] r s field few some w a e wrong = absurd (omega arith)
right_there rising least greatest (m ∷ ms) r s field few some w a e wrong =
    let t = begins_right least greatest r m few record {
      rest = items_bytes ms ++ s;
      same = e ∙ append_assoc (item_bytes m) (items_bytes ms) s;
      above = w.0;
      below = w.1;
      allowed = All-head allowed m ms a;
    } in
    none_wrong least greatest r field t.0 t.1 t.2 wrong

-- a list that is longer than what stands before a wrong field does not stand there
pub not_broken : (o : Listing) (bytes : List ℕ) (js : List Item) (place : ℕ) → o.greatest < 2 ^ 64 → Stand o bytes js →
    (k : Breaks o bytes place) → length k.front < length js → ⊥
not_broken o bytes js place few b k lt =
    let g = between o bytes k.front js k.stand b few (omega arith) in
    right_there o.rising (least_behind o.rising o.least k.front) o.greatest g.more k.stand.rest b.rest k.field few
    (omega (arith, ap length g.joined, length-append k.front g.more)) g.terms g.entries g.same k.wrong

same_break : (o : Listing) (bytes : List ℕ) (p q : ℕ) → o.greatest < 2 ^ 64 → (x : Breaks o bytes p) (y : Breaks o bytes q) →
    length x.front ≡ length y.front → p ≡ q
same_break o bytes p q few x y n =
    let g = between o bytes x.front y.front x.stand y.stand few (omega arith) in
    let none = no_more x.front y.front g.more g.joined (omega arith) in
    let fronts : y.front ≡ x.front = g.joined ∙ ap (λ (l : List Item). x.front ++ l) none ∙ append-nil x.front in
    let rests : y.stand.rest ≡ x.stand.rest = sym (g.same ∙ ap (λ (l : List Item). items_bytes l ++ y.stand.rest) none) in
    let wrong : IsWrong (least_behind o.rising o.least x.front) o.greatest x.stand.rest y.field =
    subst (λ (l : List ℕ). IsWrong (least_behind o.rising o.least x.front) o.greatest l y.field) rests
    (subst (λ (l : List Item). IsWrong (least_behind o.rising o.least l) o.greatest y.stand.rest y.field) fronts y.wrong) in
    let fields : x.field ≡ y.field = one_wrong (least_behind o.rising o.least x.front) o.greatest x.stand.rest x.field y.field x.wrong
    wrong in
    x.place_is ∙ ap (λ (f : ItemField). length (items_bytes x.front) + offset f) fields
    ∙ ap (λ (l : List Item). length (items_bytes l) + offset y.field) (sym fronts) ∙ sym y.place_is

pub one_break : (o : Listing) (bytes : List ℕ) (p q : ℕ) → o.greatest < 2 ^ 64 → Breaks o bytes p → Breaks o bytes q → p ≡ q
one_break o bytes p q few x y =
    elim (cases_lt (length x.front) (length y.front)) [
      | inl lt ↦ absurd (not_broken o bytes y.front p few y.stand x lt)
      | inr le ↦ elim (cases_lt (length y.front) (length x.front)) [
        | inl lt ↦ absurd (not_broken o bytes x.front q few x.stand y lt)
        | inr ge ↦ same_break o bytes p q few x y (omega arith)
      ]
    ]
