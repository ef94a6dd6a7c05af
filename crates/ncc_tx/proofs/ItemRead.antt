-- What stands at the front of bytes.
use Rattle.std.proofs.Common.{◌≡◌, ℕ, zero, suc, ◌+◌, ◌-◌, ◌^◌, ◌<◌, ◌≤◌, List, [], ◌∷◌, ◌++◌, length, get_or, take, drop, Result}
use Rattle.std.proofs.Common.{Ok, Err, refl, sym, ap, ◌∙◌, append_assoc, subst, arith, length-append, length-drop}
use Rattle.std.specs.Prelude.{IsTrue}
use Rattle.std.specs.Int.{w32, w64, to_be_bytes, from_be_bytes}
use Rattle.std.specs.List.{All, flat_map}
use Rattle.std.proofs.lemmas.List.{append_cancel_left, append_cancel_right, drop-drop, drop_at, get_or-drop, get_or-take}
use Rattle.std.proofs.lemmas.List.{length-take-le, take-append-drop, take_at}
use Rattle.std.proofs.lemmas.List.Elements.{All-head, All-tail}
use Rattle.std.proofs.lemmas.Nat.{be_bytes_4, be_bytes_8, from_be_bytes-to_be_bytes_4, from_be_bytes-to_be_bytes_8}
use Rattle.ncc_tx.specs.declared.entry.Entry.{Entry}
use Rattle.ncc_tx.specs.declared.entry.Item.{Item}
use Rattle.ncc_tx.specs.declared.field.ItemError.{ItemError}
use Rattle.ncc_tx.specs.declared.field.ItemError.TheVariants.{Wrong}
use Rattle.ncc_tx.specs.declared.field.ItemField.{ItemField}
use Rattle.ncc_tx.specs.declared.field.ItemField.TheVariants.{Term, Size, Entry as EntryField}
use Rattle.ncc_tx.specs.declared.entry.EntryError.{EntryError}
use Rattle.ncc_tx.specs.declared.entry.EntryError.TheVariants as f
use Rattle.ncc_tx.specs.Spelled as t
use Rattle.ncc_tx.specs.Spelled.{entry_fits, spelled}
use Rattle.ncc_tx.specs.Items.{AreItems, counted, entry_allowed, item_bytes, items_bytes}
use Rattle.ncc_tx.specs.Fields.{BeginsWith, Behind, IsWrong, RightEntry, RightTerm, size_at_front, term_at_front}
use Rattle.ncc_tx.proofs.ItemBytes.{allowed_by, allowed_fits, allowed_short}

-- numbers that are bytes
abbrev pub AreBytes : List ℕ → Type 0
AreBytes bs = (k : ℕ) → get_or bs k 0 < 256

front_bytes : (bs : List ℕ) (n : ℕ) → AreBytes bs → AreBytes (take n bs)
front_bytes bs zero all k = omega arith
front_bytes [] (suc n) all k = all k
front_bytes (b ∷ bs) (suc n) all zero = all zero
front_bytes (b ∷ bs) (suc n) all (suc k) = front_bytes bs n (λ j. all (suc j)) k

pub rest_bytes : (bs : List ℕ) (n : ℕ) → AreBytes bs → AreBytes (drop n bs)
rest_bytes bs n all k = rw (get_or-drop n bs k 0) (all (n + k))

joined : (a b s rest : List ℕ) → ((a ++ b) ++ s) ++ rest ≡ a ++ (b ++ (s ++ rest))
joined a b s rest = append_assoc (a ++ b) s rest ∙ append_assoc a b (s ++ rest)

-- ---- what stands there is an item

pub front_is : (bs : List ℕ) (x : Entry) → AreBytes bs → 12 ≤ length bs → (b : Behind bs x) →
    bs ≡ item_bytes (record { term = term_at_front bs; entry = x }) ++ b.rest
unfolding item_bytes
front_is bs x all le b =
    let four : length (take 4 (drop 8 bs)) ≡ 4 = length-take-le 4 (drop 8 bs) (omega (arith, length-drop 8 bs)) in
    let eight : length (take 8 bs) ≡ 8 = length-take-le 8 bs (omega arith) in
    let term : to_be_bytes w64 (term_at_front bs) ≡ take 8 bs =
    be_bytes_8 (take 8 bs) (term_at_front bs) eight (front_bytes bs 8 all) refl in
    let size : to_be_bytes w32 (length (spelled x)) ≡ take 4 (drop 8 bs) =
    be_bytes_4 (take 4 (drop 8 bs)) (length (spelled x)) four (front_bytes (drop 8 bs) 4 (rest_bytes bs 8 all)) b.size in
    let rest : drop 4 (drop 8 bs) ≡ spelled x ++ b.rest = drop-drop 4 8 bs ∙ b.same in
    let tail : drop 8 bs ≡ take 4 (drop 8 bs) ++ (spelled x ++ b.rest) = sym (take-append-drop 4 (drop 8 bs))
    ∙ ap (λ (l : List ℕ). take 4 (drop 8 bs) ++ l) rest in
    let whole : bs ≡ take 8 bs ++ (take 4 (drop 8 bs) ++ (spelled x ++ b.rest)) = sym (take-append-drop 8 bs)
    ∙ ap (λ (l : List ℕ). take 8 bs ++ l) tail in
    whole ∙ sym (joined (take 8 bs) (take 4 (drop 8 bs)) (spelled x) b.rest)
    ∙ ap (λ (t : List ℕ). ((t ++ take 4 (drop 8 bs)) ++ spelled x) ++ b.rest) (sym term)
    ∙ ap (λ (t : List ℕ). ((to_be_bytes w64 (term_at_front bs) ++ t) ++ spelled x) ++ b.rest) (sym size)

pub in_bounds : (bs : List ℕ) (x : Entry) (size : ℕ) → 12 ≤ length bs → size ≡ size_at_front bs → Behind bs x → 12 + size ≤ length bs
in_bounds bs x size le is b = omega (arith, b.size, ap length b.same, length-drop 12 bs, length-append (spelled x) b.rest)

-- ---- an item that stands there

pub record FrontOf (bs : List ℕ) (i : Item) : Type 0 where
  pub there : 12 ≤ length bs
  pub term : term_at_front bs ≡ i.term
  pub behind : Behind bs i.entry

pub front_of : (bs : List ℕ) (i : Item) (rest : List ℕ) → i.term < 2 ^ 64 → IsTrue (entry_allowed i.entry) →
    bs ≡ item_bytes i ++ rest → FrontOf bs i
unfolding item_bytes
front_of bs i rest few allowed e =
    let s : List ℕ = spelled i.entry in
    let a : List ℕ = to_be_bytes w64 i.term in
    let b : List ℕ = to_be_bytes w32 (length s) in
    let whole : bs ≡ a ++ (b ++ (s ++ rest)) = e ∙ joined a b s rest in
    let eight : length a ≡ 8 = refl in
    let four : length b ≡ 4 = refl in
    let short : length s < 2 ^ 32 = omega (arith, allowed_short i.entry allowed) in
    let tail : drop 8 bs ≡ b ++ (s ++ rest) = ap (drop 8) whole ∙ drop_at a (b ++ (s ++ rest)) 8 eight in
    let size : size_at_front bs ≡ length s = ap (λ (l : List ℕ). from_be_bytes w32 (take 4 l)) tail
    ∙ ap (from_be_bytes w32) (take_at b (s ++ rest) 4 four) ∙ from_be_bytes-to_be_bytes_4 (length s) short in
    record {
      there = omega (arith, ap length whole, eight, four, length-append a (b ++ (s ++ rest)), length-append b (s ++ rest));
      term = ap (λ (l : List ℕ). from_be_bytes w64 (take 8 l)) whole ∙ ap (from_be_bytes w64) (take_at a (b ++ (s ++ rest)) 8 eight)
          ∙ from_be_bytes-to_be_bytes_8 i.term few;
      behind = record {
        size = sym size;
        rest = rest;
        same = sym (drop-drop 4 8 bs) ∙ ap (drop 4) tail ∙ drop_at b (s ++ rest) 4 four;
      };
    }

-- an entry has one spelling
abbrev pub OneSpelling : Type 0
OneSpelling = (x y : Entry) → IsTrue (entry_fits x) → IsTrue (entry_fits y) → spelled x ≡ spelled y → x ≡ y

cut : (a b r s : List ℕ) → a ++ r ≡ b ++ s → length a ≡ length b → a ≡ b
cut a b r s e same = sym (take_at a r (length a) refl) ∙ ap (take (length a)) e ∙ take_at b s (length a) (sym same)

pub one_behind : OneSpelling → (bs : List ℕ) (x y : Entry) → IsTrue (entry_allowed x) → IsTrue (entry_allowed y) → Behind bs x →
    Behind bs y → x ≡ y
one_behind one bs x y f g a b = one x y (allowed_fits x f) (allowed_fits y g) (cut (spelled x) (spelled y) a.rest b.rest (sym a.same
    ∙ b.same) (a.size ∙ sym b.size))

pub one_front : OneSpelling → (bs : List ℕ) (i j : Item) (r s : List ℕ) → i.term < 2 ^ 64 → j.term < 2 ^ 64 →
    IsTrue (entry_allowed i.entry) → IsTrue (entry_allowed j.entry) → bs ≡ item_bytes i ++ r → bs ≡ item_bytes j ++ s → i ≡ j
one_front one bs i j r s few less f g d e =
    let a = front_of bs i r few f d in
    let b = front_of bs j s less g e in
    let entry : i.entry ≡ j.entry = one_behind one bs i.entry j.entry f g a.behind b.behind in
    λ k. record { term = (sym a.term ∙ b.term) k; entry = entry k }

pub one_begins : OneSpelling → (least greatest : ℕ) (bs : List ℕ) (i j : Item) → greatest < 2 ^ 64 →
    BeginsWith least greatest bs i → BeginsWith least greatest bs j → i ≡ j
one_begins one least greatest bs i j few a b = one_front one bs i j a.rest b.rest (omega (arith, a.below)) (omega (
  arith,
  b.below,
)) a.allowed b.allowed a.same b.same

-- ---- a list of items

ones : OneSpelling → (is js : List Item) (r s : List ℕ) → All (λ i. i.term < 2 ^ 64) is → All (λ i. i.term < 2 ^ 64) js →
    All (λ i. IsTrue (entry_allowed i.entry)) is → All (λ i. IsTrue (entry_allowed i.entry)) js
    → length is ≡ length js → items_bytes is ++ r ≡ items_bytes js ++ s → is ≡ js
ones one [] [] r s t u f g n e = refl
ones one [] (j ∷ js) r s t u f g n e = absurd (omega arith)
ones one (i ∷ is) [] r s t u f g n e = absurd (omega arith)
ones one (i ∷ is) (j ∷ js) r s t u f g n e =
    let bs : List ℕ = item_bytes i ++ (items_bytes is ++ r) in
    let left : (item_bytes i ++ items_bytes is) ++ r ≡ bs = append_assoc (item_bytes i) (items_bytes is) r in
    let right : (item_bytes j ++ items_bytes js) ++ s ≡ item_bytes j ++ (items_bytes js ++ s) =
    append_assoc (item_bytes j) (items_bytes js) s in
    let both : bs ≡ item_bytes j ++ (items_bytes js ++ s) = sym left ∙ e ∙ right in
    let first : i ≡ j = one_front one bs i j (items_bytes is ++ r) (items_bytes js ++ s)
    (All-head (λ (x : Item). x.term < 2 ^ 64) i is t) (All-head (λ (x : Item). x.term < 2 ^ 64) j js u)
    (All-head (λ (x : Item). IsTrue (entry_allowed x.entry)) i is f)
    (All-head (λ (x : Item). IsTrue (entry_allowed x.entry)) j js g) refl both in
    let behind : items_bytes is ++ r ≡ items_bytes js ++ s =
    append_cancel_left (item_bytes i) (items_bytes is ++ r) (items_bytes js ++ s) (both
    ∙ ap (λ (x : Item). item_bytes x ++ (items_bytes js ++ s)) (sym first)) in
    let rest : is ≡ js = ones one is js r s
    (All-tail (λ (x : Item). x.term < 2 ^ 64) i is t) (All-tail (λ (x : Item). x.term < 2 ^ 64) j js u)
    (All-tail (λ (x : Item). IsTrue (entry_allowed x.entry)) i is f)
    (All-tail (λ (x : Item). IsTrue (entry_allowed x.entry)) j js g) (omega arith) behind in
    cc

pub one_counted : OneSpelling → (is js : List Item) (r s : List ℕ) → AreItems is → AreItems js → counted is ++ r ≡ counted js ++ s → is ≡ js
unfolding counted
one_counted one is js r s a b e =
    let m : List ℕ = to_be_bytes w32 (length is) in
    let n : List ℕ = to_be_bytes w32 (length js) in
    let whole : m ++ (items_bytes is ++ r) ≡ n ++ (items_bytes js ++ s) = sym (append_assoc m (items_bytes is) r) ∙ e
    ∙ append_assoc n (items_bytes js) s in
    let head : m ≡ n = cut m n (items_bytes is ++ r) (items_bytes js ++ s) whole refl in
    let number : length is ≡ length js = sym (from_be_bytes-to_be_bytes_4 (length is) a.number) ∙ ap (from_be_bytes w32) head
    ∙ from_be_bytes-to_be_bytes_4 (length js) b.number in
    let behind : items_bytes is ++ r ≡ items_bytes js ++ s = append_cancel_left m (items_bytes is ++ r) (items_bytes js ++ s) (whole
    ∙ ap (λ (l : List ℕ). l ++ (items_bytes js ++ s)) (sym head)) in
    ones one is js r s a.terms b.terms a.entries b.entries number behind

-- ---- the first wrong field

pub begins_right : (least greatest : ℕ) (bs : List ℕ) (i : Item) → greatest < 2 ^ 64 → BeginsWith least greatest bs i →
    RightTerm least greatest bs × (12 ≤ length bs) × RightEntry bs
begins_right least greatest bs i few b =
    let f = front_of bs i b.rest (omega (arith, b.below)) b.allowed b.same in (
      record { there = omega (arith, f.there); above = omega (arith, f.term, b.above); below = omega (arith, f.term, b.below) },
      f.there,
      (i.entry, b.allowed, f.behind),
    )

abbrev pub refusal : ItemField → Result (Item × ℕ) ItemError
refusal field = Err (Wrong field)

abbrev pub answer : Item → ℕ → Result (Item × ℕ) ItemError
answer i n = Ok (i, n)

-- this field is the first that is wrong, and no other is
module _ (least greatest : ℕ) (bs : List ℕ) where
  pub wrong_named : (f g : ItemField) → IsWrong least greatest bs f → refusal f ≡ refusal g → IsWrong least greatest bs g
  wrong_named f g w e = let s : f ≡ g = cc in subst (IsWrong least greatest bs) s w

  pub none_wrong : (f : ItemField) → RightTerm least greatest bs → 12 ≤ length bs → RightEntry bs → IsWrong least greatest bs f → ⊥
  none_wrong Term t le x w = w t
  none_wrong Size t le x w = omega (arith, w.1)
  none_wrong EntryField t le x w = w.2 x

  pub one_wrong : (f g : ItemField) → IsWrong least greatest bs f → IsWrong least greatest bs g → f ≡ g
  one_wrong Term Term w v = refl
  one_wrong Term Size w v = absurd (w v.0)
  one_wrong Term EntryField w v = absurd (w v.0)
  one_wrong Size Term w v = absurd (v w.0)
  one_wrong Size Size w v = refl
  one_wrong Size EntryField w v = absurd (omega (arith, w.1, v.1))
  one_wrong EntryField Term w v = absurd (v w.0)
  one_wrong EntryField Size w v = absurd (omega (arith, w.1, v.1))
  one_wrong EntryField EntryField w v = refl

-- ---- what is read

pub too_long : (bs : List ℕ) (size : ℕ) → size ≡ size_at_front bs → 1_048_576 < size → RightEntry bs → ⊥
too_long bs size is lt r = absurd (omega (arith, allowed_short r.0 r.1, r.2.size))

pub too_far : (bs : List ℕ) (size : ℕ) → 12 ≤ length bs → size ≡ size_at_front bs → length bs < 12 + size → RightEntry bs → ⊥
too_far bs size le is lt r = absurd (omega (arith, in_bounds bs r.0 size le is r.2))

pub entry_read : (bs s : List ℕ) (size : ℕ) (x : Entry) → size ≡ size_at_front bs → size ≤ 1_048_576 → 12 + size ≤ length bs →
    s ≡ take size (drop 12 bs) → IsTrue (entry_fits x) → s ≡ spelled x → IsTrue (entry_allowed x) × Behind bs x
entry_read bs s size x is short le e fits same =
    let n : length (spelled x) ≡ size = ap length (sym same ∙ e) ∙ length-take-le size (drop 12 bs) (omega (arith, length-drop 12 bs)) in (
      allowed_by x fits (omega (arith, n)),
      record {
        size = n ∙ is;
        rest = drop size (drop 12 bs);
        same = sym (take-append-drop size (drop 12 bs)) ∙ ap (λ (l : List ℕ). l ++ drop size (drop 12 bs)) (sym e ∙ same);
      },
    )

-- no entry was read there, so none stands there
pub entry_unread : (bs s : List ℕ) (size : ℕ) → size ≡ size_at_front bs → s ≡ take size (drop 12 bs) →
    ((x : Entry) → IsTrue (entry_fits x) → s ≡ spelled x → ⊥) → RightEntry bs → ⊥
entry_unread bs s size is e none r =
    let b = r.2 in
    let n : size ≡ length (spelled r.0) = is ∙ sym b.size in
    none r.0 (allowed_fits r.0 r.1) (e ∙ ap (take size) b.same ∙ take_at (spelled r.0) b.rest size (sym n))

pub found_is : (least greatest : ℕ) (bs : List ℕ) (t : ℕ) (x : Entry) → AreBytes bs → 12 ≤ length bs → RightTerm least greatest bs →
    t ≡ term_at_front bs → IsTrue (entry_allowed x) → Behind bs x → BeginsWith least greatest bs (record { term = t; entry = x })
found_is least greatest bs t x all le r is allowed b = record {
  rest = b.rest;
  same = front_is bs x all le b ∙ ap (λ (n : ℕ). item_bytes (record { term = n; entry = x }) ++ b.rest) (sym is);
  above = omega (arith, r.above, is);
  below = omega (arith, r.below, is);
  allowed = allowed;
}

pub only_ok : OneSpelling → (least greatest : ℕ) (bs : List ℕ) (at end : ℕ) (i j : Item) → greatest < 2 ^ 64 →
    BeginsWith least greatest bs i → BeginsWith least greatest bs j → end ≡ at + length (item_bytes j)
    → answer i (at + length (item_bytes i)) ≡ answer j end
only_ok one least greatest bs at end i j few a b e =
    ap (λ (k : Item). answer k (at + length (item_bytes k))) (one_begins one least greatest bs i j few a b) ∙ ap (answer j) (sym e)

pub not_ok : (e : EntryError) → (e ≡ f.Memory → ⊥) → (x : Entry) → t.EntryOrMemory (Err e) (Ok x) → ⊥
not_ok f.Memory other x h = other refl
not_ok e other x h = cc
