-- A record is told from its bytes.
use Rattle.std.proofs.Common.{◌≡◌, ℕ, ◌+◌, ◌^◌, ◌<◌, ◌≤◌, List, [], ◌∷◌, ◌++◌, length, take, refl, sym, ap, ◌∙◌}
use Rattle.std.proofs.Common.{append_assoc, arith}
use Rattle.std.proofs.Common.{length-append}
use Rattle.std.specs.Int.{w32, w64, to_be_bytes, from_be_bytes}
use Rattle.std.specs.List.{All}
use Rattle.std.proofs.lemmas.List.{append_cancel_left, append-nil, length-take-le, take_at}
use Rattle.std.proofs.lemmas.List.Elements.{All-cons, All-nil}
use Rattle.std.proofs.lemmas.Nat.{from_be_bytes-to_be_bytes_4, from_be_bytes-to_be_bytes_8}
use Rattle.ncc_tx.specs.declared.entry.ChangeSet.{ChangeSet}
use Rattle.ncc_tx.specs.declared.entry.Item.{Item}
use Rattle.ncc_tx.specs.declared.entry.Saved.{Saved}
use Rattle.ncc_tx.specs.Items.{AreItems, counted}
use Rattle.ncc_tx.specs.Kept.{NeverFalls, max_items, payload}
use Rattle.ncc_tx.proofs.Entries.{one_entry}
use Rattle.ncc_tx.proofs.ItemRead.{one_counted}
use Rattle.ncc_log.specs.Records.{MayStandBehind, recorded}

pub cut : (a b r s : List ℕ) → a ++ r ≡ b ++ s → length a ≡ length b → (a ≡ b) × (r ≡ s)
cut a b r s e same =
    let front : a ≡ b = sym (take_at a r (length a) refl) ∙ ap (take (length a)) e ∙ take_at b s (length a) (sym same) in
    (front, append_cancel_left a r s (e ∙ ap (λ (l : List ℕ). l ++ s) (sym front)))

-- the numbers of a change are those that its bytes have
pub record Fits (c : ChangeSet) : Type 0 where
  pub term : c.term < 2 ^ 64
  pub keep : c.keep < 2 ^ 64
  pub items : AreItems c.items
  pub short : length (payload c) < 2 ^ 32

terms_below : (least greatest : ℕ) (items : List Item) → greatest < 2 ^ 64 → NeverFalls least greatest items →
    All (λ i. i.term < 2 ^ 64) items
terms_below least greatest [] few h = All-nil (λ (i : Item). i.term < 2 ^ 64)
terms_below least greatest (x ∷ xs) few h = All-cons (λ (i : Item). i.term < 2 ^ 64) x xs (omega (arith, h.1, few))
    (terms_below x.term greatest xs few h.2)

pub kept_few : (s : Saved) (c : ChangeSet) → MayStandBehind s c → c.keep + length c.items ≤ max_items
kept_few s c m = omega (
  arith,
  m.few,
  length-append (take c.keep s.log) c.items,
  length-take-le c.keep s.log m.follows.keep,
)

pub fits_of : (s : Saved) (c : ChangeSet) → MayStandBehind s c → Fits c
fits_of s c m =
    let few : c.keep + length c.items ≤ max_items = kept_few s c m in
    let low : c.term < 2 ^ 64 = omega (arith, m.follows.stands.term) in
    record {
      term = low;
      keep = omega (arith, few);
      items = record {
        number = omega (arith, few);
        terms = terms_below 0 c.term c.items low m.follows.stands.terms;
        entries = m.follows.stands.entries;
      };
      short = m.follows.stands.short;
    }

abbrev pub front_of : ChangeSet → List ℕ
front_of c = to_be_bytes w64 c.term ++ c.vote ∷ to_be_bytes w64 c.keep

pub front_long : (c : ChangeSet) → length (front_of c) ≡ 17
front_long c = refl

pub payload_is : (c : ChangeSet) → payload c ≡ front_of c ++ counted c.items
unfolding payload
payload_is c = refl

pub one_payload : (c d : ChangeSet) → Fits c → Fits d → payload c ≡ payload d → c ≡ d
one_payload c d f g e =
    let whole : front_of c ++ counted c.items ≡ front_of d ++ counted d.items = sym (payload_is c) ∙ e ∙ payload_is d in
    let parts = cut (front_of c) (front_of d) (counted c.items) (counted d.items) whole refl in
    let fronts = cut (to_be_bytes w64 c.term) (to_be_bytes w64 d.term) (c.vote ∷ to_be_bytes w64 c.keep)
    (d.vote ∷ to_be_bytes w64 d.keep) parts.0 refl in
    let term : c.term ≡ d.term = sym (from_be_bytes-to_be_bytes_8 c.term f.term) ∙ ap (from_be_bytes w64) fronts.0
    ∙ from_be_bytes-to_be_bytes_8 d.term g.term in
    let behind = cut (c.vote ∷ []) (d.vote ∷ []) (to_be_bytes w64 c.keep) (to_be_bytes w64 d.keep) fronts.1 refl in
    let vote : c.vote ≡ d.vote = let one : c.vote ∷ [] ≡ d.vote ∷ [] = behind.0 in cc in
    let keep : c.keep ≡ d.keep = sym (from_be_bytes-to_be_bytes_8 c.keep f.keep) ∙ ap (from_be_bytes w64) behind.1
    ∙ from_be_bytes-to_be_bytes_8 d.keep g.keep in
    let items : c.items ≡ d.items = one_counted one_entry c.items d.items [] [] f.items g.items
    (append-nil (counted c.items) ∙ parts.1 ∙ sym (append-nil (counted d.items))) in
    λ i. record { term = term i; vote = vote i; keep = keep i; items = items i }

pub recorded_is : (c : ChangeSet) → recorded c ≡ to_be_bytes w32 (length (payload c)) ++ payload c
unfolding recorded
recorded_is c = refl

pub recorded_long : (c : ChangeSet) → length (recorded c) ≡ 4 + length (payload c)
unfolding recorded
recorded_long c = length-append (to_be_bytes w32 (length (payload c))) (payload c)

pub one_record : (c d : ChangeSet) (r s : List ℕ) → Fits c → Fits d → recorded c ++ r ≡ recorded d ++ s → (c ≡ d) × (r ≡ s)
one_record c d r s f g e =
    let m : List ℕ = to_be_bytes w32 (length (payload c)) in
    let n : List ℕ = to_be_bytes w32 (length (payload d)) in
    let whole : m ++ (payload c ++ r) ≡ n ++ (payload d ++ s) = sym (append_assoc m (payload c) r)
    ∙ ap (λ (l : List ℕ). l ++ r) (sym (recorded_is c)) ∙ e ∙ ap (λ (l : List ℕ). l ++ s) (recorded_is d)
    ∙ append_assoc n (payload d) s in
    let parts = cut m n (payload c ++ r) (payload d ++ s) whole refl in
    let size : length (payload c) ≡ length (payload d) = sym (from_be_bytes-to_be_bytes_4 (length (payload c)) f.short)
    ∙ ap (from_be_bytes w32) parts.0 ∙ from_be_bytes-to_be_bytes_4 (length (payload d)) g.short in
    let both = cut (payload c) (payload d) r s parts.1 size in
    (one_payload c d f g both.0, both.1)
