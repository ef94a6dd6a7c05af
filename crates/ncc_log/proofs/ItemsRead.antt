-- The items of a payload, one by one.
use Rattle.std.proofs.Common.{◌≡◌, ℕ, ◌+◌, ◌<◌, ◌≤◌, List, [], ◌∷◌, ◌++◌, length, drop, Result, Ok, Err, refl, sym, ap, ◌∙◌}
use Rattle.std.proofs.Common.{append_assoc, subst, arith, length-append, length-drop}
use Rattle.std.specs.Prelude.{IsTrue}
use Rattle.std.proofs.lemmas.List.{append-nil, drop-drop, drop_all, drop_at}
use Rattle.std.proofs.lemmas.List.Elements.{All-cons, All-head, All-nil, All-tail}
use Rattle.ncc_tx.specs.declared.entry.Item.{Item}
use Rattle.ncc_tx.specs.declared.field.ItemError.{ItemError}
use Rattle.ncc_tx.specs.declared.field.ItemError.TheVariants.{Wrong}
use Rattle.ncc_tx.specs.declared.field.ItemField.{ItemField}
use Rattle.ncc_tx.specs.Fields.{BeginsWith, ItemOrMemory}
use Rattle.ncc_tx.specs.Items.{entry_allowed, item_bytes, items_bytes}
use Rattle.ncc_log.specs.Reading.{AreItemsFrom}

abbrev allowed : Item → Type 0
allowed i = IsTrue (entry_allowed i.entry)

-- what was read, and what is left
pub record Pending (bytes : List ℕ) (count least greatest : ℕ) (read : List Item) (at left last : ℕ) : Type 0 where
  pub inside : at ≤ length bytes
  pub to : (items : List Item) → AreItemsFrom bytes at left last greatest items →
      AreItemsFrom bytes 21 count least greatest (read ++ items)
  pub from : (items : List Item) → AreItemsFrom bytes 21 count least greatest items →
      (more : List Item) × (items ≡ read ++ more) × AreItemsFrom bytes at left last greatest more

-- one item in front
front_item : (bytes : List ℕ) (at behind left fewer last greatest : ℕ) (x : Item) (items : List Item) → left ≡ fewer + 1 →
    BeginsWith last greatest (drop at bytes) x → behind ≡ at + length (item_bytes x)
    → AreItemsFrom bytes behind fewer x.term greatest items → AreItemsFrom bytes at left last greatest (x ∷ items)
front_item bytes at behind left fewer last greatest x items some b is h = record {
  same =
      let rest : drop behind bytes ≡ b.rest = ap (λ (n : ℕ). drop n bytes) is ∙ sym (drop-drop (length (item_bytes x)) at bytes)
      ∙ ap (drop (length (item_bytes x))) b.same ∙ drop_at (item_bytes x) b.rest (length (item_bytes x)) refl in
      b.same ∙ ap (λ (l : List ℕ). item_bytes x ++ l) (sym rest ∙ h.same);
  number = omega (arith, h.number, some);
  terms = (b.above, b.below, h.terms);
  allowed = All-cons allowed x items b.allowed h.allowed;
}

begins : (bytes : List ℕ) (at left last greatest : ℕ) (x : Item) (items : List Item) →
    AreItemsFrom bytes at left last greatest (x ∷ items) → BeginsWith last greatest (drop at bytes) x
begins bytes at left last greatest x items h = record {
  rest = items_bytes items;
  same = h.same;
  above = h.terms.0;
  below = h.terms.1;
  allowed = All-head allowed x items h.allowed;
}

back_item : (bytes : List ℕ) (at behind left fewer last greatest : ℕ) (x : Item) (items : List Item) → left ≡ fewer + 1 →
    behind ≡ at + length (item_bytes x) → AreItemsFrom bytes at left last greatest (x ∷ items)
    → AreItemsFrom bytes behind fewer x.term greatest items
back_item bytes at behind left fewer last greatest x items some is h = record {
  same = ap (λ (n : ℕ). drop n bytes) is ∙ sym (drop-drop (length (item_bytes x)) at bytes)
      ∙ ap (drop (length (item_bytes x))) h.same ∙ drop_at (item_bytes x) (items_bytes items) (length (item_bytes x)) refl;
  number = omega (arith, h.number, some);
  terms = h.terms.2;
  allowed = All-tail allowed x items h.allowed;
}

-- an item that stands there is the one that was read
abbrev pub Only : List ℕ → ℕ → ℕ → ℕ → Item → ℕ → Type 0
Only bytes at last greatest x behind = (i : Item) → BeginsWith last greatest (drop at bytes) i →
    ItemOrMemory (Ok (x, behind)) (Ok (i, at + length (item_bytes i)))

pub pending_more : (bytes : List ℕ) (count least greatest : ℕ) (read new : List Item) (at behind left fewer last : ℕ) (x : Item) →
    left ≡ fewer + 1 → new ≡ read ++ x ∷ [] → BeginsWith last greatest (drop at bytes) x → behind ≡ at + length (item_bytes x)
    → Only bytes at last greatest x behind → Pending bytes count least greatest read at left last
    → Pending bytes count least greatest new behind fewer x.term
pending_more bytes count least greatest read new at behind left fewer last x some e b is only p =
    subst (λ (l : List Item). Pending bytes count least greatest l behind fewer x.term) (sym e) record {
      inside = omega (
        arith,
        is,
        p.inside,
        ap length b.same,
        length-append (item_bytes x) b.rest,
        length-drop at bytes,
      );
      to = λ items h. subst (AreItemsFrom bytes 21 count least greatest) (sym (append_assoc read (x ∷ []) items))
          (p.to (x ∷ items) (front_item bytes at behind left fewer last greatest x items some b is h));
      from = λ items h. let f = p.from items h in go items f.0 f.1 f.2;
    }
  where
    go : (items more : List Item) → items ≡ read ++ more → AreItemsFrom bytes at left last greatest more →
        (rest : List Item) × (items ≡ (read ++ x ∷ []) ++ rest) × AreItemsFrom bytes behind fewer x.term greatest rest
    go items [] f h = absurd (omega (arith, h.number, some))
    go items (y ∷ ys) f h =
        let told : ◌≡◌ {A = Result (Item × ℕ) ItemError} (Ok (y, at + length (item_bytes y))) (Ok (x, behind)) =
        only y (begins bytes at left last greatest y ys h) in
        let pair : ◌≡◌ {A = Item × ℕ} (y, at + length (item_bytes y)) (x, behind) = cc in
        let same : y ≡ x = ap (λ (p : Item × ℕ). p.0) pair in (
          ys,
          f ∙ ap (λ (z : Item). read ++ z ∷ ys) same ∙ sym (append_assoc read (x ∷ []) ys),
          back_item bytes at behind left fewer last greatest x ys some is
              (subst (λ (z : Item). AreItemsFrom bytes at left last greatest (z ∷ ys)) same h),
        )

pub none_left : (bytes : List ℕ) (count least greatest : ℕ) (read : List Item) (at left last : ℕ) (field : ItemField) → 0 < left →
    ((i : Item) → BeginsWith last greatest (drop at bytes) i → ItemOrMemory (Err (Wrong field)) (Ok (i, at + length (item_bytes i))))
    → Pending bytes count least greatest read at left last → (items : List Item) → AreItemsFrom bytes 21 count least greatest items → ⊥
none_left bytes count least greatest read at left last field some only p items h = let f = p.from items h in go f.0 f.2
  where
    go : (more : List Item) → AreItemsFrom bytes at left last greatest more → ⊥
    go [] h = absurd (omega (arith, h.number, some))
    go (y ∷ ys) h =
        let told : ◌≡◌ {A = Result (Item × ℕ) ItemError} (Ok (y, at + length (item_bytes y))) (Err (Wrong field)) =
        only y (begins bytes at left last greatest y ys h) in
        cc

pub all_read : (bytes : List ℕ) (count least greatest : ℕ) (read : List Item) (at left last : ℕ) → left ≡ 0 → at ≡ length bytes →
    Pending bytes count least greatest read at left last → AreItemsFrom bytes 21 count least greatest read
all_read bytes count least greatest read at left last none end p =
    subst (AreItemsFrom bytes 21 count least greatest) (append-nil read) (p.to [] record {
      same = drop_all at bytes (omega (arith, end));
      number = sym none;
      terms = tt;
      allowed = All-nil allowed;
    })
