-- Steps of the loops over items and over rows.
use Rattle.std.proofs.Common.{◌≡◌, ℕ, ◌+◌, ◌<◌, ◌≤◌, true, false, length, get_or, drop, map, List, [], ◌∷◌, ◌++◌, Option, Ok, Err, refl}
use Rattle.std.proofs.Common.{sym, ap, ◌∙◌, append_assoc, ◌⊎◌, inl, inr, arith}
use Rattle.std.specs.Prelude.{if◌then◌else◌}
use Rattle.std.specs.Borrow.{Bor}
use Rattle.std.specs.Option.{option_copied}
use Rattle.std.proofs.lemmas.Bool.{le-leb}
use Rattle.std.proofs.lemmas.List.{drop_more, drop_all, append-nil}
use Rattle.ncc_pack.specs.declared.value.Value.{Value}
use Rattle.ncc_cypher.specs.declared.tree.Item.{Item}
use Rattle.ncc_store.specs.declared.node.StoredNode.{StoredNode}
use Rattle.ncc_store.specs.declared.fault.RunError.{RunError}
use Rattle.ncc_store.specs.declared.fault.RunFault.TheVariants.{TooManyRows}
use Rattle.ncc_store.specs.Props.{Props}
use Rattle.ncc_store.specs.Sum.{Answer, ◌>>=◌}
use Rattle.ncc_store.specs.Rows.{Row, item, items, row, row_len, rows, few, max_rows, max_bytes}
use Rattle.ncc_store.specs.Answers.{Gives}
use Rattle.ncc_store.proofs.Faults.{hands_on}

-- what is found so far, and then the rest
abbrev pub with_front : {A : Type 0} → List A → Answer (List A) → Answer (List A)
with_front front r = r >>= λ xs. Ok (front ++ xs)

regroup : {A : Type 0} (front : List A) (x : A) (r : Answer (List A)) → with_front (front ++ x ∷ []) r
    ≡ with_front front (r >>= λ xs. Ok (x ∷ xs))
regroup front x (Ok xs) = ap (λ (ys : List _). Ok ys) (append_assoc front (x ∷ []) xs)
regroup front x (Err e) = refl

module _ (params : Props) (n : Row) (list : List Item) (i : ℕ) (x : Item) (front : List Value) (all : Answer (List Value))
    (lt : i < length list) (is : x ≡ get_or list i x) (so_far : with_front front (items params n (drop i list)) ≡ all) where
  next : all ≡ with_front front (item params n x >>= λ v. items params n (drop (i + 1) list) >>= λ vs. Ok (v ∷ vs))
  unfolding items
  next = sym so_far ∙ rw (drop_more list i x lt, ← is) refl

  pub item_fails : (e : RunError) → Gives {X = Value} (λ v. v) (Err e) (item params n x) → Gives {X = List Value} (λ v. v) (Err e) all
  item_fails e h = hands_on {X = Value} {Z = List Value} (λ v. v) (λ v. v) e (item params n x) all (λ fault f. next ∙ rw f refl) h

  pub next_item : (v : Value) → item params n x ≡ Ok v → with_front (front ++ v ∷ []) (items params n (drop (i + 1) list)) ≡ all
  next_item v of = regroup front v (items params n (drop (i + 1) list)) ∙ sym (next ∙ rw of refl)

pub all_items : (params : Props) (n : Row) (list : List Item) (i : ℕ) (front : List Value) (all : Answer (List Value)) → length list ≤ i
    → with_front front (items params n (drop i list)) ≡ all → all ≡ Ok front
unfolding items
all_items params n list i front all le so_far = sym so_far ∙ rw (drop_all i list le) (ap (λ (vs : List Value). Ok vs) (append-nil front))

-- ---- rows

pub is_few : (count bytes : ℕ) → count ≤ max_rows → bytes ≤ max_bytes → few count bytes ≡ true
is_few count bytes h k = grind (arith, le-leb)

pub not_few : (count bytes : ℕ) → (max_rows < count) ⊎ ((count ≤ max_rows) × (max_bytes < bytes)) → few count bytes ≡ false
not_few count bytes (inl h) = grind arith
not_few count bytes (inr h) = let k = h.1 in grind arith

module _ (params : Props) (list : List Item) (ns : List (Option (Bor StoredNode))) (i : ℕ) (n : Option (Bor StoredNode))
    (front : List (List Value)) (count bytes : ℕ) (all : Answer (List (List Value)))
    (lt : i < length ns) (is : n ≡ get_or ns i n) (so_far : with_front front (rows params list count bytes
    (map option_copied (drop i ns))) ≡ all) where
  within : List Value → Answer (List (List Value))
  within r = if few (count + 1) (bytes + row_len r) then (rows params list (count + 1) (bytes + row_len r)
      (map option_copied (drop (i + 1) ns)) >>= λ rs. Ok (r ∷ rs)) else Err TooManyRows

  after : all ≡ with_front front (row params list (option_copied n) >>= within)
  unfolding rows within
  after = sym so_far ∙ rw (drop_more ns i n lt, ← is) refl

  pub row_fails : (e : RunError) → Gives {X = List Value × ℕ} (λ r. r.0) (Err e) (row params list (option_copied n))
      → Gives {X = List (List Value)} (λ rs. rs) (Err e) all
  row_fails e h = hands_on {X = List Value × ℕ} {Z = List (List Value)} (λ r. r.0) (λ rs. rs) e (row params list (option_copied n)) all
      (λ fault f. after ∙ rw f refl) h

  module _ (r : List Value) (len : ℕ) (of : row params list (option_copied n) ≡ Ok r) (of_len : len ≡ row_len r) where
    pub too_many : few (count + 1) (bytes + len) ≡ false → all ≡ Err TooManyRows
    unfolding within
    too_many h =
        let f : few (count + 1) (bytes + row_len r) ≡ false = rw (← of_len) h in
        after ∙ rw (of, f) refl

    pub next_row : count + 1 ≤ max_rows → bytes + len ≤ max_bytes → with_front (front ++ r ∷ []) (rows params list (count + 1)
        (bytes + len) (map option_copied (drop (i + 1) ns))) ≡ all
    unfolding within
    next_row h k =
        let f : few (count + 1) (bytes + row_len r) ≡ true = rw (← of_len) (is_few (count + 1) (bytes + len) h k) in
        regroup front r (rows params list (count + 1) (bytes + len) (map option_copied (drop (i + 1) ns)))
        ∙ sym (after ∙ rw (of, f, of_len) refl)

pub all_rows : (params : Props) (list : List Item) (ns : List (Option (Bor StoredNode))) (i : ℕ) (front : List (List Value))
    (count bytes : ℕ) (all : Answer (List (List Value))) → length ns ≤ i
    → with_front front (rows params list count bytes (map option_copied (drop i ns))) ≡ all → all ≡ Ok front
unfolding rows
all_rows params list ns i front count bytes all le so_far = sym so_far ∙ rw (drop_all i ns le) (ap (λ (rs : List (List Value)). Ok rs)
    (append-nil front))
