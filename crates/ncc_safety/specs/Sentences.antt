-- What is said of the records. An item's place is the number of items before it.
use Rattle.std.specs.Prelude.{◌≡◌, ℕ, suc, ◌+◌, ◌≤◌, ◌⊎◌, Bool, true, ◌||◌, nat_lt, nat_le, List, length, slice_get, Some}
use Rattle.ncc_tx.specs.declared.entry.Item.{Item}
use Rattle.ncc_raft.specs.Member.{majority}
use Rattle.ncc_safety.specs.Cluster.{Records, Cluster}
use Rattle.ncc_safety.specs.Lists.{Agree, IsCut}

-- each item stands past the start of its term, and up to it the list is that term's longest
abbrev pub Sound : Records → List Item → Type 0
Sound g xs = (k : ℕ) (x : Item) → slice_get xs k ≡ Some x → (length (g.start x.term) ≤ k) × Agree (suc k) xs (g.lead x.term)

-- every item's term is at most that
abbrev pub Within : ℕ → List Item → Type 0
Within t xs = (k : ℕ) (x : Item) → slice_get xs k ≡ Some x → x.term ≤ t

-- core j has the item at k of term t, or may still take it
abbrev pub holder : Cluster → ℕ → ℕ → ℕ → Bool
holder c t k j = nat_lt k (c.records.ack t j) || nat_le (c.at j).term t

-- the leader of t has an item of t at k, which a majority has or may still take
pub record Choosable (c : Cluster) (t k : ℕ) : Type 0 where
  pub item : Item
  pub there : slice_get (c.records.lead t) k ≡ Some item
  pub own : item.term ≡ t
  pub held : majority c.cores (holder c t k) ≡ true

-- a majority has the leader's item of its own term
pub record Chosen (n : ℕ) (g : Records) (t k : ℕ) : Type 0 where
  pub item : Item
  pub there : slice_get (g.lead t) k ≡ Some item
  pub own : item.term ≡ t
  pub held : majority n (λ j. nat_lt k (g.ack t j)) ≡ true

-- the first places of a log were chosen, in a term up to this one
pub record Committed (n : ℕ) (g : Records) (t commit : ℕ) (log : List Item) : Type 0 where
  pub term : ℕ
  pub place : ℕ
  pub chosen : Chosen n g term place
  pub below : commit ≤ suc place
  pub early : term ≤ t
  pub agree : Agree commit log (g.lead term)

abbrev pub IsCommitted : ℕ → Records → ℕ → ℕ → List Item → Type 0
IsCommitted n g t commit log = (commit ≡ 0) ⊎ Committed n g t commit log

-- all of a list was chosen
pub record Front (n : ℕ) (g : Records) (xs : List Item) : Type 0 where
  pub term : ℕ
  pub ok : IsCommitted n g term (length xs) xs

-- items were chosen, at their places
pub record Placed (n : ℕ) (g : Records) (before : ℕ) (items : List Item) : Type 0 where
  pub term : ℕ
  pub place : ℕ
  pub chosen : Chosen n g term place
  pub below : before + length items ≤ suc place
  pub cut : IsCut (g.lead term) before items

abbrev pub IsPlaced : ℕ → Records → ℕ → List Item → Type 0
IsPlaced n g before items = (length items ≡ 0) ⊎ Placed n g before items
