-- What a member keeps over a crash, and how it changes: the term, vote and log of Figure 2 of the extended Raft paper.
use Rattle.std.specs.Prelude.{◌≡◌, ℕ, zero, suc, ◌+◌, ◌^◌, ◌≤◌, ◌<◌, IsTrue, List, [], ◌∷◌, ◌++◌, length, take, drop, map}
use Rattle.std.specs.Prelude.{slice_get, Option, Some, None}
use Rattle.std.specs.Int.{w64, to_be_bytes}
use Rattle.std.specs.List.{All}
use Rattle.ncc_tx.specs.declared.entry.ChangeSet.{ChangeSet}
use Rattle.ncc_tx.specs.declared.entry.Item.{Item}
use Rattle.ncc_tx.specs.declared.entry.Saved.{Saved}
use Rattle.ncc_tx.specs.Items.{counted, entry_allowed}

-- ---- terms of a log

abbrev pub term_of : Option Item → ℕ
term_of None = 0
term_of (Some i) = i.term

-- the term of the item at a place, from 1; 0 at place 0 and past the end
abbrev pub term_at : List Item → ℕ → ℕ
term_at log zero = 0
term_at log (suc p) = term_of (slice_get log p)

-- each term is at least the one before it, the first at least the least, and none is above the greatest
abbrev pub NeverFalls : ℕ → ℕ → List Item → Type 0
NeverFalls least greatest [] = Unit {0}
NeverFalls least greatest (i ∷ is) = (least ≤ i.term) × (i.term ≤ greatest) × NeverFalls i.term greatest is

abbrev pub AllAllowed : List Item → Type 0
AllAllowed items = All (λ i. IsTrue (entry_allowed i.entry)) items

-- ---- what may be kept, and what may change it

-- a term from here on is none of a member
abbrev pub term_limit : ℕ
term_limit = 2 ^ 62

-- the greatest number of a core
abbrev pub max_vote : ℕ
max_vote = 7

-- the greatest length of a log
abbrev pub max_items : ℕ
max_items = 2 ^ 24

pub record MayKeep (s : Saved) : Type 0 where
  pub term : s.term < term_limit
  pub vote : s.vote ≤ max_vote
  pub terms : NeverFalls 0 s.term s.log
  pub entries : AllAllowed s.log
  pub few : length s.log ≤ max_items

-- the payload of a change in a journal's record: term, vote, keep, and the items behind their number
unfoldable pub payload : ChangeSet → List ℕ
payload c = to_be_bytes w64 c.term ++ c.vote ∷ to_be_bytes w64 c.keep ++ counted c.items

-- what is asked of a change alone, whatever it follows
pub record MayStand (c : ChangeSet) : Type 0 where
  pub term : c.term < term_limit
  pub vote : c.vote ≤ max_vote
  pub terms : NeverFalls 0 c.term c.items
  pub entries : AllAllowed c.items
  pub short : length (payload c) < 2 ^ 32

-- what is asked of a change beside what was kept before: the term stays or rises, no more is kept than was there, and the
-- terms don't fall from the last kept item on
pub record MayFollow (s : Saved) (c : ChangeSet) : Type 0 where
  pub stands : MayStand c
  pub term : s.term ≤ c.term
  pub keep : c.keep ≤ length s.log
  pub terms : NeverFalls (term_at s.log c.keep) c.term c.items

-- the part after a change
abbrev pub part_after : Saved → ChangeSet → Saved
part_after s c = record { term = c.term; vote = c.vote; log = take c.keep s.log ++ c.items }

-- ---- which change leads from one part to another

-- two lists begin with different items, or one has none
abbrev pub Parted : List Item → List Item → Type 0
Parted [] ys = Unit {0}
Parted xs [] = Unit {0}
Parted (x ∷ xs) (y ∷ ys) = x ≡ y → ⊥

-- both logs have these first items in common, and no more
pub record Shared (old new : List Item) (n : ℕ) : Type 0 where
  pub in_old : n ≤ length old
  pub in_new : n ≤ length new
  pub same : take n old ≡ take n new
  pub most : Parted (drop n old) (drop n new)

-- the new term and vote, the greatest number of front items that stay, and those behind
pub record IsChange (old new : Saved) (c : ChangeSet) : Type 0 where
  pub other : old ≡ new → ⊥
  pub term : c.term ≡ new.term
  pub vote : c.vote ≡ new.vote
  pub keep : Shared old.log new.log c.keep
  pub items : c.items ≡ drop c.keep new.log

-- no change exactly where all stays
abbrev pub Leads : Saved → Saved → Option ChangeSet → Type 0
Leads old new None = old ≡ new
Leads old new (Some c) = IsChange old new c

-- ---- the front of two lists by terms alone

abbrev pub TermsParted : List Item → List Item → Type 0
TermsParted [] ys = Unit {0}
TermsParted xs [] = Unit {0}
TermsParted (x ∷ xs) (y ∷ ys) = x.term ≡ y.term → ⊥

abbrev pub terms : List Item → List ℕ
terms items = map (λ i. i.term) items

-- the first items of both have the same terms, so many and no more
pub record SameTerms (xs ys : List Item) (n : ℕ) : Type 0 where
  pub in_first : n ≤ length xs
  pub in_second : n ≤ length ys
  pub same : take n (terms xs) ≡ take n (terms ys)
  pub most : TermsParted (drop n xs) (drop n ys)
