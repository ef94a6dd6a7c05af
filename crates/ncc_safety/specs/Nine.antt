-- The nine sentences on the records, which each moment of a run keeps. An item's place is the number of items before it.
use Rattle.std.specs.Prelude.{◌≡◌, ℕ, suc, ◌+◌, ◌<◌, ◌≤◌, true, nat_eq, List, length, slice_get, Some}
use Rattle.ncc_tx.specs.declared.entry.Item.{Item}
use Rattle.ncc_tx.specs.Kept.{term_at}
use Rattle.ncc_raft.specs.declared.message.Body.TheVariants.{VoteAsk, VoteReply, Append, AppendReply, Batch}
use Rattle.ncc_raft.specs.declared.message.RaftRole.TheVariants.{Leader, Candidate}
use Rattle.ncc_raft.specs.Member.{letter, majority, match_of}
use Rattle.ncc_raft.specs.Logs.{last_term, up_to_date}
use Rattle.ncc_safety.specs.Lists.{Agree, IsCut}
use Rattle.ncc_safety.specs.Cluster.{Records, Cluster}
use Rattle.ncc_safety.specs.Sentences.{Sound, Within, Choosable, IsCommitted, Front, IsPlaced}
use Rattle.ncc_safety.specs.Steps.{Sent}

-- no item's term is below that of an item before it
abbrev pub Rises : List Item → Type 0
Rises xs = (k l : ℕ) (x y : Item) → k ≤ l → slice_get xs k ≡ Some x → slice_get xs l ≡ Some y → x.term ≤ y.term

-- it rises, and an item of term u stands past the start of u, and up to it the list is the longest log of u
pub record IsLog (g : Records) (xs : List Item) : Type 0 where
  pub rises : Rises xs
  pub sound : Sound g xs

-- 1: logs, and the lists that are recorded
pub record Logs (c : Cluster) : Type 0 where
  pub members : (i : ℕ) → IsLog c.records (c.at i).log
  pub terms : (i : ℕ) → Within (c.at i).term (c.at i).log
  pub leads : (t : ℕ) → IsLog c.records (c.records.lead t)
  pub starts : (t : ℕ) → IsLog c.records (c.records.start t)
  pub cands : (t i : ℕ) (l : List Item) → c.records.cand t i ≡ Some l → IsLog c.records l
  pub vlogs : (t i : ℕ) → IsLog c.records (c.records.vlog t i)

-- 2: a candidate has the log with which it stood, and tells its length and last term; a leader has its term's longest log
pub record Candidates (c : Cluster) : Type 0 where
  pub stands : (i : ℕ) → (c.at i).role ≡ Candidate → c.records.cand (c.at i).term i ≡ Some (c.at i).log
  pub asks : (i to t place last : ℕ) → Sent c (letter i to (VoteAsk t place last)) →
      (l : List Item) × (c.records.cand t i ≡ Some l) × (length l ≡ place) × (last_term l ≡ last)
  pub leads : (i : ℕ) → (c.at i).role ≡ Leader → c.records.lead (c.at i).term ≡ (c.at i).log

-- the log of who got a vote was at least as up to date as the voter's
abbrev pub Fresh : Records → Type 0
Fresh g = (t j i : ℕ) → g.vote t j ≡ i → (i ≡ 0 → ⊥) →
    (l : List Item) × (g.cand t i ≡ Some l) × (up_to_date (length l) (last_term l) (g.vlog t j) ≡ true)

-- 3: who has voted in a term has reached it; its vote in its own term is the one recorded; a yes tells the vote
pub record Votes (c : Cluster) : Type 0 where
  pub reached : (t j : ℕ) → (c.records.vote t j ≡ 0 → ⊥) → t ≤ (c.at j).term
  pub own : (j : ℕ) → c.records.vote (c.at j).term j ≡ (c.at j).vote
  pub told : (j i t : ℕ) → Sent c (letter j i (VoteReply t true)) → c.records.vote t j ≡ i
  pub fresh : Fresh c.records

-- 4: an owner has the votes of a majority, and started from the log with which it stood
abbrev pub Owners : ℕ → Records → Type 0
Owners n g = (t i : ℕ) → g.owner t ≡ i → (i ≡ 0 → ⊥) →
    (majority n (λ j. nat_eq (g.vote t j) i) ≡ true) × (g.cand t i ≡ Some (g.start t))

-- 5: an Append is a cut of its term's longest log, and what it says is committed was chosen
pub record Cut (c : Cluster) (t prev prev_term : ℕ) (items : List Item) : Type 0 where
  pub low : prev ≤ length (c.records.lead t)
  pub same : term_at (c.records.lead t) prev ≡ prev_term
  pub cut : IsCut (c.records.lead t) prev items

abbrev pub Cuts : Cluster → Type 0
Cuts c = (i to t prev prev_term commit : ℕ) (items : List Item) →
    Sent c (letter i to (Append t prev prev_term commit items)) → Cut c t prev prev_term items

abbrev pub Tells : Cluster → Type 0
Tells c = (i to t prev prev_term commit : ℕ) (items : List Item) →
    Sent c (letter i to (Append t prev prev_term commit items)) → IsCommitted c.cores c.records t commit (c.records.lead t)

-- 6: what a core said that it has, it accepted; what it accepted it has, while its term stands; and a leader knows no more
pub record Acks (c : Cluster) : Type 0 where
  pub told : (i to t place : ℕ) → Sent c (letter i to (AppendReply t true place)) → place ≤ c.records.ack t i
  pub within : (t i : ℕ) → c.records.ack t i ≤ length (c.records.lead t)
  pub reached : (t i : ℕ) → 0 < c.records.ack t i → t ≤ (c.at i).term
  pub has : (i : ℕ) → Agree (c.records.ack (c.at i).term i) (c.at i).log (c.records.lead (c.at i).term)
  pub knows : (i : ℕ) → (c.at i).role ≡ Leader → (j : ℕ) → 0 < j → match_of (c.at i) j ≤ c.records.ack (c.at i).term j
  pub own : (i : ℕ) → (c.at i).role ≡ Leader → c.records.ack (c.at i).term i ≡ length (c.at i).log

-- 7: what may have been chosen in a term stands in the start of each later one, in the log of each core that accepted it, and in the
-- log with which such a core voted later
pub record Stays (c : Cluster) : Type 0 where
  pub starts : (t k : ℕ) → Choosable c t k → (u : ℕ) → t < u → (c.records.owner u ≡ 0 → ⊥) →
      Agree (suc k) (c.records.lead t) (c.records.start u)
  pub logs : (t k : ℕ) → Choosable c t k → (j : ℕ) → k < c.records.ack t j → Agree (suc k) (c.records.lead t) (c.at j).log
  pub vlogs : (t k : ℕ) → Choosable c t k → (u j : ℕ) → t < u → (c.records.vote u j ≡ 0 → ⊥) → k < c.records.ack t j →
      Agree (suc k) (c.records.lead t) (c.records.vlog u j)

-- 8: what a core has committed was chosen
abbrev pub Commits : Cluster → Type 0
Commits c = (i : ℕ) → IsCommitted c.cores c.records (c.at i).term (c.at i).commit (c.at i).log

-- 9: so was all that a replica or the history has, and each Batch at its places
pub record Fronts (c : Cluster) : Type 0 where
  pub lists : (j : ℕ) → Front c.cores c.records (c.lists j)
  pub batches : (i to first : ℕ) (items : List Item) → Sent c (letter i to (Batch first items)) →
      (before : ℕ) × (first ≡ before + 1) × IsPlaced c.cores c.records before items
  pub history : Front c.cores c.records c.history

pub record Nine (c : Cluster) : Type 0 where
  pub logs : Logs c
  pub candidates : Candidates c
  pub votes : Votes c
  pub owners : Owners c.cores c.records
  pub cuts : Cuts c
  pub tells : Tells c
  pub acks : Acks c
  pub stays : Stays c
  pub commits : Commits c
  pub fronts : Fronts c
