-- What a frame between members can carry. The layout of frames is another crate's; here are their limits.
use Rattle.std.specs.Prelude.{ℕ, ◌+◌, ◌^◌, ◌≤◌, ◌<◌, List, length}
use Rattle.std.specs.List.{All}
use Rattle.ncc_tx.specs.declared.entry.Item.{Item}
use Rattle.ncc_tx.specs.Items.{counted}
use Rattle.ncc_tx.specs.Kept.{AllAllowed, NeverFalls, term_limit}
use Rattle.ncc_raft.specs.declared.message.Envelope.{Envelope}
use Rattle.ncc_raft.specs.declared.message.Body.{Body}
use Rattle.ncc_raft.specs.declared.message.Body.TheVariants.{VoteAsk, VoteReply, Append, AppendReply, Pull, Batch}
use Rattle.ncc_raft.specs.Logs.{max_sent}

-- cores and replicas together
abbrev pub max_members : ℕ
max_members = 23

abbrev pub IsNumber : ℕ → Type 0
IsNumber i = (1 ≤ i) × (i ≤ max_members)

-- a place that a member may ask from or hand on from
abbrev pub place_limit : ℕ
place_limit = 2 ^ 62

-- the greatest number of bytes behind a frame's size field
abbrev pub max_frame : ℕ
max_frame = 2_097_152

-- the bytes of a frame behind its size field that stand before the items of an Append, and of a Batch: cluster (8), kind,
-- sender and receiver, and then term, place, term and commit (8 each), or the first place (8)
abbrev pub append_head : ℕ
append_head = 43

abbrev pub batch_head : ℕ
batch_head = 19

-- items that one message can have, behind so many bytes
pub record FitBehind (head : ℕ) (items : List Item) : Type 0 where
  pub number : length items ≤ max_sent
  pub entries : AllAllowed items
  pub bytes : head + length (counted items) ≤ max_frame

-- the terms, places and items of a message are within their limits
abbrev pub IsWithin : Body → Type 0
IsWithin (VoteAsk t place last) = (t < term_limit) × (place < 2 ^ 64) × (last < term_limit)
IsWithin (VoteReply t granted) = t < term_limit
IsWithin (Append t prev prev_term commit items) =
    (t < term_limit) × (prev < place_limit) × (prev_term < term_limit) × (commit < 2 ^ 64) × NeverFalls prev_term t items × FitBehind append_head items
IsWithin (AppendReply t has place) = (t < term_limit) × (place < 2 ^ 64)
IsWithin (Pull have) = have < place_limit
IsWithin (Batch first items) = (1 ≤ first) × (first ≤ place_limit) × All (λ i. i.term < term_limit) items × FitBehind batch_head items

-- a frame can carry it
pub record Carried (e : Envelope) : Type 0 where
  pub from : IsNumber e.from
  pub to : IsNumber e.to
  pub body : IsWithin e.body
