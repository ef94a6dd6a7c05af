-- What may happen, one small step at a time: freer than any run.
use Rattle.std.specs.Prelude.{◌≡◌, ℕ, ◌+◌, ◌<◌, ◌≤◌, Bool, true, false, List, [], ◌∷◌, length, take, drop, slice_get, Some}
use Rattle.ncc_tx.specs.declared.entry.Entry.{Entry}
use Rattle.ncc_tx.specs.declared.entry.Item.{Item}
use Rattle.ncc_tx.specs.Kept.{term_at}
use Rattle.ncc_raft.specs.declared.message.Envelope.{Envelope}
use Rattle.ncc_raft.specs.declared.message.Body.TheVariants.{VoteAsk, VoteReply, Append, AppendReply, Pull, Batch}
use Rattle.ncc_raft.specs.declared.message.RaftRole.TheVariants.{Leader, Candidate, Follower}
use Rattle.ncc_raft.specs.Member.{letter, restarted}
use Rattle.ncc_raft.specs.Logs.{up_to_date}
use Rattle.ncc_raft.specs.Elections.{raised, timed_out, asks, voted, counted, is_elected, won}
use Rattle.ncc_raft.specs.Appending.{added, applied, noted, advanced, follows, has_prev, took}
use Rattle.ncc_raft.specs.Step.{vote_reply, append_reply}
use Rattle.ncc_raft.specs.Pulled.{Grown, taken}
use Rattle.ncc_safety.specs.Cluster.{Cluster, seat_of, stepped, quiet, said, listed, looked, stood, given, owned, accepts, wrote}

-- it was sent
abbrev pub Sent : Cluster → Envelope → Type 0
Sent c e = (k : ℕ) × (slice_get c.sent k ≡ Some e)

pub data Step (c : Cluster) : Cluster → Type 0 where
  -- takes over a later term
  Raises : (i t : ℕ) → (c.at i).term < t → Step c (quiet c i (raised (c.at i) t))
  -- stands for the next term
  Stands : (i : ℕ) → (i ≡ 0 → ⊥) →
      Step c (stepped c i (timed_out (seat_of c i) (c.at i)) (asks (seat_of c i) (timed_out (seat_of c i) (c.at i)))
      (stood c.records ((c.at i).term + 1) i (c.at i).log))
  -- gives its vote in its term
  Votes : (i from place last : ℕ) → Sent c (letter from i (VoteAsk (c.at i).term place last)) → (c.at i).vote ≡ 0 →
      up_to_date place last (c.at i).log ≡ true →
      Step c (stepped c i (voted (c.at i) from) (vote_reply (seat_of c i) (c.at i) from true ∷ [])
      (given c.records (c.at i).term i from (c.at i).log))
  -- says once more that it gave it
  Repeats : (i from : ℕ) → (from ≡ 0 → ⊥) → (c.at i).vote ≡ from →
      Step c (said c (vote_reply (seat_of c i) (c.at i) from true ∷ []))
  -- says that it gives none
  Refuses : (i to t : ℕ) → Step c (said c (letter i to (VoteReply t false) ∷ []))
  -- counts a vote
  Counts : (i from : ℕ) → (from ≡ 0 → ⊥) → Sent c (letter from i (VoteReply (c.at i).term true)) →
      (c.at i).role ≡ Candidate → Step c (quiet c i (counted (c.at i) from))
  -- is elected
  Wins : (i : ℕ) → (c.at i).role ≡ Candidate → is_elected (seat_of c i) (c.at i) ≡ true →
      Step c (stepped c i (won (seat_of c i) (c.at i)) []
      (owned c.records (c.at i).term i (c.at i).log (won (seat_of c i) (c.at i)).log))
  -- follows, whoever leads
  Follows : (i from : ℕ) → Step c (quiet c i (follows (c.at i) from))
  -- takes the items of an Append of its term
  Takes : (i from prev prev_term commit : ℕ) (items : List Item) →
      Sent c (letter from i (Append (c.at i).term prev prev_term commit items)) →
      (c.at i).role ≡ Follower → has_prev (c.at i) prev prev_term ≡ true →
      Step c (stepped c i (took (c.at i) prev commit items)
      (append_reply (seat_of c i) (c.at i) from true (prev + length items) ∷ [])
      (accepts c.records (c.at i).term i (prev + length items)))
  -- says that it takes none
  Tells : (i to t place : ℕ) → Step c (said c (letter i to (AppendReply t false place) ∷ []))
  -- notes what a core said of its log
  Notes : (i from place : ℕ) (has : Bool) → (from ≡ 0 → ⊥) →
      Sent c (letter from i (AppendReply (c.at i).term has place)) → (c.at i).role ≡ Leader →
      Step c (quiet c i (noted (c.at i) from has place))
  -- advances its commit
  Advances : (i : ℕ) → (c.at i).role ≡ Leader → Step c (quiet c i (advanced (seat_of c i) (c.at i)))
  -- adds an entry
  Writes : (i : ℕ) (entry : Entry) → (c.at i).role ≡ Leader → length (c.at i).log < c.limit →
      Step c (stepped c i (added (c.at i) entry) [] (wrote c.records (c.at i).term i (added (c.at i) entry).log))
  -- sends any cut of its log, with any commit up to its own
  Sends : (i to prev count commit : ℕ) (items : List Item) → (c.at i).role ≡ Leader → prev ≤ length (c.at i).log →
      commit ≤ (c.at i).commit → items ≡ take count (drop prev (c.at i).log) →
      Step c (said c (letter i to (Append (c.at i).term prev (term_at (c.at i).log prev) commit items) ∷ []))
  -- starts again
  Restarts : (i commit : ℕ) → Step c (quiet c i (restarted c.cores commit (c.at i)))
  -- anybody asks for items
  Pulled : (from to have : ℕ) → Step c (said c (letter from to (Pull have) ∷ []))
  -- hands on any part of what it has applied
  Serves : (i to before count : ℕ) (items : List Item) → items ≡ take count (drop before (applied (c.at i))) →
      Step c (said c (letter i to (Batch (before + 1) items) ∷ []))
  -- a replica's list grows by a Batch
  Extends : (j from first : ℕ) (items log : List Item) → Sent c (letter from j (Batch first items)) →
      taken (c.lists j) first items ≡ Grown log → Step c (listed c j log)
  -- a replica has nothing
  Forgets : (j : ℕ) → Step c (listed c j [])
  -- the history is looked at
  Looks : Step c (looked c)

pub data Steps (c : Cluster) : Cluster → Type 0 where
  Still : Steps c c
  Then : {d e : Cluster} → Steps c d → Step d e → Steps c e
