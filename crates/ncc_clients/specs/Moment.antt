-- The moments of a run: whatever happens is one small thing after another, and between two of them is a moment.
use Rattle.std.specs.Prelude.{◌≡◌, ◌≢◌, ◌≤◌, ℕ, Bool, false, List, Some, slice_get}
use Rattle.ncc_tx.specs.declared.entry.Entry.{Entry}
use Rattle.ncc_session.specs.declared.ask.Fact.{Fact}
use Rattle.ncc_clients.specs.Links.{Driving}
use Rattle.ncc_clients.specs.Members.{Cluster}
use Rattle.ncc_clients.specs.Run.{Run, Client, reply, tells, proposes, question_of, has_ended, ticked, opened, fed, told_to, moved}
use Rattle.ncc_clients.specs.Run.{closed_at, proposed}
use Rattle.ncc_clients.specs.Turn.{IsEntryOf}

-- the connection at this index, and it is not closed
pub record IsOpen {S : Type 0} (r : Run S) (i : ℕ) (c : Client) : Type 0 where
  pub there : slice_get r.clients i ≡ Some c
  pub live : c.closed ≡ false

-- the connection at this index, and it has not ended, neither closed nor by itself
pub record Lives {S : Type 0} (C : Cluster S) (r : Run S) (i : ℕ) (c : Client) : Type 0 where
  pub there : slice_get r.clients i ≡ Some c
  pub live : has_ended C c ≡ false

-- All connections of this member have ended.
abbrev pub NobodyLivesAt : {S : Type 0} → Cluster S → Run S → ℕ → Type 0
NobodyLivesAt C r member = (i : ℕ) (c : Client) → Lives C r i c → c.member ≢ member

-- a connection's question is answered by a fact, in the event of this line
pub record Told {S : Type 0} (C : Cluster S) (line : ℕ) (r : Run S) (i : ℕ) (c : Client) (fact : Fact) : Type 0 where
  pub there : IsOpen r i c
  pub replies : reply C r c ≡ tells fact

-- a connection's entry is proposed at its member
pub record Proposes {S : Type 0} (C : Cluster S) (r : Run S) (i : ℕ) (c : Client) (entry : Entry) : Type 0 where
  pub there : IsOpen r i c
  pub replies : reply C r c ≡ proposes
  pub entry_is : IsEntryOf (question_of C c) entry

-- one small thing
pub data Small {S : Type 0} (C : Cluster S) : Run S → Run S → Type 0 where
  -- the clock goes on
  Ticks : (r : Run S) (to : ℕ) → r.now ≤ to → Small C r (ticked r to)
  -- a client connects to a member; they are numbered from 1
  Opens : (r : Run S) (member : ℕ) (printed : Bool) → 1 ≤ member → Small C r (opened r member printed)
  -- its bytes come in
  Feeds : (r : Run S) (i : ℕ) (c : Client) (piece : List ℕ) → IsOpen r i c → Small C r (fed C r i c piece)
  -- its question is answered
  Tells : (line : ℕ) (r : Run S) (i : ℕ) (c : Client) (fact : Fact) → Told C line r i c fact → Small C r (told_to line r i c fact)
  -- its entry is proposed: it is accepted, or it is told that it is not
  Offers : (line : ℕ) (r : Run S) (i : ℕ) (c : Client) (entry : Entry) → Proposes C r i c entry
      → Small C r (proposed C line r i c (C.propose r.members c.member entry))
  -- the members do something
  Moves : (r : Run S) (members : S) → C.Moves r.members members → Small C r (moved C r members)
  -- a member starts again, and its connections have ended before
  Restarts : (r : Run S) (member : ℕ) (members : S) → C.Restarts r.members member members → NobodyLivesAt C r member
      → Small C r (moved C r members)
  -- a session of a driver is told something
  Drives : (r : Run S) (driving : Driving) → Small C r (record r { driving = driving })
  -- a connection is closed
  Closes : (r : Run S) (i : ℕ) (c : Client) → IsOpen r i c → Small C r (closed_at r i c)

-- one small thing after another
pub data Path {S : Type 0} (C : Cluster S) : Run S → Run S → Type 0 where
  Here : (r : Run S) → Path C r r
  Then : (r s t : Run S) → Small C r s → Path C s t → Path C r t
