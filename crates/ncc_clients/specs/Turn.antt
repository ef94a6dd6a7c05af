-- Turns: after each thing that happens, the connection of the lowest number whose question can be answered is answered, or its entry
-- proposed, and so on until there is none.
use Rattle.std.specs.Prelude.{◌≡◌, ℕ, Bool, true, false, Option, Some, None, slice_get, position}
use Rattle.std.specs.List.{AllByRecursion}
use Rattle.ncc_wait.specs.Waiting.{outcome_of}
use Rattle.ncc_wait.specs.declared.outcomes.Outcome.TheVariants.{NotYet}
use Rattle.ncc_tx.specs.declared.entry.Entry.{Entry}
use Rattle.ncc_session.specs.Core.{leave_of}
use Rattle.ncc_session.specs.Question.{Question, enter, leave, some_writes}
use Rattle.ncc_clients.specs.Members.{Cluster, at_of}
use Rattle.ncc_clients.specs.Run.{Run, Client, Placing, Reply, waits, tells, proposes, reply, question_of, deadline_of, told_to, proposed}

abbrev pub is_answer : Reply → Bool
is_answer waits = false
is_answer (tells fact) = true
is_answer proposes = true

-- its question can be answered now, or its entry proposed
abbrev pub acts : {S : Type 0} → Cluster S → Run S → Client → Bool
acts C r c = is_answer (reply C r c)

-- the entry of a question, as it is proposed: the steps of its calls, and the rows that were told
abbrev pub IsEntryOf : Option Question → Entry → Type 0
IsEntryOf question entry = question ≡ Some (leave_of entry)

-- what is done by a reply, in the event of this line
abbrev pub Does : {S : Type 0} → Cluster S → ℕ → Run S → ℕ → Client → Reply → Run S → Type 0
Does C line r i c waits s = ⊥
Does C line r i c (tells fact) s = s ≡ told_to line r i c fact
Does C line r i c proposes s =
    (entry : Entry) × IsEntryOf (question_of C c) entry × (s ≡ proposed C line r i c (C.propose r.members c.member entry))

-- the first connection that acts is answered
pub record Turn {S : Type 0} (C : Cluster S) (line : ℕ) (r s : Run S) : Type 0 where
  pub index : ℕ
  pub client : Client
  pub first : position (acts C r) r.clients ≡ Some index
  pub there : slice_get r.clients index ≡ Some client
  pub does : Does C line r index client (reply C r client) s

-- one turn after another leads from here to there
pub data Turns {S : Type 0} (C : Cluster S) (line : ℕ) : Run S → Run S → Type 0 where
  Here : (r : Run S) → Turns C line r r
  Then : (r s t : Run S) → Turn C line r s → Turns C line s t → Turns C line r t

-- nobody can be answered
abbrev pub AtRest : {S : Type 0} → Cluster S → Run S → Type 0
AtRest C r = position (acts C r) r.clients ≡ None

-- turn after turn, until nobody can be answered
pub record Settles {S : Type 0} (C : Cluster S) (line : ℕ) (r s : Run S) : Type 0 where
  pub turns : Turns C line r s
  pub rests : AtRest C s

-- ---- who waits on

-- for a place that its member has not reached, and its deadline has not passed
abbrev pub NotYetAt : {S : Type 0} → Cluster S → Run S → Client → ℕ → Type 0
NotYetAt C r c need = outcome_of (at_of C r.members c.member) need r.now (deadline_of C c) ≡ NotYet

-- to enter, or for its entry's place
abbrev pub WaitsFor : {S : Type 0} → Cluster S → Run S → Client → Question → Option Placing → Type 0
WaitsFor C r c (enter need) placing = NotYetAt C r c need
WaitsFor C r c (leave calls told) None = ⊥
WaitsFor C r c (leave calls told) (Some p) = (some_writes calls ≡ true) × NotYetAt C r c p.place
WaitsFor C r c _ placing = ⊥

abbrev pub MayWait : {S : Type 0} → Cluster S → Run S → Client → Option Question → Type 0
MayWait C r c None = Unit {0}
MayWait C r c (Some question) = WaitsFor C r c question c.placing

-- each question that is left waits to enter or for its entry's place, and is not late
abbrev pub NobodyIsForgotten : {S : Type 0} → Cluster S → Run S → Type 0
NobodyIsForgotten C r = AllByRecursion (λ c. MayWait C r c (question_of C c)) r.clients
