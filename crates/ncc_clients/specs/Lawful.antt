-- When a fact is lawful: by the question that it answers, the history of the whole run, and the moment directly before it was told.
use Rattle.std.specs.Prelude.{◌≡◌, ◌≢◌, ℕ, ◌-◌, ◌<◌, ◌≤◌, Bool, true, false, List, [], ◌∷◌, length, take, Some, Ok, Err}
use Rattle.std.specs.Prelude.{slice_get}
use Rattle.std.specs.List.{AllByRecursion}
use Rattle.ncc_wait.specs.Waiting.{outcome_of}
use Rattle.ncc_wait.specs.declared.outcomes.Outcome.TheVariants.{Late as IsLate}
use Rattle.ncc_store.specs.declared.call.Call.{Call}
use Rattle.ncc_store.specs.Exec.{Ended, exec}
use Rattle.ncc_tx.specs.declared.entry.Entry.{Entry}
use Rattle.ncc_tx.specs.declared.entry.Item.{Item}
use Rattle.ncc_tx.specs.State.{state, valid}
use Rattle.ncc_session.specs.declared.ask.Fact.{Fact}
use Rattle.ncc_session.specs.declared.ask.Fact.TheVariants.{Entered, Late, Rows, Faulted, Done, Placed, Stale, Replaced, Unsure, Elsewhere, Full, Routed}
use Rattle.ncc_session.specs.Core.{leave_of}
use Rattle.ncc_session.specs.Question.{Question, enter, run, leave, route, Row, questions_of, last_writes, some_writes, ends_writing}
use Rattle.ncc_clients.specs.Members.{Cluster, full, at_of}
use Rattle.ncc_clients.specs.Run.{Run, Client, talk_of, question_of, deadline_of, last_rows, accepted}
use Rattle.ncc_clients.specs.Moment.{Path}
use Rattle.ncc_clients.specs.Four.{Accepts}

-- the place that a fact stands at
abbrev pub place_of : Fact → ℕ
place_of (Entered at) = at
place_of (Late need at now) = at
place_of (Rows at rows) = at
place_of (Faulted at fault) = at
place_of (Done at) = at
place_of (Placed place) = place
place_of (Stale place) = place
place_of (Replaced place mine found) = place
place_of (Unsure place at now) = at
place_of Elsewhere = 0
place_of (Full entries) = 0
place_of (Routed leader) = 0

-- no fact that the connection was told before stands further
abbrev pub NoneBeyond : ℕ → List Fact → Type 0
NoneBeyond at facts = AllByRecursion (λ fact. place_of fact ≤ at) facts

-- what the last question to enter needs, 0 where there was none
abbrev pub needed : ℕ → List Question → ℕ
needed need [] = need
needed need (enter later ∷ questions) = needed later questions
needed need (_ ∷ questions) = needed need questions

-- what the transaction needs that is open: the greatest place that its bookmarks cover
abbrev pub need_of : {S : Type 0} → Cluster S → Client → ℕ
need_of C c = needed 0 (questions_of (talk_of C c).written)

-- A place for the rows that the transaction reads: at least what it needs, at most the history's end, and no fact that the connection
-- was told before stands further.
pub record MayReadAt {S : Type 0} (C : Cluster S) (history : List Item) (c : Client) (at : ℕ) : Type 0 where
  pub covers : need_of C c ≤ at
  pub within : at ≤ length history
  pub none_beyond : NoneBeyond at c.facts

-- the rows of the last call
pub record Gives (history : List Item) (at : ℕ) (calls : List Call) (rows : List Row) : Type 0 where
  pub end : Ended
  pub runs : exec (state (take at history)) calls ≡ Ok end
  pub rows_are : rows ≡ last_rows end.rows

-- The proposal of the question that waits: at an earlier moment, and with no fact told since, this connection's entry was accepted by
-- its member, which led, at this place and in this term.
pub record IsProposal {S : Type 0} (C : Cluster S) (r : Run S) (i : ℕ) (c : Client) (place term : ℕ) : Type 0 where
  pub then_ : Run S
  pub it : Client
  pub entry : Entry
  pub after : S
  pub same_conn : it.number ≡ c.number
  pub same_facts : it.facts ≡ c.facts
  pub same_question : question_of C it ≡ question_of C c
  pub asks : question_of C c ≡ Some (leave_of entry)
  pub accepts : Accepts C then_ i it entry place term after
  pub led : C.leads then_.members c.member ≡ true
  pub since : Path C (accepted C then_ i it place term after) r

-- the history has an item at a place, from 1
abbrev pub StandsAt : List Item → ℕ → Item → Type 0
StandsAt history place item = (0 < place) × (slice_get history (place - 1) ≡ Some item)

-- it has this proposal there, with its term and its entry, valid or not behind the items before it
pub record HasIt {S : Type 0} (C : Cluster S) (history : List Item) (r : Run S) (i : ℕ) (c : Client) (place : ℕ) (is_valid : Bool) : Type 0
  where
    pub item : Item
    pub proposal : IsProposal C r i c place item.term
    pub stands : StandsAt history place item
    pub entry_is : question_of C c ≡ Some (leave_of item.entry)
    pub valid_is : valid (state (take (place - 1) history)) item.entry ≡ is_valid

-- it has an item of another term there
pub record HasOther {S : Type 0} (C : Cluster S) (history : List Item) (r : Run S) (i : ℕ) (c : Client) (place mine found : ℕ) : Type 0 where
  pub item : Item
  pub proposal : IsProposal C r i c place mine
  pub stands : StandsAt history place item
  pub found_is : item.term ≡ found
  pub differ : mine ≢ found

-- the moment is past the deadline, and the member has not applied the place that is needed
pub record IsPast {S : Type 0} (C : Cluster S) (r : Run S) (c : Client) (need at now : ℕ) : Type 0 where
  pub at_is : at ≡ at_of C r.members c.member
  pub now_is : now ≡ r.now
  pub late : outcome_of at need now (deadline_of C c) ≡ IsLate

-- the question is one that a member answers only where it leads
abbrev pub WantsLeader : Question → Type 0
WantsLeader (run calls) = last_writes calls ≡ true
WantsLeader (leave calls told) = some_writes calls ≡ true
WantsLeader _ = ⊥

-- A fact that a member tells to a question, where the run stands so directly before, against the history of the whole run.
abbrev pub Lawful : {S : Type 0} → Cluster S → List Item → Run S → ℕ → Client → Question → Fact → Type 0
Lawful C history r i c question (Entered at) =
    (need : ℕ) × (question ≡ enter need) × (need ≤ at) × (at ≡ at_of C r.members c.member) × (at ≤ length history) × NoneBeyond at c.facts
Lawful C history r i c question (Late need at now) = (question ≡ enter need) × IsPast C r c need at now
Lawful C history r i c question (Rows at rows) =
    (calls : List Call) × (question ≡ run calls) × (at ≡ at_of C r.members c.member) × MayReadAt C history c at × Gives history at calls rows
Lawful C history r i c question (Faulted at fault) =
    (calls : List Call) × (question ≡ run calls) × (at ≡ at_of C r.members c.member) × MayReadAt C history c at
    × (exec (state (take at history)) calls ≡ Err fault)
Lawful C history r i c question (Done at) =
    (ends_writing question ≡ false) × (at ≡ at_of C r.members c.member) × MayReadAt C history c at
Lawful C history r i c question (Placed place) = HasIt C history r i c place true
Lawful C history r i c question (Stale place) = HasIt C history r i c place false
Lawful C history r i c question (Replaced place mine found) = HasOther C history r i c place mine found
Lawful C history r i c question (Unsure place at now) = (term : ℕ) × IsProposal C r i c place term × IsPast C r c place at now
Lawful C history r i c question Elsewhere = WantsLeader question × (C.leads r.members c.member ≡ false)
Lawful C history r i c question (Full entries) =
    (entry : Entry) × (question ≡ leave_of entry) × (C.leads r.members c.member ≡ true)
    × (C.propose r.members c.member entry ≡ full entries)
Lawful C history r i c question (Routed leader) = (question ≡ route) × (leader ≡ C.leader r.members c.member)
