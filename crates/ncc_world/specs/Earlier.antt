-- What is kept of the steps of a transaction that is open: what they left at the member, so that the next step runs alone.
use Rattle.std.specs.Prelude.{◌≡◌, ◌≤◌, ℕ, List, [], ◌∷◌, ◌++◌, length, take, Option, Some, None, Ok, slice_get}
use Rattle.ncc_store.specs.declared.call.Call.{Call}
use Rattle.ncc_store.specs.declared.ran.Delta.{Delta}
use Rattle.ncc_store.specs.Delta.{IsOver, applied}
use Rattle.ncc_store.specs.Exec.{exec}
use Rattle.ncc_store.specs.Graph.{Graph}
use Rattle.ncc_tx.specs.declared.entry.Item.{Item}
use Rattle.ncc_tx.specs.State.{state}
use Rattle.ncc_session.specs.declared.ask.Fact.{Fact}
use Rattle.ncc_session.specs.declared.ask.Fact.TheVariants.{Rows}
use Rattle.ncc_session.specs.Asking.{waiting}
use Rattle.ncc_session.specs.Question.{Question, Row, run, questions_of}
use Rattle.ncc_session.specs.Session.{Standing, asked_at}
use Rattle.ncc_session.specs.Transactions.{Held, after}
use Rattle.ncc_clients.specs.Run.{Client, talk_of}
use Rattle.ncc_world.specs.declared.setup.Setup.{Setup}
use Rattle.ncc_world.specs.declared.earlier.Earlier.{Earlier}
use Rattle.ncc_world.specs.Setting.{lists_of, cluster_of, list_at}
use Rattle.ncc_world.specs.Happening.{WorldRun}

-- what some calls left over a store
pub record Left (g : Graph) (calls : List Call) (delta : Delta) : Type 0 where
  pub rows : List (List Row)
  pub ran : exec g calls ≡ Ok (record { rows = rows; graph = applied delta g })
  pub over : IsOver g delta

-- the transaction that is open behind these questions and their answers
abbrev pub open_behind : Option Held → List Question → List Fact → Option Held
open_behind held [] facts = held
open_behind held (question ∷ questions) [] = held
open_behind held (question ∷ questions) (fact ∷ facts) = open_behind (after held question fact) questions facts

-- So many questions as facts were answered, and at most one waits.
pub record InTurn (t : Standing) (facts : List Fact) : Type 0 where
  pub answered : List Question
  pub split : questions_of t.written ≡ answered ++ waiting (asked_at t.core)
  pub counted : length answered ≡ length facts

-- It is what the steps of the open transaction left, over the store at a place that the member has applied.
pub record IsOfOpen (list : List Item) (held : Option Held) (e : Earlier) : Type 0 where
  pub tx : Held
  pub tx_is : held ≡ Some tx
  pub within : e.at ≤ length list
  pub left : Left (state (take e.at list)) tx.calls e.delta

abbrev pub IsKeptOf : List Item → Option Held → Option Earlier → Type 0
IsKeptOf list held None = Unit {0}
IsKeptOf list held (Some e) = IsOfOpen list held e

-- what is kept of a connection at a member that has applied this list
pub record Remembers (s : Setup) (list : List Item) (c : Client) (o : Option Earlier) : Type 0 where
  pub in_turn : InTurn (talk_of (cluster_of s) c) c.facts
  pub kept : IsKeptOf list (open_behind None in_turn.answered c.facts) o

-- of each
pub record AllRemember (s : Setup) (earlier : List (Option Earlier)) (r : WorldRun) : Type 0 where
  pub count : length earlier ≡ length r.clients
  pub each : (i : ℕ) (c : Client) (o : Option Earlier) → slice_get r.clients i ≡ Some c → slice_get earlier i ≡ Some o
      → Remembers s (list_at (lists_of r.members) c.member) c o

-- ---- a question of further steps

-- What is kept is what all but the last of these calls left, if the member has applied just that.
pub record IsOfAllButLast (list : List Item) (calls : List Call) (e : Earlier) : Type 0 where
  pub before : List Call
  pub last : Call
  pub calls_are : calls ≡ before ++ last ∷ []
  pub left : e.at ≡ length list → Left (state list) before e.delta

abbrev pub IsFrom : List Item → List Call → Option Earlier → Type 0
IsFrom list calls None = Unit {0}
IsFrom list calls (Some e) = IsOfAllButLast list calls e

-- What is kept behind a fact: the question was one of steps, the fact has their rows, and this is what they left.
pub record IsRan (list : List Item) (question : Question) (fact : Fact) (e : Earlier) : Type 0 where
  pub calls : List Call
  pub asks : question ≡ run calls
  pub rows : List Row
  pub told : fact ≡ Rows e.at rows
  pub here : e.at ≡ length list
  pub left : Left (state list) calls e.delta

abbrev pub LeftBy : List Item → Question → Fact → Option Earlier → Type 0
LeftBy list question fact None = Unit {0}
LeftBy list question fact (Some e) = IsRan list question fact e

-- of a connection, whose session asks so
abbrev pub LeftFor : Setup → WorldRun → Client → Fact → Option Earlier → Type 0
LeftFor s r c fact o =
    (question : Question) → asked_at (talk_of (cluster_of s) c).core ≡ Some question → LeftBy (list_at (lists_of r.members) c.member) question fact o
