-- What a session's questions are together: from one that asks to enter to the next they are of one transaction.
use Rattle.std.specs.Prelude.{◌≡◌, ◌≤◌, ◌⊎◌, ℕ, List, [], ◌∷◌, ◌++◌, map, codes, Option, Some, None, Ok}
use Rattle.std.specs.List.{All, Contains}
use Rattle.ncc_pack.specs.declared.value.Value.{Value}
use Rattle.ncc_bolt.specs.Fields.{Pairs}
use Rattle.ncc_bolt.specs.Reading.{request_at}
use Rattle.ncc_bolt.specs.declared.message.Request.{Request}
use Rattle.ncc_store.specs.declared.call.Call.{Call}
use Rattle.ncc_session.specs.declared.config.ConnConfig.{ConnConfig}
use Rattle.ncc_session.specs.declared.ask.Fact.{Fact}
use Rattle.ncc_session.specs.declared.ask.Fact.TheVariants as f
use Rattle.ncc_session.specs.declared.table.Turn.{Turn}
use Rattle.ncc_session.specs.declared.table.Turn.TheVariants as t
use Rattle.ncc_session.specs.Question.{Question, enter, run, leave, route, Row, questions_of}
use Rattle.ncc_session.specs.Core.{Situation}
use Rattle.ncc_session.specs.Checks.{under, bookmarks_of, place_in}
use Rattle.ncc_session.specs.Table.{turn_of}
use Rattle.ncc_session.specs.Session.{session, on_message}

-- ---- one after another

-- what its member knows of the transaction that is open: its steps so far, and the rows that it told of each
pub record Held : Type 0 where
  pub calls : List Call
  pub told : List (List Row)

-- what an answer makes of it: it is entered with no step, it has a step more, or it is over
abbrev pub entered : Fact → Option Held
entered (f.Entered at) = Some (record { calls = []; told = [] })
entered _ = None

abbrev pub stepped : Held → List Call → Fact → Option Held
stepped held calls (f.Rows at rows) = Some (record { calls = calls; told = held.told ++ rows ∷ [] })
stepped held calls _ = None

abbrev pub after : Option Held → Question → Fact → Option Held
after held (enter need) fact = entered fact
after (Some held) (run calls) fact = stepped held calls fact
after _ _ fact = None

-- Which question may come next: one that asks to enter or who leads always may. Where a transaction is open, also one for the rows of its
-- steps so far and one more, and one whether it is done, with its steps and exactly the rows told of each.
abbrev pub Follows : Option Held → Question → Type 0
Follows held (enter need) = Unit {0}
Follows held route = Unit {0}
Follows (Some held) (run calls) = (call : Call) × (calls ≡ held.calls ++ call ∷ [])
Follows (Some held) (leave calls told) = (calls ≡ held.calls) × (told ≡ held.told)
Follows _ _ = ⊥

-- These questions come one after another, each but the last answered by its fact.
abbrev pub AreTransactions : Option Held → List Question → List Fact → Type 0
AreTransactions held [] facts = Unit {0}
AreTransactions held (question ∷ questions) [] = Follows held question × (questions ≡ [])
AreTransactions held (question ∷ questions) (fact ∷ facts) =
    Follows held question × AreTransactions (after held question fact) questions facts

-- The questions of any session are transactions, one after another.
abbrev pub QuestionsAreTransactions : Type 0
QuestionsAreTransactions =
    (config : ConnConfig) (bytes : List ℕ) (facts : List Fact)
    → AreTransactions None (questions_of (session config bytes facts).written) facts

-- ---- what is needed to enter

-- the dictionary of a request that begins a transaction
abbrev pub beginning : Turn → Option Pairs
beginning (t.Run query params extra) = Some extra
beginning (t.Begin extra) = Some extra
beginning _ = None

-- its bookmarks are these places of this cluster, one by one
abbrev pub Presents : ℕ → Pairs → List ℕ → Type 0
Presents cluster extra places =
    (texts : List Value) × (bookmarks_of (under (codes "bookmarks") extra) ≡ Ok texts) × (map (place_in cluster) texts ≡ map Ok places)

-- at least each of them, and one of them or 0
abbrev pub IsGreatest : ℕ → List ℕ → Type 0
IsGreatest need places = All (λ place. place ≤ need) places × (Contains places need ⊎ (need ≡ 0))

-- a message is a request with a dictionary that presents these places
pub record Begins (config : ConnConfig) (place : Situation) (message : List ℕ) (places : List ℕ) : Type 0 where
  pub request : Request
  pub extra : Pairs
  pub reads : request_at message ≡ Ok request
  pub begins : beginning (turn_of place.state request) ≡ Some extra
  pub presents : Presents config.members.cluster extra places

-- Where a message has a session ask to enter, it begins a transaction, and the place that is needed is the greatest that it presents.
abbrev pub NeedsTheGreatest : Type 0
NeedsTheGreatest =
    (config : ConnConfig) (place : Situation) (message : List ℕ) (need : ℕ)
    → questions_of (on_message config place message).written ≡ enter need ∷ []
    → (places : List ℕ) × Begins config place message places × IsGreatest need places
