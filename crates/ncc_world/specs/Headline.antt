-- What holds of every run of events: the promise.
use Rattle.std.specs.Prelude.{◌≡◌, ℕ, List, ◌++◌, take, Some, slice_get}
use Rattle.std.specs.List.{AllByRecursion}
use Rattle.ncc_session.specs.Question.{Question}
use Rattle.ncc_clients.specs.declared.told.Told.{Told}
use Rattle.ncc_clients.specs.Run.{Client, question_of, told_to}
use Rattle.ncc_clients.specs.Turn.{Turn, NobodyIsForgotten}
use Rattle.ncc_clients.specs.Moment.{IsOpen}
use Rattle.ncc_clients.specs.Four.{Begins, Four}
use Rattle.ncc_clients.specs.Lawful.{Lawful}
use Rattle.ncc_clients.specs.Laws.{IsAnswered, PlacesAreApart, AllAreServed, NobodyVanishes}
use Rattle.ncc_clients.specs.Reads.{SessionsReadTheirWrites}
use Rattle.ncc_world.specs.declared.setup.Setup.{Setup}
use Rattle.ncc_world.specs.declared.event.Event.{Event}
use Rattle.ncc_world.specs.Events.{MayHappen}
use Rattle.ncc_safety.specs.Fleet.{fleet_start}
use Rattle.ncc_world.specs.Setting.{IsSetup, over_raft, lists_of, cluster_of, seats_of, shape_of}
use Rattle.ncc_world.specs.Happening.{WorldRun, start_of, RunsOn, Within}

-- at every moment every member's applied list begins the history of the whole run
abbrev pub MembersAgree : Setup → List (ℕ × Event) → WorldRun → Type 0
MembersAgree s es end =
    (line : ℕ) (r : WorldRun) → Within s es line r → AllByRecursion (λ list. Begins list end.history) (lists_of r.members)

-- A fact: it was told in the event of its line, at a moment at which the facts before it had been told and no other, by a turn that
-- answered its connection's question, and it is lawful there against the history of the whole run.
pub record IsLawful (s : Setup) (es : List (ℕ × Event)) (end : WorldRun) (earlier : List Told) (t : Told) : Type 0 where
  pub moment : WorldRun
  pub within : Within s es t.line moment
  pub told_then : moment.told ≡ earlier
  pub index : ℕ
  pub client : Client
  pub there : IsOpen moment index client
  pub number : client.number ≡ t.conn
  pub question : Question
  pub asks : question_of (cluster_of s) client ≡ Some question
  pub answered : IsAnswered (cluster_of s) moment index client t.fact
  pub turn : Turn (cluster_of s) t.line moment (told_to t.line moment index client t.fact)
  pub lawful : Lawful (cluster_of s) end.history moment index client question t.fact

abbrev pub FactsAreLawful : Setup → List (ℕ × Event) → WorldRun → Type 0
FactsAreLawful s es end = (k : ℕ) (t : Told) → slice_get end.told k ≡ Some t → IsLawful s es end (take k end.told) t

-- no connection vanishes on the way from any moment to the end
abbrev pub AllGoOn : Setup → List (ℕ × Event) → WorldRun → Type 0
AllGoOn s es end = (line : ℕ) (r : WorldRun) → Within s es line r → NobodyVanishes r end

-- after each event nobody is left waiting who can be answered
abbrev pub AfterEach : Setup → List (ℕ × Event) → Type 0
AfterEach s es =
    (before behind : List (ℕ × Event)) (r : WorldRun) → es ≡ before ++ behind → RunsOn s before (start_of s) r
    → NobodyIsForgotten (cluster_of s) r

-- each event is one that a world takes
abbrev pub AllMayHappen : Setup → List (ℕ × Event) → Type 0
AllMayHappen s es = AllByRecursion (λ (e : ℕ × Event). MayHappen s.cluster e.1) es

-- all of it
pub record Headline (s : Setup) (es : List (ℕ × Event)) (end : WorldRun) : Type 0 where
  pub members_agree : MembersAgree s es end
  pub facts_are_lawful : FactsAreLawful s es end
  pub places_are_apart : PlacesAreApart end
  pub all_are_served : AllAreServed (cluster_of s) end
  pub nobody_vanishes : AllGoOn s es end
  pub nobody_is_forgotten : AfterEach s es
  pub sessions_read_their_writes : AllMayHappen s es → SessionsReadTheirWrites end

-- The facts that clients rest on hold of members over one list,
abbrev pub ListKeepsFour : Type 0
ListKeepsFour = (s : Setup) → IsSetup s → Four (cluster_of s) (seats_of s)

-- and of members over Raft, which begin with empty logs and journals.
abbrev pub RaftKeepsFour : Type 0
RaftKeepsFour = (s : Setup) → Four (cluster_of s) (over_raft (fleet_start (shape_of s)))

abbrev pub EveryRunKeeps : Type 0
EveryRunKeeps = (s : Setup) (es : List (ℕ × Event)) (end : WorldRun) → IsSetup s → RunsOn s es (start_of s) end → Headline s es end

-- there is one run of some events
abbrev pub OneRun : Type 0
OneRun = (s : Setup) (es : List (ℕ × Event)) (r t u : WorldRun) → RunsOn s es r t → RunsOn s es r u → t ≡ u
