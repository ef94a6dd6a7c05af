-- A script: its lines, one after another, the events that they say, the run of these, and how it ends: as a script, at the first line that
-- is refused, or at the first that passes a limit.
use Rattle.std.specs.Prelude.{◌≡◌, ◌≢◌, ℕ, ◌+◌, ◌<◌, ◌≤◌, ◌==◌, nat_lt, Bool, true, false, List, [], ◌∷◌, length, codes, Option, None, Some}
use Rattle.std.specs.Prelude.{if◌then◌else◌}
use Rattle.std.specs.List.{onto_first, enumerate_from}
use Rattle.ncc_world.specs.declared.setup.Setup.{Setup}
use Rattle.ncc_world.specs.declared.event.Event.{Event}
use Rattle.ncc_world.specs.declared.error.Which.{Which}
use Rattle.ncc_world.specs.declared.error.Which.TheVariants.{Line as LineLimit, Events as EventsLimit}
use Rattle.ncc_world.specs.declared.error.WorldError.{WorldError}
use Rattle.ncc_world.specs.declared.error.WorldError.TheVariants as w
use Rattle.ncc_world.specs.Happening.{WorldRun, start_of, refusal, Happens}
use Rattle.ncc_replay.specs.Line.{Says, SaysNone, SaysCluster, header, is_skipped, first_word}
use Rattle.ncc_replay.specs.declared.status.Cause.{Cause}
use Rattle.ncc_replay.specs.declared.status.Cause.TheVariants.{NoHeader, NoCluster, BadLine, WrongWorld, NoMember, NoConn, NoMessage}
use Rattle.ncc_replay.specs.declared.status.Cause.TheVariants.{NoSession, WrongRole, BackInTime, Busy}

-- the lines of a text: each ends with LF, which the last may lack
unfoldable pub lines_of : List ℕ → List (List ℕ)
lines_of [] = []
lines_of (b ∷ bs) = if b == 10 then [] ∷ lines_of bs else onto_first b (lines_of bs)

-- with their numbers, from 1
abbrev pub Lines : Type 0
Lines = List (ℕ × List ℕ)

abbrev pub numbered : List ℕ → Lines
numbered text = enumerate_from 1 (lines_of text)

-- ---- limits

-- the most bytes of a line
abbrev pub max_line : ℕ
max_line = 2_200_000

-- the most lines behind the `cluster` line that are not skipped
abbrev pub max_events : ℕ
max_events = 1_000_000

abbrev pub is_long : List ℕ → Bool
is_long line = nat_lt max_line (length line)

-- a line that is looked at: it is not too long, and is neither empty nor a comment
pub record Counts (line : List ℕ) : Type 0 where
  pub short : is_long line ≡ false
  pub kept : is_skipped line ≡ false

-- ---- how a script ends

pub data End : Type 0 where
  whole : End
  -- at this line, which is refused for this cause
  refused : ℕ → Cause → End
  -- at a line that passes this limit
  limited : Which → End

-- what a script says: its cluster, unless it ends before that, and its events with their lines
pub record Script : Type 0 where
  pub setup : Option Setup
  pub events : List (ℕ × Event)

-- why a world refuses an event
abbrev pub cause_of : WorldError → Option Cause
cause_of w.NoMember = Some NoMember
cause_of w.NoConn = Some NoConn
cause_of w.NoMessage = Some NoMessage
cause_of w.NoSession = Some NoSession
cause_of w.BackInTime = Some BackInTime
cause_of w.WrongWorld = Some WrongWorld
cause_of w.WrongRole = Some WrongRole
cause_of w.Busy = Some Busy
cause_of (w.Limit which) = None
cause_of w.Memory = None

-- the world refuses the event for this cause
pub record IsRefusedFor (s : Setup) (r : WorldRun) (event : Event) (cause : Cause) : Type 0 where
  pub error : WorldError
  pub refuses : refusal s r event ≡ Some error
  pub cause_is : cause_of error ≡ Some cause

-- the line says this event, and the run so far allows it
pub record Accepted (s : Setup) (r : WorldRun) (line : List ℕ) (event : Event) : Type 0 where
  pub counts : Counts line
  pub says : Says s.cluster line event
  pub allowed : refusal s r event ≡ None

-- ---- the lines behind the `cluster` line, where so many were events and the run stands so: the events that they say, and how the run
-- stands where they end
pub data EventLines (s : Setup) : ℕ → WorldRun → Lines → List (ℕ × Event) → WorldRun → End → Type 0 where
  none_left : (n : ℕ) (r : WorldRun) → EventLines s n r [] [] r whole
  long : (n : ℕ) (r : WorldRun) (number : ℕ) (line : List ℕ) (ls : Lines) → is_long line ≡ true
      → EventLines s n r ((number, line) ∷ ls) [] r (limited LineLimit)
  skipped : (n : ℕ) (r : WorldRun) (number : ℕ) (line : List ℕ) (ls : Lines) (es : List (ℕ × Event)) (t : WorldRun) (end : End)
      → is_long line ≡ false → is_skipped line ≡ true → EventLines s n r ls es t end → EventLines s n r ((number, line) ∷ ls) es t end
  says_none : (n : ℕ) (r : WorldRun) (number : ℕ) (line : List ℕ) (ls : Lines) (cause : Cause) → Counts line → SaysNone s.cluster line cause
      → EventLines s n r ((number, line) ∷ ls) [] r (refused number cause)
  not_allowed : (n : ℕ) (r : WorldRun) (number : ℕ) (line : List ℕ) (ls : Lines) (event : Event) (cause : Cause) → Counts line
      → Says s.cluster line event → IsRefusedFor s r event cause → EventLines s n r ((number, line) ∷ ls) [] r (refused number cause)
  many : (n : ℕ) (r : WorldRun) (number : ℕ) (line : List ℕ) (ls : Lines) (event : Event) → Accepted s r line event → max_events ≤ n
      → EventLines s n r ((number, line) ∷ ls) [] r (limited EventsLimit)
  happens : (n : ℕ) (r m : WorldRun) (number : ℕ) (line : List ℕ) (ls : Lines) (event : Event) (es : List (ℕ × Event)) (t : WorldRun)
      (end : End)
      → Accepted s r line event → n < max_events → Happens s number event r m → EventLines s (n + 1) m ls es t end
      → EventLines s n r ((number, line) ∷ ls) ((number, event) ∷ es) t end

-- the line says no cluster: another word stands in front, or the words are none of a cluster
abbrev pub IsNoCluster : List ℕ → Cause → Type 0
IsNoCluster line NoCluster = first_word line ≢ codes "cluster"
IsNoCluster line BadLine = (first_word line ≡ codes "cluster") × ((s : Setup) → SaysCluster line s → ⊥)
IsNoCluster line _ = ⊥

-- the lines behind the header
pub data ClusterLines : Lines → Script → Option WorldRun → End → Type 0 where
  none_left : ClusterLines [] (record { setup = None; events = [] }) None whole
  long : (number : ℕ) (line : List ℕ) (ls : Lines) → is_long line ≡ true
      → ClusterLines ((number, line) ∷ ls) (record { setup = None; events = [] }) None (limited LineLimit)
  skipped : (number : ℕ) (line : List ℕ) (ls : Lines) (s : Script) (t : Option WorldRun) (end : End)
      → is_long line ≡ false → is_skipped line ≡ true → ClusterLines ls s t end → ClusterLines ((number, line) ∷ ls) s t end
  says_none : (number : ℕ) (line : List ℕ) (ls : Lines) (cause : Cause) → Counts line → IsNoCluster line cause
      → ClusterLines ((number, line) ∷ ls) (record { setup = None; events = [] }) None (refused number cause)
  says : (number : ℕ) (line : List ℕ) (ls : Lines) (setup : Setup) (es : List (ℕ × Event)) (t : WorldRun) (end : End) → Counts line
      → SaysCluster line setup → EventLines setup 0 (start_of setup) ls es t end
      → ClusterLines ((number, line) ∷ ls) (record { setup = Some setup; events = es }) (Some t) end

-- all lines
pub data ScriptLines : Lines → Script → Option WorldRun → End → Type 0 where
  none_left : ScriptLines [] (record { setup = None; events = [] }) None whole
  long : (number : ℕ) (line : List ℕ) (ls : Lines) → is_long line ≡ true
      → ScriptLines ((number, line) ∷ ls) (record { setup = None; events = [] }) None (limited LineLimit)
  skipped : (number : ℕ) (line : List ℕ) (ls : Lines) (s : Script) (t : Option WorldRun) (end : End)
      → is_long line ≡ false → is_skipped line ≡ true → ScriptLines ls s t end → ScriptLines ((number, line) ∷ ls) s t end
  other : (number : ℕ) (line : List ℕ) (ls : Lines) → Counts line → line ≢ header
      → ScriptLines ((number, line) ∷ ls) (record { setup = None; events = [] }) None (refused number NoHeader)
  is_header : (number : ℕ) (line : List ℕ) (ls : Lines) (s : Script) (t : Option WorldRun) (end : End) → Counts line → line ≡ header
      → ClusterLines ls s t end → ScriptLines ((number, line) ∷ ls) s t end

-- the text says this script, whose run stands so at its end, and ends so
abbrev pub IsText : List ℕ → Script → Option WorldRun → End → Type 0
IsText text s t end = ScriptLines (numbered text) s t end

-- each text ends in one way
abbrev pub OneEnd : Type 0
OneEnd = (text : List ℕ) (s x : Script) (t u : Option WorldRun) (end other : End) → IsText text s t end → IsText text x u other
    → (end ≡ other) × (s ≡ x) × (t ≡ u)
