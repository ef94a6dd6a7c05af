-- What a replay reads and writes.
use Rattle.std.specs.Prelude.{◌≡◌, ◌⊎◌, ℕ, ◌<◌, ◌≤◌, List, [], ◌∷◌, length, codes, Option, None, Some}
use Rattle.std.specs.Io.KnownBytes.{Consumes, IsAtEnd}
use Rattle.ncc_world.specs.declared.setup.Setup.{Setup}
use Rattle.ncc_world.specs.declared.event.Event.{Event}
use Rattle.ncc_world.specs.declared.error.Which.{Which}
use Rattle.ncc_world.specs.declared.error.Which.TheVariants.{Script as ScriptLimit}
use Rattle.ncc_world.specs.Happening.{WorldRun}
use Rattle.ncc_replay.specs.Script.{Script, End, whole, refused, limited, IsText}
use Rattle.ncc_replay.specs.declared.status.Status.{Status}
use Rattle.ncc_replay.specs.declared.status.Status.TheVariants.{Done, ReadFault, WriteFault, BadScript, Limit, Memory}
use Rattle.ncc_replay.specs.declared.input.ReadError.{ReadError}
use Rattle.ncc_replay.specs.declared.input.ReadError.TheVariants.{Fault, TooLong}
use Rattle.ncc_replay.specs.declared.input.ReadError.TheVariants as reading
use Rattle.ncc_replay.specs.declared.script.ScriptError.{ScriptError}
use Rattle.ncc_replay.specs.declared.script.ScriptError.TheVariants.{Bad}
use Rattle.ncc_replay.specs.declared.script.ScriptError.TheVariants as refusing

-- the most bytes that a script may have
abbrev pub most_bytes : ℕ
most_bytes = 268_435_456

-- the words of a command line that runs a script
abbrev pub run_words : List (List ℕ)
run_words = codes "run" ∷ []

-- these are all the bytes that the source had left, where it tells them, and none are left
pub record ReadsAll (old new : Option (List ℕ)) (text : List ℕ) : Type 0 where
  pub consumed : Consumes old new text
  pub ended : IsAtEnd new
  pub within : length text ≤ most_bytes

-- the whole input was a text that says this script, whose run stands so at its end, and ends so
pub record ReadsTo (old new : Option (List ℕ)) (s : Script) (t : Option WorldRun) (end : End) : Type 0 where
  pub text : List ℕ
  pub reads : ReadsAll old new text
  pub is_text : IsText text s t end

-- it was a script as a whole
abbrev pub Reads : Option (List ℕ) → Option (List ℕ) → Script → Option WorldRun → Type 0
Reads old new s t = ReadsTo old new s t whole

-- it ends so
abbrev pub ReadsUpTo : Option (List ℕ) → Option (List ℕ) → End → Type 0
ReadsUpTo old new end = (s : Script) × (t : Option WorldRun) × ReadsTo old new s t end

-- the source had more bytes left than a script may have, where it tells them
abbrev pub IsTooLong : Option (List ℕ) → Type 0
IsTooLong None = Unit {0}
IsTooLong (Some text) = most_bytes < length text

-- the input passes this limit: as a whole, or at a line
abbrev pub Passes : Option (List ℕ) → Option (List ℕ) → Which → Type 0
Passes old new ScriptLimit = IsTooLong old
Passes old new which = ReadsUpTo old new (limited which)

-- it holds of the script's cluster, its events and their run, where the script has a cluster
abbrev pub OfRun : (Setup → List (ℕ × Event) → WorldRun → Type 0) → Script → Option WorldRun → Type 0
OfRun P s t = (setup : Setup) (r : WorldRun) → s.setup ≡ Some setup → t ≡ Some r → P setup s.events r

-- the words are right, and the source has exactly these bytes left
pub record IsGiven (words : List (List ℕ)) (left : Option (List ℕ)) (text : List ℕ) : Type 0 where
  pub right_words : words ≡ run_words
  pub holds : left ≡ Some text

-- how a replay ends whose input is not read
abbrev pub status_of_read_error : ReadError → Status
status_of_read_error Fault = ReadFault
status_of_read_error TooLong = Limit ScriptLimit
status_of_read_error reading.Memory = Memory

-- how a replay ends whose input gives no run
abbrev pub status_of_script_error : ScriptError → Status
status_of_script_error (Bad line cause) = BadScript line cause
status_of_script_error (refusing.Limit which) = Limit which
status_of_script_error refusing.Memory = Memory

-- how a replay of a text ends
abbrev pub status_of : End → Status
status_of whole = Done
status_of (refused line cause) = BadScript line cause
status_of (limited which) = Limit which

-- it ends so, unless source or sink fail or memory runs out
abbrev pub MayEnd : Status → Status → Type 0
MayEnd status expected = (status ≡ expected) ⊎ ((status ≡ Memory) ⊎ ((status ≡ ReadFault) ⊎ (status ≡ WriteFault)))
