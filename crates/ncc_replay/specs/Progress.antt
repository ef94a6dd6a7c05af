-- How far a script is read: what the lines so far make, whatever the lines behind them are.
use Rattle.std.specs.Prelude.{◌≡◌, ℕ, List, ◌++◌, Option, None, Some}
use Rattle.std.specs.List.{enumerate_from}
use Rattle.ncc_world.specs.declared.setup.Setup.{Setup}
use Rattle.ncc_world.specs.declared.event.Event.{Event}
use Rattle.ncc_world.specs.Happening.{WorldRun}
use Rattle.ncc_world.specs.World.{Kept, Stands}
use Rattle.ncc_replay.specs.Script.{Script, End, refused, limited, Lines, lines_of, EventLines, ClusterLines, ScriptLines}
use Rattle.ncc_replay.specs.declared.script.Progress.{Progress}
use Rattle.ncc_replay.specs.declared.script.Progress.TheVariants.{Header, Cluster, Events}
use Rattle.ncc_replay.specs.declared.script.ScriptError.{ScriptError}
use Rattle.ncc_replay.specs.declared.script.ScriptError.TheVariants.{Bad, Limit, Memory}

-- the lines of a text, where its first line has this number
abbrev pub lines_from : ℕ → List ℕ → Lines
lines_from number text = enumerate_from number (lines_of text)

-- so many lines were events, the world stands for their run, and the lines that are left go on from there
pub record Reached (all rest : Lines) (count : ℕ) (world : Kept) : Type 0 where
  pub setup : Setup
  pub run : WorldRun
  pub done : List (ℕ × Event)
  pub setup_is : world.setup ≡ setup
  pub stands : Stands world run
  pub goes_on : (es : List (ℕ × Event)) (t : WorldRun) (end : End) → EventLines setup count run rest es t end
      → ScriptLines all (record { setup = Some setup; events = done ++ es }) (Some t) end

-- of all the lines these are left, and what they are makes of all lines what it makes
abbrev pub GoesOn : Lines → Lines → Progress → Type 0
GoesOn all rest Header = (s : Script) (t : Option WorldRun) (end : End) → ScriptLines rest s t end → ScriptLines all s t end
GoesOn all rest Cluster = (s : Script) (t : Option WorldRun) (end : End) → ClusterLines rest s t end → ScriptLines all s t end
GoesOn all rest (Events count world) = Reached all rest count world

-- all lines end so
abbrev pub EndsAt : Lines → End → Type 0
EndsAt all end = (s : Script) × (t : Option WorldRun) × ScriptLines all s t end

abbrev pub EndsSo : Lines → ScriptError → Type 0
EndsSo all (Bad line cause) = EndsAt all (refused line cause)
EndsSo all (Limit which) = EndsAt all (limited which)
EndsSo all Memory = Unit {0}

-- the world stands for the run of the script, where the script has a cluster
abbrev pub IsRunOf : Option Kept → Script → Option WorldRun → Type 0
IsRunOf None s t = (s.setup ≡ None) × (t ≡ None)
IsRunOf (Some world) s t = (r : WorldRun) × (s.setup ≡ Some world.setup) × (t ≡ Some r) × Stands world r
