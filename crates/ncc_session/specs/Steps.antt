-- What the functions over a connection's parts make of a session's inputs. No public clause speaks of it.
use Rattle.std.specs.Prelude.{◌≡◌, ◌⊎◌, ℕ, Bool, false, not, List, [], ◌++◌, length}
use Rattle.ncc_chunk.specs.Inflow.{Inflow, Stands as StandsFor}
use Rattle.ncc_stream.specs.Stream.{going, behind}
use Rattle.ncc_session.specs.declared.config.ConnConfig.{ConnConfig}
use Rattle.ncc_session.specs.Question.{Output, bytes_of}
use Rattle.ncc_session.specs.Core.{Doing, asks, Situation}
use Rattle.ncc_session.specs.Session.{Input, move, is_ended}
use Rattle.ncc_session.specs.Talk.{inputs_behind}

abbrev pub may_go : Doing → Bool → Bool
may_go (asks question next) live = false
may_go _ live = live

-- the session takes what comes in and does something by it: it has not ended, and no question waits
abbrev pub may_read : Situation → Bool
may_read place = may_go place.doing (not (is_ended place.state))

-- From one place to another the machine went by some of its inputs, and what it put out stands behind what was there.
pub record Went (config : ConnConfig) (from : Situation) (all : List Input) (before : List ℕ) (to : Situation) (left : List Input)
    (after : List ℕ) : Type 0 where
  pub written : List Output
  pub same : going (move config) from all [] ≡ behind written (going (move config) to left [])
  pub out_is : after ≡ before ++ bytes_of written

-- there is nothing more to do
abbrev pub IsStill : Situation → List Input → Type 0
IsStill place left = (may_read place ≡ false) ⊎ (left ≡ [])

-- the same by a dechunker, which handed out messages behind those that it had handed out; where it says so there is nothing more to do
pub record Gone (config : ConnConfig) (from : Situation) (before : List ℕ) (to : Situation) (inflow : Inflow) (after : List ℕ) (stream : List ℕ)
    (handed : List (List ℕ)) (more : Bool) : Type 0 where
  pub later : List (List ℕ)
  pub stands : StandsFor inflow stream later
  pub went : Went config from (inputs_behind stream (length handed)) before to (inputs_behind stream (length later)) after
  pub still : more ≡ false → IsStill to (inputs_behind stream (length later))

abbrev pub Nexts : ConnConfig → Situation → Inflow → List ℕ → Situation → Inflow → List ℕ → Bool → Type 0
Nexts config from inflow before to flow after more =
    (stream : List ℕ) (handed : List (List ℕ)) → StandsFor inflow stream handed
    → Gone config from before to flow after stream handed more

abbrev pub Settles : ConnConfig → Situation → Inflow → List ℕ → Situation → Inflow → List ℕ → Type 0
Settles config from inflow before to flow after = Nexts config from inflow before to flow after false

-- What was written is the first of what the machine puts out.
pub record Begun (config : ConnConfig) (from : Situation) (all : List Input) (before after : List ℕ) : Type 0 where
  pub front : List Output
  pub rest : List Output
  pub begins : (going (move config) from all []).written ≡ front ++ rest
  pub out_is : after ≡ before ++ bytes_of front

abbrev pub SettleBreaks : ConnConfig → Situation → Inflow → List ℕ → List ℕ → Type 0
SettleBreaks config from inflow before after =
    (stream : List ℕ) (handed : List (List ℕ)) → StandsFor inflow stream handed
    → Begun config from (inputs_behind stream (length handed)) before after
