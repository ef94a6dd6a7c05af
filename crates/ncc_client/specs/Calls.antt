-- Calls of links, what each of them does of what a session wants done, and what it gives the session.
use Rattle.std.specs.Prelude.{◌≡◌, ℕ, Bool, true, false, List, [], ◌∷◌, ◌++◌, Option, Some, None}
use Rattle.std.specs.List.{flat_map}
use Rattle.ncc_driver.specs.declared.action.Action.{Action}
use Rattle.ncc_driver.specs.declared.action.Action.TheVariants as a
use Rattle.ncc_driver.specs.declared.action.Input.{Input}
use Rattle.ncc_driver.specs.declared.action.Input.TheVariants as i

-- a call, and what it gave
pub data Call : Type 0 where
  -- a link to this address was opened, or was not
  connects : List ℕ → Bool → Call
  -- these bytes were sent, or were not
  sends : List ℕ → Bool → Call
  -- these bytes came; or the call failed
  receives : Option (List ℕ) → Call
  closes : Call
  -- until this moment
  pauses : ℕ → Call

abbrev pub action_of : Call → Action
action_of (connects address opened) = a.Connect address
action_of (sends bytes sent) = a.Send bytes
action_of (receives came) = a.Receive
action_of closes = a.Close
action_of (pauses until) = a.Sleep until

-- A call that failed, and one that no byte came of, is a lost link.
abbrev pub given_by : Call → List Input
given_by (connects address true) = i.Connected ∷ []
given_by (connects address false) = i.Lost ∷ []
given_by (sends bytes true) = []
given_by (sends bytes false) = i.Lost ∷ []
given_by (receives (Some (byte ∷ bytes))) = i.Bytes (byte ∷ bytes) ∷ []
given_by (receives (Some [])) = i.Lost ∷ []
given_by (receives None) = i.Lost ∷ []
given_by closes = []
given_by (pauses until) = i.Woken ∷ []

-- what calls give, in their order
abbrev pub given : List Call → List Input
given calls = flat_map given_by calls

-- Where all calls are told now, all were told before, and these have come behind them.
abbrev pub MakesMore : Option (List Call) → Option (List Call) → List Call → Type 0
MakesMore old None calls = Unit {0}
MakesMore None (Some new) calls = ⊥
MakesMore (Some old) (Some new) calls = new ≡ old ++ calls
