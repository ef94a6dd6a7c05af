-- What a session says of the end of a work has a spelling.
use Rattle.std.specs.Prelude.{Bool, true, ◌&&◌, List, Result, Ok, Err}
use Rattle.std.specs.List.{list_all}
use Rattle.ncc_pack.specs.declared.value.Value.TheVariants as v
use Rattle.ncc_pack.specs.Fits.{fits}
use Rattle.ncc_driver.specs.declared.action.Action.{Action}
use Rattle.ncc_driver.specs.declared.action.Action.TheVariants.{Finish}
use Rattle.ncc_driver.specs.declared.action.WorkDone.{WorkDone}
use Rattle.ncc_driver.specs.declared.action.WorkError.{WorkError}
use Rattle.ncc_driver.specs.declared.action.WorkError.TheVariants as e
use Rattle.ncc_driver.specs.declared.action.Last.{Last}
use Rattle.ncc_driver.specs.declared.action.Last.TheVariants as last
use Rattle.ncc_driver.specs.Work.{rows_fit}

-- a code is a text with a spelling
abbrev pub reason_fits : Last → Bool
reason_fits (last.Code code) = fits (v.Text code)
reason_fits _ = true

-- The rows fit as one list of rows, and bookmark and code are texts with a spelling.
abbrev pub end_fits : Result WorkDone WorkError → Bool
end_fits (Ok done) = rows_fit done.rows && fits (v.Text done.bookmark)
end_fits (Err (e.RetriesSpent attempts reason)) = reason_fits reason
end_fits (Err (e.Refused attempts code)) = fits (v.Text code)
end_fits (Err (e.BadReply number)) = true

-- An end fits; the other actions say nothing of one.
abbrev pub action_fits : Action → Bool
action_fits (Finish end) = end_fits end
action_fits _ = true

abbrev pub ends_fit : List Action → Bool
ends_fit actions = list_all action_fits actions
