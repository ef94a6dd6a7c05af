use Rattle.std.proofs.Common.{◌≢◌, take}
use Rattle.std.specs.Prelude.{None}
use Rattle.ncc_driver.specs.Answers.{servers_in}
use Rattle.ncc_driver.proofs.answers.are_servers.Given as goal

-- the values so far are entries
abbrev pub invariant-loop-value : goal.invariant-loop-value
invariant-loop-value l = servers_in (take l.value-index l.values) ≢ None
