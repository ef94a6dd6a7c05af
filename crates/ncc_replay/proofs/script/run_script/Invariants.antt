use Rattle.std.proofs.Common.{◌+◌, ◌≤◌, length}
use Rattle.ncc_replay.specs.Script.{numbered}
use Rattle.ncc_replay.specs.Progress.{GoesOn, lines_from}
use Rattle.ncc_replay.proofs.script.run_script.Given as goal

-- what is read makes what it makes, and the lines behind it count on
abbrev pub invariant-lines : goal.invariant-lines
invariant-lines l = record {
  goes : GoesOn (numbered l.text) (lines_from (l.number + 1) l.rest) l.progress;
  counted : l.number + length l.rest ≤ length l.text;
}

abbrev pub decreases-lines : goal.decreases-lines
decreases-lines l = length l.rest
