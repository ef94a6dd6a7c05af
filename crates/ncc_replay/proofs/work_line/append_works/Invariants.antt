use Rattle.std.proofs.Common.{◌≡◌, ◌++◌, drop}
use Rattle.std.specs.List.{flat_map}
use Rattle.ncc_replay.specs.Report.{work_line}
use Rattle.ncc_replay.proofs.work_line.append_works.Given as goal

-- what is written so far and those that are left
abbrev pub invariant-loop-work : goal.invariant-loop-work
invariant-loop-work l = l.into ++ flat_map work_line (drop l.work-index l.works) ≡ l.initial.into ++ flat_map work_line l.works
