use Rattle.std.proofs.Common.{◌≡◌, ◌++◌, drop}
use Rattle.std.specs.List.{flat_map}
use Rattle.ncc_replay.specs.Report.{fact_line}
use Rattle.ncc_replay.proofs.report.append_told.Given as goal

-- what is written so far and those that are left
abbrev pub invariant-loop-one : goal.invariant-loop-one
invariant-loop-one l = l.into ++ flat_map fact_line (drop l.one-index l.told) ≡ l.initial.into ++ flat_map fact_line l.told
