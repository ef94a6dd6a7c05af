use Rattle.std.proofs.Common.{◌≡◌, ◌++◌, drop}
use Rattle.std.specs.List.{flat_map}
use Rattle.ncc_replay.specs.Report.{out_line}
use Rattle.ncc_replay.proofs.report.append_outs.Given as goal

-- what is written so far and those that are left
abbrev pub invariant-loop-conn : goal.invariant-loop-conn
invariant-loop-conn l = l.into ++ flat_map out_line (drop l.conn-index l.conns) ≡ l.initial.into ++ flat_map out_line l.conns
