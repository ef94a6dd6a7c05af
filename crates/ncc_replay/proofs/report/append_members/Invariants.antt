use Rattle.std.proofs.Common.{◌≡◌, ◌++◌, drop}
use Rattle.std.specs.List.{flat_map}
use Rattle.ncc_replay.specs.Report.{member_line}
use Rattle.ncc_replay.proofs.report.append_members.Given as goal

-- what is written so far and those that are left
abbrev pub invariant-loop-member : goal.invariant-loop-member
invariant-loop-member l = l.into ++ flat_map member_line (drop l.member-index l.members) ≡ l.initial.into ++ flat_map member_line l.members
