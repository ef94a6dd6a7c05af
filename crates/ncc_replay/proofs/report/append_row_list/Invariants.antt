use Rattle.std.proofs.Common.{◌≡◌, ◌++◌, drop}
use Rattle.std.specs.List.{flat_map}
use Rattle.ncc_pack.specs.declared.value.Value.TheVariants as v
use Rattle.ncc_pack.specs.Short.{short}
use Rattle.ncc_replay.proofs.report.append_row_list.Given as goal

-- what is written so far and the rows that are left
abbrev pub invariant-loop-row : goal.invariant-loop-row
invariant-loop-row l =
    l.into ++ flat_map (λ row. short (v.List row)) (drop l.row-index l.rows) ≡ l.initial.into ++ flat_map (λ row. short (v.List row)) l.rows
