use Rattle.std.proofs.Common.{ltb, subst, arith, rules}
use Rattle.std.proofs.lemmas.List.Sorted.{IsPartitionPoint-from_clause, IsPartitionedBy-ltb}
use Rattle.ncc_apply.specs.declared.runs.Run.{Run}
use Rattle.ncc_apply.proofs.Unrolled.{Parted, rises, stamp_found, stamp_none}
use Rattle.ncc_apply.proofs.runs.stamp_at.Goals as goal

pub returns-then-index-runs : goal.returns-then-index-runs
returns-then-index-runs c =
    let apart = IsPartitionedBy-ltb (λ (r : Run). r.until) _ c.args.place (rises 0 c.args.runs.now c.requires) in
    let point : Parted c.args.runs.now c.args.place c.partition_point-index.result =
    IsPartitionPoint-from_clause (λ (r : Run). ltb r.until c.args.place) _ _ c.partition_point-index.ensures.partitioned apart
    (λ a r q k. search rules) in
    stamp_none c.args.place c.args.runs.now c.requires (omega arith)
    (subst (λ n. Parted c.args.runs.now c.args.place n) c.if-index-runs.true point)

pub returns : goal.returns
returns c =
    let apart = IsPartitionedBy-ltb (λ (r : Run). r.until) _ c.args.place (rises 0 c.args.runs.now c.requires) in
    let point : Parted c.args.runs.now c.args.place c.partition_point-index.result =
    IsPartitionPoint-from_clause (λ (r : Run). ltb r.until c.args.place) _ _ c.partition_point-index.ensures.partitioned apart
    (λ a r q k. search rules) in
    stamp_found c.args.place c.partition_point-index.result c.args.runs.now _ c.requires (omega arith) point (omega arith)
