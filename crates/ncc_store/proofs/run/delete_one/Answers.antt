use Rattle.std.proofs.Common.{to_z-of_z}
use Rattle.ncc_store.proofs.Running.{none_deleted}
use Rattle.ncc_store.proofs.run.delete_one.Goals as goal

pub returns-then-is_none-clause-deleted : goal.returns-then-is_none-clause-deleted
returns-then-is_none-clause-deleted c = none_deleted c.args.overlay.now.graph _ c.args.id c.node.result (to_z-of_z c.ranges.id)
    c.if-is_none.ensures c.node.ensures.found
