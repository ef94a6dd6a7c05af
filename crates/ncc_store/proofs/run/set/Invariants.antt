use Rattle.std.proofs.Common.{◌≡◌, drop}
use Rattle.ncc_store.specs.Exec.{set}
use Rattle.ncc_store.proofs.run.set.Given as goal

abbrev pub invariant-loop-id : goal.invariant-loop-id
invariant-loop-id l = record {
  so_far : set l.params l.changes l.overlay.graph (drop l.id-index l.ids) ≡ set l.params l.changes l.fn.overlay.graph l.fn.ids;
  base : l.overlay.base ≡ l.fn.overlay.base;
}
