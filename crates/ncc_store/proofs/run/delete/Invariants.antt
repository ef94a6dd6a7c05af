use Rattle.std.proofs.Common.{◌≡◌, drop}
use Rattle.ncc_store.specs.Exec.{deleted}
use Rattle.ncc_store.proofs.run.delete.Given as goal

abbrev pub invariant-loop-id : goal.invariant-loop-id
invariant-loop-id l = record {
  so_far : deleted l.overlay.graph (drop l.id-index l.ids) ≡ deleted l.fn.overlay.graph l.fn.ids;
  base : l.overlay.base ≡ l.fn.overlay.base;
}
