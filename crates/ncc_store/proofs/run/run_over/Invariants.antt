use Rattle.std.proofs.Common.{◌≡◌, drop, map}
use Rattle.ncc_store.specs.Exec.{call_of, behind, exec}
use Rattle.ncc_store.proofs.run.run_over.Given as goal

abbrev pub invariant-loop-next : goal.invariant-loop-next
invariant-loop-next l = record {
  so_far : behind l.rows (exec l.overlay.graph (map call_of (drop l.next-index l.next-items)))
      ≡ exec l.fn.begin.graph (map call_of l.fn.steps);
  base : l.overlay.base ≡ l.fn.begin.base;
}
