use Rattle.std.proofs.Common.{◌≡◌, drop}
use Rattle.ncc_store.specs.Exec.{changed}
use Rattle.ncc_store.proofs.run.changed.Given as goal

abbrev pub invariant-loop-change : goal.invariant-loop-change
invariant-loop-change l = changed l.params (drop l.change-index l.changes) l.draft ≡ changed l.params l.changes l.node.props
