use Rattle.std.proofs.Common.{◌≡◌, drop}
use Rattle.ncc_store.specs.Layers.{with_gone}
use Rattle.ncc_store.proofs.overlay.write_gone.Given as goal

abbrev pub invariant-loop-id : goal.invariant-loop-id
invariant-loop-id l = with_gone l.written.entries (drop l.id-index l.gone) ≡ with_gone l.fn.written.entries l.gone
