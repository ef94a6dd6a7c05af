use Rattle.std.proofs.Common.{◌≡◌, ◌++◌, filter, drop, option_copied}
use Rattle.ncc_store.specs.Exec.{taken}
use Rattle.ncc_store.specs.Graph.{ids}
use Rattle.ncc_store.specs.Pattern.{wanted_of}
use Rattle.ncc_store.specs.Layers.{seen_below}
use Rattle.ncc_store.proofs.overlay.add_below.Given as goal

abbrev pub invariant-loop-below : goal.invariant-loop-below
invariant-loop-below l =
    l.found.items ++ ids (filter (taken (option_copied l.label) (wanted_of l.wanted)) (seen_below l.written.entries
    (drop l.below-index l.nodes)))
    ≡ l.fn.found.items ++ ids (filter (taken (option_copied l.label) (wanted_of l.wanted)) (seen_below l.written.entries l.nodes))
