use Rattle.std.proofs.Common.{◌≡◌, ◌++◌, All, filter, option_copied}
use Rattle.ncc_store.specs.Exec.{taken}
use Rattle.ncc_store.specs.Graph.{ids}
use Rattle.ncc_store.specs.Pattern.{wanted_of}
use Rattle.ncc_store.specs.Layers.{IsNodeAt}
use Rattle.ncc_store.proofs.Changes.{put_of}
use Rattle.ncc_store.proofs.overlay.add_made.Given as goal

abbrev pub invariant-loop-made : goal.invariant-loop-made
invariant-loop-made l = record {
  can_next : goal.iterator-loop-made.can_next l.made-iterator;
  finite : goal.iterator-loop-made.is_finite l.made-iterator;
  stand : All (λ e. IsNodeAt e.0 e.1) l.made-iterator;
  so_far : l.found.items ++ ids (filter (taken (option_copied l.label) (wanted_of l.wanted)) (put_of l.made-iterator))
      ≡ l.fn.found.items ++ ids (filter (taken (option_copied l.label) (wanted_of l.wanted)) (put_of l.initial.made-iterator));
}
