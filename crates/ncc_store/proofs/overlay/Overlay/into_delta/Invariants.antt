use Rattle.std.proofs.Common.{◌≡◌, ◌++◌}
use Rattle.ncc_store.proofs.Changes.{put_of, gone_of}
use Rattle.ncc_store.proofs.Least.{Thins}
use Rattle.ncc_store.proofs.overlay.Overlay.into_delta.Given as goal

abbrev pub invariant-loop-id : goal.invariant-loop-id
invariant-loop-id l = record {
  can_next : goal.iterator-loop-id.can_next l.id-iterator;
  finite : goal.iterator-loop-id.is_finite l.id-iterator;
  put : Thins l.base l.put (put_of l.id-iterator) (put_of l.initial.id-iterator);
  gone : l.gone ++ gone_of l.below l.id-iterator ≡ gone_of l.below l.initial.id-iterator;
}
