use Rattle.std.proofs.Common.{length}
use Rattle.ncc_tx.specs.State.{stamps}
use Rattle.ncc_apply.specs.Meant.{one_each}
use Rattle.ncc_apply.proofs.Unrolled.{earlier_stamp, last_stamp}
use Rattle.ncc_apply.proofs.view.stamps_stay.Goals as goal

pub returns : goal.returns
returns c = record {
  last = λ h i. last_stamp (length h) (stamps h) _ _ (one_each h) (c.stamps_grow.ensures.grows h i);
  earlier = λ h i p le. earlier_stamp (length h) p (stamps h) _ _ (one_each h) (c.stamps_grow.ensures.grows h i) le;
}
