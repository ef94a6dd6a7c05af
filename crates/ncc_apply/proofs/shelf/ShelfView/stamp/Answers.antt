use Rattle.std.proofs.Common.{◌≡◌, ◌∙◌, ap}
use Rattle.ncc_tx.specs.State.{stamps}
use Rattle.ncc_apply.specs.Meant.{one_each}
use Rattle.ncc_apply.specs.Runs.{unrolled}
use Rattle.ncc_apply.specs.Shelf.{Shown}
use Rattle.ncc_apply.specs.View.{stamp_of}
use Rattle.ncc_apply.proofs.Unrolled.{stamped_there}
use Rattle.ncc_apply.proofs.shelf.ShelfView.stamp.Goals as goal

pub returns-clause-there : goal.returns-clause-there
returns-clause-there c = λ h s.
    let all : unrolled 0 c.self.inside.runs.items ≡ stamps h = ap (λ (x : Shown). x.stamps) c.self.view_is ∙ s.stamps in
    let told = c.stamp_at.ensures ∙ ap (λ rs. stamp_of c.args.place (unrolled 0 rs)) c.as_slice.ensures.value
    ∙ ap (stamp_of c.args.place) all in
    rw (← one_each h) (stamped_there c.args.place (stamps h) c.stamp_at.result told)
