use Rattle.std.proofs.Common.{◌≡◌, ◌∙◌, length, ap, arith}
use Rattle.ncc_tx.specs.State.{stamps}
use Rattle.ncc_apply.specs.Meant.{one_each}
use Rattle.ncc_apply.specs.Runs.{end_of, unrolled}
use Rattle.ncc_apply.specs.Shelf.{Shown}
use Rattle.ncc_apply.proofs.Unrolled.{places}
use Rattle.ncc_apply.proofs.shelf.ShelfView.at.Goals as goal

pub returns : goal.returns
returns c = record {
  length = λ h s.
      let runs = c.self.inside.runs.items in
      let last : c.last_place.result ≡ end_of 0 runs = c.last_place.ensures ∙ ap (end_of 0) c.as_slice.ensures.value in
      let all : unrolled 0 runs ≡ stamps h = ap (λ (x : Shown). x.stamps) c.self.view_is ∙ s.stamps in
      omega (arith, last, places 0 runs c.self.invariant, ap length all, one_each h);
}
