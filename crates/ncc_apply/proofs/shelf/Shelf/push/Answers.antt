use Rattle.std.proofs.Common.{◌≡◌, ◌∙◌, ◌++◌, ◌∷◌, [], List, ap, ap₂, sym}
use Rattle.ncc_store.specs.Graph.{Graph}
use Rattle.ncc_tx.specs.declared.stamp.Stamp.{Stamp}
use Rattle.ncc_tx.specs.State.{after, stamp_at, stamps, state}
use Rattle.ncc_apply.specs.Runs.{unrolled}
use Rattle.ncc_apply.specs.Shelf.{Shown}
use Rattle.ncc_apply.proofs.shelf.Shelf.push.Goals as goal

pub returns-clause-ok : goal.returns-clause-ok
returns-clause-ok c = λ h s.
    let item = c.args.item.now in
    let store : c.self.inside.store ≡ state h = ap (λ (x : Shown). x.graph) c.self.view_is ∙ s.graph in
    let before : unrolled 0 c.self.inside.runs.items ≡ stamps h = ap (λ (x : Shown). x.stamps) c.self.view_is ∙ s.stamps in
    let stamp = c.in_ok-stamp.ensures.stamp ∙ ap (λ (g : Graph). stamp_at g item) store in
    record {
      graph =
          c.in_ok-stamp.ensures.after ∙ ap (λ (g : Graph). after g item.entry) store ∙ sym (c.state_grows.ensures.grows h item);
      stamps =
          c.add.ensures.stamps ∙ ap₂ (λ (l : List Stamp) (x : Stamp). l ++ x ∷ []) (ap (unrolled 0) c.reserve.ensures.items ∙ before) stamp
          ∙ sym (c.stamps_grow.ensures.grows h item);
    }
