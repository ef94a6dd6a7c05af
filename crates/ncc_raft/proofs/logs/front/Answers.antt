use Rattle.std.proofs.Common.{◌≡◌, ◌-◌, List, length, ap, ◌∙◌, take, drop}
use Rattle.std.proofs.lemmas.Result.{IfOk-weaker}
use Rattle.ncc_tx.specs.declared.entry.Item.{Item}
use Rattle.ncc_raft.specs.Logs.{allowed_front}
use Rattle.ncc_raft.specs.Fronts.{front_number}
use Rattle.ncc_raft.proofs.Fronts.{front_taken}
use Rattle.ncc_raft.proofs.Sizes.{behind}
use Rattle.ncc_raft.proofs.logs.front.Goals as goal

pub returns : goal.returns
returns c =
    let items = c.args.items.now in
    let number = c.front_len-number.result in
    let place = c.args.place in
    let sizes = c.args.sizes.now in
    let counted = c.front_len-number.ensures.number ∙ ap (front_number 64 1_048_576) (behind place sizes) in
    let fits = ap (λ (l : List Item). take number l) (behind place items) ∙ front_taken items sizes place number c.requires.sizes counted in
    record {
      front = IfOk-weaker c.copy_items.result (λ (es : List Item). es ≡ take number (take (length items - place) (drop place items)))
          (λ (es : List Item). es ≡ allowed_front (drop place items)) (λ es h. h ∙ fits) c.copy_items.ensures.equal;
    }
