use Rattle.std.proofs.Common.{◌+◌, ◌^◌, ◌<◌, List, length, subst, sym, vec_capacity, vec_len}
use Rattle.std.specs.Prelude.{OnErr}
use Rattle.ncc_tx.specs.declared.entry.Item.{Item}
use Rattle.ncc_tx.specs.Items.{counted}
use Rattle.ncc_tx.proofs.ItemBytes.{full_of}
use Rattle.ncc_log.proofs.PayloadBytes.{few_items}
use Rattle.ncc_log.proofs.payload.put_items.Goals as goal

pub items_within-requires-clause-few : goal.items_within-requires-clause-few
items_within-requires-clause-few c =
    subst (λ (l : List Item). length l < 2 ^ 32) (sym c.as_slice.ensures.same) (few_items c.args.change.now c.requires)

pub returns-clause-full : goal.returns-clause-full
returns-clause-full c =
    subst (λ (l : List Item). OnErr c.items_within.result (vec_capacity c.args.body.now < vec_len c.args.body.now + length (counted l)))
    c.as_slice.ensures.same
    (full_of c.items_within.result (vec_len c.args.body.now + length (counted c.as_slice.result.now)) (vec_capacity c.args.body.now)
    c.items_within.ensures.roomy)
