use Rattle.ncc_pack.specs.declared.value.Value.TheVariants as v
use Rattle.ncc_tx.proofs.Pairs.{two_adds}
use Rattle.ncc_tx.proofs.write.step_len.Goals as goal

pub returns : goal.returns
returns c =
    two_adds (v.Text c.args.step.now.source)
    (v.Dict c.args.step.now.params) c.text_len.result c.dict_len.result c.saturating_add.result c.saturating_add-2.result
    c.text_len.ensures.length c.dict_len.ensures.length c.saturating_add.ensures c.saturating_add-2.ensures
