use Rattle.std.proofs.Common.{◌∙◌}
use Rattle.ncc_store.proofs.Drafts.{owned_at}
use Rattle.ncc_store.proofs.props.PropertyMap.value_at.Goals as goal

pub returns : goal.returns
returns c = rw (← c.self.view_is) (c.get.ensures.value ∙ owned_at c.args.key.now c.self.inside.pairs.entries)
