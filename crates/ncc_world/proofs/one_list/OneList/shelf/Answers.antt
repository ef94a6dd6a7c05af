use Rattle.ncc_world.proofs.Listing.{shelf_at}
use Rattle.ncc_world.proofs.one_list.OneList.shelf.Goals as goal

pub returns : goal.returns
returns c = record {
  stands = λ s lists k. (shelf_at _ _ lists c.args.index c.index.result.now k.shelves c.requires.there c.index.ensures).stands;
}
