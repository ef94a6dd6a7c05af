use Rattle.std.proofs.Common.{arith}
use Rattle.ncc_world.proofs.Listing.{shelf_count}
use Rattle.ncc_world.proofs.one_list.OneList.count.Goals as goal

pub returns : goal.returns
returns c = record { count = λ s lists k. omega (arith, c.len.ensures, shelf_count _ _ lists k.shelves); shelves = omega (arith, c.len.ensures) }
