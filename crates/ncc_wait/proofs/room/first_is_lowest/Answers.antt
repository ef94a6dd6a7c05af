use Rattle.ncc_wait.proofs.Firsts.{lowest, nobody}
use Rattle.ncc_wait.proofs.room.first_is_lowest.Goals as goal

pub returns : goal.returns
returns c = record { nobody = nobody; lowest = lowest }
