use Rattle.ncc_store.proofs.Lasting.{stays_placed}
use Rattle.ncc_store.proofs.laws.ids_stay_placed.Goals as goal

pub returns : goal.returns
returns c = record { placed = stays_placed }
