use Rattle.ncc_clients.proofs.Splitting.{lifts_split, fronts_are_taken}
use Rattle.ncc_clients.proofs.laws.moves_lose_nothing.Goals as goal

pub returns : goal.returns
returns c = record { lifts = lifts_split; fronts = fronts_are_taken }
