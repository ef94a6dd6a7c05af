use Rattle.ncc_clients.proofs.Telling.{tells_its_bookmark}
use Rattle.ncc_clients.proofs.Transacting.{enters_once}
use Rattle.ncc_clients.proofs.Routing.{routes_alone}
use Rattle.ncc_clients.proofs.laws.one_transaction.Goals as goal

pub returns : goal.returns
returns c = record { enters = enters_once; tells = tells_its_bookmark; routes = routes_alone }
