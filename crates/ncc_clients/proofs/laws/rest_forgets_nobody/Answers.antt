use Rattle.ncc_clients.proofs.Sessions.{known}
use Rattle.ncc_clients.proofs.Whole.{rest_forgets_nobody}
use Rattle.ncc_clients.proofs.laws.rest_forgets_nobody.Goals as goal

pub returns : goal.returns
returns g c = record { waits = λ cores replicas id wait. rest_forgets_nobody _ known }
