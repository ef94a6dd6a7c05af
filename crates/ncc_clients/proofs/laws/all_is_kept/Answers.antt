use Rattle.ncc_clients.proofs.Sessions.{known}
use Rattle.ncc_clients.proofs.Whole.{all_is_kept}
use Rattle.ncc_clients.proofs.laws.all_is_kept.Goals as goal

pub returns : goal.returns
returns g c = record { kept = λ cores replicas id wait. all_is_kept _ known }
