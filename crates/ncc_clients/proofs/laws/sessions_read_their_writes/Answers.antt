use Rattle.ncc_clients.proofs.Sessions.{known}
use Rattle.ncc_clients.proofs.Reading.{sessions_read}
use Rattle.ncc_clients.proofs.Drivers.{driver_says}
use Rattle.ncc_clients.proofs.laws.sessions_read_their_writes.Goals as goal

pub returns : goal.returns
returns g c = record { read = λ cores replicas id wait. sessions_read _ known driver_says }
