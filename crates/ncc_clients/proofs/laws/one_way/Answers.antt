use Rattle.ncc_clients.proofs.Turning.{turns_are_small}
use Rattle.ncc_clients.proofs.OneWay.{one_way}
use Rattle.ncc_clients.proofs.laws.one_way.Goals as goal

pub returns-clause-small : goal.returns-clause-small
returns-clause-small g c = λ cores replicas id wait. turns_are_small _

pub returns-clause-same : goal.returns-clause-same
returns-clause-same g c = λ cores replicas id wait. one_way _
