use Rattle.ncc_cypher.proofs.Exact.{spelled, stopped}
use Rattle.ncc_cypher.proofs.Room.{within}
use Rattle.ncc_cypher.proofs.laws.every_source_is_one.Goals as goal

pub returns-clause-spelled : goal.returns-clause-spelled
returns-clause-spelled c = spelled

pub returns-clause-stopped : goal.returns-clause-stopped
returns-clause-stopped c = stopped

pub returns-clause-columns : goal.returns-clause-columns
returns-clause-columns c = within
