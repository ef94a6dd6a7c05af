use Rattle.ncc_cypher.proofs.Exact.{is_found, is_only, is_refused}
use Rattle.ncc_cypher.proofs.Room.{is_within}
use Rattle.ncc_cypher.proofs.reading.parse.Goals as goal

pub returns-clause-columns : goal.returns-clause-columns
returns-clause-columns c = is_within c.args.source.now c.read.result c.read.ensures

pub returns-clause-found : goal.returns-clause-found
returns-clause-found c = is_found c.args.source.now c.read.result c.read.ensures

pub returns-clause-only : goal.returns-clause-only
returns-clause-only c = is_only c.args.source.now c.read.result c.read.ensures

pub returns-clause-refused : goal.returns-clause-refused
returns-clause-refused c = is_refused c.args.source.now c.read.result c.read.ensures
