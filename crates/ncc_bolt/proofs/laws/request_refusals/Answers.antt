use Rattle.ncc_bolt.specs.Messages.{SpellsRequest}
use Rattle.ncc_bolt.specs.Table.{requests}
use Rattle.ncc_bolt.proofs.Explained.{exactly, never, explained, request_table}
use Rattle.ncc_bolt.proofs.laws.request_refusals.Goals as goal

pub returns-clause-exactly : goal.returns-clause-exactly
returns-clause-exactly c = exactly requests SpellsRequest request_table

pub returns-clause-never : goal.returns-clause-never
returns-clause-never c = never requests SpellsRequest request_table

pub returns-clause-explained : goal.returns-clause-explained
returns-clause-explained c = explained requests SpellsRequest request_table
