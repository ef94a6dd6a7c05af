use Rattle.ncc_bolt.specs.Messages.{SpellsResponse}
use Rattle.ncc_bolt.specs.Table.{responses}
use Rattle.ncc_bolt.proofs.Explained.{exactly, never, explained, response_table}
use Rattle.ncc_bolt.proofs.laws.response_refusals.Goals as goal

pub returns-clause-exactly : goal.returns-clause-exactly
returns-clause-exactly c = exactly responses SpellsResponse response_table

pub returns-clause-never : goal.returns-clause-never
returns-clause-never c = never responses SpellsResponse response_table

pub returns-clause-explained : goal.returns-clause-explained
returns-clause-explained c = explained responses SpellsResponse response_table
