use Rattle.ncc_stream.proofs.Going.{going_none, going_some, comes_to_rest}
use Rattle.ncc_stream.proofs.one_move.Goals as goal

pub returns-clause-waits : goal.returns-clause-waits
returns-clause-waits r c = λ move lawful core xs fs e. going_none move lawful core xs fs e

pub returns-clause-moves : goal.returns-clause-moves
returns-clause-moves r c = λ move lawful core xs fs t e. going_some move lawful core xs fs t e

pub returns-clause-rests : goal.returns-clause-rests
returns-clause-rests r c = λ move lawful core xs fs. comes_to_rest move lawful core xs fs
