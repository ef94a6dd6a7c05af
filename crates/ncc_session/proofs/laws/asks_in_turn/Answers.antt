use Rattle.ncc_session.proofs.Asked.{asks_fine}
use Rattle.ncc_session.proofs.Asking_by.{asks_on_bytes, asks_on_facts}
use Rattle.ncc_session.proofs.laws.asks_in_turn.Goals as goal

pub returns-clause-bytes : goal.returns-clause-bytes
returns-clause-bytes c = asks_on_bytes

pub returns-clause-facts : goal.returns-clause-facts
returns-clause-facts c = asks_on_facts

pub returns-clause-may : goal.returns-clause-may
returns-clause-may c = asks_fine
