use Rattle.ncc_session.proofs.Holding.{are_transactions}
use Rattle.ncc_session.proofs.Presenting.{needs_the_greatest}
use Rattle.ncc_session.proofs.transactions.any_questions.Goals as goal

pub returns-clause-transactions : goal.returns-clause-transactions
returns-clause-transactions c = are_transactions

pub returns-clause-need : goal.returns-clause-need
returns-clause-need c = needs_the_greatest
