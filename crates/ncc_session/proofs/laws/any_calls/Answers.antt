use Rattle.ncc_session.proofs.Calls.{stands_for_all, cuts_dont_matter}
use Rattle.ncc_session.proofs.laws.any_calls.Goals as goal

pub returns-clause-all : goal.returns-clause-all
returns-clause-all c = stands_for_all

pub returns-clause-cuts : goal.returns-clause-cuts
returns-clause-cuts c = cuts_dont_matter
