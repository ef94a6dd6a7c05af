use Rattle.ncc_driver.proofs.LawsGrammar.{bad_outside_grammar, failed_by_code, committed_by_bookmark}
use Rattle.ncc_driver.proofs.laws.tells_by_grammar.Goals as goal

pub returns : goal.returns
returns c = record { bad = bad_outside_grammar; failed = failed_by_code; committed = committed_by_bookmark }
