use Rattle.ncc_cypher.proofs.Reparse.{again_of}
use Rattle.ncc_cypher.proofs.printing.print.Goals as goal

pub returns-clause-again : goal.returns-clause-again
returns-clause-again c = λ source w. again_of c.args.statement.now source c.text_of.result w c.text_of.ensures
