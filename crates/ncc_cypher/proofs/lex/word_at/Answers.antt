use Rattle.ncc_cypher.proofs.Tokens_read.{word_gives}
use Rattle.ncc_cypher.proofs.lex.word_at.Goals as goal

pub returns-clause-token : goal.returns-clause-token
returns-clause-token c = word_gives c.args.text.now c.word_split.result.0.now c.word_split.result.1.now _ c.requires.some c.requires.letter c.word_split.ensures.front c.word_split.ensures.back c.word_token.ensures
