use Rattle.ncc_cypher.specs.Class.{is_word}
use Rattle.ncc_cypher.proofs.Small.{cut, word_small}
use Rattle.ncc_cypher.proofs.word.word_split.Goals as goal

pub split_at-requires : goal.split_at-requires
split_at-requires c = rw (c.word_len-n.ensures, c.as_bytes.ensures.value) (cut is_word c.args.text.now word_small c.utf8.text)
