use Rattle.ncc_cypher.specs.Token.{is_blank}
use Rattle.ncc_cypher.proofs.Small.{cut, blank_small}
use Rattle.ncc_cypher.proofs.word.past_blanks.Goals as goal

pub split_at-requires : goal.split_at-requires
split_at-requires c = rw (c.blanks_len-n.ensures, c.as_bytes.ensures.value) (cut is_blank c.args.text.now blank_small c.utf8.text)
