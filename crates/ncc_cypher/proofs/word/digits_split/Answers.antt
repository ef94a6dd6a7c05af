use Rattle.ncc_cypher.specs.Class.{is_digit}
use Rattle.ncc_cypher.proofs.Small.{cut, digit_small}
use Rattle.ncc_cypher.proofs.word.digits_split.Goals as goal

pub split_at-requires : goal.split_at-requires
split_at-requires c = rw (c.digits_len-n.ensures, c.as_bytes.ensures.value) (cut is_digit c.args.text.now digit_small c.utf8.text)
