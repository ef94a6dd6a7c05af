use Rattle.ncc_cypher.proofs.Runs.{cut_plain}
use Rattle.ncc_cypher.proofs.slice.plain_split.Goals as goal

pub split_at-requires : goal.split_at-requires
split_at-requires c = rw (c.plain_len-n.ensures, c.as_bytes.ensures.value) (cut_plain c.args.quote c.args.text.now c.requires)
