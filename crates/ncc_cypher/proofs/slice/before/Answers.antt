use Rattle.ncc_cypher.proofs.Runs.{cut_before}
use Rattle.ncc_cypher.proofs.slice.before.Goals as goal

pub split_at-requires : goal.split_at-requires
split_at-requires c = cut_before c.args.text.now c.args.end.now c.utf8.end c.requires
