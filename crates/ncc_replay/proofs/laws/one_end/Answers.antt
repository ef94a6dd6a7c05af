use Rattle.ncc_replay.proofs.OneEnd.{texts_end}
use Rattle.ncc_replay.proofs.laws.one_end.Goals as goal

pub returns : goal.returns
returns c = record { one = texts_end c.every_run_keeps.ensures.one }
