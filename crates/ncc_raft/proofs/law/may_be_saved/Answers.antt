use Rattle.ncc_raft.proofs.Savings.{saved}
use Rattle.ncc_raft.proofs.law.may_be_saved.Goals as goal

pub returns : goal.returns
returns c = record { saved = saved }
