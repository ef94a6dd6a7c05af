use Rattle.ncc_raft.proofs.Never.{never}
use Rattle.ncc_raft.proofs.law.never_goes_back.Goals as goal

pub returns : goal.returns
returns c = record { never = never }
