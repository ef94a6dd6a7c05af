use Rattle.ncc_raft.proofs.Sends.{sends}
use Rattle.ncc_raft.proofs.law.sends_carried.Goals as goal

pub returns : goal.returns
returns c = record { carried = sends }
