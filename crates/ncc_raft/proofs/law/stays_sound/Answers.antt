use Rattle.ncc_raft.proofs.Stays.{stays}
use Rattle.ncc_raft.proofs.law.stays_sound.Goals as goal

pub returns : goal.returns
returns c = record { sound = stays }
