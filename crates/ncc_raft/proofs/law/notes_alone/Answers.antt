use Rattle.ncc_raft.proofs.Alone.{alone}
use Rattle.ncc_raft.proofs.law.notes_alone.Goals as goal

pub returns : goal.returns
returns c = record { noted = alone }
