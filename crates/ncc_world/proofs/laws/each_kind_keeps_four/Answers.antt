use Rattle.ncc_world.proofs.Listed.{list_keeps_four}
use Rattle.ncc_world.proofs.Rafted.{raft_keeps_four}
use Rattle.ncc_world.proofs.laws.each_kind_keeps_four.Goals as goal

pub returns : goal.returns
returns c = record { list = list_keeps_four; raft = raft_keeps_four }
