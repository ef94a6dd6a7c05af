use Rattle.ncc_world.proofs.Worked.{lists_time_out_not, nobody_times_out, replicas_time_out_not, no_message_is_first}
use Rattle.ncc_world.proofs.laws.worked_raft.Goals as goal

pub returns : goal.returns
returns c = record {
  list = lists_time_out_not;
  nobody = nobody_times_out;
  replica = replicas_time_out_not;
  message = no_message_is_first;
}
