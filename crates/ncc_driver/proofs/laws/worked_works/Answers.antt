use Rattle.ncc_driver.proofs.WorkedWorks.{transient_keeps_table, no_leader_drops_table, other_codes_end, ignored_is_bad}
use Rattle.ncc_driver.proofs.WorkedWorks.{next_work_presents, table_ends, no_time_serves_once}
use Rattle.ncc_driver.proofs.WorkedCommit.{broken_commit}
use Rattle.ncc_driver.proofs.laws.worked_works.Goals as goal

pub returns : goal.returns
returns c = record {
  transient = transient_keeps_table;
  leaderless = no_leader_drops_table;
  refused = other_codes_end;
  ignored = ignored_is_bad;
  presents = next_work_presents;
  ended = table_ends;
  once = no_time_serves_once;
  broken = broken_commit;
}
