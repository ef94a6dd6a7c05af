use Rattle.ncc_world.proofs.Worked.{clock_stands, clock_back, leader_lags_not, nobody_lags, raft_lags_not, unnamed, closed_stays}
use Rattle.ncc_world.proofs.laws.worked_events.Goals as goal

pub returns : goal.returns
returns c = record {
  stands = clock_stands;
  back = clock_back;
  leader = leader_lags_not;
  nobody = nobody_lags;
  raft = raft_lags_not;
  unnamed = unnamed;
  closed = closed_stays;
}
