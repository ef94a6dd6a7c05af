use Rattle.ncc_driver.proofs.Worked.{delays_double, spent_at_thirty_seconds, next_work_begins_anew, routers_take_turns}
use Rattle.ncc_driver.proofs.Worked.{others_are_passed_over, handshake_in_pieces, another_version}
use Rattle.ncc_driver.proofs.laws.worked_runs.Goals as goal

pub returns : goal.returns
returns c = record {
  delays = delays_double;
  spent = spent_at_thirty_seconds;
  anew = next_work_begins_anew;
  turns = routers_take_turns;
  others = others_are_passed_over;
  pieces = handshake_in_pieces;
  version = another_version;
}
