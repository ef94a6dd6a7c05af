use Rattle.ncc_driver.proofs.LawsLeft.{sends_lower, left_at_most, begins_silent, attempt_sends_at_most}
use Rattle.ncc_driver.proofs.LawsLeft.{add_has_two, put_has_one, get_has_one}
use Rattle.ncc_driver.proofs.laws.attempts_send_so_much.Goals as goal

pub returns : goal.returns
returns c = record {
  lower = sends_lower;
  most = left_at_most;
  silent = begins_silent;
  attempt = attempt_sends_at_most;
  add = add_has_two;
  put = put_has_one;
  get = get_has_one;
}
