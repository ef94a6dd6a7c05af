use Rattle.ncc_driver.proofs.LawsCuts.{cuts_change_only_receives, pieces_may_be_cut, empty_pieces_may_come, alike_act_alike}
use Rattle.ncc_driver.proofs.laws.cuts_change_only_receives.Goals as goal

pub returns : goal.returns
returns c = record {
  cuts = cuts_change_only_receives;
  pieces = pieces_may_be_cut;
  empty = empty_pieces_may_come;
  alike = alike_act_alike;
}
