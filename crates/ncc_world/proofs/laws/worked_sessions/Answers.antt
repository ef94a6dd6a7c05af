use Rattle.std.proofs.Common.{refl}
use Rattle.ncc_world.specs.Happening.{own}
use Rattle.ncc_world.proofs.Worked.{no_session, busy_session, links_are_apart, nothing_up, nothing_down, nothing_cut, nothing_pumped}
use Rattle.ncc_world.proofs.Worked.{none_counted}
use Rattle.ncc_world.proofs.laws.worked_sessions.Goals as goal

pub returns : goal.returns
unfolding own
returns c = record {
  made = λ s line seed r. refl;
  past = no_session;
  busy = busy_session;
  apart = links_are_apart;
  up = nothing_up;
  down = nothing_down;
  cut = nothing_cut;
  pump = nothing_pumped;
  counts = none_counted;
}
