use Rattle.std.proofs.Common.{refl}
use Rattle.ncc_world.proofs.Worked.{first_entry, full_log}
use Rattle.ncc_world.proofs.laws.worked_members.Goals as goal

pub returns : goal.returns
returns c = record {
  first = first_entry;
  follower = λ s lists entry. refl;
  full = full_log;
  one_of_two = λ x y. refl;
  to_the_end = λ x y. refl;
}
