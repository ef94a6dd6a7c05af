use Rattle.ncc_driver.proofs.LawsLegs.{sends_by_legs, sends_what_fits, sends_what_fits_to_bytes}
use Rattle.ncc_driver.proofs.LawsLegs.{sends_on_links, sends_by_legs_since, ends_last}
use Rattle.ncc_driver.proofs.laws.sends_by_legs.Goals as goal

pub returns : goal.returns
returns c = record {
  legs = sends_by_legs;
  links = sends_on_links;
  since = sends_by_legs_since;
  fit = sends_what_fits;
  fit_to_bytes = sends_what_fits_to_bytes;
  last = ends_last;
}
