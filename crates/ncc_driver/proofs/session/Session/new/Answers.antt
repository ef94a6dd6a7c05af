use Rattle.std.proofs.Common.{ap}
use Rattle.ncc_driver.specs.Fitting.{ends_fit}
use Rattle.ncc_driver.proofs.Talking.{made_new, new_keeps}
use Rattle.ncc_driver.proofs.session.Session.new.Goals as goal

pub invariant_of-result : goal.invariant_of-result
invariant_of-result c = (
  c.requires.fits,
  λ _. (new_keeps c.args.config c.in_ok-core.core c.in_ok-core.ensures c.requires.fits, ap ends_fit c.new-2.ensures.items),
)

pub returns : goal.returns
returns c = record {
  made = made_new c.args.config c.in_ok-core.core c.in_ok-link.link c.new-2.result.items c.in_ok-core.ensures c.new-2.ensures.items;
}
