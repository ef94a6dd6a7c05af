use Rattle.ncc_world.proofs.Sessions.{none_kept}
use Rattle.ncc_world.proofs.drivers.Drivers.new.Goals as goal

pub returns : goal.returns
returns c = record {
  none = none_kept c.args.setup.now _ c.new.ensures.items c.in_ok-addresses.ensures c.in_ok-new.ensures.empty c.new-3.ensures.empty
      c.new-4.ensures.empty;
}
