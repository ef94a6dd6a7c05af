use Rattle.ncc_world.proofs.Fresh.{no_clients}
use Rattle.ncc_world.proofs.clients.Clients.new.Goals as goal

pub returns : goal.returns
returns c = record {
  none = λ s. no_clients s c.args.count _ _ _ _
      c.new.ensures.empty c.new-2.ensures.empty c.in_ok-rooms.ensures.empty c.in_ok-live.ensures.empty;
}
