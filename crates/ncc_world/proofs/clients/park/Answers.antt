use Rattle.std.proofs.Common.{ap, ◌∙◌}
use Rattle.ncc_wait.specs.Room.{is_parked}
use Rattle.ncc_wait.specs.declared.parked.Parked.{Parked}
use Rattle.std.proofs.Common.{List}
use Rattle.ncc_world.proofs.Rooms.{none_left}
use Rattle.ncc_world.proofs.clients.park.Goals as goal

pub park-requires : goal.park-requires
park-requires c = record {
  apart = ap (λ (ps : List Parked). is_parked c.args.number ps) c.leave.ensures.rest ∙ none_left c.args.number c.args.room.now;
}
