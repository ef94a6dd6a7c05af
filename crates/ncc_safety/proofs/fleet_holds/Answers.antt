-- The laws are the lemmas.
use Rattle.ncc_safety.proofs.FleetLaws.{keeps_shape, never_notes, never_contradicts, stays_within}
use Rattle.ncc_safety.proofs.Carrying.{can_be_carried, cores_are_sound}
use Rattle.ncc_safety.proofs.Allowing.{only_allowed}
use Rattle.ncc_safety.proofs.fleet_holds.Goals as goal

pub returns : goal.returns
returns c = record {
  shape = keeps_shape;
  notes = never_notes;
  batches = never_contradicts;
  limits = stays_within;
  allowed = only_allowed;
  carried = can_be_carried;
  cores = cores_are_sound;
}
