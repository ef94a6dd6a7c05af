-- The laws are the lemmas.
use Rattle.ncc_safety.proofs.Overall.{leads, leader_logs_grow, votes}
use Rattle.ncc_safety.proofs.one_owner.Goals as goal

pub returns : goal.returns
returns c = record { leads = leads; grows = leader_logs_grow; votes = votes }
