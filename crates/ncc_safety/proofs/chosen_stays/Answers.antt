-- The laws are the lemmas.
use Rattle.ncc_safety.proofs.Overall.{told, chosen_record}
use Rattle.ncc_safety.proofs.chosen_stays.Goals as goal

pub returns : goal.returns
returns c = record { told = told; records = chosen_record }
