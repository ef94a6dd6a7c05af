-- The law is the lemma.
use Rattle.ncc_safety.proofs.Beside as lemmas
use Rattle.ncc_safety.proofs.records_beside.Goals as goal

pub returns : goal.returns
returns c = record { beside = lemmas.records_beside }
