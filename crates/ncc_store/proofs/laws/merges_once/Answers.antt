use Rattle.ncc_store.proofs.Again.{merges_once}
use Rattle.ncc_store.proofs.laws.merges_once.Goals as goal

pub returns : goal.returns
returns c = record { again = merges_once }
