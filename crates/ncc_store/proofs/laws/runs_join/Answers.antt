use Rattle.ncc_store.proofs.Joined.{runs_join}
use Rattle.ncc_store.proofs.laws.runs_join.Goals as goal

pub returns : goal.returns
returns c = record { joined = runs_join }
