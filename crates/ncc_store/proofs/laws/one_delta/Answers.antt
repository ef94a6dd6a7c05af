use Rattle.ncc_store.proofs.Between.{one_delta}
use Rattle.ncc_store.proofs.laws.one_delta.Goals as goal

pub returns : goal.returns
returns c = record { one = one_delta }
