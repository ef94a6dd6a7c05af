use Rattle.ncc_store.proofs.Joined.{one_list}
use Rattle.ncc_store.proofs.laws.one_list_a_call.Goals as goal

pub returns : goal.returns
returns c = record { number = one_list }
