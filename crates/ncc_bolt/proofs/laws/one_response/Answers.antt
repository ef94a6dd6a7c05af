use Rattle.ncc_bolt.proofs.Joined.{one_response}
use Rattle.ncc_bolt.proofs.laws.one_response.Goals as goal

pub returns : goal.returns
returns c = record { same = one_response }
