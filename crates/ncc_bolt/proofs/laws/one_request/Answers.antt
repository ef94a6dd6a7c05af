use Rattle.ncc_bolt.proofs.Joined.{one_request}
use Rattle.ncc_bolt.proofs.laws.one_request.Goals as goal

pub returns : goal.returns
returns c = record { same = one_request }
