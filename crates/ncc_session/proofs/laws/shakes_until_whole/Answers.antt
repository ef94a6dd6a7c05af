use Rattle.ncc_session.proofs.Unshaken.{shakes_until_whole}
use Rattle.ncc_session.proofs.laws.shakes_until_whole.Goals as goal

pub returns : goal.returns
returns c = record { whole = shakes_until_whole }
