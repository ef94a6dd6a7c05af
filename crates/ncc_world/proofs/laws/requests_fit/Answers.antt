use Rattle.std.proofs.Common.{refl}
use Rattle.ncc_world.proofs.Sending.{put_fits, get_fits, hello_fits, pull_fits}
use Rattle.ncc_world.proofs.laws.requests_fit.Goals as goal

pub returns : goal.returns
returns c = record { put = put_fits; get = get_fits; hello = hello_fits; pull = pull_fits; goodbye = refl }
