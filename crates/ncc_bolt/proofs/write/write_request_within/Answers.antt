use Rattle.ncc_bolt.specs.Writing.{short_request}
use Rattle.ncc_bolt.proofs.Joined.{request_short}
use Rattle.ncc_bolt.proofs.write.write_request_within.Goals as goal

pub returns-in-Ok-clause-spelled : goal.returns-in-Ok-clause-spelled
returns-in-Ok-clause-spelled c = (short_request c.args.request.now, request_short c.args.request.now c.requires.fits, c.in-Ok.ensures.ok)
