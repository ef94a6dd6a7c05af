use Rattle.ncc_bolt.specs.Writing.{short_response}
use Rattle.ncc_bolt.proofs.Joined.{response_short}
use Rattle.ncc_bolt.proofs.write.write_response_within.Goals as goal

pub returns-in-Ok-clause-spelled : goal.returns-in-Ok-clause-spelled
returns-in-Ok-clause-spelled c = (
  short_response c.args.response.now,
  response_short c.args.response.now c.requires.fits,
  c.in-Ok.ensures.ok,
)
