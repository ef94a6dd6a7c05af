use Rattle.ncc_bolt.specs.declared.message.Response.TheVariants.{Row}
use Rattle.ncc_bolt.specs.Writing.{short_response}
use Rattle.ncc_bolt.proofs.Joined.{response_short}
use Rattle.ncc_bolt.proofs.write.write_row_within.Goals as goal

pub returns-in-Ok-clause-spelled : goal.returns-in-Ok-clause-spelled
returns-in-Ok-clause-spelled c = (
  short_response (Row c.args.fields.now),
  response_short (Row c.args.fields.now) c.requires.fits,
  c.in-Ok.ensures.ok,
)
