use Rattle.std.proofs.Common.{length}
use Rattle.ncc_session.proofs.checks.+greatest.Given as goal

abbrev pub decreases-greatest : goal.decreases-greatest
decreases-greatest l = length l.texts.now
