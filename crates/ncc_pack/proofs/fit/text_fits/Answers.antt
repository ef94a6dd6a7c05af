use Rattle.ncc_pack.proofs.Fitting.{utf8_too}
use Rattle.ncc_pack.proofs.fit.text_fits.Goals as goal

pub returns : goal.returns
returns c = rw (← c.as_str.ensures.same) (utf8_too _ c.as_str.result.now c.as_str.utf8)
