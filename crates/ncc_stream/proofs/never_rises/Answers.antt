use Rattle.ncc_stream.proofs.Going.{never_rises}
use Rattle.ncc_stream.proofs.never_rises.Goals as goal

pub returns : goal.returns
returns r c = record { never_rises = λ move lawful weight falls core xs fs. never_rises move lawful weight falls core xs fs }
