use Rattle.ncc_stream.proofs.Going.{goes_on}
use Rattle.ncc_stream.proofs.goes_on.Goals as goal

pub returns : goal.returns
returns r c = record { cuts_dont_matter = λ move lawful core xs ys fs gs. goes_on move lawful core xs ys fs gs }
