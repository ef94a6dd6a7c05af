use Rattle.ncc_bookmark.proofs.Naming.{named_point, point_of_spelled}
use Rattle.ncc_bookmark.proofs.laws.named_is_spelled.Goals as goal

pub returns : goal.returns
returns c = record { named = λ text b. (named_point text b, λ k. point_of_spelled text b k.0 k.1) }
