use Rattle.std.proofs.Common.{refl}
use Rattle.ncc_chunk.proofs.Framing.{framed_same}
use Rattle.ncc_chunk.proofs.laws.messages_are_one.Goals as goal

pub returns : goal.returns
returns c = record { one = λ stream a b x y p q. framed_same stream stream a b x y refl p q }
