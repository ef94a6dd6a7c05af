use Rattle.ncc_chunk.proofs.Framing.{framed_on}
use Rattle.ncc_chunk.proofs.laws.messages_go_on.Goals as goal

pub returns : goal.returns
returns c = record { go_on = λ stream more x y a b p q. framed_on stream a x more b y p q }
