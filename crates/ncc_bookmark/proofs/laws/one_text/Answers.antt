use Rattle.ncc_bookmark.proofs.Texts.{texts_same}
use Rattle.ncc_bookmark.proofs.laws.one_text.Goals as goal

pub returns : goal.returns
returns c = record { one = texts_same }
