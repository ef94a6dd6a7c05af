use Rattle.ncc_pack.proofs.Laws.{one_form}
use Rattle.ncc_pack.proofs.read.one_form.Goals as goal

pub returns : goal.returns
returns c = record { one = one_form 32 }
