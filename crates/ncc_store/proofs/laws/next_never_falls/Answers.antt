use Rattle.ncc_store.proofs.Lasting.{next_never_falls}
use Rattle.ncc_store.proofs.laws.next_never_falls.Goals as goal

pub returns : goal.returns
returns c = record { next = next_never_falls }
