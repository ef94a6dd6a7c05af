use Rattle.ncc_store.proofs.Lasting.{reading}
use Rattle.ncc_store.proofs.laws.reading_changes_nothing.Goals as goal

pub returns : goal.returns
returns c = record { same = reading }
