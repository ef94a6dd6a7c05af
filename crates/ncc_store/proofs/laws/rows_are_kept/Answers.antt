use Rattle.ncc_store.proofs.Limits.{all_keep}
use Rattle.ncc_store.proofs.laws.rows_are_kept.Goals as goal

pub returns : goal.returns
returns c = record { keep = all_keep }
