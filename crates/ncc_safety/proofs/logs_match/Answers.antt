-- The laws are the lemmas.
use Rattle.ncc_safety.proofs.Overall.{logs, cuts, log_records}
use Rattle.ncc_safety.proofs.logs_match.Goals as goal

pub returns : goal.returns
returns c = record { logs = logs; cuts = cuts; records = log_records }
