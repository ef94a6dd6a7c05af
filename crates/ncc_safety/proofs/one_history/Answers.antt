-- The laws are the lemmas.
use Rattle.ncc_safety.proofs.Overall.{line, in_line, growing, noted_never, refused_never, applied_records}
use Rattle.ncc_safety.proofs.one_history.Goals as goal

pub returns : goal.returns
returns c = record { one_line = line; in_history = in_line; grows = growing; never_noted = noted_never; never_refused = refused_never; records = applied_records }
