use Rattle.ncc_log.proofs.Stopping.{none_fails, stopped_leaves}
use Rattle.ncc_log.proofs.law.stopped_save.Goals as goal

pub returns-clause-fails : goal.returns-clause-fails
returns-clause-fails c call gate old new body stop few w = none_fails call gate old new body stop few w

pub returns-clause-leaves : goal.returns-clause-leaves
returns-clause-leaves c cluster member gate call word n old new s ch h may lt w =
    stopped_leaves cluster member gate call word old new s ch h may n lt w
