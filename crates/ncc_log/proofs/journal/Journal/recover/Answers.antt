use Rattle.std.proofs.Common.{arith}
use Rattle.ncc_log.proofs.Refusals.{apart, free_only, is_or_free}
use Rattle.ncc_log.proofs.Save.{one_saves}
use Rattle.ncc_log.proofs.journal.Journal.recover.Goals as goal

pub invariant_of-journal : goal.invariant_of-journal
invariant_of-journal g c = record {
  ready = λ sound told. c.in-Ok.ensures.ready told;
  room = λ none. absurd (omega arith);
}

pub returns-in-Err-clause-opens : goal.returns-in-Err-clause-opens
returns-in-Err-clause-opens g c = λ told s saves.
    free_only c.args.cluster c.args.member (g.D.Disk.seen c.args.disk) s c.in-Err.error (omega arith) saves (c.in-Err.ensures.refused told)

pub returns-in-Err-clause-exact : goal.returns-in-Err-clause-exact
returns-in-Err-clause-exact g c = λ told e refuses.
    is_or_free c.args.cluster c.args.member (g.D.Disk.seen c.args.disk) e c.in-Err.error refuses (c.in-Err.ensures.refused told)

pub returns-in-Ok-clause-opens : goal.returns-in-Ok-clause-opens
returns-in-Ok-clause-opens g c = λ told s saves.
    one_saves c.args.cluster c.args.member (g.D.Disk.seen c.args.disk) c.in-Ok.saved s (c.in-Ok.ensures.saved told) saves

pub returns-in-Ok-clause-exact : goal.returns-in-Ok-clause-exact
returns-in-Ok-clause-exact g c = λ told e refuses.
    apart c.args.cluster c.args.member (g.D.Disk.seen c.args.disk) c.in-Ok.saved e (omega arith) (c.in-Ok.ensures.saved told) refuses
