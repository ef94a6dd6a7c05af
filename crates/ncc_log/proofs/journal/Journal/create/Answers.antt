use Rattle.std.proofs.Common.{arith}
use Rattle.ncc_log.proofs.Begun.{begun_ready, begun_saves}
use Rattle.ncc_log.proofs.journal.Journal.create.Goals as goal

pub invariant_of-result : goal.invariant_of-result
invariant_of-result g c = record {
  ready = λ sound told. begun_ready c.args.cluster c.args.member (g.D.Disk.seen c.begin.new.disk) (g.D.Disk.may_leave c.begin.new.disk)
      (c.in-Ok.ensures.made told) (c.in-Ok.ensures.only told);
  room = λ none. absurd (omega arith);
}

pub returns-in-Ok-clause-saves : goal.returns-in-Ok-clause-saves
returns-in-Ok-clause-saves g c told =
    begun_saves c.args.cluster c.args.member (g.D.Disk.seen c.begin.new.disk) (c.in-Ok.ensures.made told)
