use Rattle.std.proofs.Common.{sym, subst, length}
use Rattle.std.proofs.Math.Seq.{take-length}
use Rattle.std.specs.Io.KnownBytes.{Appends}
use Rattle.ncc_replay.proofs.replay.write_report.Goals as goal

pub returns-in-Err-clause-prefix : goal.returns-in-Err-clause-prefix
returns-in-Err-clause-prefix g c = λ _. (
  length c.args.report.now,
  subst (λ l. Appends (g.K.Sink.held c.args.output.now) (g.K.Sink.held c.flush.new.self) l) (sym (take-length c.args.report.now))
      (subst (λ h. Appends (g.K.Sink.held c.args.output.now) h c.args.report.now) (sym c.flush.ensures.same) c.in-Ok.ensures.ok),
)
