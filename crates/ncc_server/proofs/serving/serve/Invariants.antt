use Rattle.std.proofs.Common.{◌≡◌, ◌≤◌, ℕ, false, List, []}
use Rattle.ncc_session.specs.declared.config.ConnConfig.{ConnConfig}
use Rattle.ncc_session.specs.Talk.{Stands}
use Rattle.std.specs.Io.KnownBytes.{Appends, Consumes}
use Rattle.ncc_base.specs.Clock.{Tells}
use Rattle.ncc_base.specs.Flushing.{IsAllFlushed}
use Rattle.ncc_session.specs.Session.{is_ended}
use Rattle.ncc_server.specs.Answered.{Answer, TellsMore}
use Rattle.ncc_server.specs.Serving.{worn}
use Rattle.ncc_server.proofs.Turning.{Sofar}
use Rattle.ncc_server.proofs.serving.serve.Given as goal

abbrev pub invariant-turns : goal.invariant-turns
invariant-turns g l = record {
  sofar : (config : ConnConfig) → Stands l.fn.conn config [] [] [] → Sofar config l.fn.wait (λ (bytes : List ℕ). Consumes
      (g.S.Source.left l.fn.input) (g.S.Source.left l.input) bytes)
      (λ (bytes : List ℕ). Appends (g.K.Sink.held l.fn.output) (g.K.Sink.held l.output) bytes)
      (λ (answers : List Answer). TellsMore (g.B.Backend.told l.fn.backend) (g.B.Backend.told l.backend) answers)
      (λ (moments : List ℕ). Tells (g.C.Clock.told l.fn.clock) (g.C.Clock.told l.clock) moments)
      (IsAllFlushed (g.K.Sink.held l.output) (g.K.Sink.flushed l.output)) l.conn l.taken;
  goes : is_ended l.conn.place.state ≡ false;
  few : l.taken ≤ worn;
  counted : l.counter ≤ l.taken;
  source : g.S.Source.faults l.fn.input ≤ g.S.Source.faults l.input;
  sink : g.K.Sink.faults l.fn.output ≤ g.K.Sink.faults l.output;
  backend : g.B.Backend.faults l.fn.backend ≤ g.B.Backend.faults l.backend;
}
