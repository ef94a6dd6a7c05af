use Rattle.std.proofs.Common.{◌≡◌, ◌≤◌, ℕ, List, []}
use Rattle.std.specs.Io.KnownBytes.{Appends}
use Rattle.ncc_base.specs.Clock.{Tells}
use Rattle.ncc_base.specs.Flushing.{IsAllFlushed}
use Rattle.ncc_server.specs.Answered.{Answer, TellsMore}
use Rattle.ncc_server.specs.Live.{IsLive, Going}
use Rattle.ncc_server.proofs.serving.settle.Given as goal

abbrev pub invariant-questions : goal.invariant-questions
invariant-questions g l = record {
  going : Going l.fn.wait (λ (bytes : List ℕ). Appends (g.K.Sink.held l.fn.output) (g.K.Sink.held l.output) bytes)
      (λ (answers : List Answer). TellsMore (g.B.Backend.told l.fn.backend) (g.B.Backend.told l.backend) answers)
      (λ (moments : List ℕ). Tells (g.C.Clock.told l.fn.clock) (g.C.Clock.told l.clock) moments)
      (l.output ≡ l.fn.output) (IsAllFlushed (g.K.Sink.held l.output) (g.K.Sink.flushed l.output)) [] l.fn.conn l.conn;
  live : IsLive l.conn;
  sink : g.K.Sink.faults l.fn.output ≤ g.K.Sink.faults l.output;
  backend : g.B.Backend.faults l.fn.backend ≤ g.B.Backend.faults l.backend;
}
