use Rattle.std.proofs.Common.{◌≡◌, ◌∙◌, refl}
use Rattle.ncc_cypher.specs.Writing.{writes}
use Rattle.ncc_store.specs.declared.step.Step.{Step}
use Rattle.ncc_store.specs.Exec.{call_of}
use Rattle.ncc_session.specs.Question.{call_writes}
use Rattle.ncc_world.proofs.answer.step_writes.Goals as goal

writes_of : (s : Step) → writes s.statement ≡ call_writes (call_of s)
writes_of s = rw (s.reads, call_writes) refl

pub returns : goal.returns
returns c = c.writes.ensures.exact ∙ writes_of c.args.step.now
