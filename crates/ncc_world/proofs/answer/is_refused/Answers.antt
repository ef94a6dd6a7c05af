use Rattle.std.proofs.Common.{◌∙◌, ap, sym, not, ◌&&◌, map, Bool, List}
use Rattle.ncc_store.specs.declared.step.Step.{Step}
use Rattle.ncc_store.specs.Exec.{call_of}
use Rattle.ncc_session.specs.Question.{last_writes}
use Rattle.ncc_world.proofs.answer.is_refused.Goals as goal

pub returns-then-is_write : goal.returns-then-is_write
returns-then-is_write c =
    ap (λ (b : Bool). b && not c.args.leads)
    (sym c.if-is_write.true ∙ c.is_write.ensures ∙ ap (λ (xs : List Step). last_writes (map call_of xs)) c.as_slice.ensures.same)
