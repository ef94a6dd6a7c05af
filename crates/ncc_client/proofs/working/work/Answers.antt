use Rattle.std.proofs.Common.{ap, ◌∙◌, rules}
use Rattle.std.proofs.KnownBytes.{Appends-nil}
use Rattle.ncc_client.proofs.Lists.{makes_none, clock_none}
use Rattle.ncc_client.proofs.Ending.{End_of, says_end, says_failed, says_memory, says_early}
use Rattle.ncc_client.proofs.Ahead.{rows_in}
use Rattle.ncc_client.proofs.working.work.Goals as goal

pub returns-in-Err-Bad-clause-bad_words : goal.returns-in-Err-Bad-clause-bad_words
returns-in-Err-Bad-clause-bad_words g c = λ _. c.order_in.ensures.bad (search rules)

pub returns-in-Err-Memory-clause-worked : goal.returns-in-Err-Memory-clause-worked
returns-in-Err-Memory-clause-worked g c = λ _.
    let k = c.order_in.ensures.memory (search rules) in
    says_early _ k.0 k.1 _ _ _ _ k.2 (makes_none _) (clock_none _) (Appends-nil _)

pub tell-requires : goal.tell-requires
tell-requires g c = record {
  fits = rows_in _ _ (c.in-Ended-Ok.is ∙ ap End_of c.in-Ended-Ok.field-0-is) c.run_task.ensures.fits;
}

pub returns-in-Ended-Ok-clause-worked : goal.returns-in-Ended-Ok-clause-worked
returns-in-Ended-Ok-clause-worked g c = λ _.
    says_end _ _ _ _ _ _ _ _ _ _ (c.in-Ended-Ok.is ∙ ap End_of c.in-Ended-Ok.field-0-is) c.in-Ok.ensures.ok c.tell.ensures.says
    c.run_task.ensures.worked

pub returns-in-Ended-Err-clause-worked : goal.returns-in-Ended-Err-clause-worked
returns-in-Ended-Err-clause-worked g c = λ _.
    says_end _ _ _ _ _ _ _ _ _ _ (c.in-Ended-Err.is ∙ ap End_of c.in-Ended-Err.field-0-is) c.in-Ok.ensures.ok
    (says_failed _ _ (Appends-nil _)) c.run_task.ensures.worked

pub returns-in-Memory-clause-worked : goal.returns-in-Memory-clause-worked
returns-in-Memory-clause-worked g c = λ _.
    says_memory _ _ _ _ _ _ _ _ c.in-Memory.is c.in-Ok.ensures.ok (Appends-nil _) c.run_task.ensures.worked
