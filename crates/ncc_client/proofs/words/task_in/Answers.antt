use Rattle.std.proofs.Common.{ℕ, List, IfOk, sym, subst}
use Rattle.ncc_client.specs.Words as w
use Rattle.ncc_client.specs.declared.words.Task.{Task}
use Rattle.ncc_client.proofs.Named.{two_are, three_are}
use Rattle.ncc_client.proofs.words.task_in.Goals as goal

pub returns-in-len2-clause-ok : goal.returns-in-len2-clause-ok
returns-in-len2-clause-ok c =
    subst (λ (l : List (List ℕ)). IfOk c.pair_task.result (λ (task : Task). w.IsForm l (w.job_of task)))
    (sym (two_are c.args.form.now _ _ c.in-len2.len_at_least c.in-len2.len_below c.verb-item.is c.key-item.is)) c.pair_task.ensures.ok

pub returns-in-len2-clause-bad : goal.returns-in-len2-clause-bad
returns-in-len2-clause-bad c = λ e job.
    subst (λ (l : List (List ℕ)). w.IsForm l job → ⊥)
    (sym (two_are c.args.form.now _ _ c.in-len2.len_at_least c.in-len2.len_below c.verb-item.is c.key-item.is))
    (c.pair_task.ensures.bad e job)

pub returns-in-len3-clause-ok : goal.returns-in-len3-clause-ok
returns-in-len3-clause-ok c =
    subst (λ (l : List (List ℕ)). IfOk c.triple_task.result (λ (task : Task). w.IsForm l (w.job_of task)))
    (sym (three_are c.args.form.now _ _ _ c.in-len3.len_at_least c.in-len3.len_below c.verb-item-then-form-lt4.is
    c.key-item-then-form-lt4.is c.more-item.is)) c.triple_task.ensures.ok

pub returns-in-len3-clause-bad : goal.returns-in-len3-clause-bad
returns-in-len3-clause-bad c = λ e job.
    subst (λ (l : List (List ℕ)). w.IsForm l job → ⊥)
    (sym (three_are c.args.form.now _ _ _ c.in-len3.len_at_least c.in-len3.len_below c.verb-item-then-form-lt4.is
    c.key-item-then-form-lt4.is c.more-item.is)) (c.triple_task.ensures.bad e job)
