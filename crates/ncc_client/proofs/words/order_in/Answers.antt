use Rattle.std.proofs.Common.{rules}
use Rattle.ncc_client.proofs.Asking.{five_are, form_fits, asks_some, bad_seed}
use Rattle.ncc_client.proofs.words.order_in.Goals as goal

pub returns-in_default-seed_in-clause-bad : goal.returns-in_default-seed_in-clause-bad
returns-in_default-seed_in-clause-bad c = λ _.
    bad_seed c.args.words.now c.as_slice.result.now _ _ _ _ _ _ c.as_slice.ensures.same
    (five_are _ _ _ _ _ _ c.in-len5-up.len_at_least c.user-item.is c.password-item.is c.bookmark-item.is c.seed-item.is c.router-item.is)
    c.in_default-seed_in.ensures.none

pub task_in-requires : goal.task_in-requires
task_in-requires c = record {
  fit = form_fits c.as_slice.result.now _ _ _ _ _ _
      (five_are _ _ _ _ _ _ c.in-len5-up.len_at_least c.user-item.is c.password-item.is c.bookmark-item.is c.seed-item.is c.router-item.is)
      (search rules);
}

pub returns-in_err-task-clause-memory : goal.returns-in_err-task-clause-memory
returns-in_err-task-clause-memory c = λ e.
    let j = c.task_in.ensures.memory (search rules) in
    asks_some c.args.words.now c.as_slice.result.now _ _ _ _ _ _ c.in-Some.seed j.0 c.as_slice.ensures.same
    (five_are _ _ _ _ _ _ c.in-len5-up.len_at_least c.user-item.is c.password-item.is c.bookmark-item.is c.seed-item.is c.router-item.is)
    (search rules) (search rules) c.in-Some.ensures.some j.1

pub returns-in_err-config-clause-memory : goal.returns-in_err-config-clause-memory
returns-in_err-config-clause-memory c = λ _.
    asks_some c.args.words.now c.as_slice.result.now _ _ _ _ _ _ c.in-Some.seed _ c.as_slice.ensures.same
    (five_are _ _ _ _ _ _ c.in-len5-up.len_at_least c.user-item.is c.password-item.is c.bookmark-item.is c.seed-item.is c.router-item.is)
    (search rules) (search rules) c.in-Some.ensures.some c.in_ok-task.ensures.ok
