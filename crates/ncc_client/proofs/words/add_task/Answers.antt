use Rattle.std.proofs.Common.{subst, ℕ, List}
use Rattle.ncc_client.specs.Words as w
use Rattle.ncc_client.proofs.Named.{adds_some}
use Rattle.ncc_client.proofs.words.add_task.Goals as goal

pub returns-in_err-copy-clause-memory : goal.returns-in_err-copy-clause-memory
returns-in_err-copy-clause-memory c = λ _.
    adds_some c.args.key.now c.args.word.now c.in-Some.by
    (subst (λ (l : List ℕ). w.IsNumber l c.in-Some.by) c.as_str.ensures.same c.in-Some.ensures.some)
