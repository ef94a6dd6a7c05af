use Rattle.std.proofs.Common.{map}
use Rattle.ncc_store.specs.Answers.{Gives}
use Rattle.ncc_store.specs.Delta.{applied}
use Rattle.ncc_store.specs.Exec.{call_of, exec}
use Rattle.ncc_store.specs.Layers.{Layers}
use Rattle.std.proofs.Common.{subst}
use Rattle.ncc_store.proofs.Joined.{goes_on}
use Rattle.ncc_store.proofs.overlay.Overlay.go_on.Goals as goal

pub returns-clause-all : goal.returns-clause-all
returns-clause-all c = λ before rows e.
    goes_on c.args.store.now (applied c.args.earlier c.args.store.now) (map call_of c.args.steps.now) before rows _ e
    (subst (λ (x : Layers). Gives (λ r. record { rows = r.rows; graph = applied r.delta x.base }) c.run_over.result
    (exec x.graph (map call_of c.args.steps.now))) c.in_ok-overlay.ensures c.run_over.ensures.exact)
