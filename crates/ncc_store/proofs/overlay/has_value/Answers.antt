use Rattle.std.proofs.Common.{sym, ap, ◌∙◌}
use Rattle.ncc_store.specs.Exec.{has_value}
use Rattle.ncc_store.specs.Pattern.{wanted_of}
use Rattle.ncc_store.specs.Props.{at_key}
use Rattle.ncc_store.proofs.Patterns.{misses, compares}
use Rattle.ncc_store.proofs.overlay.has_value.Goals as goal

pub returns-in-None-value_at : goal.returns-in-None-value_at
returns-in-None-value_at c = misses _ _ _ (c.in-None-value_at.ensures ∙ ap (at_key _) c.as_slice.ensures.same)
    ∙ ap (λ w. has_value (wanted_of w) c.args.node.now) (sym c.in-Some.is)

pub returns-in-Some-value_at : goal.returns-in-Some-value_at
returns-in-Some-value_at c =
    compares _ _ _ _ _ (c.in-Some-value_at.ensures ∙ ap (at_key _) c.as_slice.ensures.same) c.equals.ensures
    ∙ ap (λ w. has_value (wanted_of w) c.args.node.now) (sym c.in-Some.is)
