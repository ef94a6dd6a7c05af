use Rattle.std.proofs.Common.{rules, SFits, to_z-of_z, w64, ap, sym, subst, ◌∙◌}
use Rattle.std.proofs.lemmas.Result.{err_from_is_err_and}
use Rattle.ncc_store.specs.declared.node.StoredNode.{StoredNode}
use Rattle.ncc_store.specs.Props.{ArePlain}
use Rattle.ncc_store.proofs.Plain.{plain_changed}
use Rattle.ncc_store.proofs.Running.{changes_end, changes_more, changes_all, changes_done}
use Rattle.ncc_store.proofs.run.changed.Goals as goal

pub returns-in_err-value-clause-changed : goal.returns-in_err-value-clause-changed
returns-in_err-value-clause-changed c =
    let p = err_from_is_err_and c.from_residual-in_err-value.result c.from_residual-in_err-value.ensures.1 in
    rw (p.1, p.2)
    (changes_end c.args.params.now c.args.changes.now c.loop-change.change-index c.change-item.result c.loop-change.draft
    c.args.node.now c.in_err-value.field-0.0 c.loop-change-test.true c.change-item.is c.loop-change.invariant c.in_err-value.ensures)

pub loop-change-preserved : goal.loop-change-preserved
loop-change-preserved c =
    changes_more c.args.params.now c.args.changes.now c.loop-change.change-index c.change-item.result c.loop-change.draft _
    c.loop-change-test.true c.change-item.is c.loop-change.invariant
    c.in_ok-value.value c.as_str.result.now c.put.new.self c.in_ok-value.ensures c.as_str.ensures.same c.in_ok-put.ensures

pub returns-clause-changed : goal.returns-clause-changed
returns-clause-changed c =
    let fits : SFits w64 c.args.node.now.id = search rules in
    let same = c.in_ok-kept.ensures.same in
    changes_done c.args.params.now c.args.changes.now c.loop-change.change-index c.loop-change.draft c.args.node.now _
    c.loop-change-test.false c.loop-change.invariant (ap (λ (n : StoredNode). n.id) same ∙ to_z-of_z fits)
    (ap (λ (n : StoredNode). n.label) same ∙ c.in_ok-label.ensures.equal) (ap (λ (n : StoredNode). n.props) same
    ∙ c.in_ok-props.ensures.same)

pub kept-requires-clause-plain : goal.kept-requires-clause-plain
kept-requires-clause-plain c =
    subst ArePlain (sym c.in_ok-props.ensures.same)
    (plain_changed c.args.params.now c.args.changes.now c.args.node.now.props c.loop-change.draft c.requires.plain
    (changes_all c.args.params.now c.args.changes.now c.loop-change.change-index c.loop-change.draft c.args.node.now
    c.loop-change-test.false c.loop-change.invariant))
