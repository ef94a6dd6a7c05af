use Rattle.std.proofs.Common.{refl}
use Rattle.std.proofs.lemmas.Result.{err_from_is_err_and}
use Rattle.ncc_wire.specs.declared.kind.Kind.TheVariants as k
use Rattle.ncc_wire.proofs.Bodies.{no_fields_of, no_items, told_body}
use Rattle.ncc_wire.proofs.body.batch.Goals as goal

pub returns-in_err-first : goal.returns-in_err-first
returns-in_err-first c =
    let p = err_from_is_err_and c.from_residual.result c.from_residual.ensures.1 in
    no_fields_of k.Batch k.Batch c.args.frame.now c.from_residual.result p.0 c.in_err-first.field-0.0 refl p.1 p.2
    c.in_err-first.ensures.exact

pub returns-in_err-items : goal.returns-in_err-items
returns-in_err-items c =
    let p = err_from_is_err_and c.from_residual-in_err-items.result c.from_residual-in_err-items.ensures.1 in
    told_body k.Batch c.args.frame.now c.from_residual-in_err-items.result p.0 c.in_err-items.field-0.0 p.1 p.2
    (no_items k.Batch c.args.frame.now _ c.in_err-items.field-0.0 c.in_ok-first.ensures.exact c.in_err-items.ensures)
