use Rattle.std.proofs.Common.{sym}
use Rattle.std.proofs.lemmas.Result.{err_from_is_err_and}
use Rattle.ncc_wire.proofs.Bodies.{Headed, has_all, has_rest, no_body, no_kind, no_members, no_whole, told}
use Rattle.ncc_wire.proofs.read.judged.Goals as goal

pub returns-in_err-frame : goal.returns-in_err-frame
returns-in_err-frame c =
    let r = c.from_residual in
    let p = err_from_is_err_and r.result r.ensures.1 in
    let e = c.in_err-frame.field-0.0 in
    told c.args.cluster c.args.bytes.now r.result p.0 e p.1 p.2 (no_whole c.args.cluster c.args.bytes.now e c.in_err-frame.ensures)

pub returns-in_err-kind : goal.returns-in_err-kind
returns-in_err-kind c =
    let r = c.from_residual-in_err-kind in
    let p = err_from_is_err_and r.result r.ensures.1 in
    let e = c.in_err-kind.field-0.0 in
    told c.args.cluster c.args.bytes.now r.result p.0 e p.1 p.2
    (no_kind c.args.cluster c.args.bytes.now c.in_ok-frame.frame.now e c.in_ok-frame.ensures (sym c.in_err-kind.ensures))

pub returns-in_err-from : goal.returns-in_err-from
returns-in_err-from c =
    let r = c.from_residual-in_err-from in
    let p = err_from_is_err_and r.result r.ensures.1 in
    let e = c.in_err-from.field-0.0 in
    told c.args.cluster c.args.bytes.now r.result p.0 e p.1 p.2
    (no_members c.args.cluster c.args.bytes.now c.in_ok-frame.frame.now c.in_ok-kind.kind e c.in_ok-frame.ensures
    (sym c.in_ok-kind.ensures) c.in_err-from.ensures)

pub returns-in_err-body : goal.returns-in_err-body
returns-in_err-body c =
    let r = c.from_residual-in_err-body in
    let p = err_from_is_err_and r.result r.ensures.1 in
    let e = c.in_err-body.field-0.0 in
    let h : Headed c.args.cluster c.args.bytes.now c.in_ok-frame.frame.now c.in_ok-kind.kind c.in_ok-from.from c.in_ok-from.to =
    record { whole = c.in_ok-frame.ensures; owned = sym c.in_ok-kind.ensures; members_are = c.in_ok-from.ensures } in
    told c.args.cluster c.args.bytes.now r.result p.0 e p.1 p.2
    (no_body c.args.cluster c.args.bytes.now c.in_ok-frame.frame.now c.in_ok-kind.kind c.in_ok-from.from c.in_ok-from.to h e
    c.in_err-body.ensures)

pub returns-then-end-frame : goal.returns-then-end-frame
returns-then-end-frame c =
    let h : Headed c.args.cluster c.args.bytes.now c.in_ok-frame.frame.now c.in_ok-kind.kind c.in_ok-from.from c.in_ok-from.to =
    record { whole = c.in_ok-frame.ensures; owned = sym c.in_ok-kind.ensures; members_are = c.in_ok-from.ensures } in
    has_rest c.args.cluster c.args.bytes.now c.in_ok-frame.frame.now c.in_ok-kind.kind c.in_ok-from.from c.in_ok-from.to h
    c.in_ok-body.body c.in_ok-body.end c.in_ok-body.ensures c.if-end-frame.true

pub returns : goal.returns
returns c =
    let h : Headed c.args.cluster c.args.bytes.now c.in_ok-frame.frame.now c.in_ok-kind.kind c.in_ok-from.from c.in_ok-from.to =
    record { whole = c.in_ok-frame.ensures; owned = sym c.in_ok-kind.ensures; members_are = c.in_ok-from.ensures } in
    has_all c.args.cluster c.args.bytes.now c.in_ok-frame.frame.now c.in_ok-kind.kind c.in_ok-from.from c.in_ok-from.to h
    c.in_ok-body.body c.in_ok-body.end c.in_ok-body.ensures c.if-end-frame.false
