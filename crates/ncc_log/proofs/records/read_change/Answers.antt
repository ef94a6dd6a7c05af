use Rattle.std.proofs.Common.{◌≡◌, ℕ, true, false, List, ◌∙◌, ap, arith, subst, sym}
use Rattle.ncc_tx.specs.declared.entry.Item.{Item}
use Rattle.ncc_tx.specs.Kept.{term_at}
use Rattle.ncc_log.specs.Reading.{AreItemsFrom}
use Rattle.ncc_log.proofs.FrontRead.{change_read, front_may_stand, items_there, payload_long}
use Rattle.ncc_log.proofs.records.read_change.Goals as goal
use Rattle.ncc_log.proofs.records.read_change.Goals.{In_ok-read_items}

pub returns-in_default-clause-none : goal.returns-in_default-clause-none
returns-in_default-clause-none c = λ d m e. omega (arith, payload_long d c.args.bytes.now e, c.in_default.ensures.none)

pub returns-then-not-may_stand-clause-none : goal.returns-then-not-may_stand-clause-none
returns-then-not-may_stand-clause-none c = λ d m e.
    let may = c.may_stand.ensures.1 (front_may_stand c.args.bytes.now c.args.part.now d c.in-Some.front c.in-Some.ensures.some.0 m e) in
    let bad : false ≡ true = sym c.if-not-may_stand.true ∙ may in
    cc

least : (c : In_ok-read_items) → c.term_at-least.result ≡ term_at c.args.part.now.log c.in-Some.front.keep
least c = c.term_at-least.ensures.term ∙ ap (λ (l : List Item). term_at l c.in-Some.front.keep) c.as_slice.ensures.same

pub returns-in-None-clause-none : goal.returns-in-None-clause-none
returns-in-None-clause-none c = λ d m e.
    let f = c.in-Some.front in
    let none = rw c.in-None.is at c.in_ok-read_items.ensures.none in
    none d.items (subst (λ (n : ℕ). AreItemsFrom c.args.bytes.now 21 f.count n f.term d.items)
    (sym (least (goal.at.returns-in-None-clause-none c).In_ok-read_items))
    (items_there c.args.bytes.now c.args.part.now d f c.in-Some.ensures.some.0 m e))

pub returns-in-Some-2-clause-some : goal.returns-in-Some-2-clause-some
returns-in-Some-2-clause-some c =
    let f = c.in-Some.front in
    let items = c.in-Some-2.items in
    let are = rw c.in-Some-2.is at c.in_ok-read_items.ensures.some in
    change_read c.args.bytes.now c.args.part.now (λ k. omega (arith, c.type_inv.bytes k)) c.in-Some.ensures.some.1 c.requires f items
    c.in-Some.ensures.some.0 (c.may_stand.ensures.0 c.if-not-may_stand.false)
    (subst (λ (n : ℕ). AreItemsFrom c.args.bytes.now 21 f.count n f.term items)
    (least (goal.at.returns-in-Some-2-clause-some c).In_ok-read_items) are)
