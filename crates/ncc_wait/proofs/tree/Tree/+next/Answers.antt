use Rattle.ncc_wait.proofs.Orders.{next_before, next_behind}
use Rattle.ncc_wait.proofs.Sides.{at_fork, empty_next, none_next}
use Rattle.ncc_wait.proofs.tree.Tree.+next.Goals as goal

pub returns-then-now-span : goal.returns-then-now-span
returns-then-now-span t c =
    let f = at_fork c.self.view_is c.self.invariant c.in-Fork.is in
    cc (none_next c.args.at c.args.now _ _ _ f.fork c.if-at-span.true c.if-now-span.true, f.is)

pub returns-in-Empty : goal.returns-in-Empty
returns-in-Empty t c = empty_next c.args.at c.args.now _ _ c.self.view_is c.in-Empty.is

pub returns-in-None : goal.returns-in-None
returns-in-None t c =
    let f = at_fork c.self.view_is c.self.invariant c.in-Fork.is in
    cc (next_behind c.args.at c.args.now c.in-Fork.low.value c.in-Fork.high.value (cc), f.is)

pub returns-in_default : goal.returns-in_default
returns-in_default t c =
    let f = at_fork c.self.view_is c.self.invariant c.in-Fork.is in
    cc (next_before c.args.at c.args.now c.in-Fork.low.value c.in-Fork.high.value (λ e. c.in_default.not-None (cc)), f.is)
