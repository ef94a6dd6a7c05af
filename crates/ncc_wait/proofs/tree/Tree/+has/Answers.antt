use Rattle.ncc_wait.proofs.Sides.{ascends, at_fork, parked_high, parked_low}
use Rattle.ncc_wait.proofs.tree.Tree.+has.Goals as goal

pub returns-in-Empty-clause-ascending : goal.returns-in-Empty-clause-ascending
returns-in-Empty-clause-ascending t c = ascends _ _ c.self.view_is c.self.invariant

pub returns-in-One-clause-ascending : goal.returns-in-One-clause-ascending
returns-in-One-clause-ascending t c = ascends _ _ c.self.view_is c.self.invariant

pub returns-then-conn-span-clause-exact : goal.returns-then-conn-span-clause-exact
returns-then-conn-span-clause-exact t c =
    let f = at_fork c.self.view_is c.self.invariant c.in-Fork.is in
    cc (parked_low c.args.conn _ _ _ f.fork.loose c.if-conn-span.true, f.is)

pub returns-then-conn-span-clause-ascending : goal.returns-then-conn-span-clause-ascending
returns-then-conn-span-clause-ascending t c = ascends _ _ c.self.view_is c.self.invariant

pub returns-else-conn-span-clause-exact : goal.returns-else-conn-span-clause-exact
returns-else-conn-span-clause-exact t c =
    let f = at_fork c.self.view_is c.self.invariant c.in-Fork.is in
    cc (parked_high c.args.conn _ _ _ f.fork.loose c.if-conn-span.false, f.is)

pub returns-else-conn-span-clause-ascending : goal.returns-else-conn-span-clause-ascending
returns-else-conn-span-clause-ascending t c = ascends _ _ c.self.view_is c.self.invariant
