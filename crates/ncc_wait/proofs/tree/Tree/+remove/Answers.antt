use Rattle.ncc_wait.proofs.Sides.{at_fork, loose_without_high, loose_without_low, parked_high, parked_low, without_high, without_low}
use Rattle.ncc_wait.proofs.tree.Tree.+remove.Goals as goal
use Rattle.ncc_wait.proofs.tree.Tree.+remove.Goals.{then-conn-span, else-conn-span}

pub close_up-requires : goal.close_up-requires
close_up-requires t c =
    let f = at_fork c.self.view_is c.self.invariant c.in-Fork.is in
    elim c.if-conn-span.branch [
      | then-conn-span w ↦ rw w.self-inside-is (loose_without_low c.args.conn _ _ _ _ f.fork.loose (cc))
      | else-conn-span w ↦ rw w.self-inside-is (loose_without_high c.args.conn _ _ _ _ f.fork.loose (cc))
    ]

pub returns-after-conn-span-clause-answer : goal.returns-after-conn-span-clause-answer
returns-after-conn-span-clause-answer t c =
    let f = at_fork c.self.view_is c.self.invariant c.in-Fork.is in
    elim c.if-conn-span.branch [
      | then-conn-span w ↦ cc (parked_low c.args.conn _ _ _ f.fork.loose w.if-conn-span.true, f.is)
      | else-conn-span w ↦ cc (parked_high c.args.conn _ _ _ f.fork.loose w.if-conn-span.false, f.is)
    ]

pub returns-after-conn-span-clause-rest : goal.returns-after-conn-span-clause-rest
returns-after-conn-span-clause-rest t c =
    let f = at_fork c.self.view_is c.self.invariant c.in-Fork.is in
    elim c.if-conn-span.branch [
      | then-conn-span w ↦
          let s = rw w.self-inside-is at c.close_up.ensures.same in
          cc (s, without_low c.args.conn _ _ _ f.fork.loose w.if-conn-span.true, f.is)
      | else-conn-span w ↦
          let s = rw w.self-inside-is at c.close_up.ensures.same in
          cc (s, without_high c.args.conn _ _ _ f.fork.loose w.if-conn-span.false, f.is)
    ]
