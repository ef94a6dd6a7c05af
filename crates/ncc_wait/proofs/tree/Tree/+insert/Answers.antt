use Rattle.std.proofs.Common.{◌≡◌, false}
use Rattle.ncc_wait.specs.Room.{is_parked}
use Rattle.ncc_wait.proofs.Sides.{at_fork, empty_put, loose_put_high, loose_put_low, parked_high, parked_low, put_in_high, put_in_low}
use Rattle.ncc_wait.proofs.tree.Tree.+insert.Goals as goal
use Rattle.ncc_wait.proofs.tree.Tree.+insert.Goals.{then-parked-span-2+in_ok-insert-in-Fork, else-parked-span-2+in_ok-insert-in-Fork-2}

pub returns-in-Empty-clause-ok : goal.returns-in-Empty-clause-ok
returns-in-Empty-clause-ok t c = empty_put c.args.parked _ _ c.self.view_is c.in-Empty.is

pub close_up-requires : goal.close_up-requires
close_up-requires t c =
    let f = at_fork c.self.view_is c.self.invariant c.in-Fork.is in
    elim c.if-parked-span-2.branch [
      | then-parked-span-2+in_ok-insert-in-Fork w ↦
          let apart : is_parked c.args.parked.conn c.in-Fork.low.value ≡ false =
          cc (parked_low c.args.parked.conn _ _ _ f.fork.loose w.if-parked-span-2.true, f.is, c.requires.apart) in
          rw w.self-inside-is
          (loose_put_low c.args.parked _ _ _ _ f.fork.loose apart c.if-span-parked.true w.if-parked-span-2.true
          (cc (w.in_ok-insert-in-Fork.ensures.ok)))
      | else-parked-span-2+in_ok-insert-in-Fork-2 w ↦
          let apart : is_parked c.args.parked.conn c.in-Fork.high.value ≡ false =
          cc (parked_high c.args.parked.conn _ _ _ f.fork.loose w.if-parked-span-2.false, f.is, c.requires.apart) in
          rw w.self-inside-is
          (loose_put_high c.args.parked _ _ _ _ f.fork.loose apart w.if-parked-span-2.false c.if-parked-span.true
          (cc (w.in_ok-insert-in-Fork-2.ensures.ok)))
    ]

pub returns-then-parked-span-clause-ok : goal.returns-then-parked-span-clause-ok
returns-then-parked-span-clause-ok t c =
    let f = at_fork c.self.view_is c.self.invariant c.in-Fork.is in
    elim c.if-parked-span-2.branch [
      | then-parked-span-2+in_ok-insert-in-Fork w ↦
          let s = rw w.self-inside-is at c.close_up.ensures.same in
          cc (s, w.in_ok-insert-in-Fork.ensures.ok, put_in_low c.args.parked _ _ _ f.fork.loose w.if-parked-span-2.true, f.is)
      | else-parked-span-2+in_ok-insert-in-Fork-2 w ↦
          let s = rw w.self-inside-is at c.close_up.ensures.same in
          cc (s, w.in_ok-insert-in-Fork-2.ensures.ok, put_in_high c.args.parked _ _ _ f.fork.loose w.if-parked-span-2.false, f.is)
    ]
