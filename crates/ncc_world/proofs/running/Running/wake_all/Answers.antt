use Rattle.std.proofs.Common.{◌≡◌, ◌∙◌, ◌+◌, ap, length, List, [], ℕ, subst, sym, drop, get_or}
use Rattle.std.proofs.Math.ListN.{drop_of_length-le}
use Rattle.ncc_world.proofs.Emptying.{WakesOn, wakes_due, wakes_end, wakes_split, wakes_start, wakes_step}
use Rattle.ncc_world.proofs.Waking.{AreNext, next_rest}
use Rattle.ncc_world.proofs.running.Running.wake_all.Goals as goal

pub loop-number-init : goal.loop-number-init
loop-number-init c =
    let s = c.args.setup.now in
    let w = c.args.self.now in
    let h = c.requires.live in
    record {
      count = ap length c.in_ok-due.ensures.list;
      next = subst (λ (xs : List ℕ). AreNext (length w.drivers.list.items) xs) (sym c.deref-number-items.ensures.value)
          (wakes_start s c.args.line h.run w c.due.new.self c.in_ok-due.due.items (λ driving k. c.in_ok-due.ensures.due s driving k) h.runs_all).next;
      on = λ r k. subst (λ (xs : List ℕ). WakesOn s c.args.line xs r (record w { drivers = c.due.new.self })) (sym c.deref-number-items.ensures.value)
          (wakes_start s c.args.line r w c.due.new.self c.in_ok-due.due.items (λ driving y. c.in_ok-due.ensures.due s driving y) k).on;
    }

pub wake-requires-clause-live : goal.wake-requires-clause-live
wake-requires-clause-live c =
    let s = c.args.setup.now in
    let xs = c.deref-number-items.result.now in
    let at = c.loop-number.number-index in
    let many = length c.args.self.now.drivers.list.items in
    let h = c.requires.live in
    let e = wakes_split xs at c.loop-number-test.true in
    wakes_due s c.args.line (get_or xs at 0) (drop (at + 1) xs) h.run c.loop-number.self many c.loop-number.invariant.count
    (subst (λ (l : List ℕ). AreNext many l) e c.loop-number.invariant.next)
    (subst (λ (l : List ℕ). WakesOn s c.args.line l h.run c.loop-number.self) e (c.loop-number.invariant.on h.run h.runs_all))

pub loop-number-preserved : goal.loop-number-preserved
loop-number-preserved c =
    let s = c.args.setup.now in
    let xs = c.deref-number-items.result.now in
    let at = c.loop-number.number-index in
    let many = length c.args.self.now.drivers.list.items in
    let e = wakes_split xs at c.loop-number-test.true in
    let next = subst (λ (l : List ℕ). AreNext many l) e c.loop-number.invariant.next in
    record {
      count = c.in_ok-wake.ensures.count ∙ c.loop-number.invariant.count;
      next = next_rest many (get_or xs at 0) (drop (at + 1) xs) next;
      on = λ r k. wakes_step s c.args.line (get_or xs at 0) (drop (at + 1) xs) r c.loop-number.self c.wake.new.self many
          c.loop-number.invariant.count next c.in_ok-wake.ensures.ok
          (subst (λ (l : List ℕ). WakesOn s c.args.line l r c.loop-number.self) e (c.loop-number.invariant.on r k));
    }

pub returns : goal.returns
returns c = record {
  ok = λ r k.
      let s = c.args.setup.now in
      let xs = c.deref-number-items.result.now in
      let at = c.loop-number.number-index in
      let none : drop at xs ≡ [] = drop_of_length-le xs c.loop-number-test.false in
      wakes_end s c.args.line r c.loop-number.self
      (subst (λ (l : List ℕ). WakesOn s c.args.line l r c.loop-number.self) none (c.loop-number.invariant.on r k));
}
