use Rattle.std.proofs.Common.{◌≡◌, ◌∙◌, ◌<◌, ◌≤◌, ◌∷◌, ◌++◌, [], ap, ap₂, sym, arith}
use Rattle.ncc_wait.specs.Tree.{below, ends_of}
use Rattle.ncc_wait.proofs.Sides.{other_side, put_over, put_under, within_ends, within_one}
use Rattle.ncc_wait.proofs.tree.put_beside.Goals as goal
use Rattle.ncc_wait.proofs.tree.put_beside.Goals.{then-parked-ends, else-parked-ends}

pub side_by_side-requires-clause-low : goal.side_by_side-requires-clause-low
side_by_side-requires-clause-low c = within_one c.args.parked _ (cc (c.in_ok-one.ensures.ok, c.one.ensures))

pub side_by_side-requires-clause-high : goal.side_by_side-requires-clause-high
side_by_side-requires-clause-high c =
    rw (c.closed.ensures, c.replace.ensures.value, c.ends-ends.ensures)
    (within_ends c.args.node.now c.args.parked.conn c.requires.tree c.requires.outside (omega arith))

pub side_by_side-requires-else-parked-ends-clause-low : goal.side_by_side-requires-else-parked-ends-clause-low
side_by_side-requires-else-parked-ends-clause-low c =
    rw (c.closed.ensures, c.replace.ensures.value, c.ends-ends.ensures)
    (within_ends c.args.node.now c.args.parked.conn c.requires.tree c.requires.outside (omega arith))

pub side_by_side-requires-else-parked-ends-clause-high : goal.side_by_side-requires-else-parked-ends-clause-high
side_by_side-requires-else-parked-ends-clause-high c = within_one c.args.parked _ (cc (c.in_ok-one.ensures.ok, c.one.ensures))

pub returns-clause-ok : goal.returns-clause-ok
returns-clause-ok c =
    let node = c.args.node.now in
    let w = within_ends node c.args.parked.conn c.requires.tree c.requires.outside (omega arith) in
    let one : c.in_ok-one.one.value ≡ c.args.parked ∷ [] = c.in_ok-one.ensures.ok ∙ c.one.ensures in
    let rest : c.closed.result ≡ below node = c.closed.ensures ∙ ap below c.replace.ensures.value in
    elim c.if-parked-ends.branch [
      | then-parked-ends b ↦
          let low : c.args.parked.conn < (ends_of node).0 = rw (← c.ends-ends.ensures) b.if-parked-ends.true in
          rw b.t-31-is (
            b.side_by_side.ensures.tree,
            b.side_by_side.ensures.same ∙ ap₂ (λ x y. x ++ y) one rest ∙ sym (put_under (ends_of node) (below node) c.args.parked w low),
          )
      | else-parked-ends b ↦
          let le : (ends_of node).0 ≤ c.args.parked.conn = rw (← c.ends-ends.ensures) b.if-parked-ends.false in
          let high = other_side node c.args.parked.conn c.requires.outside le in
          rw b.t-31-is (
            b.side_by_side-else-parked-ends.ensures.tree,
            b.side_by_side-else-parked-ends.ensures.same ∙ ap₂ (λ x y. x ++ y) rest one
                ∙ sym (put_over (ends_of node) (below node) c.args.parked w high),
          )
    ]
