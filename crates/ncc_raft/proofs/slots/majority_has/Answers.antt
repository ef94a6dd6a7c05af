use Rattle.std.proofs.Common.{◌+◌, arith, sym, subst}
use Rattle.ncc_raft.proofs.Tallies.{Having, having_all, having_no, having_yes}
use Rattle.ncc_raft.proofs.slots.majority_has.Goals.{then-place-known, else-place-known}
use Rattle.ncc_raft.proofs.slots.majority_has.Goals as goal

pub loop-i-preserved : goal.loop-i-preserved
loop-i-preserved c = elim c.if-place-known.branch [
  | then-place-known w ↦ subst (Having c.args.matches.now c.args.id c.args.own c.args.place (c.loop-i.i + 1)) (sym w.count-is)
      (having_yes c.args.matches.now c.args.id c.args.own c.args.place c.loop-i.i c.loop-i.count c.known.result c.known.ensures.known
      w.if-place-known.true
      c.loop-i.invariant)
  | else-place-known w ↦ subst (Having c.args.matches.now c.args.id c.args.own c.args.place (c.loop-i.i + 1)) (sym w.count-is)
      (having_no c.args.matches.now c.args.id c.args.own c.args.place c.loop-i.i c.loop-i.count c.known.result c.known.ensures.known
      w.if-place-known.false
      c.loop-i.invariant)
]

pub returns : goal.returns
returns c =
    record {
      exact = having_all c.args.matches.now c.args.id c.args.own c.args.place c.loop-i.i c.loop-i.count (omega arith)
          c.loop-i.invariant;
    }
