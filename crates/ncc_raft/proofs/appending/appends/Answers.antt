use Rattle.std.proofs.Common.{◌∙◌}
use Rattle.ncc_raft.specs.State.{seat_of, sender}
use Rattle.ncc_raft.proofs.Appended.{appends_less, appends_more}
use Rattle.ncc_raft.proofs.appending.appends.Goals.{then-core-seat+in_ok-body+in_ok-push, else-core-seat}
use Rattle.ncc_raft.proofs.appending.appends.Goals as goal

pub loop-i-preserved : goal.loop-i-preserved
loop-i-preserved c = elim c.if-core-seat.branch [
  | then-core-seat+in_ok-body+in_ok-push w ↦
      let more = appends_more (seat_of c.args.seat) c.args.term c.args.commit c.loop-i.i w.saturating_sub.result w.of.result
      c.args.log.now c.args.next.now c.loop-i.out w.in_ok-body.body c.loop-i.invariant w.in_ok-body.ensures.body
      w.saturating_sub.ensures w.of.ensures.place w.if-core-seat.true in
      w.out-is ∙ w.in_ok-push.ensures.ok ∙ more
  | else-core-seat w ↦
      let less = appends_less (seat_of c.args.seat) (sender c.args.term c.args.commit c.args.log.now c.args.next.now) c.loop-i.i
      c.loop-i.out c.loop-i.invariant w.if-core-seat.false in
      w.out-is ∙ less
]
