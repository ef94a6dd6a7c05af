use Rattle.std.proofs.Common.{◌+◌, sym, subst}
use Rattle.ncc_raft.proofs.Tallies.{Counted, counted_from, counted_not, counted_vote}
use Rattle.ncc_raft.proofs.slots.elects.Goals.{then-vote, then-vote-via-then-vote, then-vote-via-else-vote+then-i-from}
use Rattle.ncc_raft.proofs.slots.elects.Goals.{else-vote+else-i-from}
use Rattle.ncc_raft.proofs.slots.elects.Goals as goal

pub loop-i-preserved : goal.loop-i-preserved
loop-i-preserved c =
    let votes = c.args.votes.now in
    let i = c.loop-i.i in
    elim c.if-vote.branch [
      | then-vote w ↦ subst (Counted votes c.args.from (i + 1)) (sym w.count-is) (elim w.then-vote.branch [
        | then-vote-via-then-vote w' ↦
            counted_vote votes c.args.from i c.loop-i.count c.requires.some c.requires.core w'.if-vote.true c.loop-i.invariant
        | then-vote-via-else-vote+then-i-from w' ↦
            counted_from votes c.args.from i c.loop-i.count c.requires.some c.requires.core w'.if-i-from.true c.loop-i.invariant
      ])
      | else-vote+else-i-from w ↦ subst (Counted votes c.args.from (i + 1)) (sym w.count-is)
          (counted_not votes c.args.from i c.loop-i.count c.requires.some w.if-vote.false w.if-i-from.false c.loop-i.invariant)
    ]
