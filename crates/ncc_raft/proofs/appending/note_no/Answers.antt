use Rattle.std.proofs.Common.{arith}
use Rattle.ncc_raft.proofs.Appended.{noted_no_made}
use Rattle.ncc_raft.proofs.appending.note_no.Goals as goal

pub returns-clause-ok : goal.returns-clause-ok
returns-clause-ok c =
    noted_no_made c.args.seat c.args.standing c.args.state.now c.stand.new.state c.args.from c.args.place c.max-prev.result
    c.of-known.result c.saturating_sub-before.result c.len.result c.set.new.self c.in_ok-body.body c.in_ok-out.out c.stand.result
    c.stand.ensures.stood c.set.ensures.set
    (omega (arith, c.max-prev.ensures, c.min-2.ensures, c.min.ensures)) c.of-known.ensures.place
    (omega (arith, c.saturating_sub-before.ensures, c.of.ensures.place)) c.len.ensures.length c.in_ok-body.ensures.body
    c.in_ok-out.ensures.letter c.requires.some c.requires.next
