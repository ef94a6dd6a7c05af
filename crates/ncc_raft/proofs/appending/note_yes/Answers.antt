use Rattle.std.proofs.Common.{arith}
use Rattle.ncc_raft.proofs.Appended.{noted_yes_made}
use Rattle.ncc_raft.proofs.appending.note_yes.Goals as goal

pub returns : goal.returns
returns c = record {
  made = noted_yes_made c.args.standing c.args.state.now c.quiet.new.state c.args.from c.args.place c.max-has.result c.of-known.result
      c.len.result
      c.set.new.self c.set-2.new.self c.quiet.result c.quiet.ensures.stood c.set.ensures.set c.set-2.ensures.set
      (omega (arith, c.max-has.ensures, c.min.ensures)) c.of-known.ensures.place c.len.ensures.length;
}
