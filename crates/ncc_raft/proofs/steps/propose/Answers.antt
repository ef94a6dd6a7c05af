use Rattle.ncc_raft.proofs.Proposing.{appended, out_of_memory, refused}
use Rattle.ncc_raft.proofs.steps.propose.Goals as goal

pub returns-in-Some : goal.returns-in-Some
returns-in-Some c = record {
  proposed = refused c.args.seat c.args.state.now c.args.entry c.refusal.result c.in-Some.error c.refusal.ensures.exact c.in-Some.is;
}

pub returns-in-Ok : goal.returns-in-Ok
returns-in-Ok c = record {
  proposed = appended c.args.seat c.args.state.now c.add.new.state c.args.entry c.refusal.result c.len.result c.in-Ok.step
      c.refusal.ensures.exact
      c.in-None.is c.in-Ok.ensures.ok c.len.ensures.length;
}

pub returns-in-Err : goal.returns-in-Err
returns-in-Err c = record {
  proposed = out_of_memory c.args.seat c.args.state.now c.add.new.state c.args.entry c.refusal.result c.refusal.ensures.exact c.in-None.is
      c.in-Err.ensures.err;
}
