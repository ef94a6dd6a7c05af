use Rattle.ncc_raft.specs.Member.{Receive}
use Rattle.ncc_raft.proofs.Cored.{called, keeps_core, sound_at}
use Rattle.ncc_raft.proofs.member.Core.receive.Goals as goal

pub receive-requires : goal.receive-requires
receive-requires c = record {
  seat = c.self.invariant.seat;
  sound = sound_at c.self.inside.seat c.self.inside.state c.self.invariant;
  carried = c.requires.carried;
}

pub invariant_of-self : goal.invariant_of-self
invariant_of-self c =
    keeps_core (Receive c.args.envelope.now) c.self.inside.seat c.self.inside.state c.receive.new.state c.receive.result
    c.self.invariant c.requires.carried c.receive.ensures.ok c.receive.ensures.err

pub returns : goal.returns
returns c =
    let r = called (Receive c.args.envelope.now) c.args.self.now c.self.inside.seat c.self.inside.state c.receive.new.state
    c.receive.result c.self.view_is c.receive.ensures.ok c.receive.ensures.err in
    record { seat = r.seat; member = r.member; sent = r.sent; note = r.note; change = r.change; err = r.err }
