use Rattle.ncc_raft.specs.Member.{Timeout}
use Rattle.ncc_raft.proofs.Cored.{called, keeps_core, sound_at}
use Rattle.ncc_raft.proofs.member.Core.timeout.Goals as goal

pub time_out-requires : goal.time_out-requires
time_out-requires c = record { seat = c.self.invariant.seat; sound = sound_at c.self.inside.seat c.self.inside.state c.self.invariant }

pub invariant_of-self : goal.invariant_of-self
invariant_of-self c =
    keeps_core Timeout c.self.inside.seat c.self.inside.state c.time_out.new.state c.time_out.result c.self.invariant tt
    c.time_out.ensures.ok c.time_out.ensures.err

pub returns : goal.returns
returns c =
    let r = called Timeout c.args.self.now c.self.inside.seat c.self.inside.state c.time_out.new.state c.time_out.result c.self.view_is
    c.time_out.ensures.ok c.time_out.ensures.err in
    record { seat = r.seat; member = r.member; sent = r.sent; note = r.note; change = r.change; err = r.err }
