use Rattle.ncc_raft.specs.Member.{Beat}
use Rattle.ncc_raft.proofs.Cored.{called, keeps_core, sound_at}
use Rattle.ncc_raft.proofs.member.Core.beat.Goals as goal

pub send_beat-requires : goal.send_beat-requires
send_beat-requires c = record { seat = c.self.invariant.seat; sound = sound_at c.self.inside.seat c.self.inside.state c.self.invariant }

pub invariant_of-self : goal.invariant_of-self
invariant_of-self c =
    keeps_core Beat c.self.inside.seat c.self.inside.state c.send_beat.new.state c.send_beat.result c.self.invariant tt
    c.send_beat.ensures.ok c.send_beat.ensures.err

pub returns : goal.returns
returns c =
    let r = called Beat c.args.self.now c.self.inside.seat c.self.inside.state c.send_beat.new.state c.send_beat.result c.self.view_is
    c.send_beat.ensures.ok c.send_beat.ensures.err in
    record { seat = r.seat; member = r.member; sent = r.sent; note = r.note; change = r.change; err = r.err }
