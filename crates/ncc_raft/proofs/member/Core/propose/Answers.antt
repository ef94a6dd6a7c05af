use Rattle.ncc_raft.proofs.Cored.{asked, keeps_proposed, sound_at}
use Rattle.ncc_raft.proofs.member.Core.propose.Goals as goal

pub propose-requires : goal.propose-requires
propose-requires c = record {
  seat = c.self.invariant.seat;
  sound = sound_at c.self.inside.seat c.self.inside.state c.self.invariant;
  allowed = c.requires.allowed;
}

pub invariant_of-self : goal.invariant_of-self
invariant_of-self c =
    keeps_proposed c.self.inside.seat c.self.inside.state c.propose.new.state c.args.entry c.propose.result c.self.invariant
    c.requires.allowed c.propose.ensures.proposed

pub returns : goal.returns
returns c =
    let r = asked c.args.entry c.args.self.now c.self.inside.seat c.self.inside.state c.propose.new.state c.propose.result
    c.self.view_is c.propose.ensures.proposed in
    record {
      seat = r.seat;
      member = r.member;
      sent = r.sent;
      note = r.note;
      change = r.change;
      place = r.place;
      term = r.term;
      elsewhere = r.elsewhere;
      full = r.full;
      err = r.err;
    }
