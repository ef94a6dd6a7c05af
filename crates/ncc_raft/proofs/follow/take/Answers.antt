use Rattle.std.proofs.Common.{◌∙◌, refl}
use Rattle.ncc_raft.proofs.Follows.{taken_leads, taken_state}
use Rattle.ncc_raft.proofs.Sizes.{behind}
use Rattle.ncc_raft.proofs.follow.take.Goals as goal

pub returns-clause-taken : goal.returns-clause-taken
returns-clause-taken c =
    taken_state c.args.state.now c.args.standing c.put.new.self c.in_ok-kept.kept c.args.items.now c.args.prev c.args.same _ c.args.commit
    c.in_ok-put.ensures.ok refl (c.in_ok-kept.ensures.equal ∙ behind c.args.same c.args.items.now) c.requires.same c.requires.some

pub returns-clause-change : goal.returns-clause-change
returns-clause-change c =
    let was = c.args.state.now.standing in
    taken_leads was.term c.args.standing.term was.vote c.args.standing.vote c.args.state.now.log c.args.items.now c.in_ok-told.told
    c.args.prev c.args.same
    _ refl (c.in_ok-told.ensures.equal ∙ behind c.args.same c.args.items.now) c.requires.prev c.requires.same c.requires.some
