use Rattle.std.proofs.Common.{◌∙◌, refl, ap, arith, drop}
use Rattle.std.proofs.lemmas.Grind.{common_steps}
use Rattle.ncc_raft.proofs.Follows.{took_part_made, took_whole_made}
use Rattle.ncc_raft.proofs.Sizes.{behind}
use Rattle.ncc_raft.proofs.follow.took.Goals as goal

pub returns-then-same-items-clause-ok : goal.returns-then-same-items-clause-ok
returns-then-same-items-clause-ok c =
    let offer = c.args.offer.now in
    took_whole_made c.args.seat c.args.standing c.args.state.now c.stand.new.state c.args.from offer.prev offer.commit _
    c.same_terms-same.result
    c.max-commit.result offer.items.now _ c.as_slice-items.result.now c.in_ok-out.out c.stand.result c.stand.ensures.stood
    c.in_ok-out.ensures.letter
    c.same_terms-same.ensures.most (behind offer.prev c.as_slice.result.now ∙ ap (drop offer.prev) c.as_slice.ensures.same)
    c.as_slice-items.ensures.same c.if-same-items.true refl
    (grind (arith, common_steps))

pub returns-clause-ok : goal.returns-clause-ok
returns-clause-ok c =
    let offer = c.args.offer.now in
    took_part_made c.args.seat c.args.standing c.args.state.now c.take.new.state c.args.from offer.prev offer.commit _ c.max-commit.result
    offer.items.now
    c.as_slice-items.result.now c.in_ok-out.out c.in_ok-change.change c.in_ok-change.ensures.taken c.in_ok-change.ensures.change
    c.in_ok-out.ensures.letter
    c.as_slice-items.ensures.same refl (grind (arith, common_steps))
