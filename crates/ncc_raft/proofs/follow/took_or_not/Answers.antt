use Rattle.std.proofs.Common.{arith}
use Rattle.std.proofs.lemmas.Grind.{common_steps}
use Rattle.std.proofs.lemmas.Result.{IfOk-weaker}
use Rattle.ncc_raft.specs.State.{Made, took_of, took_or_not_of}
use Rattle.ncc_raft.specs.declared.message.Step.{Step}
use Rattle.ncc_raft.proofs.Follows.{took_not_made, took_yes_made}
use Rattle.ncc_raft.proofs.follow.took_or_not.Goals as goal

pub returns-then-has_prev-clause-ok : goal.returns-then-has_prev-clause-ok
returns-then-has_prev-clause-ok c =
    let offer = c.args.offer.now in
    IfOk-weaker c.took.result
    (λ (s : Step). Made c.args.state.now c.took.new.state
    (took_of c.args.seat c.args.standing c.args.state.now c.args.from offer.prev offer.commit offer.items.now) s)
    (λ (s : Step). Made c.args.state.now c.took.new.state
    (took_or_not_of c.args.seat c.args.standing c.args.state.now c.args.from offer.prev offer.prev_term offer.commit offer.items.now) s)
    (λ s made. took_yes_made c.args.seat c.args.standing c.args.state.now c.took.new.state c.args.from offer.prev offer.prev_term
    offer.commit
    offer.items.now c.has_prev.result s made c.has_prev.ensures.exact c.if-has_prev.true)
    c.took.ensures.ok

pub returns-clause-ok : goal.returns-clause-ok
returns-clause-ok c =
    let offer = c.args.offer.now in
    took_not_made c.args.seat c.args.standing c.args.state.now c.stand.new.state c.args.from offer.prev offer.prev_term offer.commit _
    c.len.result
    offer.items.now c.has_prev.result c.in_ok-out.out c.stand.result c.stand.ensures.stood c.in_ok-out.ensures.letter
    (grind (arith, common_steps))
    c.len.ensures.length c.has_prev.ensures.exact c.if-has_prev.false
