use Rattle.std.proofs.Common.{◌+◌, refl}
use Rattle.std.proofs.lemmas.Result.{IfOk-weaker}
use Rattle.ncc_raft.specs.State.{Made, offered_of, took_or_not_of}
use Rattle.ncc_raft.specs.declared.message.Step.{Step}
use Rattle.ncc_raft.proofs.Follows.{beyond_made, clash_made, fits_made}
use Rattle.ncc_raft.proofs.follow.offered.Goals as goal

pub returns-then-last-seat-clause-ok : goal.returns-then-last-seat-clause-ok
returns-then-last-seat-clause-ok c =
    let offer = c.args.offer.now in
    beyond_made c.args.seat c.args.standing c.args.state.now c.quiet.new.state c.args.from offer.prev offer.prev_term offer.commit _
    c.len.result
    offer.items.now c.quiet.result c.quiet.ensures.stood refl c.len.ensures.length c.if-last-seat.true

pub returns-in-Some-clause-ok : goal.returns-in-Some-clause-ok
returns-in-Some-clause-ok c =
    let offer = c.args.offer.now in
    let clash = c.in-Some.clash in
    clash_made c.args.seat c.args.standing c.args.state.now c.quiet-in-Some.new.state c.args.from offer.prev offer.prev_term offer.commit
    _ c.len.result
    clash.place clash.kept clash.told offer.items.now c.as_slice-log.result.now c.as_slice-items.result.now c.quiet-in-Some.result
    c.quiet-in-Some.ensures.stood c.in-Some.ensures.some c.as_slice-log.ensures.same c.as_slice-items.ensures.same refl c.len.ensures.length
    c.if-last-seat.false

pub returns-in-None-clause-ok : goal.returns-in-None-clause-ok
returns-in-None-clause-ok c =
    let offer = c.args.offer.now in
    IfOk-weaker c.took_or_not.result
    (λ (s : Step). Made c.args.state.now c.took_or_not.new.state
    (took_or_not_of c.args.seat c.args.standing c.args.state.now c.args.from offer.prev offer.prev_term offer.commit offer.items.now) s)
    (λ (s : Step). Made c.args.state.now c.took_or_not.new.state
    (offered_of c.args.seat c.args.standing c.args.state.now c.args.from offer.prev offer.prev_term offer.commit offer.items.now) s)
    (λ s made. fits_made c.args.seat c.args.standing c.args.state.now c.took_or_not.new.state c.args.from offer.prev offer.prev_term
    offer.commit
    (offer.prev + c.len.result) c.len.result offer.items.now c.as_slice-log.result.now c.as_slice-items.result.now s made
    c.in-None.ensures.none
    c.as_slice-log.ensures.same c.as_slice-items.ensures.same refl c.len.ensures.length c.if-last-seat.false)
    c.took_or_not.ensures.ok
