use Rattle.std.proofs.lemmas.Result.{IfOk-weaker}
use Rattle.ncc_raft.specs.State.{Made, append_of, offered_of}
use Rattle.ncc_raft.specs.declared.message.RaftRole.TheVariants.{Follower}
use Rattle.ncc_raft.specs.declared.message.Step.{Step}
use Rattle.ncc_raft.proofs.Follows.{append_leads_made, follows_made, older_made}
use Rattle.ncc_raft.proofs.follow.on_append.Goals as goal

pub returns-then-term-standing-clause-ok : goal.returns-then-term-standing-clause-ok
returns-then-term-standing-clause-ok c =
    let offer = c.args.offer.now in
    older_made c.args.seat c.args.standing c.args.state.now c.stand.new.state c.args.from c.args.term offer.prev offer.prev_term
    offer.commit
    offer.items.now c.in_ok-out.out c.stand.result c.stand.ensures.stood c.in_ok-out.ensures.letter c.if-term-standing.true

pub returns-then-is_leader-clause-ok : goal.returns-then-is_leader-clause-ok
returns-then-is_leader-clause-ok c =
    let offer = c.args.offer.now in
    append_leads_made c.args.seat c.args.standing c.args.state.now c.quiet.new.state c.args.from c.args.term offer.prev offer.prev_term
    offer.commit
    offer.items.now c.is_leader.result c.quiet.result c.quiet.ensures.stood c.if-term-standing.false c.is_leader.ensures.exact
    c.if-is_leader.true

pub returns-clause-ok : goal.returns-clause-ok
returns-clause-ok c =
    let offer = c.args.offer.now in
    let st = c.args.standing in
    IfOk-weaker c.offered.result
    (λ (s : Step). Made c.args.state.now c.offered.new.state
    (offered_of c.args.seat (record { term = st.term; vote = st.vote; role = Follower; leader = c.args.from }) c.args.state.now c.args.from
    offer.prev offer.prev_term offer.commit offer.items.now) s)
    (λ (s : Step). Made c.args.state.now c.offered.new.state
    (append_of c.args.seat st c.args.state.now c.args.from c.args.term offer.prev offer.prev_term offer.commit offer.items.now) s)
    (λ s made. follows_made c.args.seat st c.args.state.now c.offered.new.state c.args.from c.args.term offer.prev offer.prev_term
    offer.commit
    offer.items.now c.is_leader.result s made c.if-term-standing.false c.is_leader.ensures.exact c.if-is_leader.false)
    c.offered.ensures.ok
