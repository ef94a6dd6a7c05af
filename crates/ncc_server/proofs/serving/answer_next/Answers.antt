use Rattle.ncc_server.proofs.serving.answer_next.Goals as goal

pub answer-requires-clause-may_ask : goal.answer-requires-clause-may_ask
answer-requires-clause-may_ask g c =
    let k = c.requires.live in c.in-Some.ensures.may_ask k.config k.bytes k.facts k.out k.stands
