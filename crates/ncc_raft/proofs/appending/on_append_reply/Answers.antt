use Rattle.std.proofs.lemmas.Result.{IfOk-weaker}
use Rattle.ncc_raft.proofs.Appended.{answer_no_made, answer_other_made, answer_yes_made}
use Rattle.ncc_raft.proofs.appending.on_append_reply.Goals as goal

pub returns-then-not-leads_in-clause-ok : goal.returns-then-not-leads_in-clause-ok
returns-then-not-leads_in-clause-ok c =
    answer_other_made c.args.seat c.args.standing c.args.state.now c.quiet.new.state c.args.from c.args.term c.args.yes c.args.place
    c.quiet.result c.leads_in.result c.quiet.ensures.stood c.leads_in.ensures.exact c.if-not-leads_in.true

pub returns-then-yes-clause-ok : goal.returns-then-yes-clause-ok
returns-then-yes-clause-ok c =
    answer_yes_made c.args.seat c.args.standing c.args.state.now c.note_yes.new.state c.args.from c.args.term c.args.yes c.args.place
    c.note_yes.result c.leads_in.result c.note_yes.ensures.made c.leads_in.ensures.exact c.if-not-leads_in.false c.if-yes.true

pub returns-else-yes-clause-ok : goal.returns-else-yes-clause-ok
returns-else-yes-clause-ok c =
    IfOk-weaker c.note_no.result _ _
    (λ s x. answer_no_made c.args.seat c.args.standing c.args.state.now c.note_no.new.state c.args.from c.args.term c.args.yes
    c.args.place s c.leads_in.result x c.leads_in.ensures.exact c.if-not-leads_in.false c.if-yes.false) c.note_no.ensures.ok
