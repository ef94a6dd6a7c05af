use Rattle.std.proofs.Common.{subst, sym, ap, ◌∙◌}
use Rattle.ncc_session.specs.Core.{question_of, next_of, doing_of, place_of}
use Rattle.ncc_session.specs.Talk.{Talk, MayAskAt}
use Rattle.ncc_session.proofs.Asked.{asked_is, may_ask}
use Rattle.ncc_session.proofs.conn.Conn.ask.Goals as goal

pub returns-in-Asks-clause-may_ask : goal.returns-in-Asks-clause-may_ask
returns-in-Asks-clause-may_ask c =
    subst (λ (t : Talk). MayAskAt t (question_of c.in-Asks.ask)) c.self.view_is
    (may_ask _ (question_of c.in-Asks.ask)
    (asked_is _ (place_of c.self.inside.core) _ (next_of c.in-Asks.behind) c.if-self.false (sym c.has_ended.ensures ∙ c.if-has_ended.false)
    (ap doing_of c.in-Asks.is)))
