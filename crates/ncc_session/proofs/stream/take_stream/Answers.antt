use Rattle.std.proofs.Common.{sym, ◌∙◌}
use Rattle.std.proofs.lemmas.Result.{on_ok_weaker, on_err_weaker}
use Rattle.ncc_session.proofs.Moves.{on_err}
use Rattle.ncc_session.proofs.Feeding.{ended_feeds, settle_feeds, settle_breaks, none_breaks}
use Rattle.ncc_session.proofs.stream.take_stream.Goals as goal

pub returns-then-has_ended-clause-ok : goal.returns-then-has_ended-clause-ok
returns-then-has_ended-clause-ok c = ended_feeds _ _ _ _ _ _ (sym c.has_ended.ensures ∙ c.if-has_ended.true) c.requires

pub returns-in_err-feed-clause-err : goal.returns-in_err-feed-clause-err
returns-in_err-feed-clause-err c = on_err c.from_residual.result _ (none_breaks _ _ _ _ _ _ _ _ c.requires)

pub returns-clause-ok : goal.returns-clause-ok
returns-clause-ok c =
    on_ok_weaker c.settle.result
    (λ s. settle_feeds _ _ _ _ _ _ _ _ _ _ (sym c.has_ended.ensures ∙ c.if-has_ended.false) c.requires c.in_ok-feed.ensures.ok s)
    c.settle.ensures.ok

pub returns-clause-err : goal.returns-clause-err
returns-clause-err c =
    on_err_weaker c.settle.result
    (λ s. settle_breaks _ _ _ _ _ _ _ _ _ _ (sym c.has_ended.ensures ∙ c.if-has_ended.false) c.requires c.in_ok-feed.ensures.ok s)
    c.settle.ensures.err
