use Rattle.std.proofs.lemmas.Result.{on_ok_weaker}
use Rattle.ncc_driver.specs.Work.{job_by}
use Rattle.ncc_driver.proofs.Behind.{routed, committed, failed, refuted, follow_keeps, row_keeps}
use Rattle.ncc_driver.proofs.EndsFit.{follow_fits, routed_fits, committed_fits, failed_fits, refuted_fits}
use Rattle.ncc_driver.proofs.attempt.answer.Goals as goal

pub returns-in-Done-clause-keeps : goal.returns-in-Done-clause-keeps
returns-in-Done-clause-keeps g c =
    on_ok_weaker c.follow.result
    (follow_keeps c.args.config.now (job_by (g.W.Work.writing c.args.work.now) (g.W.Work.steps c.args.work.now)) c.args.asked
    c.args.core.now
    c.follow.new.core _ _ (g.W.Work.stands c.args.work.now) (g.W.Work.stands c.follow.new.work) c.requires.at c.requires.stands
    c.requires.keeps)
    c.follow.ensures.ok

pub returns-in_ok-push-in-Row-clause-keeps : goal.returns-in_ok-push-in-Row-clause-keeps
returns-in_ok-push-in-Row-clause-keeps g c =
    row_keeps c.args.core.now _ _ _ c.in_ok-push-in-Row.ensures.ok c.in-Row.is c.in_ok-told_by.ensures.fits c.requires.keeps

pub returns-in-Routed-clause-ok : goal.returns-in-Routed-clause-ok
returns-in-Routed-clause-ok g c =
    on_ok_weaker c.keep_table.result
    (λ m. (routed c.args.config.now (job_by (g.W.Work.writing c.args.work.now) (g.W.Work.steps c.args.work.now)) c.args.now c.args.asked
    c.args.number
    c.in_ok-told_by.field-0 _ c.args.core.now c.keep_table.new.core _ _ (g.W.Work.stands c.args.work.now)
    (g.W.Work.stands c.args.work.now) _ _ c.in_ok-told_by.ensures.exact c.in-Routed.is
    c.in_ok-told_by.ensures.fits c.requires.keeps c.writes.ensures.exact m).ok)
    c.keep_table.ensures.ok

pub returns-in-Routed-clause-keeps : goal.returns-in-Routed-clause-keeps
returns-in-Routed-clause-keeps g c =
    on_ok_weaker c.keep_table.result
    (λ m. (routed c.args.config.now (job_by (g.W.Work.writing c.args.work.now) (g.W.Work.steps c.args.work.now)) c.args.now c.args.asked
    c.args.number
    c.in_ok-told_by.field-0 _ c.args.core.now c.keep_table.new.core _ _ (g.W.Work.stands c.args.work.now)
    (g.W.Work.stands c.args.work.now) _ _ c.in_ok-told_by.ensures.exact c.in-Routed.is
    c.in_ok-told_by.ensures.fits c.requires.keeps c.writes.ensures.exact m).keeps)
    c.keep_table.ensures.ok

pub returns-in-Routed-clause-stands : goal.returns-in-Routed-clause-stands
returns-in-Routed-clause-stands g c =
    on_ok_weaker c.keep_table.result
    (λ m. (routed c.args.config.now (job_by (g.W.Work.writing c.args.work.now) (g.W.Work.steps c.args.work.now)) c.args.now c.args.asked
    c.args.number
    c.in_ok-told_by.field-0 _ c.args.core.now c.keep_table.new.core _ _ (g.W.Work.stands c.args.work.now)
    (g.W.Work.stands c.args.work.now) _ _ c.in_ok-told_by.ensures.exact c.in-Routed.is
    c.in_ok-told_by.ensures.fits c.requires.keeps c.writes.ensures.exact m).still)
    c.keep_table.ensures.ok

pub returns-in-Committed-clause-ok : goal.returns-in-Committed-clause-ok
returns-in-Committed-clause-ok g c =
    on_ok_weaker c.succeed.result
    (λ m. (committed c.args.config.now (job_by (g.W.Work.writing c.args.work.now) (g.W.Work.steps c.args.work.now)) c.args.now
    c.args.asked c.args.number
    c.in_ok-told_by.field-0 _ c.args.core.now c.succeed.new.core _ _ (g.W.Work.stands c.args.work.now) (g.W.Work.stands c.args.work.now) _
    c.in_ok-told_by.ensures.exact
    c.in-Committed.is c.in_ok-told_by.ensures.fits c.requires.keeps m).ok)
    c.succeed.ensures.ok

pub returns-in-Committed-clause-keeps : goal.returns-in-Committed-clause-keeps
returns-in-Committed-clause-keeps g c =
    on_ok_weaker c.succeed.result
    (λ m. (committed c.args.config.now (job_by (g.W.Work.writing c.args.work.now) (g.W.Work.steps c.args.work.now)) c.args.now
    c.args.asked c.args.number
    c.in_ok-told_by.field-0 _ c.args.core.now c.succeed.new.core _ _ (g.W.Work.stands c.args.work.now) (g.W.Work.stands c.args.work.now) _
    c.in_ok-told_by.ensures.exact
    c.in-Committed.is c.in_ok-told_by.ensures.fits c.requires.keeps m).keeps)
    c.succeed.ensures.ok

pub returns-in-Committed-clause-stands : goal.returns-in-Committed-clause-stands
returns-in-Committed-clause-stands g c =
    on_ok_weaker c.succeed.result
    (λ m. (committed c.args.config.now (job_by (g.W.Work.writing c.args.work.now) (g.W.Work.steps c.args.work.now)) c.args.now
    c.args.asked c.args.number
    c.in_ok-told_by.field-0 _ c.args.core.now c.succeed.new.core _ _ (g.W.Work.stands c.args.work.now) (g.W.Work.stands c.args.work.now) _
    c.in_ok-told_by.ensures.exact
    c.in-Committed.is c.in_ok-told_by.ensures.fits c.requires.keeps m).still)
    c.succeed.ensures.ok

pub returns-in-Failed-clause-ok : goal.returns-in-Failed-clause-ok
returns-in-Failed-clause-ok g c =
    on_ok_weaker c.fail.result
    (λ m. (failed c.args.config.now (job_by (g.W.Work.writing c.args.work.now) (g.W.Work.steps c.args.work.now)) c.args.now c.args.asked
    c.args.number
    c.in_ok-told_by.field-0 _ c.args.core.now c.fail.new.core _ _ (g.W.Work.stands c.args.work.now) (g.W.Work.stands c.args.work.now) _
    c.in_ok-told_by.ensures.exact
    c.in-Failed.is c.in_ok-told_by.ensures.fits c.requires.keeps m).ok)
    c.fail.ensures.ok

pub returns-in-Failed-clause-keeps : goal.returns-in-Failed-clause-keeps
returns-in-Failed-clause-keeps g c =
    on_ok_weaker c.fail.result
    (λ m. (failed c.args.config.now (job_by (g.W.Work.writing c.args.work.now) (g.W.Work.steps c.args.work.now)) c.args.now c.args.asked
    c.args.number
    c.in_ok-told_by.field-0 _ c.args.core.now c.fail.new.core _ _ (g.W.Work.stands c.args.work.now) (g.W.Work.stands c.args.work.now) _
    c.in_ok-told_by.ensures.exact
    c.in-Failed.is c.in_ok-told_by.ensures.fits c.requires.keeps m).keeps)
    c.fail.ensures.ok

pub returns-in-Failed-clause-stands : goal.returns-in-Failed-clause-stands
returns-in-Failed-clause-stands g c =
    on_ok_weaker c.fail.result
    (λ m. (failed c.args.config.now (job_by (g.W.Work.writing c.args.work.now) (g.W.Work.steps c.args.work.now)) c.args.now c.args.asked
    c.args.number
    c.in_ok-told_by.field-0 _ c.args.core.now c.fail.new.core _ _ (g.W.Work.stands c.args.work.now) (g.W.Work.stands c.args.work.now) _
    c.in_ok-told_by.ensures.exact
    c.in-Failed.is c.in_ok-told_by.ensures.fits c.requires.keeps m).still)
    c.fail.ensures.ok

pub returns-in-Bad-clause-ok : goal.returns-in-Bad-clause-ok
returns-in-Bad-clause-ok g c =
    on_ok_weaker c.refute.result
    (λ m. (refuted c.args.config.now (job_by (g.W.Work.writing c.args.work.now) (g.W.Work.steps c.args.work.now)) c.args.now c.args.asked
    c.args.number
    c.in_ok-told_by.field-0 _ c.args.core.now c.refute.new.core _ _ (g.W.Work.stands c.args.work.now) (g.W.Work.stands c.args.work.now)
    c.in_ok-told_by.ensures.exact
    c.in-Bad.is c.requires.keeps m).ok)
    c.refute.ensures.ok

pub returns-in-Bad-clause-keeps : goal.returns-in-Bad-clause-keeps
returns-in-Bad-clause-keeps g c =
    on_ok_weaker c.refute.result
    (λ m. (refuted c.args.config.now (job_by (g.W.Work.writing c.args.work.now) (g.W.Work.steps c.args.work.now)) c.args.now c.args.asked
    c.args.number
    c.in_ok-told_by.field-0 _ c.args.core.now c.refute.new.core _ _ (g.W.Work.stands c.args.work.now) (g.W.Work.stands c.args.work.now)
    c.in_ok-told_by.ensures.exact
    c.in-Bad.is c.requires.keeps m).keeps)
    c.refute.ensures.ok

pub returns-in-Bad-clause-stands : goal.returns-in-Bad-clause-stands
returns-in-Bad-clause-stands g c =
    on_ok_weaker c.refute.result
    (λ m. (refuted c.args.config.now (job_by (g.W.Work.writing c.args.work.now) (g.W.Work.steps c.args.work.now)) c.args.now c.args.asked
    c.args.number
    c.in_ok-told_by.field-0 _ c.args.core.now c.refute.new.core _ _ (g.W.Work.stands c.args.work.now) (g.W.Work.stands c.args.work.now)
    c.in_ok-told_by.ensures.exact
    c.in-Bad.is c.requires.keeps m).still)
    c.refute.ensures.ok

pub returns-in-Done-clause-ends : goal.returns-in-Done-clause-ends
returns-in-Done-clause-ends g c =
    on_ok_weaker c.follow.result
    (follow_fits c.args.config.now (job_by (g.W.Work.writing c.args.work.now) (g.W.Work.steps c.args.work.now)) c.args.asked
    c.args.core.now c.follow.new.core _ _ (g.W.Work.stands c.args.work.now) (g.W.Work.stands c.follow.new.work) c.requires.at
    c.requires.stands c.requires.ends)
    c.follow.ensures.ok

pub returns-in-Routed-clause-ends : goal.returns-in-Routed-clause-ends
returns-in-Routed-clause-ends g c =
    on_ok_weaker c.keep_table.result
    (routed_fits c.writes.result c.args.now c.in-Routed.table c.args.core.now c.keep_table.new.core _ _ c.requires.ends)
    c.keep_table.ensures.ok

pub returns-in-Committed-clause-ends : goal.returns-in-Committed-clause-ends
returns-in-Committed-clause-ends g c =
    on_ok_weaker c.succeed.result
    (committed_fits c.args.core.now c.succeed.new.core _ _ c.in_ok-told_by.field-0 c.in-Committed.bookmark c.in-Committed.is
    c.in_ok-told_by.ensures.fits c.requires.keeps c.requires.ends)
    c.succeed.ensures.ok

pub returns-in-Failed-clause-ends : goal.returns-in-Failed-clause-ends
returns-in-Failed-clause-ends g c =
    on_ok_weaker c.fail.result
    (failed_fits c.args.now c.args.core.now c.fail.new.core _ _ c.in_ok-told_by.field-0 c.in-Failed.code c.in-Failed.is
    c.in_ok-told_by.ensures.fits c.requires.ends)
    c.fail.ensures.ok

pub returns-in-Bad-clause-ends : goal.returns-in-Bad-clause-ends
returns-in-Bad-clause-ends g c =
    on_ok_weaker c.refute.result
    (refuted_fits c.args.number c.args.core.now c.refute.new.core _ _ c.requires.ends) c.refute.ensures.ok
