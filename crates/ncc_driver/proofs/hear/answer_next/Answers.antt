use Rattle.ncc_driver.specs.Work.{job_by}
use Rattle.ncc_driver.proofs.Moving.{hears_one}
use Rattle.ncc_driver.proofs.hear.answer_next.Goals as goal

pub returns-in_ok-answer-in-Some-clause-ok : goal.returns-in_ok-answer-in-Some-clause-ok
returns-in_ok-answer-in-Some-clause-ok g c =
    hears_one c.args.config.now (job_by (g.W.Work.writing c.args.work.now) (g.W.Work.steps c.args.work.now)) c.args.now c.args.asked _
    c.in-Some.item _ (g.W.Work.stands c.args.work.now) (g.W.Work.stands c.answer.new.work) c.args.core.now c.answer.new.core c.args.link.now
    c.take.new.self _ _ c.requires.at c.number-number.ensures.exact c.in-Some.is c.in_ok-item.ensures.ok c.in_ok-answer-in-Some.ensures.ok
