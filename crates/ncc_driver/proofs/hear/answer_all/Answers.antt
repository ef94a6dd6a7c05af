use Rattle.std.proofs.Common.{true, false, ◌∙◌}
use Rattle.ncc_driver.specs.Work.{job_by}
use Rattle.ncc_driver.proofs.Moving.{hears_on, hears_still, same_job, not_awaits}
use Rattle.ncc_driver.proofs.hear.answer_all.Goals as goal

pub returns-in_default : goal.returns-in_default
returns-in_default g c = record {
  ok = hears_still c.args.config.now (job_by (g.W.Work.writing c.args.work.now) (g.W.Work.steps c.args.work.now)) c.args.now
      (g.W.Work.stands c.args.work.now) (g.W.Work.stands c.items.work) c.args.core.now c.items.core c.args.link.now c.items.link
      c.args.queue.now.items c.items.queue.items c.items.invariant.gone (not_awaits c.items.core.stage c.in_default.not-Awaits);
  keeps = c.items.invariant.keeps;
  ends = c.items.invariant.ends;
  stands = c.items.invariant.stands;
  writing = c.items.invariant.writing;
  steps = c.items.invariant.steps;
}

pub returns-then-not-more-clause-ok : goal.returns-then-not-more-clause-ok
returns-then-not-more-clause-ok g c =
    hears_on c.args.config.now (job_by (g.W.Work.writing c.args.work.now) (g.W.Work.steps c.args.work.now)) c.args.now
    (g.W.Work.stands c.args.work.now) (g.W.Work.stands c.items.work) (g.W.Work.stands c.answer_next.new.work) c.args.core.now c.items.core
    c.answer_next.new.core c.args.link.now c.items.link c.answer_next.new.link c.args.queue.now.items c.items.queue.items
    c.answer_next.new.queue.items false c.items.invariant.gone
    (same_job c.args.config.now (g.W.Work.writing c.items.work) (g.W.Work.writing c.args.work.now) (g.W.Work.steps c.items.work)
    (g.W.Work.steps c.args.work.now) c.args.now (g.W.Work.stands c.items.work) (g.W.Work.stands c.answer_next.new.work) c.items.core
    c.answer_next.new.core c.items.link c.answer_next.new.link c.items.queue.items c.answer_next.new.queue.items c.in_ok-more.more false
    c.items.invariant.writing c.items.invariant.steps c.if-not-more.true c.in_ok-more.ensures.ok)

pub items-preserved : goal.items-preserved
items-preserved g c = record {
  gone = hears_on c.args.config.now (job_by (g.W.Work.writing c.args.work.now) (g.W.Work.steps c.args.work.now)) c.args.now
      (g.W.Work.stands c.args.work.now) (g.W.Work.stands c.items.work) (g.W.Work.stands c.answer_next.new.work) c.args.core.now c.items.core
      c.answer_next.new.core c.args.link.now c.items.link c.answer_next.new.link c.args.queue.now.items c.items.queue.items
      c.answer_next.new.queue.items true c.items.invariant.gone
      (same_job c.args.config.now (g.W.Work.writing c.items.work) (g.W.Work.writing c.args.work.now) (g.W.Work.steps c.items.work)
      (g.W.Work.steps c.args.work.now) c.args.now (g.W.Work.stands c.items.work) (g.W.Work.stands c.answer_next.new.work) c.items.core
      c.answer_next.new.core c.items.link c.answer_next.new.link c.items.queue.items c.answer_next.new.queue.items c.in_ok-more.more true
      c.items.invariant.writing c.items.invariant.steps c.if-not-more.false c.in_ok-more.ensures.ok);
  keeps = c.in_ok-more.ensures.keeps;
  ends = c.in_ok-more.ensures.ends;
  stands = c.in_ok-more.ensures.stands;
  writing = c.in_ok-more.ensures.writing ∙ c.items.invariant.writing;
  steps = c.in_ok-more.ensures.steps ∙ c.items.invariant.steps;
}
