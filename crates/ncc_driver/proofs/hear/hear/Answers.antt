use Rattle.std.proofs.Common.{◌∙◌, sym}
use Rattle.std.proofs.lemmas.Result.{on_ok_weaker}
use Rattle.ncc_driver.specs.Work.{job_by}
use Rattle.ncc_driver.proofs.Moving.{bytes_move, or_more_none, or_more_some}
use Rattle.ncc_driver.proofs.EndsFit.{more_fits}
use Rattle.ncc_driver.proofs.hear.hear.Goals as goal

pub returns-then-len-held-clause-ok : goal.returns-then-len-held-clause-ok
returns-then-len-held-clause-ok g c =
    on_ok_weaker c.put.result
    (λ m. bytes_move c.args.config.now (job_by (g.W.Work.writing c.args.work.now) (g.W.Work.steps c.args.work.now)) c.args.now
    c.args.piece.now (g.W.Work.stands c.args.work.now) (g.W.Work.stands c.answer_all.new.work) c.args.core.now c.answer_all.new.core
    c.args.link.now c.feed.new.self c.answer_all.new.link c.args.queue.now.items c.answer_all.new.queue.items c.put.new.queue.items
    c.requires.at c.in_ok-feed.ensures.ok c.in_ok-answer_all.ensures.ok
    (or_more_none _ _ _
    (sym (c.len.ensures ∙ c.answer_all.new.queue.ok.0) ∙ c.if-len-held.true ∙ c.len-held.ensures ∙ c.args.queue.now.ok.0) m))
    c.put.ensures.ok

pub returns-clause-ok : goal.returns-clause-ok
returns-clause-ok g c =
    bytes_move c.args.config.now (job_by (g.W.Work.writing c.args.work.now) (g.W.Work.steps c.args.work.now)) c.args.now
    c.args.piece.now (g.W.Work.stands c.args.work.now) (g.W.Work.stands c.answer_all.new.work) c.args.core.now c.answer_all.new.core
    c.args.link.now c.feed.new.self c.answer_all.new.link c.args.queue.now.items c.answer_all.new.queue.items c.answer_all.new.queue.items
    c.requires.at c.in_ok-feed.ensures.ok c.in_ok-answer_all.ensures.ok
    (or_more_some _ _ (λ e. c.if-len-held.false
    (c.len.ensures ∙ c.answer_all.new.queue.ok.0 ∙ e ∙ sym (c.len-held.ensures ∙ c.args.queue.now.ok.0))))

pub returns-then-len-held-clause-ends : goal.returns-then-len-held-clause-ends
returns-then-len-held-clause-ends g c = on_ok_weaker c.put.result (more_fits _ _ c.in_ok-answer_all.ensures.ends) c.put.ensures.ok
