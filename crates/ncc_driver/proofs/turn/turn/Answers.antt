use Rattle.std.proofs.Common.{refl}
use Rattle.std.proofs.lemmas.Result.{on_ok_weaker}
use Rattle.ncc_driver.specs.declared.standing.Stage.TheVariants as stage
use Rattle.ncc_driver.specs.Work.{job_by}
use Rattle.ncc_driver.proofs.Stepping.{idle_moves, rests_idle, begun_idle, sleeps_idle, joins_idle, awaits_idle, start_moves, wake_moves}
use Rattle.ncc_driver.proofs.Stepping.{anew_stands}
use Rattle.ncc_driver.proofs.Stepping.{lost_keeps, lost_stands, unjoined_moves, broken_moves, open_moves, on_all}
use Rattle.ncc_driver.proofs.EndsFit.{attempt_fits, lost_fits, shaken_fits}
use Rattle.ncc_driver.proofs.turn.turn.Goals as goal

pub returns-in-Rests-clause-ok : goal.returns-in-Rests-clause-ok
returns-in-Rests-clause-ok g c =
    idle_moves c.args.config.now (job_by (g.W.Work.writing c.args.work.now) (g.W.Work.steps c.args.work.now)) c.args.now c.args.input.now
    (g.W.Work.stands c.args.work.now) c.args.core.now c.args.link.now c.args.queue.now.items stage.Rests
    c.in-Rests.is (rests_idle c.args.input.now)

pub returns-in-Start-clause-ok : goal.returns-in-Start-clause-ok
returns-in-Start-clause-ok g c =
    on_ok_weaker c.attempt.result
    (start_moves c.args.config.now c.writes.result (g.W.Work.writing c.args.work.now) (g.W.Work.steps c.args.work.now) c.args.now
    c.args.input.now (g.W.Work.stands c.args.work.now)
    c.args.core.now c.attempt.new.core c.args.link.now _ _ c.in-Begun.is c.in-Start.is c.writes.ensures.exact c.requires.allowed
    c.requires.keeps)
    c.attempt.ensures.ok

pub returns-in-Start-clause-stands : goal.returns-in-Start-clause-stands
returns-in-Start-clause-stands g c =
    on_ok_weaker c.attempt.result
    (anew_stands c.args.config.now c.writes.result c.args.now c.args.core.now c.attempt.new.core _ _ (g.W.Work.stands c.args.work.now)
    stage.Begun c.in-Begun.is refl
    c.requires.allowed c.requires.keeps)
    c.attempt.ensures.ok

pub returns-in_default : goal.returns-in_default
returns-in_default g c = record {
  ok = idle_moves c.args.config.now (job_by (g.W.Work.writing c.args.work.now) (g.W.Work.steps c.args.work.now)) c.args.now
      c.args.input.now (g.W.Work.stands c.args.work.now) c.args.core.now c.args.link.now c.args.queue.now.items (stage.Begun)
      c.in-Begun.is (begun_idle c.args.input.now c.in_default.not-Start);
  keeps = c.requires.keeps;
  ends = c.requires.ends;
  stands = c.requires.stands;
  writing = refl;
  steps = refl;
}

pub returns-in-Woken-clause-ok : goal.returns-in-Woken-clause-ok
returns-in-Woken-clause-ok g c =
    on_ok_weaker c.attempt-in-Woken.result
    (wake_moves c.args.config.now c.writes-in-Woken.result (g.W.Work.writing c.args.work.now) (g.W.Work.steps c.args.work.now) c.args.now
    c.args.input.now (g.W.Work.stands c.args.work.now)
    c.args.core.now c.attempt-in-Woken.new.core c.args.link.now _ _ c.in-Sleeps.is c.in-Woken.is c.writes-in-Woken.ensures.exact
    c.requires.allowed c.requires.keeps)
    c.attempt-in-Woken.ensures.ok

pub returns-in-Woken-clause-stands : goal.returns-in-Woken-clause-stands
returns-in-Woken-clause-stands g c =
    on_ok_weaker c.attempt-in-Woken.result
    (anew_stands c.args.config.now c.writes-in-Woken.result c.args.now c.args.core.now c.attempt-in-Woken.new.core _ _
    (g.W.Work.stands c.args.work.now) stage.Sleeps c.in-Sleeps.is refl
    c.requires.allowed c.requires.keeps)
    c.attempt-in-Woken.ensures.ok

pub returns-in_default-input : goal.returns-in_default-input
returns-in_default-input g c = record {
  ok = idle_moves c.args.config.now (job_by (g.W.Work.writing c.args.work.now) (g.W.Work.steps c.args.work.now)) c.args.now
      c.args.input.now (g.W.Work.stands c.args.work.now) c.args.core.now c.args.link.now c.args.queue.now.items (stage.Sleeps)
      c.in-Sleeps.is (sleeps_idle c.args.input.now c.in_default-input.not-Woken);
  keeps = c.requires.keeps;
  ends = c.requires.ends;
  stands = c.requires.stands;
  writing = refl;
  steps = refl;
}

pub returns-in-Connected-clause-ok : goal.returns-in-Connected-clause-ok
returns-in-Connected-clause-ok g c =
    on_all c.open.result
    (open_moves c.args.config.now (job_by (g.W.Work.writing c.args.work.now) (g.W.Work.steps c.args.work.now)) c.args.now c.args.input.now
    (g.W.Work.stands c.args.work.now) c.args.core.now c.open.new.core c.args.link.now c.open.new.link _ _ c.in-Joins.leg c.in-Joins.is
    c.in-Connected.is)
    c.open.ensures.core c.open.ensures.link c.open.ensures.queue

pub returns-in-Lost-clause-ok : goal.returns-in-Lost-clause-ok
returns-in-Lost-clause-ok g c =
    on_ok_weaker c.lose.result
    (unjoined_moves c.args.config.now (job_by (g.W.Work.writing c.args.work.now) (g.W.Work.steps c.args.work.now)) c.args.now
    c.args.input.now (g.W.Work.stands c.args.work.now) c.args.core.now c.lose.new.core c.args.link.now _ _ c.in-Joins.leg c.in-Joins.is
    c.in-Lost.is)
    c.lose.ensures.ok

pub returns-in-Lost-clause-keeps : goal.returns-in-Lost-clause-keeps
returns-in-Lost-clause-keeps g c =
    on_ok_weaker c.lose.result (lost_keeps c.args.now c.args.core.now c.lose.new.core _ _ c.requires.keeps) c.lose.ensures.ok

pub returns-in-Lost-clause-stands : goal.returns-in-Lost-clause-stands
returns-in-Lost-clause-stands g c =
    on_ok_weaker c.lose.result (lost_stands c.args.now c.args.core.now c.lose.new.core _ _ (g.W.Work.stands c.args.work.now))
    c.lose.ensures.ok

pub returns-in_default-input-2 : goal.returns-in_default-input-2
returns-in_default-input-2 g c = record {
  ok = idle_moves c.args.config.now (job_by (g.W.Work.writing c.args.work.now) (g.W.Work.steps c.args.work.now)) c.args.now
      c.args.input.now (g.W.Work.stands c.args.work.now) c.args.core.now c.args.link.now c.args.queue.now.items (stage.Joins c.in-Joins.leg)
      c.in-Joins.is (joins_idle c.in-Joins.leg c.args.input.now c.in_default-input-2.not-Connected
      c.in_default-input-2.not-Lost);
  keeps = c.requires.keeps;
  ends = c.requires.ends;
  stands = c.requires.stands;
  writing = refl;
  steps = refl;
}

pub returns-in-Lost-input-clause-ok : goal.returns-in-Lost-input-clause-ok
returns-in-Lost-input-clause-ok g c =
    on_ok_weaker c.lose-in-Lost-input.result
    (broken_moves c.args.config.now (job_by (g.W.Work.writing c.args.work.now) (g.W.Work.steps c.args.work.now)) c.args.now
    c.args.input.now (g.W.Work.stands c.args.work.now) c.args.core.now c.lose-in-Lost-input.new.core c.args.link.now _ _
    c.in-Awaits.field-0 c.in-Awaits.is c.in-Lost-input.is)
    c.lose-in-Lost-input.ensures.ok

pub returns-in-Lost-input-clause-keeps : goal.returns-in-Lost-input-clause-keeps
returns-in-Lost-input-clause-keeps g c =
    on_ok_weaker c.lose-in-Lost-input.result (lost_keeps c.args.now c.args.core.now c.lose-in-Lost-input.new.core _ _ c.requires.keeps)
    c.lose-in-Lost-input.ensures.ok

pub returns-in-Lost-input-clause-stands : goal.returns-in-Lost-input-clause-stands
returns-in-Lost-input-clause-stands g c =
    on_ok_weaker c.lose-in-Lost-input.result (lost_stands c.args.now c.args.core.now c.lose-in-Lost-input.new.core _ _
    (g.W.Work.stands c.args.work.now)) c.lose-in-Lost-input.ensures.ok

pub returns-in_default-input-3 : goal.returns-in_default-input-3
returns-in_default-input-3 g c = record {
  ok = idle_moves c.args.config.now (job_by (g.W.Work.writing c.args.work.now) (g.W.Work.steps c.args.work.now)) c.args.now
      c.args.input.now (g.W.Work.stands c.args.work.now) c.args.core.now c.args.link.now c.args.queue.now.items
      (stage.Awaits c.in-Awaits.field-0)
      c.in-Awaits.is (awaits_idle c.in-Awaits.field-0 c.args.input.now c.in_default-input-3.not-Bytes
      c.in_default-input-3.not-Lost);
  keeps = c.requires.keeps;
  ends = c.requires.ends;
  stands = c.requires.stands;
  writing = refl;
  steps = refl;
}

pub returns-in-Start-clause-ends : goal.returns-in-Start-clause-ends
returns-in-Start-clause-ends g c =
    on_ok_weaker c.attempt.result
    (attempt_fits c.args.config.now c.writes.result c.args.now c.args.core.now c.attempt.new.core _ _ c.requires.ends)
    c.attempt.ensures.ok

pub returns-in-Woken-clause-ends : goal.returns-in-Woken-clause-ends
returns-in-Woken-clause-ends g c =
    on_ok_weaker c.attempt-in-Woken.result
    (attempt_fits c.args.config.now c.writes-in-Woken.result c.args.now c.args.core.now c.attempt-in-Woken.new.core _ _ c.requires.ends)
    c.attempt-in-Woken.ensures.ok

pub returns-in-Connected-clause-ends : goal.returns-in-Connected-clause-ends
returns-in-Connected-clause-ends g c = on_ok_weaker c.open.result (shaken_fits _ _ c.requires.ends) c.open.ensures.queue

pub returns-in-Lost-clause-ends : goal.returns-in-Lost-clause-ends
returns-in-Lost-clause-ends g c =
    on_ok_weaker c.lose.result (lost_fits c.args.now c.args.core.now c.lose.new.core _ _ c.requires.ends) c.lose.ensures.ok

pub returns-in-Lost-input-clause-ends : goal.returns-in-Lost-input-clause-ends
returns-in-Lost-input-clause-ends g c =
    on_ok_weaker c.lose-in-Lost-input.result (lost_fits c.args.now c.args.core.now c.lose-in-Lost-input.new.core _ _ c.requires.ends)
    c.lose-in-Lost-input.ensures.ok
