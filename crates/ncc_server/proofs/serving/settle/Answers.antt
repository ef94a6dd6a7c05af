use Rattle.std.proofs.Common.{sym, ◌∙◌, subst, refl, arith}
use Rattle.std.proofs.KnownBytes.{Appends-nil, Appends-trans}
use Rattle.ncc_base.specs.Flushing.{IsAllFlushed}
use Rattle.ncc_server.proofs.Lists.{tells_none, tells_on, clock_none, clock_on}
use Rattle.ncc_server.proofs.Alive.{is_live_handed, is_live_told}
use Rattle.ncc_server.proofs.Settles.{begins, up_handed, up_spent, step_answered, step_none, step_up}
use Rattle.ncc_server.proofs.serving.settle.Goals as goal

pub questions-init : goal.questions-init
questions-init g c = record {
  going = begins _ _ _ _ _ _ c.args.conn.now (Appends-nil _) (tells_none _) (clock_none _) refl;
  live = c.requires.live;
  sink = omega arith;
  backend = omega arith;
}

pub returns-in-Err-clause-err : goal.returns-in-Err-clause-err
returns-in-Err-clause-err g c =
    up_handed _ _ _ _ _ _ _ _ _ _ _ _ _ _ c.questions.invariant.going c.in-Err.ensures.err (λ x y h k. Appends-trans _ _ _ x y h k)

pub answer_next-requires-clause-live : goal.answer_next-requires-clause-live
answer_next-requires-clause-live g c = is_live_handed _ _ c.in-Ok.ensures.ok.rest c.questions.invariant.live

pub returns-in-Err-answer_next-clause-err : goal.returns-in-Err-answer_next-clause-err
returns-in-Err-answer_next-clause-err g c =
    step_up _ _ _ _ _ _ _ _ _ _ _ _ _ _ _ _ _ _ _ c.questions.invariant.going c.in-Ok.ensures.ok (λ x y h k. Appends-trans _ _ _ x y h
    k) (λ e f. f ∙ e)
    (λ e h. subst (λ k. IsAllFlushed (g.K.Sink.held k) (g.K.Sink.flushed k)) (sym e) h) (λ x y h k. tells_on _ _ _ x y h k)
    (λ x y h k. clock_on _ _ _ x y h k) _ _ c.in-Err-answer_next.ensures.err

pub returns-in-Ok-false-clause-ok : goal.returns-in-Ok-false-clause-ok
returns-in-Ok-false-clause-ok g c =
    step_none _ _ _ _ _ _ _ _ _ _ _ _ _ _ _ _ _ _ _ c.questions.invariant.going c.in-Ok.ensures.ok (λ x y h k. Appends-trans _ _ _ x y h
    k) (λ e f. f ∙ e)
    (λ e h. subst (λ k. IsAllFlushed (g.K.Sink.held k) (g.K.Sink.flushed k)) (sym e) h) (λ x y h k. tells_on _ _ _ x y h k)
    (λ x y h k. clock_on _ _ _ x y h k) _ (is_live_handed _ _ c.in-Ok.ensures.ok.rest c.questions.invariant.live)
    (rw c.in-Ok-false.field-0-test at c.in-Ok-false.ensures.ok)

pub questions-preserved : goal.questions-preserved
questions-preserved g c =
    let a = rw c.in-Ok-true.field-0-test at c.in-Ok-true.ensures.ok in
    record {
      going = step_answered _ _ _ _ _ _ _ _ _ _ _ _ _ _ _ _ _ _ _ c.questions.invariant.going c.in-Ok.ensures.ok
          (λ x y h k. Appends-trans _ _ _ x y h k) (λ e f. f ∙ e)
          (λ e h. subst (λ k. IsAllFlushed (g.K.Sink.held k) (g.K.Sink.flushed k)) (sym e) h) (λ x y h k. tells_on _ _ _ x y h k)
          (λ x y h k. clock_on _ _ _ x y h k) _ a;
      live = is_live_told _ _ _ a.tells (is_live_handed _ _ c.in-Ok.ensures.ok.rest c.questions.invariant.live);
      sink = let k = c.in-Ok.ensures.never_falls in omega (arith, c.questions.invariant.sink);
      backend = let k = c.in-Ok-true.ensures.never_falls in omega (arith, c.questions.invariant.backend);
    }

pub returns-clause-err : goal.returns-clause-err
returns-clause-err g c = up_spent _ _ _ _ _ _ _ _ _ c.questions.invariant.going
