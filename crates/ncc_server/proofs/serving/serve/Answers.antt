use Rattle.std.proofs.Common.{sym, ap, ◌∙◌, subst, arith}
use Rattle.std.proofs.KnownBytes.{Appends-nil, Appends-trans, Consumes-nil, Consumes-trans}
use Rattle.ncc_base.specs.Flushing.{IsAllFlushed}
use Rattle.ncc_session.specs.declared.state.ConnState.{ConnState}
use Rattle.ncc_session.specs.Session.{is_ended}
use Rattle.ncc_server.specs.Live.{IsEndOf}
use Rattle.ncc_server.proofs.Lists.{tells_none, tells_on, clock_none, clock_on}
use Rattle.ncc_server.proofs.Turning.{begun_here, new_live, is_live_here, turned, turn_ends, session_ends, worn_ends}
use Rattle.ncc_server.proofs.serving.serve.Goals as goal

pub turns-init : goal.turns-init
turns-init g c = record {
  sofar = λ config k.
      begun_here config _ _ _ _ _ _ c.args.conn.now k (Consumes-nil _) (Appends-nil _) (tells_none _) (clock_none _);
  goes = new_live c.args.conn.now c.requires.fresh.config c.requires.fresh.stands;
  few = omega arith;
  counted = omega arith;
  source = omega arith;
  sink = omega arith;
  backend = omega arith;
}

pub turn-requires-clause-live : goal.turn-requires-clause-live
turn-requires-clause-live g c =
    is_live_here _ _ _ _ _ _ _ _ _ (c.turns.invariant.sofar c.requires.fresh.config c.requires.fresh.stands)

pub turn-requires-clause-none : goal.turn-requires-clause-none
turn-requires-clause-none g c = (c.turns.invariant.sofar c.requires.fresh.config c.requires.fresh.stands).none

pub returns-in-Err-clause-served : goal.returns-in-Err-clause-served
returns-in-Err-clause-served g c = λ config k.
    turn_ends config _ _ _ _ _ _ _ _ _ _ _ _ _ _ _ _ _ _ _ _ (c.turns.invariant.sofar config k) c.turns.invariant.goes c.turns.invariant.few
    c.in-Err.ensures.err (λ x y h l. Consumes-trans _ _ _ x y h l) (λ x y h l. Appends-trans _ _ _ x y h l) (λ x y h l. tells_on _ _ _ x
    y h l)
    (λ x y h l. clock_on _ _ _ x y h l) (λ e h. subst (λ k. IsAllFlushed (g.K.Sink.held k) (g.K.Sink.flushed k)) (sym e) h)

pub returns-in-Some-clause-served : goal.returns-in-Some-clause-served
returns-in-Some-clause-served g c = λ config k.
    session_ends config _ _ _ _ _ _ _ c.in-Some.end c.turn.new.conn _
    (subst (λ (x : ConnState). IsEndOf x c.in-Some.end) c.state.ensures.state c.in-Some.ensures.some)
    (turned config _ _ _ _ _ _ _ _ _ _ _ _ _ _ _ _ _ _ _ _ (c.turns.invariant.sofar config k) c.turns.invariant.goes c.turns.invariant.few
    c.in-Ok.ensures.ok (λ x y h l. Consumes-trans _ _ _ x y h l) (λ x y h l. Appends-trans _ _ _ x y h l) (λ x y h l. tells_on _ _ _ x y
    h l)
    (λ x y h l. clock_on _ _ _ x y h l) (λ e h. subst (λ k. IsAllFlushed (g.K.Sink.held k) (g.K.Sink.flushed k)) (sym e) h))

pub returns-then-taken-gt-WORN-clause-served : goal.returns-then-taken-gt-WORN-clause-served
returns-then-taken-gt-WORN-clause-served g c = λ config k.
    worn_ends config _ _ _ _ _ _ _ c.turn.new.conn _ (ap is_ended (sym c.state.ensures.state) ∙ c.in_default.ensures.none)
    c.if-taken-gt-WORN.true
    (turned config _ _ _ _ _ _ _ _ _ _ _ _ _ _ _ _ _ _ _ _ (c.turns.invariant.sofar config k) c.turns.invariant.goes c.turns.invariant.few
    c.in-Ok.ensures.ok (λ x y h l. Consumes-trans _ _ _ x y h l) (λ x y h l. Appends-trans _ _ _ x y h l) (λ x y h l. tells_on _ _ _ x y
    h l)
    (λ x y h l. clock_on _ _ _ x y h l) (λ e h. subst (λ k. IsAllFlushed (g.K.Sink.held k) (g.K.Sink.flushed k)) (sym e) h))

pub turns-preserved : goal.turns-preserved
turns-preserved g c = record {
  sofar = λ config k.
      turned config _ _ _ _ _ _ _ _ _ _ _ _ _ _ _ _ _ _ _ _ (c.turns.invariant.sofar config k) c.turns.invariant.goes c.turns.invariant.few
      c.in-Ok.ensures.ok (λ x y h l. Consumes-trans _ _ _ x y h l) (λ x y h l. Appends-trans _ _ _ x y h l) (λ x y h l. tells_on _ _ _ x
      y h l)
      (λ x y h l. clock_on _ _ _ x y h l) (λ e h. subst (λ k. IsAllFlushed (g.K.Sink.held k) (g.K.Sink.flushed k)) (sym e) h);
  goes = ap is_ended (sym c.state.ensures.state) ∙ c.in_default.ensures.none;
  few = let k = c.if-taken-gt-WORN.false in omega arith;
  counted = let k = c.in-Ok.ensures.ok.some in let l = c.turns.invariant.counted in omega arith;
  source = let k = c.in-Ok.ensures.source_never_falls in omega (arith, c.turns.invariant.source);
  sink = let k = c.in-Ok.ensures.sink_never_falls in omega (arith, c.turns.invariant.sink);
  backend = let k = c.in-Ok.ensures.backend_never_falls in omega (arith, c.turns.invariant.backend);
}
