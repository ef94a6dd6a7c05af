use Rattle.std.proofs.Common.{Err, refl, ap, subst, arith}
use Rattle.ncc_world.specs.declared.setup.Setup.{Setup}
use Rattle.ncc_replay.specs.Line.{Says, SaysNone}
use Rattle.ncc_replay.specs.Progress.{EndsSo}
use Rattle.ncc_replay.proofs.Scripts.{event_goes, many_ends, line_ends, error_ends, error_is, may_happen}
use Rattle.ncc_replay.proofs.script.take_event.Goals as goal

pub event-requires : goal.event-requires
event-requires c =
    let says : Says c.setup-setup.result.cluster c.args.line.now c.in-Ok-Some.event =
    rw c.in-Ok-Some.field-0-is at c.in-Ok-Some.ensures.says in
    record {
      may_happen = may_happen c.args.world.setup.cluster c.args.line.now c.in-Ok-Some.event
          (subst (λ (x : Setup). Says x.cluster c.args.line.now c.in-Ok-Some.event) c.setup-setup.ensures.setup says) c.requires.short;
    }

pub returns-in-Err-clause-bad : goal.returns-in-Err-clause-bad
returns-in-Err-clause-bad c = λ e h all rest g.
    subst (EndsSo all) (error_is _ e h) (line_ends all rest c.args.count c.args.number c.args.line.now c.args.world c.bad_line.result
    c.requires (λ at cause is.
    let why = c.bad_line.ensures.bad at cause is in (
      subst (λ (x : Setup). SaysNone x.cluster c.args.line.now cause) c.setup-setup.ensures.setup
          (c.in-Err.ensures.bad cause (ap Err why.0)),
      why.1,
    )) c.bad_line.ensures.no_limit g)

pub returns-in-Err-event-clause-bad : goal.returns-in-Err-event-clause-bad
returns-in-Err-event-clause-bad c = λ e h all rest g.
    let says : Says c.setup-setup.result.cluster c.args.line.now c.in-Ok-Some.event =
    rw c.in-Ok-Some.field-0-is at c.in-Ok-Some.ensures.says in
    subst (EndsSo all) (error_is _ e h) (error_ends all rest c.args.count c.args.number c.args.line.now c.args.world c.in-Ok-Some.event
    c.in-Err-event.error c.bad_event.result c.requires
    (subst (λ (x : Setup). Says x.cluster c.args.line.now c.in-Ok-Some.event) c.setup-setup.ensures.setup says)
    (λ r st is. (c.in-Err-event.ensures.refused r c.in-Err-event.error st refl is).0)
    (λ which is. (c.in-Err-event.ensures.limit which (ap Err is)).0) c.bad_event.ensures.bad c.bad_event.ensures.limit g)

pub returns-then-count-ge-MAX_EVENTS-clause-bad : goal.returns-then-count-ge-MAX_EVENTS-clause-bad
returns-then-count-ge-MAX_EVENTS-clause-bad c = λ e h all rest g.
    let says : Says c.setup-setup.result.cluster c.args.line.now c.in-Ok-Some.event =
    rw c.in-Ok-Some.field-0-is at c.in-Ok-Some.ensures.says in
    subst (EndsSo all) (error_is _ e h) (many_ends all rest c.args.count c.args.number c.args.line.now c.args.world c.event.new.self
    c.in-Ok-Some.event c.requires
    (subst (λ (x : Setup). Says x.cluster c.args.line.now c.in-Ok-Some.event) c.setup-setup.ensures.setup says)
    (omega (arith, c.if-count-ge-MAX_EVENTS.true)) c.in-Ok.ensures.ok g)

pub returns-clause-ok : goal.returns-clause-ok
returns-clause-ok c = λ all rest g.
    let says : Says c.setup-setup.result.cluster c.args.line.now c.in-Ok-Some.event =
    rw c.in-Ok-Some.field-0-is at c.in-Ok-Some.ensures.says in
    event_goes all rest c.args.count c.args.number c.args.line.now c.args.world c.event.new.self c.in-Ok-Some.event c.requires
    (subst (λ (x : Setup). Says x.cluster c.args.line.now c.in-Ok-Some.event) c.setup-setup.ensures.setup says)
    (omega (arith, c.if-count-ge-MAX_EVENTS.false)) c.in-Ok.ensures.ok c.in-Ok.ensures.setup g
