use Rattle.std.proofs.Common.{◌∷◌, codes, sym, subst}
use Rattle.ncc_replay.specs.Reading.{words_in, verb_word, AreBad}
use Rattle.ncc_replay.proofs.Lines.{none_bad}
use Rattle.ncc_replay.proofs.line.event.Goals as goal

pub returns-in-Time-clause-bad : goal.returns-in-Time-clause-bad
returns-in-Time-clause-bad c = λ cause h.
    subst (λ v. AreBad c.args.cluster (verb_word v ∷ words_in c.args.rest) cause) (sym c.in-Time.is)
    (none_bad c.args.cluster (codes "time" ∷ words_in c.args.rest) c.time.result c.ok_or.result cause c.ok_or.ensures.value
    c.time.ensures.none h)

pub returns-in-Apply-clause-bad : goal.returns-in-Apply-clause-bad
returns-in-Apply-clause-bad c = λ cause h.
    subst (λ v. AreBad c.args.cluster (verb_word v ∷ words_in c.args.rest) cause) (sym c.in-Apply.is)
    (none_bad c.args.cluster
    (codes "apply" ∷ words_in c.args.rest) c.apply.result c.ok_or-in-Apply.result cause c.ok_or-in-Apply.ensures.value
    c.apply.ensures.none h)

pub returns-in-Open-clause-bad : goal.returns-in-Open-clause-bad
returns-in-Open-clause-bad c = λ cause h.
    subst (λ v. AreBad c.args.cluster (verb_word v ∷ words_in c.args.rest) cause) (sym c.in-Open.is)
    (none_bad c.args.cluster (codes "open" ∷ words_in c.args.rest) c.open.result c.ok_or-in-Open.result cause c.ok_or-in-Open.ensures.value
    c.open.ensures.none h)

pub returns-in-Close-clause-bad : goal.returns-in-Close-clause-bad
returns-in-Close-clause-bad c = λ cause h.
    subst (λ v. AreBad c.args.cluster (verb_word v ∷ words_in c.args.rest) cause) (sym c.in-Close.is)
    (none_bad c.args.cluster
    (codes "close" ∷ words_in c.args.rest) c.close.result c.ok_or-in-Close.result cause c.ok_or-in-Close.ensures.value
    c.close.ensures.none h)

pub returns-in-Put-clause-bad : goal.returns-in-Put-clause-bad
returns-in-Put-clause-bad c = λ cause h.
    subst (λ v. AreBad c.args.cluster (verb_word v ∷ words_in c.args.rest) cause) (sym c.in-Put.is) (c.put.ensures.bad cause h)

pub returns-in-Get-clause-bad : goal.returns-in-Get-clause-bad
returns-in-Get-clause-bad c = λ cause h.
    subst (λ v. AreBad c.args.cluster (verb_word v ∷ words_in c.args.rest) cause) (sym c.in-Get.is) (c.get.ensures.bad cause h)

pub returns-in-Bytes-clause-bad : goal.returns-in-Bytes-clause-bad
returns-in-Bytes-clause-bad c = λ cause h.
    subst (λ v. AreBad c.args.cluster (verb_word v ∷ words_in c.args.rest) cause) (sym c.in-Bytes.is) (c.bytes.ensures.bad cause h)

pub returns-in-Session-clause-bad : goal.returns-in-Session-clause-bad
returns-in-Session-clause-bad c = λ cause h.
    subst (λ v. AreBad c.args.cluster (verb_word v ∷ words_in c.args.rest) cause) (sym c.in-Session.is)
    (none_bad c.args.cluster
    (codes "session" ∷ words_in c.args.rest) c.session.result c.ok_or-in-Session.result cause c.ok_or-in-Session.ensures.value
    c.session.ensures.none h)

pub returns-in-Work-clause-bad : goal.returns-in-Work-clause-bad
returns-in-Work-clause-bad c = λ cause h.
    subst (λ v. AreBad c.args.cluster (verb_word v ∷ words_in c.args.rest) cause) (sym c.in-Work.is)
    (c.work.ensures.bad cause h c.args.cluster)

pub returns-in-Up-clause-bad : goal.returns-in-Up-clause-bad
returns-in-Up-clause-bad c = λ cause h.
    subst (λ v. AreBad c.args.cluster (verb_word v ∷ words_in c.args.rest) cause) (sym c.in-Up.is)
    (none_bad c.args.cluster (codes "up" ∷ words_in c.args.rest) c.up.result c.ok_or-in-Up.result cause c.ok_or-in-Up.ensures.value
    c.up.ensures.none h)

pub returns-in-Down-clause-bad : goal.returns-in-Down-clause-bad
returns-in-Down-clause-bad c = λ cause h.
    subst (λ v. AreBad c.args.cluster (verb_word v ∷ words_in c.args.rest) cause) (sym c.in-Down.is)
    (none_bad c.args.cluster (codes "down" ∷ words_in c.args.rest) c.down.result c.ok_or-in-Down.result cause c.ok_or-in-Down.ensures.value
    c.down.ensures.none h)

pub returns-in-Pump-clause-bad : goal.returns-in-Pump-clause-bad
returns-in-Pump-clause-bad c = λ cause h.
    subst (λ v. AreBad c.args.cluster (verb_word v ∷ words_in c.args.rest) cause) (sym c.in-Pump.is)
    (none_bad c.args.cluster (codes "pump" ∷ words_in c.args.rest) c.pump.result c.ok_or-in-Pump.result cause c.ok_or-in-Pump.ensures.value
    c.pump.ensures.none h)

pub returns-in-Cut-clause-bad : goal.returns-in-Cut-clause-bad
returns-in-Cut-clause-bad c = λ cause h.
    subst (λ v. AreBad c.args.cluster (verb_word v ∷ words_in c.args.rest) cause) (sym c.in-Cut.is)
    (none_bad c.args.cluster (codes "cut" ∷ words_in c.args.rest) c.cut_link.result c.ok_or-in-Cut.result cause c.ok_or-in-Cut.ensures.value
    c.cut_link.ensures.none h)

pub returns-in-Timeout-clause-bad : goal.returns-in-Timeout-clause-bad
returns-in-Timeout-clause-bad c = λ cause h.
    subst (λ v. AreBad c.args.cluster (verb_word v ∷ words_in c.args.rest) cause) (sym c.in-Timeout.is)
    (none_bad c.args.cluster (codes "timeout" ∷ words_in c.args.rest) c.timeout.result c.ok_or-in-Timeout.result cause c.ok_or-in-Timeout.ensures.value
    c.timeout.ensures.none h)

pub returns-in-Beat-clause-bad : goal.returns-in-Beat-clause-bad
returns-in-Beat-clause-bad c = λ cause h.
    subst (λ v. AreBad c.args.cluster (verb_word v ∷ words_in c.args.rest) cause) (sym c.in-Beat.is)
    (none_bad c.args.cluster (codes "beat" ∷ words_in c.args.rest) c.beat.result c.ok_or-in-Beat.result cause c.ok_or-in-Beat.ensures.value
    c.beat.ensures.none h)

pub returns-in-Deliver-clause-bad : goal.returns-in-Deliver-clause-bad
returns-in-Deliver-clause-bad c = λ cause h.
    subst (λ v. AreBad c.args.cluster (verb_word v ∷ words_in c.args.rest) cause) (sym c.in-Deliver.is)
    (none_bad c.args.cluster (codes "deliver" ∷ words_in c.args.rest) c.deliver.result c.ok_or-in-Deliver.result cause c.ok_or-in-Deliver.ensures.value
    c.deliver.ensures.none h)

pub returns-in-Pull-clause-bad : goal.returns-in-Pull-clause-bad
returns-in-Pull-clause-bad c = λ cause h.
    subst (λ v. AreBad c.args.cluster (verb_word v ∷ words_in c.args.rest) cause) (sym c.in-Pull.is)
    (none_bad c.args.cluster (codes "pull" ∷ words_in c.args.rest) c.pull.result c.ok_or-in-Pull.result cause c.ok_or-in-Pull.ensures.value
    c.pull.ensures.none h)

pub returns-in-Crash-clause-bad : goal.returns-in-Crash-clause-bad
returns-in-Crash-clause-bad c = λ cause h.
    subst (λ v. AreBad c.args.cluster (verb_word v ∷ words_in c.args.rest) cause) (sym c.in-Crash.is)
    (none_bad c.args.cluster (codes "crash" ∷ words_in c.args.rest) c.crash.result c.ok_or-in-Crash.result cause c.ok_or-in-Crash.ensures.value
    c.crash.ensures.none h)
