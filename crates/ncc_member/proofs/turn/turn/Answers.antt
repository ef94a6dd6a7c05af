use Rattle.std.proofs.Common.{◌≡◌, ◌∙◌, Option, None, ap, subst}
use Rattle.ncc_tx.specs.declared.entry.ChangeSet.{ChangeSet}
use Rattle.ncc_tx.specs.Kept.{Leads}
use Rattle.ncc_raft.specs.Member.{Member, kept}
use Rattle.ncc_raft.specs.Step.{step}
use Rattle.ncc_member.specs.Event.{meant}
use Rattle.ncc_member.proofs.Turning.{by_fault, changed, core_on, reads, roomed, rose_by, run, save_asked, save_stopped, saved, unchanged}
use Rattle.ncc_member.proofs.turn.turn.Goals as goal

pub save-requires-clause-stands : goal.save-requires-clause-stands
save-requires-clause-stands g c =
    let ch = changed c.args.core.now c.take.new.core (meant c.args.event) c.most_payload-most.result c.in_ok-placed.field-0.step.change
    c.in-Some.change c.requires.agrees.core c.requires.comes c.most_payload-most.ensures.most c.take.ensures.seat
    c.in_ok-placed.ensures.member c.in_ok-placed.ensures.change (cc) in
    ch.follows.stands

pub save-requires-clause-follows : goal.save-requires-clause-follows
save-requires-clause-follows g c sound told =
    let ch = changed c.args.core.now c.take.new.core (meant c.args.event) c.most_payload-most.result c.in_ok-placed.field-0.step.change
    c.in-Some.change c.requires.agrees.core c.requires.comes c.most_payload-most.ensures.most c.take.ensures.seat
    c.in_ok-placed.ensures.member c.in_ok-placed.ensures.change (cc) in
    let roomy = roomed g.D.Disk c.args.journal.now c.reserve.new.self c.args.core.now c.requires.agrees c.reserve.ensures.same
    c.reserve.ensures.disk in
    (kept c.args.core.now.member, reads g.D.Disk g.met.D.Disk.seen_may_be_left c.reserve.new.self c.args.core.now roomy told, ch.follows)

pub returns-in-None-clause-agrees : goal.returns-in-None-clause-agrees
returns-in-None-clause-agrees g c =
    let none : c.in_ok-placed.field-0.step.change ≡ None = cc in
    let same : kept c.args.core.now.member ≡ kept c.take.new.core.member =
    subst (λ (o : Option ChangeSet). Leads (kept c.args.core.now.member) (kept c.take.new.core.member) o) none
    c.in_ok-placed.ensures.change in
    let core = core_on c.args.core.now c.take.new.core (meant c.args.event) c.requires.agrees.core c.requires.comes c.take.ensures.seat
    c.in_ok-placed.ensures.member in
    let roomy = roomed g.D.Disk c.args.journal.now c.reserve.new.self c.args.core.now c.requires.agrees c.reserve.ensures.same
    c.reserve.ensures.disk in
    unchanged g.D.Disk c.reserve.new.self c.args.core.now c.take.new.core roomy core c.take.ensures.seat same

pub returns-in-Ok-clause-agrees : goal.returns-in-Ok-clause-agrees
returns-in-Ok-clause-agrees g c =
    let ch = changed c.args.core.now c.take.new.core (meant c.args.event) c.most_payload-most.result c.in_ok-placed.field-0.step.change
    c.in-Some.change c.requires.agrees.core c.requires.comes c.most_payload-most.ensures.most c.take.ensures.seat
    c.in_ok-placed.ensures.member c.in_ok-placed.ensures.change (cc) in
    let roomy = roomed g.D.Disk c.args.journal.now c.reserve.new.self c.args.core.now c.requires.agrees c.reserve.ensures.same
    c.reserve.ensures.disk in
    saved g.D.Disk g.met.D.Disk.seen_may_be_left c.reserve.new.self c.save.new.self c.args.core.now c.take.new.core c.in-Some.change
    c.most_payload-most.result roomy ch c.take.ensures.seat c.in-Ok.ensures.done c.in-Ok.ensures.only c.in-Ok.ensures.goes_on.1
    c.save.ensures.owner.0 c.save.ensures.owner.1

pub returns-in-Ok-clause-any_moment : goal.returns-in-Ok-clause-any_moment
returns-in-Ok-clause-any_moment g c told =
    let ch = changed c.args.core.now c.take.new.core (meant c.args.event) c.most_payload-most.result c.in_ok-placed.field-0.step.change
    c.in-Some.change c.requires.agrees.core c.requires.comes c.most_payload-most.ensures.most c.take.ensures.seat
    c.in_ok-placed.ensures.member c.in_ok-placed.ensures.change (cc) in
    let roomy = roomed g.D.Disk c.args.journal.now c.reserve.new.self c.args.core.now c.requires.agrees c.reserve.ensures.same
    c.reserve.ensures.disk in
    let after = ch.after ∙ ap (λ (m : Member). kept m) c.in_ok-placed.ensures.member in
    run g.D.Disk g.met.D.Disk.seen_may_be_left c.args.journal.now c.reserve.new.self c.save.new.self c.args.core.now c.in-Some.change
    (kept (step c.args.core.now.seat c.args.core.now.member (meant c.args.event)).member) c.requires.agrees c.reserve.ensures.same
    c.reserve.ensures.disk after told (c.save.ensures.any_moment roomy.sound told)

pub returns-in-Err-clause-any_moment : goal.returns-in-Err-clause-any_moment
returns-in-Err-clause-any_moment g c told =
    let ch = changed c.args.core.now c.take.new.core (meant c.args.event) c.most_payload-most.result c.in_ok-placed.field-0.step.change
    c.in-Some.change c.requires.agrees.core c.requires.comes c.most_payload-most.ensures.most c.take.ensures.seat
    c.in_ok-placed.ensures.member c.in_ok-placed.ensures.change (cc) in
    let roomy = roomed g.D.Disk c.args.journal.now c.reserve.new.self c.args.core.now c.requires.agrees c.reserve.ensures.same
    c.reserve.ensures.disk in
    let after = ch.after ∙ ap (λ (m : Member). kept m) c.in_ok-placed.ensures.member in
    run g.D.Disk g.met.D.Disk.seen_may_be_left c.args.journal.now c.reserve.new.self c.save.new.self c.args.core.now c.in-Some.change
    (kept (step c.args.core.now.seat c.args.core.now.member (meant c.args.event)).member) c.requires.agrees c.reserve.ensures.same
    c.reserve.ensures.disk after told (c.save.ensures.any_moment roomy.sound told)

pub returns-in-Ok-clause-asked : goal.returns-in-Ok-clause-asked
returns-in-Ok-clause-asked g c told change other =
    let ch = changed c.args.core.now c.take.new.core (meant c.args.event) c.most_payload-most.result c.in_ok-placed.field-0.step.change
    c.in-Some.change c.requires.agrees.core c.requires.comes c.most_payload-most.ensures.most c.take.ensures.seat
    c.in_ok-placed.ensures.member c.in_ok-placed.ensures.change (cc) in
    save_asked g.D.Disk g.met.D.Disk.went_on c.args.journal.now.disk c.reserve.new.self.disk c.save.new.self.disk c.args.journal.now.gate
    c.reserve.new.self.gate (kept c.args.core.now.member) (kept c.take.new.core.member) c.in-Some.change change c.reserve.ensures.disk told
    c.reserve.ensures.same.gate ch.is other (c.in-Ok.ensures.asked told)

pub returns-in-Err-clause-stopped : goal.returns-in-Err-clause-stopped
returns-in-Err-clause-stopped g c e told change other =
    let ch = changed c.args.core.now c.take.new.core (meant c.args.event) c.most_payload-most.result c.in_ok-placed.field-0.step.change
    c.in-Some.change c.requires.agrees.core c.requires.comes c.most_payload-most.ensures.most c.take.ensures.seat
    c.in_ok-placed.ensures.member c.in_ok-placed.ensures.change (cc) in
    let roomy = roomed g.D.Disk c.args.journal.now c.reserve.new.self c.args.core.now c.requires.agrees c.reserve.ensures.same
    c.reserve.ensures.disk in
    let fault = by_fault c.save.result c.in-Err.field-0 c.args.core.now c.take.new.core c.in-Some.change c.most_payload-most.result
    c.reserve.new.self.room ch c.in-Err.is c.in-Err.ensures.which (λ e. (c.save.ensures.full.0 e).1) c.save.ensures.memory
    c.in_ok-reserve.ensures.room in
    save_stopped g.D.Disk g.met.D.Disk.went_on c.args.journal.now.disk c.reserve.new.self.disk c.save.new.self.disk c.args.journal.now.gate
    c.reserve.new.self.gate (kept c.args.core.now.member) (kept c.take.new.core.member) c.in-Some.change change c.reserve.ensures.disk told
    c.reserve.ensures.same.gate ch.is other (c.save.ensures.stopped roomy.sound fault told)

pub returns-in-Err-clause-fault : goal.returns-in-Err-clause-fault
returns-in-Err-clause-fault g c e =
    let ch = changed c.args.core.now c.take.new.core (meant c.args.event) c.most_payload-most.result c.in_ok-placed.field-0.step.change
    c.in-Some.change c.requires.agrees.core c.requires.comes c.most_payload-most.ensures.most c.take.ensures.seat
    c.in_ok-placed.ensures.member c.in_ok-placed.ensures.change (cc) in
    let roomy = roomed g.D.Disk c.args.journal.now c.reserve.new.self c.args.core.now c.requires.agrees c.reserve.ensures.same
    c.reserve.ensures.disk in
    let fault = by_fault c.save.result c.in-Err.field-0 c.args.core.now c.take.new.core c.in-Some.change c.most_payload-most.result
    c.reserve.new.self.room ch c.in-Err.is c.in-Err.ensures.which (λ e. (c.save.ensures.full.0 e).1) c.save.ensures.memory
    c.in_ok-reserve.ensures.room in
    let rose = rose_by (g.D.Disk.fault_count c.args.journal.now.disk) (g.D.Disk.fault_count c.reserve.new.self.disk)
    (g.D.Disk.fault_count c.save.new.self.disk) c.reserve.new.self.failed c.reserve.ensures.disk.faults roomy.sound
    (c.save.ensures.fault fault).1 in
    (rose, c.in_ok-placed.ensures.member)

pub returns-in-Err-clause-calm_ok : goal.returns-in-Err-clause-calm_ok
returns-in-Err-clause-calm_ok g c calm e =
    let ch = changed c.args.core.now c.take.new.core (meant c.args.event) c.most_payload-most.result c.in_ok-placed.field-0.step.change
    c.in-Some.change c.requires.agrees.core c.requires.comes c.most_payload-most.ensures.most c.take.ensures.seat
    c.in_ok-placed.ensures.member c.in_ok-placed.ensures.change (cc) in
    let roomy = roomed g.D.Disk c.args.journal.now c.reserve.new.self c.args.core.now c.requires.agrees c.reserve.ensures.same
    c.reserve.ensures.disk in
    let fault = by_fault c.save.result c.in-Err.field-0 c.args.core.now c.take.new.core c.in-Some.change c.most_payload-most.result
    c.reserve.new.self.room ch c.in-Err.is c.in-Err.ensures.which (λ e. (c.save.ensures.full.0 e).1) c.save.ensures.memory
    c.in_ok-reserve.ensures.room in
    c.save.ensures.calm_ok (c.reserve.ensures.disk.looks.calm calm) roomy.sound fault
