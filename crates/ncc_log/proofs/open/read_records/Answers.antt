use Rattle.ncc_log.proofs.Going.{going_next, looks_here}
use Rattle.ncc_log.proofs.open.read_records.Goals as goal

pub returns-in_err-next_record-clause-looks : goal.returns-in_err-next_record-clause-looks
returns-in_err-next_record-clause-looks g c =
    looks_here g.D.Disk g.met.D.Disk.went_on c.args.disk.now c.loop-part.disk c.next_record.new.disk c.args.file c.loop-part.window.from
    c.next_record.new.window.from c.loop-part.window.held c.next_record.new.window.held c.loop-part.gate c.loop-part.part
    c.loop-part.invariant c.next_record.ensures.looks

pub returns-in-None-clause-looks : goal.returns-in-None-clause-looks
returns-in-None-clause-looks g c =
    looks_here g.D.Disk g.met.D.Disk.went_on c.args.disk.now c.loop-part.disk c.next_record.new.disk c.args.file c.loop-part.window.from
    c.next_record.new.window.from c.loop-part.window.held c.next_record.new.window.held c.loop-part.gate c.loop-part.part
    c.loop-part.invariant c.next_record.ensures.looks

pub returns-in_err-part-in-Some-clause-looks : goal.returns-in_err-part-in-Some-clause-looks
returns-in_err-part-in-Some-clause-looks g c =
    looks_here g.D.Disk g.met.D.Disk.went_on c.args.disk.now c.loop-part.disk c.next_record.new.disk c.args.file c.loop-part.window.from
    c.next_record.new.window.from c.loop-part.window.held c.next_record.new.window.held c.loop-part.gate c.loop-part.part
    c.loop-part.invariant c.next_record.ensures.looks

pub loop-part-preserved : goal.loop-part-preserved
loop-part-preserved g c =
    let fits = rw c.in-Some.is at c.in_ok-next_record.ensures.fits in
    let there = rw c.in-Some.is at c.in_ok-next_record.ensures.there in
    going_next g.D.Disk g.met.D.Disk.went_on c.args.disk.now c.loop-part.disk c.next_record.new.disk c.args.file c.loop-part.window.from
    c.next_record.new.window.from c.loop-part.window.held c.next_record.new.window.held c.loop-part.gate c.loop-part.part
    c.loop-part.invariant c.next_record.ensures.looks c.in-Some.size c.in-Some.change c.in_ok-part-in-Some.part
    c.next_record.ensures.part there fits.0 c.in_ok-part-in-Some.ensures
