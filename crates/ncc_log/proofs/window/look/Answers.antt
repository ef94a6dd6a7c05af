use Rattle.ncc_log.proofs.Parts.{part_there}
use Rattle.ncc_log.proofs.window.look.Goals as goal

pub returns-then-has-clause-there : goal.returns-then-has-clause-there
returns-then-has-clause-there g c told =
    let h = c.has.ensures.0 c.if-has.true in
    part_there (g.D.Disk.seen c.args.disk.now) c.args.window.now.held c.args.window.now.from c.args.at c.args.count
    (c.requires told) h.0 h.1
