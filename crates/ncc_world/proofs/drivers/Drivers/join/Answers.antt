use Rattle.ncc_world.specs.Parts.{drivers_in}
use Rattle.ncc_world.proofs.Sessions.{joined_kept, was_at}
use Rattle.ncc_world.proofs.drivers.Drivers.join.Goals as goal

pub returns-clause-ok : goal.returns-clause-ok
returns-clause-ok c = λ s now driving d left pending there w.
    let k = drivers_in c.args.self.now in
    let old = c.index_mut.result.now in
    let was = was_at k.list c.args.index old c.requires.there c.index_mut.ensures.value in
    joined_kept s c.args.index left pending k now driving old c.join.new.self d c.args.conn c.insert.new.self.keys was c.join.ensures.joined
    there c.in_ok-insert.ensures.keys w
