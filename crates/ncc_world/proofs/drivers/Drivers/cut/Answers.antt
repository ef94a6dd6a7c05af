use Rattle.std.proofs.Common.{◌∙◌, [], None, ap}
use Rattle.ncc_clients.specs.Held.{conn_in}
use Rattle.ncc_world.specs.Parts.{drivers_in}
use Rattle.ncc_world.proofs.Sessions.{one_here, relinked, was_at}
use Rattle.ncc_world.proofs.drivers.Drivers.cut.Goals as goal

pub returns-clause-conn : goal.returns-clause-conn
returns-clause-conn c = λ s now driving pending d there w.
    let k = drivers_in c.args.self.now in
    let old = c.index_mut.result.now in
    let was = was_at k.list c.args.index old c.requires.there c.index_mut.ensures.value in
    c.cut.ensures.conn ∙ ap conn_in (one_here s c.args.index [] pending k now driving old d was there w).stands.link_is

pub returns-clause-ok : goal.returns-clause-ok
returns-clause-ok c = λ s d.
    let k = drivers_in c.args.self.now in
    let old = c.index_mut.result.now in
    let was = was_at k.list c.args.index old c.requires.there c.index_mut.ensures.value in
    relinked s c.args.index k old c.cut.new.self d (λ l. None) was c.cut.ensures.cut
