use Rattle.std.proofs.Common.{◌∙◌, [], sym}
use Rattle.ncc_clients.specs.Held.{fallen}
use Rattle.ncc_world.specs.Parts.{drivers_in}
use Rattle.ncc_world.proofs.Sessions.{has_one, one_here, relinked, was_at}
use Rattle.ncc_world.proofs.drivers.Drivers.fall.Goals as goal

pub fall-requires : goal.fall-requires
fall-requires c =
    let k = drivers_in c.args.self.now in
    let old = c.index_mut.result.now in
    let was = was_at k.list c.args.index old c.requires.there c.index_mut.ensures.value in
    let l = c.requires.lives in
    let d = has_one l.0 c.args.index [] l.3 k l.1 l.2 c.args.index c.requires.there l.4 in
    record {
      within = λ link e. c.requires.within l.0 l.1 l.2 l.3 d.0 link d.1 l.4
          (sym (one_here l.0 c.args.index [] l.3 k l.1 l.2 old d.0 was d.1 l.4).stands.link_is ∙ e);
    }

pub returns-clause-ok : goal.returns-clause-ok
returns-clause-ok c = λ s d.
    let k = drivers_in c.args.self.now in
    let old = c.index_mut.result.now in
    let was = was_at k.list c.args.index old c.requires.there c.index_mut.ensures.value in
    relinked s c.args.index k old c.fall.new.self d (fallen c.args.count) was c.fall.ensures.fallen
