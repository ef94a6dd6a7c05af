use Rattle.std.proofs.lemmas.Result.{on_ok_weaker}
use Rattle.ncc_world.specs.Parts.{drivers_in}
use Rattle.ncc_world.proofs.Hearing.{begun_by, hears_on, lives_so}
use Rattle.ncc_world.proofs.Sessions.{was_at}
use Rattle.ncc_world.proofs.drivers.Drivers.hear.Goals as goal

pub hear-requires-clause-lives : goal.hear-requires-clause-lives
hear-requires-clause-lives c =
    let k = drivers_in c.args.self.now in
    let old = c.index_mut.result.now in
    let was = was_at k.list c.args.index old c.requires.there c.index_mut.ensures.value in
    let l = c.requires.lives in
    lives_so l.0 c.args.index k old c.args.now l.1 l.2 was l.3

pub hear-requires-clause-later : goal.hear-requires-clause-later
hear-requires-clause-later c =
    let k = drivers_in c.args.self.now in
    let old = c.index_mut.result.now in
    let was = was_at k.list c.args.index old c.requires.there c.index_mut.ensures.value in
    let l = c.requires.lives in
    begun_by l.0 c.args.index k old c.args.now l.1 l.2 was l.3

pub returns-clause-ok : goal.returns-clause-ok
returns-clause-ok c =
    let k = drivers_in c.args.self.now in
    let old = c.index_mut.result.now in
    let was = was_at k.list c.args.index old c.requires.there c.index_mut.ensures.value in
    on_ok_weaker c.hear.result
    (λ hears s d. hears_on s c.args.index k old c.hear.new.self d c.args.input c.args.now was (hears d)) c.hear.ensures.ok
