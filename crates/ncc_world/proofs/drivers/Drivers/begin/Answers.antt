use Rattle.std.proofs.lemmas.Result.{on_ok_weaker}
use Rattle.ncc_clients.specs.Task.{job_of}
use Rattle.ncc_world.specs.Parts.{drivers_in}
use Rattle.ncc_world.proofs.Hearing.{begins_on, begun_by, rests_so}
use Rattle.ncc_world.proofs.Sessions.{was_at}
use Rattle.ncc_world.proofs.drivers.Drivers.begin.Goals as goal

pub begin-requires-clause-resting : goal.begin-requires-clause-resting
begin-requires-clause-resting c =
    let k = drivers_in c.args.self.now in
    let old = c.index_mut.result.now in
    let was = was_at k.list c.args.index old c.requires.there c.index_mut.ensures.value in
    let l = c.requires.rests in
    rests_so l.0 c.args.index k old c.args.now l.1 l.2 l.3 was l.4 l.5 l.6

pub begin-requires-clause-later : goal.begin-requires-clause-later
begin-requires-clause-later c =
    let k = drivers_in c.args.self.now in
    let old = c.index_mut.result.now in
    let was = was_at k.list c.args.index old c.requires.there c.index_mut.ensures.value in
    let l = c.requires.rests in
    begun_by l.0 c.args.index k old c.args.now l.1 l.2 was l.6

pub returns-clause-ok : goal.returns-clause-ok
returns-clause-ok c =
    let k = drivers_in c.args.self.now in
    let old = c.index_mut.result.now in
    let was = was_at k.list c.args.index old c.requires.there c.index_mut.ensures.value in
    on_ok_weaker c.begin.result (λ begins s driving pending d there w.
    begins_on s c.args.index k old c.begin.new.self d (job_of c.args.task) c.args.now driving pending was there (begins d) w)
    c.begin.ensures.ok
