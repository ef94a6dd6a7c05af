use Rattle.std.proofs.Common.{ap, arith, length, true}
use Rattle.std.proofs.lemmas.Result.{on_ok_weaker}
use Rattle.ncc_clients.specs.Run.{opened}
use Rattle.ncc_world.specs.declared.drivers.Drivers.{Drivers}
use Rattle.ncc_world.proofs.Aside.{opened_aside, mid_from}
use Rattle.ncc_world.proofs.Happened.{member_between}
use Rattle.ncc_world.specs.Parts.{members_in}
use Rattle.ncc_world.proofs.Seated.{shelves_count}
use Rattle.ncc_world.proofs.running.Running.open_to.Goals as goal

pub open-requires-clause-there : goal.open-requires-clause-there
open-requires-clause-there c = λ r k.
    member_between r c.args.member c.requires.there.0 (omega (arith, c.requires.there.1, shelves_count c.args.setup.now (members_in c.args.self.now.members) r.members r.history k.members))

pub returns-clause-ok : goal.returns-clause-ok
returns-clause-ok c = on_ok_weaker c.open.result (λ f at left pending r k.
    mid_from c.args.setup.now at left pending c.args.self.now c.open.new.self r (opened r c.args.member true) k (f r k.runs_as)
    c.open.ensures.drivers (opened_aside r c.args.member true)) c.open.ensures.ok

pub returns-clause-count : goal.returns-clause-count
returns-clause-count c = ap (λ (d : Drivers). length d.list.items) c.open.ensures.drivers
