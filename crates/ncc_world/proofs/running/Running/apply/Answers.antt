use Rattle.std.proofs.Common.{sym, subst, arith, refl}
use Rattle.ncc_world.specs.World.{AreServed}
use Rattle.ncc_world.specs.Happening.{lagged}
use Rattle.ncc_world.specs.Parts.{clients_in, members_in}
use Rattle.ncc_world.proofs.Seated.{shelves_count}
use Rattle.ncc_world.proofs.Remembering.{all_grown}
use Rattle.ncc_world.proofs.Happened.{member_ends}
use Rattle.ncc_world.proofs.running.Running.apply.Goals as goal

pub apply-requires-clause-there : goal.apply-requires-clause-there
apply-requires-clause-there c =
    let k = c.requires.live.runs_as in
    let r = c.requires.live.run in
    let t = c.requires.there r k in
    let m = member_ends r c.args.member t.0 in
    let other = t.1 in (
      omega (arith, m.low_is, other),
      omega (arith, m.high_is, shelves_count c.args.setup.now (members_in c.args.self.now.members) r.members r.history k.members),
    )

pub returns : goal.returns
returns c = record {
  ok = λ r k.
      let s = c.args.setup.now in
      let seats = lagged r.members c.args.member c.args.count in
      let now = c.in_ok-apply.ensures.ok s r.members r.history k.members in
      record {
        now = k.now;
        members = now.are;
        clients = subst (λ n. AreServed s n (clients_in c.args.self.now.clients) r.clients) (sym now.count) k.clients;
        told = k.told;
        earlier = all_grown s c.args.self.now.earlier.items r seats k.earlier now.grow;
      };
  drivers = refl;
}
