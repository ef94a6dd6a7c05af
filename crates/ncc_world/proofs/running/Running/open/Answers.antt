use Rattle.std.proofs.Common.{List, Option, sym, subst, arith}
use Rattle.std.proofs.lemmas.List.{length-map}
use Rattle.indexmap.specs.IndexSet.{keys as set_keys}
use Rattle.ncc_clients.specs.Run.{opened}
use Rattle.ncc_world.specs.declared.earlier.Earlier.{Earlier}
use Rattle.ncc_world.specs.Earlier.{AllRemember}
use Rattle.ncc_world.proofs.Happened.{member_ends}
use Rattle.ncc_world.proofs.Remembering.{one_more}
use Rattle.ncc_world.proofs.running.Running.open.Goals as goal

pub open-requires-clause-there : goal.open-requires-clause-there
open-requires-clause-there c =
    let k = c.requires.live.runs_as in
    let r = c.requires.live.run in
    let m = member_ends r c.args.member (c.requires.there r k) in
    let n = length-map c.args.self.now.clients.live.items set_keys in
    (m.low_is, omega (arith, m.high_is, k.clients.live_count, n))

pub returns-clause-ok : goal.returns-clause-ok
returns-clause-ok c = λ r k.
    let ends = member_ends r c.args.member (c.requires.there r k) in
    record {
      now = k.now;
      members = k.members;
      clients = c.in_ok-open.ensures.ok r k.clients k.now (ends.low_is, ends.high_is);
      told = k.told;
      earlier = subst (λ (es : List (Option Earlier)). AllRemember c.args.setup.now es (opened r c.args.member c.args.printed))
          (sym c.in_ok-push.ensures.items)
          (one_more c.args.setup.now c.args.self.now.earlier.items r c.args.member c.args.printed k.earlier);
    }
