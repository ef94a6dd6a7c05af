use Rattle.std.proofs.Common.{◌≡◌, ◌+◌, Some, arith, length, subst}
use Rattle.std.proofs.lemmas.Map.Entries.{length-values_of}
use Rattle.ncc_world.specs.Happening.{WorldRun}
use Rattle.ncc_world.specs.Parts.{RunsMid, run_in}
use Rattle.ncc_world.proofs.Turning.{counted}
use Rattle.ncc_world.proofs.Doing.{within_list}
use Rattle.ncc_world.proofs.Joining.{joins_some, mid_joined, named_is, named_few, named_there}
use Rattle.ncc_world.proofs.running.Running.join.Goals as goal

pub named-requires : goal.named-requires
named-requires c =
    let h = c.requires.live in
    record { few = named_few c.args.setup.now c.args.index h.left h.pending c.args.self.now h.run c.requires.allowed h.runs_mid }

pub open_to-requires-clause-there : goal.open_to-requires-clause-there
open_to-requires-clause-there c =
    let h = c.requires.live in
    named_there c.args.setup.now c.args.index h.left h.pending c.args.self.now h.run c.args.address.now c.in-Some.member h.runs_mid
    c.in-Some.ensures.exact

pub join-requires : goal.join-requires
join-requires c =
    let h = c.requires.live in
    let lt = within_list c.args.setup.now c.args.index h.left h.pending c.args.self.now h.run c.args.index h.driver h.runs_mid h.there in
    record { there = omega (arith, lt, c.in_ok-open_to.ensures.count) }

pub returns-clause-ok : goal.returns-clause-ok
returns-clause-ok c = λ r d left pending there h.
    let s = c.args.setup.now in
    let at = c.args.index in
    let o = c.in_ok-open_to.ensures.ok at left pending r h in
    let k = c.in_ok-join.ensures.ok s r.now r.driving d left pending there o.drives in
    let n = counted s (run_in c.args.self.now) r h.runs_as in
    let conn : c.len.result + 1 ≡ length r.clients + 1 =
    omega (arith, c.len.ensures.len, n.table, length-values_of c.args.self.now.clients.table.entries) in
    let e = named_is s at left pending c.args.self.now r c.args.address.now (Some c.in-Some.member) h c.in-Some.ensures.exact in
    let j = joins_some s at d r c.args.address.now c.in-Some.member e in (
      j.0,
      subst (λ (t : WorldRun). RunsMid s at left pending (record c.open_to.new.self { drivers = c.join.new.self }) t) j.1
          (mid_joined s at left pending c.open_to.new.self r c.join.new.self d c.in-Some.member (c.len.result + 1) conn o k),
    )
