use Rattle.std.proofs.Common.{◌≤◌, ◌-◌, ℕ, ap, arith, length, subst}
use Rattle.std.proofs.lemmas.Result.{on_ok_weaker}
use Rattle.std.proofs.lemmas.Map.Entries.{length-values_of}
use Rattle.ncc_clients.specs.Drives.{feeds}
use Rattle.ncc_world.specs.declared.drivers.Drivers.{Drivers}
use Rattle.ncc_world.specs.Setting.{cluster_of}
use Rattle.ncc_world.specs.Happening.{WorldRun}
use Rattle.ncc_world.specs.World.{RunsAs}
use Rattle.ncc_world.specs.Parts.{RunsMid, run_in}
use Rattle.ncc_world.proofs.Turning.{counted}
use Rattle.ncc_world.proofs.Aside.{feeds_aside, feeds_past, mid_from}
use Rattle.ncc_world.proofs.running.Running.feed_on.Goals as goal

pub returns-then-len-at-clause-ok : goal.returns-then-len-at-clause-ok
returns-then-len-at-clause-ok c = λ at left pending r k.
    let s = c.args.setup.now in
    let n = counted s (run_in c.args.self.now) r k.runs_as in
    let past : length r.clients ≤ c.args.conn - 1 =
    omega (arith, c.if-len-at.true, c.len.ensures.len, n.table, length-values_of c.args.self.now.clients.table.entries, c.saturating_sub-at.ensures) in
    subst (λ (x : WorldRun). RunsMid s at left pending c.args.self.now x) (feeds_past s r (c.args.conn - 1) c.args.bytes past) k

pub feed-requires-clause-there : goal.feed-requires-clause-there
feed-requires-clause-there c =
    omega (arith, c.if-len-at.false, c.len.ensures.len, length-values_of c.args.self.now.clients.table.entries)

pub returns-clause-ok : goal.returns-clause-ok
returns-clause-ok c = on_ok_weaker c.feed.result (λ f at left pending r k.
    let s = c.args.setup.now in
    let i : ℕ = c.args.conn - 1 in
    let runs : RunsAs s (run_in c.feed.new.self) (feeds (cluster_of s) r i c.args.bytes) =
    subst (λ (j : ℕ). RunsAs s (run_in c.feed.new.self) (feeds (cluster_of s) r j c.args.bytes)) c.saturating_sub-at.ensures (f r k.runs_as) in
    mid_from s at left pending c.args.self.now c.feed.new.self r (feeds (cluster_of s) r i c.args.bytes) k runs c.feed.ensures.drivers
    (feeds_aside s r i c.args.bytes)) c.feed.ensures.ok

pub returns-clause-count : goal.returns-clause-count
returns-clause-count c = ap (λ (d : Drivers). length d.list.items) c.feed.ensures.drivers
