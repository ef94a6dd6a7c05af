use Rattle.std.proofs.Common.{◌≡◌, ◌∙◌, subst, arith, List, ℕ, length, false}
use Rattle.std.proofs.lemmas.Result.{on_ok_weaker}
use Rattle.std.proofs.lemmas.Map.Entries.{length-values_of}
use Rattle.ncc_clients.specs.Run.{opened}
use Rattle.ncc_world.specs.Requests.{client_bytes}
use Rattle.ncc_clients.specs.Drives.{feeds}
use Rattle.ncc_world.specs.Setting.{cluster_of}
use Rattle.ncc_world.specs.Happening.{WorldRun}
use Rattle.ncc_world.specs.World.{RunsAs}
use Rattle.ncc_world.specs.Parts.{run_in}
use Rattle.ncc_world.proofs.Turning.{counted}
use Rattle.ncc_world.proofs.running.Running.ask.Goals as goal

pub feed-requires-clause-there : goal.feed-requires-clause-there
feed-requires-clause-there c =
    omega (arith, c.len-index.ensures.len, length-values_of c.args.self.now.clients.table.entries, c.in_ok-open.ensures.more)

pub returns : goal.returns
returns c = record {
  ok = on_ok_weaker c.feed.result (λ f r k.
      let s = c.args.setup.now in
      let o : WorldRun = opened r c.args.member false in
      let n = counted c.args.setup.now (run_in c.args.self.now) r k in
      let index : c.len-index.result ≡ length r.clients =
      omega (arith, c.len-index.ensures.len, n.table, length-values_of c.args.self.now.clients.table.entries) in
      let fed = f o (c.in_ok-open.ensures.ok r k) in
      subst (λ (i : ℕ). RunsAs c.args.setup.now (run_in c.feed.new.self) (feeds (cluster_of c.args.setup.now) o i (client_bytes c.args.request.now))) index
      (subst (λ (b : List ℕ). RunsAs c.args.setup.now (run_in c.feed.new.self) (feeds (cluster_of c.args.setup.now) o c.len-index.result b))
      c.in_ok-bytes.ensures fed)) c.feed.ensures.ok;
  drivers = c.feed.ensures.drivers ∙ c.in_ok-open.ensures.drivers;
}
