use Rattle.std.proofs.Common.{◌-◌, None}
use Rattle.std.proofs.lemmas.Result.{on_ok_weaker}
use Rattle.ncc_clients.specs.Links.{Driver}
use Rattle.ncc_clients.specs.Drives.{with_driver, woken}
use Rattle.ncc_world.specs.Setting.{cluster_of}
use Rattle.ncc_world.proofs.Listening.{mid_due, mid_wakes, there_now}
use Rattle.ncc_world.proofs.running.Running.wake.Goals as goal

pub hear-requires-clause-live : goal.hear-requires-clause-live
hear-requires-clause-live c =
    let h = c.requires.live in
    let e : Driver = record h.driver { wakes = None } in
    record {
      run = with_driver h.run (c.args.number - 1) e;
      pending = h.pending;
      runs_mid = mid_wakes c.args.setup.now c.args.number h.pending c.args.self.now h.run c.wake.new.self h.driver h.some h.awake
          (λ k. c.wake.ensures.ok c.args.setup.now h.run.now h.run.driving h.driver h.pending h.there k) h.runs;
      driver = e;
      there = there_now h.run (c.args.number - 1) h.driver e h.there;
    }

pub returns-clause-ok : goal.returns-clause-ok
returns-clause-ok c =
    on_ok_weaker c.hear.result (λ f r d pending there h awake.
    let s = c.args.setup.now in
    let at = c.args.number - 1 in
    let e : Driver = record d { wakes = None } in
    let m = mid_wakes s c.args.number pending c.args.self.now r c.wake.new.self d c.requires.live.some awake
    (λ k. c.wake.ensures.ok s r.now r.driving d pending there k) h in
    mid_due s at pending c.hear.new.self (woken (cluster_of s) c.args.line at r d)
    (f (with_driver r at e) e pending (there_now r at d e there) m))
    c.hear.ensures.ok
