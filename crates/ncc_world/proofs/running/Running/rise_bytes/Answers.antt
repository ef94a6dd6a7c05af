use Rattle.std.proofs.Common.{[], subst}
use Rattle.std.proofs.lemmas.Result.{on_ok_weaker}
use Rattle.ncc_clients.specs.Links.{lift_bytes}
use Rattle.ncc_clients.specs.Drives.{with_driver}
use Rattle.ncc_world.specs.Happening.{WorldRun}
use Rattle.ncc_world.specs.Parts.{RunsMid}
use Rattle.ncc_world.proofs.Doing.{all_at, at_all, there_in, within_list}
use Rattle.ncc_world.proofs.Listening.{there_now}
use Rattle.ncc_world.proofs.Rising.{lifts_so, mid_lifts, taken_from}
use Rattle.ncc_world.proofs.running.Running.rise_bytes.Goals as goal

pub rise-requires : goal.rise-requires
rise-requires c =
    let s = c.args.setup.now in
    let at = c.args.index in
    let h = c.requires.live in
    let lift = lift_bytes c.args.count in
    let m = mid_lifts s at h.pending c.args.self.now h.run c.lift_bytes.new.self h.driver lift c.in_ok-bytes.bytes h.there
    (λ k. c.in_ok-bytes.ensures.ok s h.driver h.run.now h.run.driving h.pending h.there k) h.runs_mid in
    record {
      live = record {
        run = with_driver h.run at (taken_from lift h.driver);
        pending = h.pending;
        runs_mid = m.1;
        driver = taken_from lift h.driver;
        there = there_now h.run at h.driver (taken_from lift h.driver) h.there;
      };
    }

pub returns : goal.returns
returns c = record {
  ok = on_ok_weaker c.rise.result (λ f r h.
      let s = c.args.setup.now in
      let at = c.args.index in
      let l = c.requires.live in
      let lift = lift_bytes c.args.count in
      let k = all_at s at c.args.self.now r h in
      let x = there_in s at [] [] c.args.self.now r at k (within_list s at [] l.pending c.args.self.now l.run at l.driver l.runs_mid l.there) in
      let m = mid_lifts s at [] c.args.self.now r c.lift_bytes.new.self x.0 lift c.in_ok-bytes.bytes x.1
      (λ y. c.in_ok-bytes.ensures.ok s x.0 r.now r.driving [] x.1 y) k in
      let z = f (with_driver r at (taken_from lift x.0)) [] m.1 in
      at_all s at c.rise.new.self _
      (subst (λ (t : WorldRun). RunsMid s at [] [] c.rise.new.self t) (lifts_so s r at x.0 lift c.in_ok-bytes.bytes x.1 m.0) z))
      c.rise.ensures.ok;
}
