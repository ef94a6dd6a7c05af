use Rattle.std.proofs.Common.{[], subst}
use Rattle.std.proofs.lemmas.Result.{on_ok_weaker}
use Rattle.ncc_clients.specs.Drives.{lift_to, with_driver}
use Rattle.ncc_world.specs.Happening.{WorldRun}
use Rattle.ncc_world.specs.Parts.{RunsMid}
use Rattle.ncc_world.proofs.Doing.{there_in, within_list}
use Rattle.ncc_world.proofs.Listening.{there_now}
use Rattle.ncc_world.proofs.Rising.{lifts_so, mid_lifts, taken_from}
use Rattle.ncc_world.proofs.running.Running.rise_to.Goals as goal

pub rise-requires : goal.rise-requires
rise-requires c =
    let s = c.args.setup.now in
    let at = c.args.index in
    let h = c.requires.live in
    let lift = lift_to c.args.limit in
    let m = mid_lifts s at h.pending c.args.self.now h.run c.lift_to.new.self h.driver lift c.in_ok-bytes.bytes h.there
    (λ k. c.in_ok-bytes.ensures.ok s h.driver h.run.now h.run.driving h.pending h.there k) h.runs_mid in
    record {
      live = record {
        run = with_driver h.run at (taken_from lift h.driver);
        pending = h.pending;
        runs_mid = m.1;
        driver = taken_from lift h.driver;
        there = there_now h.run at h.driver (taken_from lift h.driver) h.there;
      };
    }

pub returns-clause-ok : goal.returns-clause-ok
returns-clause-ok c =
    on_ok_weaker c.rise.result (λ f r pending h.
    let s = c.args.setup.now in
    let at = c.args.index in
    let l = c.requires.live in
    let lift = lift_to c.args.limit in
    let x = there_in s at [] pending c.args.self.now r at h (within_list s at [] l.pending c.args.self.now l.run at l.driver l.runs_mid l.there) in
    let m = mid_lifts s at pending c.args.self.now r c.lift_to.new.self x.0 lift c.in_ok-bytes.bytes x.1
    (λ y. c.in_ok-bytes.ensures.ok s x.0 r.now r.driving pending x.1 y) h in
    let z = f (with_driver r at (taken_from lift x.0)) pending m.1 in
    subst (λ (t : WorldRun). RunsMid s at [] pending c.rise.new.self t) (lifts_so s r at x.0 lift c.in_ok-bytes.bytes x.1 m.0) z)
    c.rise.ensures.ok
