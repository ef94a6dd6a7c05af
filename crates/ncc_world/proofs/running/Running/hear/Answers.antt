use Rattle.std.proofs.Common.{◌∙◌, ℕ, [], arith, sym, subst}
use Rattle.ncc_clients.specs.Drives.{does_more, knows, more, with_driver}
use Rattle.ncc_world.specs.Setting.{cluster_of}
use Rattle.ncc_world.specs.Happening.{WorldRun}
use Rattle.ncc_world.specs.Drivers.{AreAtWork}
use Rattle.ncc_world.specs.Parts.{RunsMid, drivers_in}
use Rattle.ncc_world.proofs.Doing.{there_in, within_list}
use Rattle.ncc_world.proofs.Listening.{mid_hears, there_now, told_once, told_twice, told_works}
use Rattle.ncc_world.proofs.running.Running.hear.Goals as goal

pub act_all-requires-clause-live : goal.act_all-requires-clause-live
act_all-requires-clause-live c =
    let h = c.requires.live in
    let works = told_works h.run h.driver c.args.input in
    record {
      run = with_driver h.run c.args.index (knows h.driver works);
      left = more h.driver works;
      pending = h.pending;
      runs_mid = mid_hears c.args.setup.now c.args.index h.pending c.args.self.now h.run c.hear.new.self h.driver c.args.input h.there
          (c.in_ok-hear.ensures.ok c.args.setup.now h.driver) h.runs_mid;
      driver = knows h.driver works;
      there = there_now h.run c.args.index h.driver (knows h.driver works) h.there;
    }

pub returns-in_default-clause-ok : goal.returns-in_default-clause-ok
returns-in_default-clause-ok c = λ r d pending there h.
    let s = c.args.setup.now in
    let at = c.args.index in
    let works = told_works r d c.args.input in
    let heard = mid_hears s at pending c.args.self.now r c.hear.new.self d c.args.input there (c.in_ok-hear.ensures.ok s d) h in
    let y = c.in_ok-input.ensures.ok (with_driver r at (knows d works)) (knows d works) (more d works) pending
    (there_now r at d (knows d works) there) heard in
    let t = does_more (cluster_of s) c.args.line at r d works in
    let lt = within_list s at [] pending c.args.self.now r at d h there in
    let e = there_in s at [] pending c.act_all.new.self t at y.1 (omega (arith, lt, c.in_ok-hear.ensures.count, c.in_ok-input.ensures.count)) in
    subst (λ (x : WorldRun). RunsMid s at [] pending c.act_all.new.self x)
    (told_once s c.args.line at r d e.0 works e.1 (sym c.in_default.is ∙ y.0)) y.1

pub hear-requires-2-clause-there : goal.hear-requires-2-clause-there
hear-requires-2-clause-there c =
    let h = c.requires.live in
    let lt = within_list c.args.setup.now c.args.index [] h.pending c.args.self.now h.run c.args.index h.driver h.runs_mid h.there in
    omega (arith, lt, c.in_ok-hear.ensures.count, c.in_ok-input.ensures.count)

pub hear-requires-2-clause-lives : goal.hear-requires-2-clause-lives
hear-requires-2-clause-lives c =
    let s = c.args.setup.now in
    let at = c.args.index in
    let h = c.requires.live in
    let works = told_works h.run h.driver c.args.input in
    let heard = mid_hears s at h.pending c.args.self.now h.run c.hear.new.self h.driver c.args.input h.there
    (c.in_ok-hear.ensures.ok s h.driver) h.runs_mid in
    let y = c.in_ok-input.ensures.ok (with_driver h.run at (knows h.driver works)) (knows h.driver works) (more h.driver works) h.pending
    (there_now h.run at h.driver (knows h.driver works) h.there) heard in
    let t = does_more (cluster_of s) c.args.line at h.run h.driver works in (
      s,
      t.driving,
      h.pending,
      subst (λ (n : ℕ). AreAtWork s at [] h.pending (drivers_in c.act_all.new.self.drivers) n t.driving) (sym y.1.runs_as.now) y.1.drives,
    )

pub act_all-requires-2-clause-live : goal.act_all-requires-2-clause-live
act_all-requires-2-clause-live c =
    let s = c.args.setup.now in
    let at = c.args.index in
    let h = c.requires.live in
    let works = told_works h.run h.driver c.args.input in
    let heard = mid_hears s at h.pending c.args.self.now h.run c.hear.new.self h.driver c.args.input h.there
    (c.in_ok-hear.ensures.ok s h.driver) h.runs_mid in
    let y = c.in_ok-input.ensures.ok (with_driver h.run at (knows h.driver works)) (knows h.driver works) (more h.driver works) h.pending
    (there_now h.run at h.driver (knows h.driver works) h.there) heard in
    let t = does_more (cluster_of s) c.args.line at h.run h.driver works in
    let lt = within_list s at [] h.pending c.args.self.now h.run at h.driver h.runs_mid h.there in
    let e = there_in s at [] h.pending c.act_all.new.self t at y.1 (omega (arith, lt, c.in_ok-hear.ensures.count, c.in_ok-input.ensures.count)) in
    let after = told_works t e.0 c.in-Some.input in
    record {
      run = with_driver t at (knows e.0 after);
      left = more e.0 after;
      pending = h.pending;
      runs_mid = mid_hears s at h.pending c.act_all.new.self t c.hear-2.new.self e.0 c.in-Some.input e.1 (c.in_ok-hear-2.ensures.ok s e.0) y.1;
      driver = knows e.0 after;
      there = there_now t at e.0 (knows e.0 after) e.1;
    }

pub returns-clause-ok : goal.returns-clause-ok
returns-clause-ok c = λ r d pending there h.
    let s = c.args.setup.now in
    let at = c.args.index in
    let works = told_works r d c.args.input in
    let heard = mid_hears s at pending c.args.self.now r c.hear.new.self d c.args.input there (c.in_ok-hear.ensures.ok s d) h in
    let y = c.in_ok-input.ensures.ok (with_driver r at (knows d works)) (knows d works) (more d works) pending
    (there_now r at d (knows d works) there) heard in
    let t = does_more (cluster_of s) c.args.line at r d works in
    let lt = within_list s at [] pending c.args.self.now r at d h there in
    let e = there_in s at [] pending c.act_all.new.self t at y.1 (omega (arith, lt, c.in_ok-hear.ensures.count, c.in_ok-input.ensures.count)) in
    let after = told_works t e.0 c.in-Some.input in
    let again = mid_hears s at pending c.act_all.new.self t c.hear-2.new.self e.0 c.in-Some.input e.1 (c.in_ok-hear-2.ensures.ok s e.0) y.1 in
    let z = c.in_ok-act_all.ensures.ok (with_driver t at (knows e.0 after)) (knows e.0 after) (more e.0 after) pending
    (there_now t at e.0 (knows e.0 after) e.1) again in
    subst (λ (x : WorldRun). RunsMid s at [] pending c.act_all-2.new.self x)
    (told_twice s c.args.line at r d e.0 works c.in-Some.input e.1 (sym c.in-Some.is ∙ y.0)) z.1
