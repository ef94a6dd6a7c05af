use Rattle.std.proofs.Common.{◌∙◌, ◌-◌, [], None, ap, subst}
use Rattle.std.proofs.lemmas.Result.{on_ok_weaker}
use Rattle.ncc_clients.specs.Links.{Driver}
use Rattle.ncc_clients.specs.Drives.{closes, with_driver}
use Rattle.ncc_world.specs.Happening.{WorldRun}
use Rattle.ncc_world.specs.Parts.{RunsMid}
use Rattle.ncc_world.proofs.Doing.{all_at, at_all, same_run, there_in, within_list, without}
use Rattle.ncc_world.proofs.Listening.{cut_there, cuts_nothing, cuts_so, mid_becomes, unlinked_at}
use Rattle.ncc_world.proofs.running.Running.cut.Goals as goal

pub returns-in_default : goal.returns-in_default
returns-in_default c = record {
  ok = λ r h.
      let s = c.args.setup.now in
      let at = c.args.index in
      let l = c.requires.live in
      let k = all_at s at c.args.self.now r h in
      let x = there_in s at [] [] c.args.self.now r at k (within_list s at [] l.pending c.args.self.now l.run at l.driver l.runs_mid l.there) in
      let gone : Driver = record x.0 { link = None } in
      let m = mid_becomes s at [] [] [] c.args.self.now r c.cut.new.self x.0 gone x.1 (c.cut.ensures.ok s x.0) k in
      let none = unlinked_at x.0.link (c.in_default.ensures.conn s r.now r.driving [] x.0 x.1 k.drives) in
      at_all s at (record c.args.self.now { drivers = c.cut.new.self }) _
      (subst (λ (t : WorldRun). RunsMid s at [] [] (record c.args.self.now { drivers = c.cut.new.self }) t)
      (ap (λ (y : Driver). with_driver r at y) (without x.0 none) ∙ same_run r at x.0 x.1 ∙ cuts_nothing s c.args.line at r x.0 x.1 none) m);
}

pub hear-requires-clause-live : goal.hear-requires-clause-live
hear-requires-clause-live c =
    let s = c.args.setup.now in
    let at = c.args.index in
    let h = c.requires.live in
    let gone : Driver = record h.driver { link = None } in
    let m = mid_becomes s at [] [] h.pending c.args.self.now h.run c.cut.new.self h.driver gone h.there (c.cut.ensures.ok s h.driver) h.runs_mid in
    record {
      run = closes (with_driver h.run at gone) (c.in-Some.conn - 1);
      pending = h.pending;
      runs_mid = c.in_ok-close_on.ensures.ok at [] h.pending (with_driver h.run at gone) m;
      driver = gone;
      there = cut_there h.run at h.driver gone (c.in-Some.conn - 1) h.there;
    }

pub returns : goal.returns
returns c = record {
  ok = on_ok_weaker c.hear.result (λ f r h.
      let s = c.args.setup.now in
      let at = c.args.index in
      let l = c.requires.live in
      let k = all_at s at c.args.self.now r h in
      let x = there_in s at [] [] c.args.self.now r at k (within_list s at [] l.pending c.args.self.now l.run at l.driver l.runs_mid l.there) in
      let gone : Driver = record x.0 { link = None } in
      let m = mid_becomes s at [] [] [] c.args.self.now r c.cut.new.self x.0 gone x.1 (c.cut.ensures.ok s x.0) k in
      let o = c.in_ok-close_on.ensures.ok at [] [] (with_driver r at gone) m in
      let z = f (closes (with_driver r at gone) (c.in-Some.conn - 1)) gone [] (cut_there r at x.0 gone (c.in-Some.conn - 1) x.1) o in
      at_all s at c.hear.new.self _
      (subst (λ (t : WorldRun). RunsMid s at [] [] c.hear.new.self t)
      (cuts_so s c.args.line at r x.0 c.in-Some.conn x.1 (c.in-Some.ensures.conn s r.now r.driving [] x.0 x.1 k.drives)) z))
      c.hear.ensures.ok;
}
