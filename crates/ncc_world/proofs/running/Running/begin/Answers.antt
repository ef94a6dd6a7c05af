use Rattle.std.proofs.Common.{◌++◌, ◌∷◌, ℕ, [], sym, subst}
use Rattle.std.proofs.lemmas.Result.{on_ok_weaker}
use Rattle.ncc_driver.specs.Talk.{begun}
use Rattle.ncc_clients.specs.Task.{job_of}
use Rattle.ncc_clients.specs.Links.{Driver}
use Rattle.ncc_clients.specs.Drives.{knows, with_driver}
use Rattle.ncc_world.specs.Happening.{WorldRun, meant}
use Rattle.ncc_world.specs.Drivers.{AreAtWork}
use Rattle.ncc_world.specs.Parts.{RunsMid, drivers_in}
use Rattle.ncc_world.proofs.Doing.{all_at, at_all, there_in, within_list}
use Rattle.ncc_world.proofs.Listening.{begins_so, mid_begins, not_busy, there_now}
use Rattle.ncc_world.proofs.running.Running.begin.Goals as goal

pub begin-requires-clause-rests : goal.begin-requires-clause-rests
begin-requires-clause-rests c =
    let s = c.args.setup.now in
    let at = c.args.index in
    let l = c.requires.live in
    let r = c.requires.all.run in
    let k = all_at s at c.args.self.now r c.requires.all.runs_all in
    let x = there_in s at [] [] c.args.self.now r at k (within_list s at [] l.pending c.args.self.now l.run at l.driver l.runs_mid l.there) in (
      s,
      r.driving,
      [],
      x.0,
      x.1,
      not_busy r at x.0 x.1 (c.requires.rests r c.requires.all.runs_all),
      subst (λ (n : ℕ). AreAtWork s at [] [] (drivers_in c.args.self.now.drivers) n r.driving) (sym k.runs_as.now) k.drives,
    )

pub hear-requires-clause-live : goal.hear-requires-clause-live
hear-requires-clause-live c =
    let s = c.args.setup.now in
    let at = c.args.index in
    let l = c.requires.live in
    let r = c.requires.all.run in
    let k = all_at s at c.args.self.now r c.requires.all.runs_all in
    let x = there_in s at [] [] c.args.self.now r at k (within_list s at [] l.pending c.args.self.now l.run at l.driver l.runs_mid l.there) in
    let e : Driver = knows x.0 (x.0.works ++ begun (meant c.args.job.now) r.now ∷ []) in
    record {
      run = with_driver r at e;
      pending = [];
      runs_mid = mid_begins s at c.args.self.now r c.begin.new.self x.0 (job_of c.in_ok-task.task) (meant c.args.job.now) x.1
          c.in_ok-task.ensures.exact (λ y. c.in_ok-begin.ensures.ok s r.driving [] x.0 x.1 y) k;
      driver = e;
      there = there_now r at x.0 e x.1;
    }

pub returns : goal.returns
returns c = record {
  ok = on_ok_weaker c.hear.result (λ f r h.
      let s = c.args.setup.now in
      let at = c.args.index in
      let l = c.requires.live in
      let k = all_at s at c.args.self.now r h in
      let x = there_in s at [] [] c.args.self.now r at k (within_list s at [] l.pending c.args.self.now l.run at l.driver l.runs_mid l.there) in
      let e : Driver = knows x.0 (x.0.works ++ begun (meant c.args.job.now) r.now ∷ []) in
      let m = mid_begins s at c.args.self.now r c.begin.new.self x.0 (job_of c.in_ok-task.task) (meant c.args.job.now) x.1
      c.in_ok-task.ensures.exact (λ y. c.in_ok-begin.ensures.ok s r.driving [] x.0 x.1 y) k in
      let z = f (with_driver r at e) e [] (there_now r at x.0 e x.1) m in
      at_all s at c.hear.new.self _
      (subst (λ (t : WorldRun). RunsMid s at [] [] c.hear.new.self t) (begins_so s c.args.line at r x.0 (meant c.args.job.now) x.1) z))
      c.hear.ensures.ok;
}
