use Rattle.std.proofs.Common.{◌≡◌, ◌∙◌, ◌-◌, ◌+◌, ap, sym, subst, arith, List, [], ℕ, IsTrue, true}
use Rattle.std.specs.Prelude.{take}
use Rattle.std.proofs.lemmas.Result.{on_ok_weaker}
use Rattle.ncc_bolt.specs.Writing.{fits_request}
use Rattle.ncc_bolt.specs.declared.message.Request.{Request}
use Rattle.ncc_world.specs.declared.event.Event.{Event}
use Rattle.ncc_world.specs.declared.error.WorldError.TheVariants.{NoConn}
use Rattle.ncc_world.specs.Events.{MayHappen}
use Rattle.ncc_clients.specs.Run.{opened, moved, ticked}
use Rattle.ncc_clients.specs.Drives.{feeds, closes, wakes_all, makes, begins, lifts, falls, cuts, driver_at}
use Rattle.ncc_clients.specs.Links.{lift_bytes}
use Rattle.ncc_world.specs.Setting.{cluster_of}
use Rattle.ncc_world.specs.Requests.{put_request, get_request}
use Rattle.ncc_world.specs.Happening.{WorldRun, asks, lagged, refusal, is_open_made, is_busy_at, config_of, meant}
use Rattle.ncc_world.specs.World.{RunsAs}
use Rattle.ncc_world.specs.Parts.{RunsAll, run_in}
use Rattle.ncc_world.proofs.Turning.{counted}
use Rattle.ncc_world.proofs.Opened.{made_within, allowed_by}
use Rattle.ncc_world.proofs.Owning.{Stepped, own_time, own_put, own_get, own_apply, own_open, own_bytes, own_close}
use Rattle.ncc_world.proofs.Owning.{own_session, own_work, own_up, own_down, own_cut}
use Rattle.ncc_world.proofs.Aside.{mid_from, asks_aside, lagging_aside, opened_aside, feeds_aside, closes_aside}
use Rattle.ncc_world.proofs.Stepping.{ticked_all, driven, named, done_at, may_work, come_as_bytes}
use Rattle.ncc_world.proofs.Sending.{put_fits, get_fits}
use Rattle.ncc_world.proofs.running.Running.step.Goals as goal

pub feed-requires-clause-there : goal.feed-requires-clause-there
feed-requires-clause-there c =
    let r = c.requires.live.run in
    let n = counted c.args.setup.now (run_in c.args.self.now) r c.requires.live.runs_all.runs_as in
    let made = allowed_by (is_open_made r c.in-Bytes.conn) NoConn
    (ap (refusal c.args.setup.now r) (sym c.in-Bytes.is) ∙ c.requires.taken r c.requires.live.runs_all) in
    omega (arith, made_within r c.in-Bytes.conn made, n.table)

pub close-requires-clause-there : goal.close-requires-clause-there
close-requires-clause-there c =
    let r = c.requires.live.run in
    let n = counted c.args.setup.now (run_in c.args.self.now) r c.requires.live.runs_all.runs_as in
    let made = allowed_by (is_open_made r c.in-Close.conn) NoConn
    (ap (refusal c.args.setup.now r) (sym c.in-Close.is) ∙ c.requires.taken r c.requires.live.runs_all) in
    omega (arith, made_within r c.in-Close.conn made, n.table)

pub ask-requires-clause-fits : goal.ask-requires-clause-fits
ask-requires-clause-fits c =
    let may = subst (λ (e : Event). MayHappen c.args.setup.now.cluster e) c.in-Put.is c.requires.may_happen in
    subst (λ (q : Request). IsTrue (fits_request q)) (sym c.in_ok-request-in-Put.ensures)
    (put_fits c.in-Put.key c.in-Put.value c.in-Put.bookmarks may.0 may.1 may.3)

pub ask-requires-in-Get-clause-fits : goal.ask-requires-in-Get-clause-fits
ask-requires-in-Get-clause-fits c =
    let may = subst (λ (e : Event). MayHappen c.args.setup.now.cluster e) c.in-Get.is c.requires.may_happen in
    subst (λ (q : Request). IsTrue (fits_request q)) (sym c.in_ok-request-in-Get.ensures)
    (get_fits c.in-Get.key c.in-Get.bookmarks may.0 may.2)

pub wake_all-requires-clause-live : goal.wake_all-requires-clause-live
wake_all-requires-clause-live c =
    let r = c.requires.live.run in
    let k = c.requires.live.runs_all in
    record {
      run = ticked r c.in-Time.to;
      runs_all = ticked_all c.args.setup.now c.args.self.now r c.in-Time.to k (ap (refusal c.args.setup.now r) (sym c.in-Time.is) ∙ c.requires.taken r k);
    }

pub returns-in-Time : goal.returns-in-Time
returns-in-Time c = record {
  ok = on_ok_weaker c.wake_all.result (λ f r k.
      let s = c.args.setup.now in
      let t : WorldRun = wakes_all (cluster_of s) c.args.line (ticked r c.in-Time.to) in
      let later = ticked_all s c.args.self.now r c.in-Time.to k (ap (refusal c.args.setup.now r) (sym c.in-Time.is) ∙ c.requires.taken r k) in
      let runs : RunsAll s c.wake_all.new.self t = f (ticked r c.in-Time.to) later in
      subst (Stepped s c.args.line c.wake_all.new.self r) (sym c.in-Time.is) (t, own_time s c.args.line r c.in-Time.to, runs)) c.wake_all.ensures.ok;
}

pub returns-in_ok-request-in-Put : goal.returns-in_ok-request-in-Put
returns-in_ok-request-in-Put c = record {
  ok = on_ok_weaker c.ask.result (λ f r k.
      let s = c.args.setup.now in
      let t : WorldRun = asks s r c.in-Put.member (put_request c.in-Put.key c.in-Put.value c.in-Put.bookmarks) in
      let runs : RunsAs s (run_in c.ask.new.self) t =
      subst (λ (q : Request). RunsAs s (run_in c.ask.new.self) (asks s r c.in-Put.member q)) c.in_ok-request-in-Put.ensures (f r k.runs_as) in
      let all = mid_from s 0 [] [] c.args.self.now c.ask.new.self r t k runs c.ask.ensures.drivers
      (asks_aside s r c.in-Put.member (put_request c.in-Put.key c.in-Put.value c.in-Put.bookmarks)) in
      subst (Stepped s c.args.line c.ask.new.self r) (sym c.in-Put.is)
      (t, own_put s c.args.line r c.in-Put.member c.in-Put.key c.in-Put.value c.in-Put.bookmarks, all)) c.ask.ensures.ok;
}

pub returns-in_ok-request-in-Get : goal.returns-in_ok-request-in-Get
returns-in_ok-request-in-Get c = record {
  ok = on_ok_weaker c.ask-in-Get.result (λ f r k.
      let s = c.args.setup.now in
      let t : WorldRun = asks s r c.in-Get.member (get_request c.in-Get.key c.in-Get.bookmarks) in
      let runs : RunsAs s (run_in c.ask-in-Get.new.self) t =
      subst (λ (q : Request). RunsAs s (run_in c.ask-in-Get.new.self) (asks s r c.in-Get.member q)) c.in_ok-request-in-Get.ensures (f r k.runs_as) in
      let all = mid_from s 0 [] [] c.args.self.now c.ask-in-Get.new.self r t k runs c.ask-in-Get.ensures.drivers
      (asks_aside s r c.in-Get.member (get_request c.in-Get.key c.in-Get.bookmarks)) in
      subst (Stepped s c.args.line c.ask-in-Get.new.self r) (sym c.in-Get.is)
      (t, own_get s c.args.line r c.in-Get.member c.in-Get.key c.in-Get.bookmarks, all)) c.ask-in-Get.ensures.ok;
}

pub returns-in-Apply : goal.returns-in-Apply
returns-in-Apply c = record {
  ok = on_ok_weaker c.apply.result (λ f r k.
      let s = c.args.setup.now in
      let t : WorldRun = moved (cluster_of s) r (lagged r.members c.in-Apply.member c.in-Apply.count) in
      let all = mid_from s 0 [] [] c.args.self.now c.apply.new.self r t k (f r k.runs_as) c.apply.ensures.drivers
      (lagging_aside s r c.in-Apply.member c.in-Apply.count) in
      subst (Stepped s c.args.line c.apply.new.self r) (sym c.in-Apply.is)
      (t, own_apply s c.args.line r c.in-Apply.member c.in-Apply.count, all)) c.apply.ensures.ok;
}

pub returns-in-Open : goal.returns-in-Open
returns-in-Open c = record {
  ok = on_ok_weaker c.open.result (λ f r k.
      let s = c.args.setup.now in
      let t : WorldRun = opened r c.in-Open.member true in
      let all = mid_from s 0 [] [] c.args.self.now c.open.new.self r t k (f r k.runs_as) c.open.ensures.drivers
      (opened_aside r c.in-Open.member true) in
      subst (Stepped s c.args.line c.open.new.self r) (sym c.in-Open.is)
      (t, own_open s c.args.line r c.in-Open.member, all)) c.open.ensures.ok;
}

pub returns-in_ok-piece-in-Bytes : goal.returns-in_ok-piece-in-Bytes
returns-in_ok-piece-in-Bytes c = record {
  ok = on_ok_weaker c.feed.result (λ f r k.
      let s = c.args.setup.now in
      let t : WorldRun = feeds (cluster_of s) r (c.in-Bytes.conn - 1) c.in-Bytes.bytes in
      let runs : RunsAs s (run_in c.feed.new.self) t =
      subst (λ (b : List ℕ). RunsAs s (run_in c.feed.new.self) (feeds (cluster_of s) r (c.in-Bytes.conn - 1) b))
      c.in_ok-piece-in-Bytes.ensures.equal (f r k.runs_as) in
      let all = mid_from s 0 [] [] c.args.self.now c.feed.new.self r t k runs c.feed.ensures.drivers
      (feeds_aside s r (c.in-Bytes.conn - 1) c.in-Bytes.bytes) in
      subst (Stepped s c.args.line c.feed.new.self r) (sym c.in-Bytes.is)
      (t, own_bytes s c.args.line r c.in-Bytes.conn c.in-Bytes.bytes, all)) c.feed.ensures.ok;
}

pub returns-in-Close : goal.returns-in-Close
returns-in-Close c = record {
  ok = on_ok_weaker c.close.result (λ f r k.
      let s = c.args.setup.now in
      let t : WorldRun = closes r (c.in-Close.conn - 1) in
      let all = mid_from s 0 [] [] c.args.self.now c.close.new.self r t k (f r k.runs_as) c.close.ensures.drivers
      (closes_aside r (c.in-Close.conn - 1)) in
      subst (Stepped s c.args.line c.close.new.self r) (sym c.in-Close.is)
      (t, own_close s c.args.line r c.in-Close.conn, all)) c.close.ensures.ok;
}

pub returns-in-Session : goal.returns-in-Session
returns-in-Session c = record {
  ok = on_ok_weaker c.make.result (λ f r k.
      let s = c.args.setup.now in
      let t : WorldRun = makes r (config_of s c.in-Session.seed) in
      let all : RunsAll s (record c.args.self.now { drivers = c.make.new.self }) t = record {
        runs_as = driven s (run_in c.args.self.now) r t.driving k.runs_as;
        drives = f r.now r.driving k.drives;
        members = k.members;
        awake = k.awake;
      } in
      subst (Stepped s c.args.line (record c.args.self.now { drivers = c.make.new.self }) r) (sym c.in-Session.is)
      (t, own_session s c.args.line r c.in-Session.seed, all)) c.make.ensures.ok;
}

pub begin-requires-clause-live : goal.begin-requires-clause-live
begin-requires-clause-live c =
    let r = c.requires.live.run in
    let k = c.requires.live.runs_all in
    let may = may_work r c.in-Work.session (ap (refusal c.args.setup.now r) (sym c.in-Work.is) ∙ c.requires.taken r k) in
    done_at c.args.setup.now c.args.self.now r c.in-Work.session k (named r c.in-Work.session may.named)

pub begin-requires-clause-rests : goal.begin-requires-clause-rests
begin-requires-clause-rests c = λ r k.
    let may = may_work r c.in-Work.session (ap (refusal c.args.setup.now r) (sym c.in-Work.is) ∙ c.requires.taken r k) in
    let n = named r c.in-Work.session may.named in
    ap (λ (i : ℕ). is_busy_at r i) (let same : c.in-Work.session - 1 + 1 ≡ c.in-Work.session = omega (arith, n.some) in same) ∙ may.rests

pub rise_bytes-requires : goal.rise_bytes-requires
rise_bytes-requires c =
    let r = c.requires.live.run in
    let k = c.requires.live.runs_all in
    record {
      live = done_at c.args.setup.now c.args.self.now r c.in-Up.session k
          (named r c.in-Up.session (ap (refusal c.args.setup.now r) (sym c.in-Up.is) ∙ c.requires.taken r k));
    }

pub fall-requires-clause-live : goal.fall-requires-clause-live
fall-requires-clause-live c =
    let r = c.requires.live.run in
    let k = c.requires.live.runs_all in
    done_at c.args.setup.now c.args.self.now r c.in-Down.session k
    (named r c.in-Down.session (ap (refusal c.args.setup.now r) (sym c.in-Down.is) ∙ c.requires.taken r k))

pub pump-requires-clause-live : goal.pump-requires-clause-live
pump-requires-clause-live c =
    let r = c.requires.live.run in
    let k = c.requires.live.runs_all in
    done_at c.args.setup.now c.args.self.now r c.in-Pump.session k
    (named r c.in-Pump.session (ap (refusal c.args.setup.now r) (sym c.in-Pump.is) ∙ c.requires.taken r k))

pub cut-requires-clause-live : goal.cut-requires-clause-live
cut-requires-clause-live c =
    let r = c.requires.live.run in
    let k = c.requires.live.runs_all in
    done_at c.args.setup.now c.args.self.now r c.in-Cut.session k
    (named r c.in-Cut.session (ap (refusal c.args.setup.now r) (sym c.in-Cut.is) ∙ c.requires.taken r k))

pub returns-in-Work : goal.returns-in-Work
returns-in-Work c = record {
  ok = on_ok_weaker c.begin.result (λ f r k.
      let s = c.args.setup.now in
      let t : WorldRun = begins (cluster_of s) c.args.line (c.in-Work.session - 1) r (meant c.in-Work.job) in
      let all : RunsAll s c.begin.new.self t = f r k in
      subst (Stepped s c.args.line c.begin.new.self r) (sym c.in-Work.is)
      (t, own_work s c.args.line r c.in-Work.session c.in-Work.job, all)) c.begin.ensures.ok;
}

pub returns-in-Up : goal.returns-in-Up
returns-in-Up c = record {
  ok = on_ok_weaker c.rise_bytes.result (λ f r k.
      let s = c.args.setup.now in
      let t : WorldRun = lifts (cluster_of s) (c.in-Up.session - 1) r (driver_at r (c.in-Up.session - 1)) (lift_bytes c.in-Up.bytes) in
      let all : RunsAll s c.rise_bytes.new.self t = f r k in
      subst (Stepped s c.args.line c.rise_bytes.new.self r) (sym c.in-Up.is)
      (t, own_up s c.args.line r c.in-Up.session c.in-Up.bytes, all)) c.rise_bytes.ensures.ok;
}

pub returns-in_ok-fall-in-Down : goal.returns-in_ok-fall-in-Down
returns-in_ok-fall-in-Down c = record {
  ok = λ r k.
      let s = c.args.setup.now in
      let t : WorldRun = falls (cluster_of s) c.args.line (c.in-Down.session - 1) r (driver_at r (c.in-Down.session - 1)) (take c.in-Down.bytes) in
      let done = c.in_ok-fall-in-Down.ensures.ok r k in
      let all : RunsAll s c.fall.new.self t = done.2 in
      let steps = come_as_bytes s r (driver_at r (c.in-Down.session - 1)) c.in-Down.bytes done.0 in
      subst (Stepped s c.args.line c.fall.new.self r) (sym c.in-Down.is)
      (t, (steps, own_down s c.args.line r c.in-Down.session c.in-Down.bytes), all);
}

pub returns-in-Pump : goal.returns-in-Pump
returns-in-Pump c = record {
  ok = on_ok_weaker c.pump.result (λ f r k.
      let s = c.args.setup.now in
      let done = f r k in
      let may = subst (λ (e : Event). MayHappen s.cluster e) c.in-Pump.is c.requires.may_happen in
      subst (Stepped s c.args.line c.pump.new.self r) (sym c.in-Pump.is)
      (done.0, (may, done.1.0, done.1.1), done.2)) c.pump.ensures.ok;
}

pub returns-in-Cut : goal.returns-in-Cut
returns-in-Cut c = record {
  ok = on_ok_weaker c.cut.result (λ f r k.
      let s = c.args.setup.now in
      let t : WorldRun = cuts (cluster_of s) c.args.line (c.in-Cut.session - 1) r (driver_at r (c.in-Cut.session - 1)) in
      let all : RunsAll s c.cut.new.self t = f r k in
      subst (Stepped s c.args.line c.cut.new.self r) (sym c.in-Cut.is)
      (t, own_cut s c.args.line r c.in-Cut.session, all)) c.cut.ensures.ok;
}
