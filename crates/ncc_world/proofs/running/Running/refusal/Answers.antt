use Rattle.std.proofs.Common.{◌∙◌, ap, sym, refl, ℕ, Bool, true, false, []}
use Rattle.std.specs.Prelude.{nat_le, ◌==◌}
use Rattle.ncc_world.specs.declared.error.WorldError.TheVariants.{BackInTime, NoConn, NoMember, NoSession}
use Rattle.ncc_world.specs.Happening.{refusal}
use Rattle.ncc_world.specs.Rafts.{unless}
use Rattle.ncc_world.specs.Parts.{drivers_in, members_in, run_in}
use Rattle.ncc_world.proofs.Rooms.{eq_yes, eq_no}
use Rattle.ncc_world.proofs.Stepping.{core_refused, crash_refused, message_refused, pull_refused, has_counted, refused_apply, refusing}
use Rattle.ncc_world.proofs.running.Running.refusal.Goals as goal

pub returns-in-Time : goal.returns-in-Time
returns-in-Time c = record {
  exact = λ r k. c.unless.ensures ∙ ap (λ (n : ℕ). unless (nat_le n c.in-Time.to) BackInTime) k.runs_as.now ∙ ap (refusal c.args.setup.now r) (sym c.in-Time.is);
}

pub returns-in-Put : goal.returns-in-Put
returns-in-Put c = record {
  exact = λ r k.
      c.unless-in-Put.ensures ∙ ap (λ (b : Bool). unless b NoMember) (c.is_member.ensures.exact r k.runs_as)
      ∙ ap (refusal c.args.setup.now r) (sym c.in-Put.is);
}

pub returns-in-Get : goal.returns-in-Get
returns-in-Get c = record {
  exact = λ r k.
      c.unless-in-Get.ensures ∙ ap (λ (b : Bool). unless b NoMember) (c.is_member-in-Get.ensures.exact r k.runs_as)
      ∙ ap (refusal c.args.setup.now r) (sym c.in-Get.is);
}

pub returns-then-not-is_member : goal.returns-then-not-is_member
returns-then-not-is_member c = record {
  exact = λ r k.
      refused_apply c.args.setup.now (run_in c.args.self.now) r c.in-Apply.member c.in-Apply.count false (c.in-Apply.member == 1) k.runs_as (c.if-not-is_member.ensures.exact r k.runs_as) refl
      ∙ ap (refusal c.args.setup.now r) (sym c.in-Apply.is);
}

pub returns-then-member-eq1 : goal.returns-then-member-eq1
returns-then-member-eq1 c = record {
  exact = λ r k.
      refused_apply c.args.setup.now (run_in c.args.self.now) r c.in-Apply.member c.in-Apply.count true true k.runs_as (c.if-not-is_member.ensures.exact r k.runs_as)
      (sym (eq_yes c.in-Apply.member 1 c.if-member-eq1.true)) ∙ ap (refusal c.args.setup.now r) (sym c.in-Apply.is);
}

pub returns-else-member-eq1 : goal.returns-else-member-eq1
returns-else-member-eq1 c = record {
  exact = λ r k.
      refused_apply c.args.setup.now (run_in c.args.self.now) r c.in-Apply.member c.in-Apply.count true false k.runs_as (c.if-not-is_member.ensures.exact r k.runs_as)
      (sym (eq_no c.in-Apply.member 1 c.if-member-eq1.false)) ∙ ap (refusal c.args.setup.now r) (sym c.in-Apply.is);
}

pub returns-in-Timeout : goal.returns-in-Timeout
returns-in-Timeout c = record {
  exact = λ r k.
      core_refused c.args.setup.now (members_in c.args.self.now.members) r.members r.history c.in-Timeout.member k.runs_as.members
      ∙ ap (refusal c.args.setup.now r) (sym c.in-Timeout.is);
}

pub returns-in-Beat : goal.returns-in-Beat
returns-in-Beat c = record {
  exact = λ r k.
      core_refused c.args.setup.now (members_in c.args.self.now.members) r.members r.history c.in-Beat.member k.runs_as.members
      ∙ ap (refusal c.args.setup.now r) (sym c.in-Beat.is);
}

pub returns-in-Deliver : goal.returns-in-Deliver
returns-in-Deliver c = record {
  exact = λ r k.
      message_refused c.args.setup.now (members_in c.args.self.now.members) r.members r.history c.in-Deliver.message k.runs_as.members
      ∙ ap (refusal c.args.setup.now r) (sym c.in-Deliver.is);
}

pub returns-in-Pull : goal.returns-in-Pull
returns-in-Pull c = record {
  exact = λ r k.
      pull_refused c.args.setup.now (members_in c.args.self.now.members) r.members r.history c.in-Pull.replica c.in-Pull.core k.runs_as.members
      ∙ ap (refusal c.args.setup.now r) (sym c.in-Pull.is);
}

pub returns-in-Crash : goal.returns-in-Crash
returns-in-Crash c = record {
  exact = λ r k.
      crash_refused c.args.setup.now (members_in c.args.self.now.members) r.members r.history c.in-Crash.member k.runs_as.members
      ∙ ap (refusal c.args.setup.now r) (sym c.in-Crash.is);
}

pub returns-in-Open : goal.returns-in-Open
returns-in-Open c = record {
  exact = λ r k.
      c.unless-in-Open.ensures ∙ ap (λ (b : Bool). unless b NoMember) (c.is_member-in-Open.ensures.exact r k.runs_as)
      ∙ ap (refusal c.args.setup.now r) (sym c.in-Open.is);
}

pub returns-in-Bytes : goal.returns-in-Bytes
returns-in-Bytes c = record {
  exact = λ r k.
      c.unless-in-Bytes.ensures ∙ ap (λ (b : Bool). unless b NoConn) (c.is_open_made.ensures.exact r k)
      ∙ ap (refusal c.args.setup.now r) (sym c.in-Bytes.is);
}

pub returns-in-Close : goal.returns-in-Close
returns-in-Close c = record {
  exact = λ r k.
      c.unless-in-Close.ensures ∙ ap (λ (b : Bool). unless b NoConn) (c.is_open_made-in-Close.ensures.exact r k)
      ∙ ap (refusal c.args.setup.now r) (sym c.in-Close.is);
}

pub returns-in-Session : goal.returns-in-Session
returns-in-Session c = record { exact = λ r k. ap (refusal c.args.setup.now r) (sym c.in-Session.is) }

pub returns-in-Work : goal.returns-in-Work
returns-in-Work c = record {
  exact = λ r k.
      c.refuses_work.ensures.exact c.args.setup.now r.now r.driving k.drives ∙ refusing r c.in-Work.session
      ∙ ap (refusal c.args.setup.now r) (sym c.in-Work.is);
}

pub returns-in-Up : goal.returns-in-Up
returns-in-Up c = record {
  exact = λ r k.
      c.unless-in-Up.ensures ∙ ap (λ (b : Bool). unless b NoSession) (c.has.ensures.exact ∙ has_counted c.args.setup.now 0 [] [] (drivers_in c.args.self.now.drivers) r c.in-Up.session k.drives)
      ∙ ap (refusal c.args.setup.now r) (sym c.in-Up.is);
}

pub returns-in-Down : goal.returns-in-Down
returns-in-Down c = record {
  exact = λ r k.
      c.unless-in-Down.ensures ∙ ap (λ (b : Bool). unless b NoSession) (c.has-in-Down.ensures.exact ∙ has_counted c.args.setup.now 0 [] [] (drivers_in c.args.self.now.drivers) r c.in-Down.session k.drives)
      ∙ ap (refusal c.args.setup.now r) (sym c.in-Down.is);
}

pub returns-in-Pump : goal.returns-in-Pump
returns-in-Pump c = record {
  exact = λ r k.
      c.unless-in-Pump.ensures ∙ ap (λ (b : Bool). unless b NoSession) (c.has-in-Pump.ensures.exact ∙ has_counted c.args.setup.now 0 [] [] (drivers_in c.args.self.now.drivers) r c.in-Pump.session k.drives)
      ∙ ap (refusal c.args.setup.now r) (sym c.in-Pump.is);
}

pub returns-in-Cut : goal.returns-in-Cut
returns-in-Cut c = record {
  exact = λ r k.
      c.unless-in-Cut.ensures ∙ ap (λ (b : Bool). unless b NoSession) (c.has-in-Cut.ensures.exact ∙ has_counted c.args.setup.now 0 [] [] (drivers_in c.args.self.now.drivers) r c.in-Cut.session k.drives)
      ∙ ap (refusal c.args.setup.now r) (sym c.in-Cut.is);
}
