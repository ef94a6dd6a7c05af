use Rattle.std.proofs.Common.{◌∙◌, sym, refl, subst, length, true}
use Rattle.ncc_world.specs.Happening.{WorldRun}
use Rattle.ncc_world.specs.World.{RunsAs}
use Rattle.ncc_world.specs.Setting.{list_at, lists_of}
use Rattle.ncc_world.specs.Parts.{run_in, clients_in, members_in}
use Rattle.ncc_world.proofs.Remembering.{one_changes, closed_remembers}
use Rattle.ncc_world.proofs.Happened.{sits_at, closed_same, closed_now}
use Rattle.ncc_world.proofs.running.Running.close.Goals as goal

pub returns-then-served : goal.returns-then-served
returns-then-served c = record {
  ok = λ r k.
      let s = c.args.setup.now in
      let w = run_in c.args.self.now in
      let h = sits_at s w r c.args.index c.served.result.now k c.requires.there c.served.ensures.is in
      subst (λ (x : WorldRun). RunsAs s w x) (closed_same r c.args.index h.client h.there (sym h.is.kept.closed ∙ c.if-served.true)) k;
  drivers = refl;
}

pub returns : goal.returns
returns c = record {
  ok = λ r k.
      let s = c.args.setup.now in
      let h = sits_at s (run_in c.args.self.now) r c.args.index c.served.result.now k c.requires.there c.served.ensures.is in
      subst (λ (x : WorldRun). RunsAs s (record {
        now = c.args.self.now.clock;
        members = members_in c.args.self.now.members;
        clients = clients_in c.change.new.self;
        told = c.args.self.now.told;
        earlier = c.args.self.now.earlier.items;
      }) x)
      (closed_now r c.args.index h.client h.there (sym h.is.kept.closed ∙ c.if-served.false)) (record {
        now = k.now;
        members = k.members;
        clients = c.in_ok-change.ensures.ok s (length (lists_of r.members)) r.clients h.client k.clients h.there refl;
        told = k.told;
        earlier = one_changes s c.args.self.now.earlier.items r c.args.index h.client (record h.client { closed = true }) k.earlier h.there
            (λ o. closed_remembers s (list_at (lists_of r.members) h.client.member) h.client o);
      });
  drivers = refl;
}
