use Rattle.std.proofs.Common.{◌∙◌, ap, sym, refl, subst, length}
use Rattle.std.specs.Prelude.{slice_set}
use Rattle.ncc_world.specs.Happening.{WorldRun}
use Rattle.ncc_world.specs.World.{RunsAs, AreServed}
use Rattle.ncc_world.specs.Setting.{cluster_of, list_at, lists_of}
use Rattle.ncc_session.specs.Session.{Standing}
use Rattle.ncc_world.specs.Parts.{run_in, clients_in, members_in}
use Rattle.ncc_clients.specs.Run.{with_bytes}
use Rattle.ncc_world.proofs.Remembering.{one_changes, fed_remembers}
use Rattle.ncc_world.proofs.Happened.{sits_at, fed_none, fed_now}
use Rattle.ncc_world.proofs.running.Running.feed.Goals as goal

pub returns-then-served : goal.returns-then-served
returns-then-served c = record {
  ok = λ r k.
      let s = c.args.setup.now in
      let w = run_in c.args.self.now in
      let h = sits_at s w r c.args.index c.served.result.now k c.requires.there c.served.ensures.is in
      subst (λ (x : WorldRun). RunsAs s w x) (fed_none s r c.args.index c.args.piece h.client h.there (sym h.is.kept.closed ∙ c.if-served.true)) k;
  drivers = refl;
}

pub returns : goal.returns
returns c = record {
  ok = λ r k.
      let s = c.args.setup.now in
      let h = sits_at s (run_in c.args.self.now) r c.args.index c.served.result.now k c.requires.there c.served.ensures.is in
      subst (λ (x : WorldRun). RunsAs s (record {
        now = c.args.self.now.clock;
        members = members_in c.args.self.now.members;
        clients = clients_in c.change.new.self;
        told = c.args.self.now.told;
        earlier = c.args.self.now.earlier.items;
      }) x)
      (fed_now s r c.args.index c.args.piece h.client h.there (sym h.is.kept.closed ∙ c.if-served.false)) (record {
        now = k.now;
        members = k.members;
        clients = subst (λ n. AreServed s (length (lists_of r.members)) (clients_in c.change.new.self)
            (slice_set r.clients c.args.index (with_bytes (cluster_of s) n h.client c.args.piece))) k.now
            (c.in_ok-change.ensures.ok s (length (lists_of r.members)) r.clients h.client k.clients h.there refl);
        told = k.told;
        earlier = one_changes s c.args.self.now.earlier.items r c.args.index h.client
            (with_bytes (cluster_of s) r.now h.client c.args.piece) k.earlier h.there
            (λ o. fed_remembers s (list_at (lists_of r.members) h.client.member) r.now h.client c.args.piece o
            (ap (λ (t : Standing). t.facts) h.is.kept.talk.went));
      });
  drivers = refl;
}
