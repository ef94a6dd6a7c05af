use Rattle.std.proofs.Common.{◌≡◌, ◌∙◌, ap, sym, length, arith, refl, List, ◌∷◌, [], ◌++◌, Some}
use Rattle.std.proofs.Common.{subst, IsTrue}
use Rattle.std.specs.Prelude.{slice_set}
use Rattle.indexmap.specs.IndexMap.{values}
use Rattle.ncc_session.specs.declared.ask.Fact.{Fact}
use Rattle.ncc_session.specs.Talk.{asked}
use Rattle.ncc_clients.specs.declared.told.Told.{Told}
use Rattle.ncc_clients.specs.Run.{Client, with_fact}
use Rattle.ncc_world.specs.Setting.{lists_of}
use Rattle.ncc_world.specs.Spellable.{rows_fit}
use Rattle.ncc_world.specs.World.{AreServed, IsClient}
use Rattle.ncc_world.specs.Parts.{run_in, clients_in}
use Rattle.ncc_world.proofs.Keeping.{get_there}
use Rattle.ncc_world.proofs.Turning.{counted, seen_at}
use Rattle.ncc_world.proofs.Proposing.{sits}
use Rattle.ncc_world.proofs.Remembering.{all_told}
use Rattle.ncc_world.proofs.Spelling.{told_rows}
use Rattle.ncc_world.proofs.running.Running.tell.Goals as goal

pub shown-requires : goal.shown-requires
shown-requires c =
    let n = counted c.args.setup.now (run_in c.args.self.now) c.requires.live.run c.requires.live.runs_as in
    record { there = omega (arith, n.table, n.seen, c.requires.there) }

pub push-requires : goal.push-requires
push-requires c =
    let v = get_there (values c.args.self.now.clients.table) c.args.index c.requires.there in
    record {
      fits = subst (λ (x : Fact). IsTrue (rows_fit x)) (sym c.in_ok-copy.ensures.equal) (told_rows (asked v.0.conn) c.args.fact (c.requires.fits v.0 v.1));
    }

pub returns : goal.returns
returns c = record {
  ok = λ r d k there.
      let s = c.args.setup.now in
      let number = seen_at s (run_in c.args.self.now) r c.args.index c.shown.result.now d k there c.shown.ensures.shown in
      record {
        now = k.now;
        members = k.members;
        clients = subst (λ n. AreServed s (length (lists_of r.members)) (clients_in c.change.new.self)
            (slice_set r.clients c.args.index (with_fact n d c.args.fact))) k.now
            (c.in_ok-change.ensures.ok s (length (lists_of r.members)) r.clients d k.clients there refl);
        told = c.in_ok-push.ensures.ok
            ∙ ap (λ (x : Fact). c.args.self.now.told ++ (record { line = c.args.line; conn = c.shown.result.now.conn; fact = x } ∷ []))
            c.in_ok-copy.ensures.equal
            ∙ ap (λ n. c.args.self.now.told ++ (record { line = c.args.line; conn = n; fact = c.args.fact } ∷ [])) number
            ∙ ap (λ (l : List Told). l ++ (record { line = c.args.line; conn = d.number; fact = c.args.fact } ∷ [])) k.told;
        earlier =
            let table = values c.args.self.now.clients.table in
            let served = get_there table c.args.index c.requires.there in
            let v = sits s (run_in c.args.self.now) r c.args.index served.0 k c.requires.there served.1 in
            all_told s c.args.self.now.earlier.items c.args.line r c.args.index d served.0 v.seen c.args.fact c.args.earlier k.earlier
            (omega (arith, k.earlier.count, (counted s (run_in c.args.self.now) r k).table, c.requires.there)) there
            (subst (λ (x : Client). IsClient s served.0 v.seen x) (let same : Some v.client ≡ Some d = sym v.there ∙ there in cc) v.is)
            (c.requires.fits served.0 served.1) (c.requires.left r d k there);
      };
  lowers =
      let v = get_there (values c.args.self.now.clients.table) c.args.index c.requires.there in c.in_ok-change.ensures.lowers v.0 v.1;
  drivers = refl;
}
