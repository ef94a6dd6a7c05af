use Rattle.std.proofs.Common.{◌≡◌, ◌∙◌, sym, refl, Some, subst, length, arith, List, ◌<◌, Option}
use Rattle.std.specs.Prelude.{slice_get, slice_set}
use Rattle.indexmap.specs.IndexMap.{values}
use Rattle.ncc_clients.specs.Members.{Proposed}
use Rattle.ncc_clients.specs.Run.{proposed, with_placing, accepted}
use Rattle.ncc_world.specs.declared.clients.Clients.{Clients}
use Rattle.ncc_world.specs.declared.earlier.Earlier.{Earlier}
use Rattle.ncc_world.specs.Setting.{Seats, lists_of, cluster_of}
use Rattle.ncc_world.specs.Earlier.{AllRemember}
use Rattle.ncc_world.specs.World.{RunsAs, AreServed}
use Rattle.ncc_world.specs.Parts.{left_in, run_in, members_in, clients_in}
use Rattle.ncc_world.proofs.Keeping.{get_there}
use Rattle.ncc_world.proofs.Turning.{counted}
use Rattle.ncc_world.proofs.Remembering.{all_accepted}
use Rattle.ncc_world.proofs.Proposing.{sits, was_elsewhere, was_full, was_placed, kept_by, accepted_as, elsewhere_fits, full_fits}
use Rattle.ncc_world.proofs.Lowering.{unplaced}
use Rattle.ncc_world.proofs.running.Running.propose.Goals as goal

pub tell-requires-clause-live : goal.tell-requires-clause-live
tell-requires-clause-live c =
    let s = c.args.setup.now in
    let k = c.requires.live.runs_as in
    let r = c.requires.live.run in
    let n = counted s (run_in c.args.self.now) r k in
    let d = get_there r.clients c.args.index (omega (arith, n.table, c.requires.there)) in
    let o = c.in_ok-offer.ensures.ok r d.0 k d.1 in
    record {
      run = r;
      runs_as = kept_by s r c.args.self.now c.offer.new.self k
          (was_elsewhere s r.members r.history _ _ c.in_ok-offer.field-0 o.proposed_so c.in-Elsewhere.is).members o.clock o.clients o.told o.earlier;
    }

pub tell-requires-clause-there : goal.tell-requires-clause-there
tell-requires-clause-there c =
    let s = c.args.setup.now in
    let k = c.requires.live.runs_as in
    let r = c.requires.live.run in
    let n = counted s (run_in c.args.self.now) r k in
    let d = get_there r.clients c.args.index (omega (arith, n.table, c.requires.there)) in
    let o = c.in_ok-offer.ensures.ok r d.0 k d.1 in
    subst (λ (x : Clients). c.args.index < length (values x.table)) (sym o.clients) c.requires.there

pub tell-requires-clause-fits : goal.tell-requires-clause-fits
tell-requires-clause-fits c = λ v e.
    let s = c.args.setup.now in
    let k = c.requires.live.runs_as in
    let r = c.requires.live.run in
    let n = counted s (run_in c.args.self.now) r k in
    let d = get_there r.clients c.args.index (omega (arith, n.table, c.requires.there)) in
    let o = c.in_ok-offer.ensures.ok r d.0 k d.1 in
    let h = sits s (run_in c.args.self.now) r c.args.index v k c.requires.there
    (subst (λ (x : Clients). slice_get (values x.table) c.args.index ≡ Some v) o.clients e) in
    let i = c.in_ok-offer.ensures.ok r h.client k h.there in
    elsewhere_fits s r v h.seen h.client i.entry h.is i.entry_is (c.requires.asks r h.client k h.there)

pub tell-requires-in-Full-clause-live : goal.tell-requires-in-Full-clause-live
tell-requires-in-Full-clause-live c =
    let s = c.args.setup.now in
    let k = c.requires.live.runs_as in
    let r = c.requires.live.run in
    let n = counted s (run_in c.args.self.now) r k in
    let d = get_there r.clients c.args.index (omega (arith, n.table, c.requires.there)) in
    let o = c.in_ok-offer.ensures.ok r d.0 k d.1 in
    record {
      run = r;
      runs_as = kept_by s r c.args.self.now c.offer.new.self k
          (was_full s r.members r.history _ _ c.in_ok-offer.field-0 c.in-Full.entries o.proposed_so c.in-Full.is).members o.clock o.clients o.told o.earlier;
    }

pub tell-requires-in-Full-clause-there : goal.tell-requires-in-Full-clause-there
tell-requires-in-Full-clause-there c =
    let s = c.args.setup.now in
    let k = c.requires.live.runs_as in
    let r = c.requires.live.run in
    let n = counted s (run_in c.args.self.now) r k in
    let d = get_there r.clients c.args.index (omega (arith, n.table, c.requires.there)) in
    let o = c.in_ok-offer.ensures.ok r d.0 k d.1 in
    subst (λ (x : Clients). c.args.index < length (values x.table)) (sym o.clients) c.requires.there

pub tell-requires-in-Full-clause-fits : goal.tell-requires-in-Full-clause-fits
tell-requires-in-Full-clause-fits c = λ v e.
    let s = c.args.setup.now in
    let k = c.requires.live.runs_as in
    let r = c.requires.live.run in
    let n = counted s (run_in c.args.self.now) r k in
    let d = get_there r.clients c.args.index (omega (arith, n.table, c.requires.there)) in
    let o = c.in_ok-offer.ensures.ok r d.0 k d.1 in
    let h = sits s (run_in c.args.self.now) r c.args.index v k c.requires.there
    (subst (λ (x : Clients). slice_get (values x.table) c.args.index ≡ Some v) o.clients e) in
    let i = c.in_ok-offer.ensures.ok r h.client k h.there in
    full_fits s r v h.seen h.client i.entry c.in-Full.entries h.is i.entry_is (c.requires.asks r h.client k h.there)

pub returns-in_ok-tell-in-Elsewhere : goal.returns-in_ok-tell-in-Elsewhere
returns-in_ok-tell-in-Elsewhere c = record {
  ok = λ r d k there.
      let s = c.args.setup.now in
      let o = c.in_ok-offer.ensures.ok r d k there in
      let q = was_elsewhere s r.members r.history _ _ c.in_ok-offer.field-0 o.proposed_so c.in-Elsewhere.is in
      let mid = kept_by s r c.args.self.now c.offer.new.self k q.members o.clock o.clients o.told o.earlier in (
        proposed (cluster_of s) c.args.line r c.args.index d ((cluster_of s).propose r.members d.member o.entry),
        (o.entry, o.entry_is, refl),
        subst (λ (x : Proposed Seats). RunsAs s (run_in c.tell.new.self) (proposed (cluster_of s) c.args.line r c.args.index d x)) (sym q.becomes)
            (c.in_ok-tell-in-Elsewhere.ensures.ok r d mid there),
      );
  lowers =
      let r = c.requires.live.run in
      let k = c.requires.live.runs_as in
      let n = counted c.args.setup.now (run_in c.args.self.now) r k in
      let d = get_there r.clients c.args.index (omega (arith, n.table, c.requires.there)) in
      let o = c.in_ok-offer.ensures.ok r d.0 k d.1 in
      subst (λ (x : Clients). left_in c.tell.new.self.clients < left_in x) o.clients c.in_ok-tell-in-Elsewhere.ensures.lowers;
  drivers = c.in_ok-tell-in-Elsewhere.ensures.drivers ∙ c.in_ok-offer.ensures.drivers;
}

pub returns-in_ok-tell-in-Full : goal.returns-in_ok-tell-in-Full
returns-in_ok-tell-in-Full c = record {
  ok = λ r d k there.
      let s = c.args.setup.now in
      let o = c.in_ok-offer.ensures.ok r d k there in
      let q = was_full s r.members r.history _ _ c.in_ok-offer.field-0 c.in-Full.entries o.proposed_so c.in-Full.is in
      let mid = kept_by s r c.args.self.now c.offer.new.self k q.members o.clock o.clients o.told o.earlier in (
        proposed (cluster_of s) c.args.line r c.args.index d ((cluster_of s).propose r.members d.member o.entry),
        (o.entry, o.entry_is, refl),
        subst (λ (x : Proposed Seats). RunsAs s (run_in c.tell-in-Full.new.self) (proposed (cluster_of s) c.args.line r c.args.index d x)) (sym q.becomes)
            (c.in_ok-tell-in-Full.ensures.ok r d mid there),
      );
  lowers =
      let r = c.requires.live.run in
      let k = c.requires.live.runs_as in
      let n = counted c.args.setup.now (run_in c.args.self.now) r k in
      let d = get_there r.clients c.args.index (omega (arith, n.table, c.requires.there)) in
      let o = c.in_ok-offer.ensures.ok r d.0 k d.1 in
      subst (λ (x : Clients). left_in c.tell-in-Full.new.self.clients < left_in x) o.clients c.in_ok-tell-in-Full.ensures.lowers;
  drivers = c.in_ok-tell-in-Full.ensures.drivers ∙ c.in_ok-offer.ensures.drivers;
}

pub tell-requires-clause-left : goal.tell-requires-clause-left
tell-requires-clause-left c = λ r d k there q asks. tt

pub tell-requires-in-Full-clause-left : goal.tell-requires-in-Full-clause-left
tell-requires-in-Full-clause-left c = λ r d k there q asks. tt

pub change-requires-clause-there : goal.change-requires-clause-there
change-requires-clause-there c =
    let s = c.args.setup.now in
    let k = c.requires.live.runs_as in
    let r = c.requires.live.run in
    let n = counted s (run_in c.args.self.now) r k in
    let d = get_there r.clients c.args.index (omega (arith, n.table, c.requires.there)) in
    let o = c.in_ok-offer.ensures.ok r d.0 k d.1 in
    subst (λ (x : Clients). c.args.index < length (values x.table)) (sym o.clients) c.requires.there

pub change-requires-clause-served : goal.change-requires-clause-served
change-requires-clause-served c =
    let s = c.args.setup.now in
    let k = c.requires.live.runs_as in
    let r = c.requires.live.run in
    let n = counted s (run_in c.args.self.now) r k in
    let d = get_there r.clients c.args.index (omega (arith, n.table, c.requires.there)) in
    let o = c.in_ok-offer.ensures.ok r d.0 k d.1 in
    record {
      setup = s;
      count = length (lists_of r.members);
      clients = r.clients;
      are = subst (λ (x : Clients). AreServed s (length (lists_of r.members)) (clients_in x) r.clients) (sym o.clients) k.clients;
    }

pub change-requires-clause-may : goal.change-requires-clause-may
change-requires-clause-may c = λ v e.
    let s = c.args.setup.now in
    let k = c.requires.live.runs_as in
    let r = c.requires.live.run in
    let n = counted s (run_in c.args.self.now) r k in
    let d = get_there r.clients c.args.index (omega (arith, n.table, c.requires.there)) in
    let o = c.in_ok-offer.ensures.ok r d.0 k d.1 in
    (was_placed s r.members r.history _ _ c.in_ok-offer.field-0 c.in-Placed.place o.proposed_so c.in-Placed.is).some

pub returns-in_ok-change-in-Placed : goal.returns-in_ok-change-in-Placed
returns-in_ok-change-in-Placed c = record {
  ok = λ r d k there.
      let s = c.args.setup.now in
      let i = c.args.index in
      let p = c.in-Placed.place in
      let o = c.in_ok-offer.ensures.ok r d k there in
      let q = was_placed s r.members r.history _ _ c.in_ok-offer.field-0 p o.proposed_so c.in-Placed.is in
      let old = subst (λ (x : Clients). AreServed s (length (lists_of r.members)) (clients_in x) r.clients) (sym o.clients) k.clients in
      let one = c.in_ok-change-in-Placed.ensures.ok s (length (lists_of r.members)) r.clients d old there refl in
      let two = subst (λ n. AreServed s (length (lists_of r.members)) (clients_in c.change.new.self) (slice_set r.clients i (with_placing n d p.place p.term)))
      (o.clock ∙ k.now) one in
      let three = subst (λ n. AreServed s n (clients_in c.change.new.self) (slice_set r.clients i (with_placing r.now d p.place p.term)))
      (sym q.become.count) two in
      let all = accepted_as s r i d p.place p.term q.after c.offer.new.self.clock (members_in c.offer.new.self.members)
      (clients_in c.change.new.self) c.offer.new.self.told c.offer.new.self.earlier.items (o.clock ∙ k.now)
      q.become.are three (o.told ∙ k.told)
      (subst (λ (es : List (Option Earlier)). AllRemember s es (accepted (cluster_of s) r i d p.place p.term q.after)) (sym o.earlier)
      (all_accepted s c.args.self.now.earlier.items r i d p.place p.term q.after k.earlier there q.become.grow)) in (
        proposed (cluster_of s) c.args.line r i d ((cluster_of s).propose r.members d.member o.entry),
        (o.entry, o.entry_is, refl),
        subst (λ (x : Proposed Seats). RunsAs s (record {
          now = c.offer.new.self.clock;
          members = members_in c.offer.new.self.members;
          clients = clients_in c.change.new.self;
          told = c.offer.new.self.told;
          earlier = c.offer.new.self.earlier.items;
        }) (proposed (cluster_of s) c.args.line r i d x)) (sym q.becomes) all,
      );
  lowers =
      let s = c.args.setup.now in
      let r = c.requires.live.run in
      let k = c.requires.live.runs_as in
      let v = get_there (values c.args.self.now.clients.table) c.args.index c.requires.there in
      let h = sits s (run_in c.args.self.now) r c.args.index v.0 k c.requires.there v.1 in
      let o = c.in_ok-offer.ensures.ok r h.client k h.there in
      let none = unplaced s r v.0 h.seen h.client o.entry h.is o.entry_is (c.requires.asks r h.client k h.there) in
      let there = subst (λ (x : Clients). slice_get (values x.table) c.args.index ≡ Some v.0) (sym o.clients) v.1 in
      subst (λ (x : Clients). left_in c.change.new.self < left_in x) o.clients (c.in_ok-change-in-Placed.ensures.lowers v.0 there none);
  drivers = c.in_ok-offer.ensures.drivers;
}
