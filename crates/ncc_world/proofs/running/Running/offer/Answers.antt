use Rattle.std.proofs.Common.{◌∙◌, ap, sym, arith, refl, Some, map}
use Rattle.ncc_session.specs.declared.ask.Ask.{Ask}
use Rattle.ncc_session.specs.Core.{question_of as asks_of}
use Rattle.ncc_store.specs.Exec.{call_of}
use Rattle.std.proofs.Common.{subst}
use Rattle.ncc_world.specs.Parts.{run_in, IsProposed, members_in}
use Rattle.ncc_world.specs.Setting.{cluster_of}
use Rattle.ncc_world.proofs.Keeping.{asked_is}
use Rattle.ncc_world.proofs.Turning.{counted, here, client_is, reply_none, reply_some, no_enter, no_run, no_route, no_wait}
use Rattle.ncc_world.proofs.Spelling.{may_propose}
use Rattle.ncc_world.proofs.running.Running.offer.Goals as goal

pub shown-requires : goal.shown-requires
shown-requires c =
    let n = counted c.args.setup.now (run_in c.args.self.now) c.requires.live.run c.requires.live.runs_as in
    record { there = omega (arith, n.table, n.seen, c.requires.there) }

pub propose-requires-clause-allowed : goal.propose-requires-clause-allowed
propose-requires-clause-allowed c =
    let s = c.args.setup.now in
    let k = c.requires.live.runs_as in
    let r = c.requires.live.run in
    let v = c.served.result.now in
    let seen = c.shown.result.now in
    let h = here s (run_in c.args.self.now) r c.args.index v seen k c.requires.there c.served.ensures.is c.shown.ensures.shown in
    let asked = sym (asked_is s v seen h.client h.is.kept) ∙ c.in-Some.ensures.some ∙ ap (λ (q : Ask). Some (asks_of q)) c.in-Leave.is in
    may_propose s r v seen h.client c.in-Leave.entry h.is asked (c.requires.asks r h.client k h.there)

pub returns-in-Enter : goal.returns-in-Enter
returns-in-Enter c = record {
  ok = λ r d k there.
      let s = c.args.setup.now in
      let v = c.served.result.now in
      let seen = c.shown.result.now in
      let client = client_is s (run_in c.args.self.now) r c.args.index v seen d k there c.served.ensures.is c.shown.ensures.shown in
      let asked = sym (asked_is s v seen d client.kept) ∙ c.in-Some.ensures.some ∙ ap (λ (q : Ask). Some (asks_of q)) c.in-Enter.is in
      absurd (no_enter s r d c.in-Enter.need (reply_some s r d _ asked ∙ c.requires.asks r d k there));
  drivers = refl;
}

pub returns-in-Run : goal.returns-in-Run
returns-in-Run c = record {
  ok = λ r d k there.
      let s = c.args.setup.now in
      let v = c.served.result.now in
      let seen = c.shown.result.now in
      let client = client_is s (run_in c.args.self.now) r c.args.index v seen d k there c.served.ensures.is c.shown.ensures.shown in
      let asked = sym (asked_is s v seen d client.kept) ∙ c.in-Some.ensures.some ∙ ap (λ (q : Ask). Some (asks_of q)) c.in-Run.is in
      absurd (no_run s r d (map call_of c.in-Run.steps) (reply_some s r d _ asked ∙ c.requires.asks r d k there));
  drivers = refl;
}

pub returns-in-Route : goal.returns-in-Route
returns-in-Route c = record {
  ok = λ r d k there.
      let s = c.args.setup.now in
      let v = c.served.result.now in
      let seen = c.shown.result.now in
      let client = client_is s (run_in c.args.self.now) r c.args.index v seen d k there c.served.ensures.is c.shown.ensures.shown in
      let asked = sym (asked_is s v seen d client.kept) ∙ c.in-Some.ensures.some ∙ ap (λ (q : Ask). Some (asks_of q)) c.in-Route.is in
      absurd (no_route s r d (reply_some s r d _ asked ∙ c.requires.asks r d k there));
  drivers = refl;
}

pub returns-in_default : goal.returns-in_default
returns-in_default c = record {
  ok = λ r d k there.
      let s = c.args.setup.now in
      let v = c.served.result.now in
      let seen = c.shown.result.now in
      let client = client_is s (run_in c.args.self.now) r c.args.index v seen d k there c.served.ensures.is c.shown.ensures.shown in
      let asked = sym (asked_is s v seen d client.kept) ∙ c.in_default.ensures.none in
      absurd (no_wait (reply_none s r d asked ∙ c.requires.asks r d k there));
  drivers = refl;
}

pub returns-in_ok-proposal-in-Leave : goal.returns-in_ok-proposal-in-Leave
returns-in_ok-proposal-in-Leave c = record {
  ok = λ r d k there.
      let s = c.args.setup.now in
      let v = c.served.result.now in
      let seen = c.shown.result.now in
      let client = client_is s (run_in c.args.self.now) r c.args.index v seen d k there c.served.ensures.is c.shown.ensures.shown in
      record {
        entry = c.in-Leave.entry;
        entry_is = sym (asked_is s v seen d client.kept) ∙ c.in-Some.ensures.some ∙ ap (λ (q : Ask). Some (asks_of q)) c.in-Leave.is;
        proposed_so = subst (λ m. IsProposed s r.members r.history ((cluster_of s).propose r.members m c.in-Leave.entry) c.in_ok-proposal-in-Leave.proposal
            (members_in c.propose.new.self)) client.kept.member (c.in_ok-proposal-in-Leave.ensures.ok r.members r.history k.members);
        clock = refl;
        clients = refl;
        told = refl;
        earlier = refl;
      };
  drivers = refl;
}
