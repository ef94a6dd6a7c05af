use Rattle.std.proofs.Common.{◌∙◌, sym, arith, refl, ap, Some, Option}
use Rattle.std.proofs.Common.{subst}
use Rattle.std.proofs.lemmas.Result.{IfOk-weaker}
use Rattle.ncc_world.proofs.Seated.{shelves_count}
use Rattle.ncc_session.specs.Core.{question_of as asks_of}
use Rattle.ncc_session.specs.Question.{Question}
use Rattle.ncc_world.specs.declared.earlier.Earlier.{Earlier}
use Rattle.ncc_world.specs.Earlier.{IsFrom}
use Rattle.ncc_world.specs.Setting.{lists_of, list_at}
use Rattle.ncc_world.specs.Parts.{run_in, members_in, LeftIn}
use Rattle.ncc_world.proofs.Keeping.{asked_is}
use Rattle.ncc_world.proofs.Remembering.{asks_as_served, from_kept, left_at}
use Rattle.ncc_world.proofs.Turning.{counted, here, client_is, reply_none, reply_some, asked_so}
use Rattle.ncc_world.proofs.running.Running.reply_at.Goals as goal

pub shown-requires : goal.shown-requires
shown-requires c =
    let n = counted c.args.setup.now (run_in c.args.self.now) c.requires.kept.0 c.requires.kept.1 in
    record { there = omega (arith, n.table, n.seen, c.requires.there) }

pub answered-requires : goal.answered-requires
answered-requires c =
    let r = c.requires.kept.0 in
    let k = c.requires.kept.1 in
    let h = here c.args.setup.now (run_in c.args.self.now) r c.args.index c.served-served.result.now c.shown.result.now k c.requires.there
    c.served-served.ensures.is c.shown.ensures.shown in
    let n = shelves_count c.args.setup.now (members_in c.args.self.now.members) r.members r.history k.members in
    let o : Option Earlier = c.args.earlier in
    record {
      from = (
        r.members,
        r.history,
        k.members,
        λ calls e.
            subst (λ m. IsFrom (list_at (lists_of r.members) m) calls o) (sym h.is.kept.member)
            (from_kept c.args.setup.now (list_at (lists_of r.members) h.client.member) h.client o calls
            (c.requires.kept.2 h.client h.there)
            (asks_as_served c.args.setup.now c.served-served.result.now c.shown.result.now h.client (asks_of c.in-Some.ask.now) h.is
            c.in-Some.ensures.some ∙ ap (λ (q : Question). Some q) e)),
      );
      there = (omega (arith, h.placed.low, h.is.kept.member), omega (arith, h.placed.high, h.is.kept.member, n));
    }

pub returns-in-None : goal.returns-in-None
returns-in-None c = record {
  left = λ r d k there. tt;
  exact = λ r d k there.
      let client = client_is c.args.setup.now (run_in c.args.self.now) r c.args.index c.served-served.result.now c.shown.result.now d k there
      c.served-served.ensures.is c.shown.ensures.shown in
      reply_none c.args.setup.now r d (sym (asked_is c.args.setup.now c.served-served.result.now c.shown.result.now d client.kept) ∙ c.in-None.ensures.none);
}

pub returns-in-Some : goal.returns-in-Some
returns-in-Some c = record {
  left = IfOk-weaker c.answered.result _ _ (λ a f r d k there.
      let s = c.args.setup.now in
      let client = client_is s (run_in c.args.self.now) r c.args.index c.served-served.result.now c.shown.result.now d k there
      c.served-served.ensures.is c.shown.ensures.shown in
      left_at s r d a (asks_of c.in-Some.ask.now)
      (asks_as_served s c.served-served.result.now c.shown.result.now d (asks_of c.in-Some.ask.now) client c.in-Some.ensures.some)
      (subst (λ m. LeftIn (list_at (lists_of r.members) m) (asks_of c.in-Some.ask.now) a) client.kept.member (f r.members r.history k.members))) c.answered.ensures.left;
  exact = IfOk-weaker c.answered.result _ _ (λ a f r d k there.
      let client = client_is c.args.setup.now (run_in c.args.self.now) r c.args.index c.served-served.result.now c.shown.result.now d k there
      c.served-served.ensures.is c.shown.ensures.shown in
      f r d k.members (asked_so c.args.setup.now c.args.self.now.clock c.args.setup.now.wait r c.served-served.result.now c.shown.result.now d _
      client k.now refl c.saturating_add.ensures)
      ∙ reply_some c.args.setup.now r d (asks_of c.in-Some.ask.now)
      (sym (asked_is c.args.setup.now c.served-served.result.now c.shown.result.now d client.kept) ∙ c.in-Some.ensures.some)) c.answered.ensures.exact;
}
