-- What every moment of a run keeps of each connection: the invariant behind the promise.
use Rattle.std.proofs.Common.{◌≡◌, ℕ, ◌≤◌, false, List, length, Option, None, Some, sym, ◌∙◌, arith}
use Rattle.std.specs.Prelude.{slice_get}
use Rattle.std.specs.List.{AllByRecursion}
use Rattle.ncc_session.specs.Question.{Question}
use Rattle.ncc_clients.specs.declared.told.Told.{Told as Saying}
use Rattle.ncc_clients.specs.Members.{Cluster, applied, at_of}
use Rattle.ncc_clients.specs.Run.{Run, Client, Placing, begun, talk_of, has_ended, accepted}
use Rattle.ncc_clients.specs.Moment.{Lives, Small, Path}
use Rattle.ncc_clients.specs.Four.{Four}
use Rattle.ncc_clients.specs.Lawful.{place_of, NoneBeyond, IsProposal}
use Rattle.ncc_clients.specs.Laws.{facts_to, IsServed}
use Rattle.ncc_clients.proofs.Lists.{all_weaker, starts_length}
use Rattle.ncc_clients.proofs.Paths.{path_more}
use Rattle.ncc_clients.proofs.Asked.{Asks, Reached}

-- its entry waits at this place, since it was accepted
pub record Waiting {S : Type 0} (C : Cluster S) (start : S) (r : Run S) (i : ℕ) (c : Client) (p : Placing) : Type 0 where
  pub proposal : IsProposal C r i c p.place p.term
  pub from : Path C (begun start) proposal.then_

abbrev pub Waits : {S : Type 0} → Cluster S → S → Run S → ℕ → Client → Option Placing → Type 0
Waits C start r i c None = Unit {0}
Waits C start r i c (Some p) = Waiting C start r i c p

-- of a connection that has not ended
pub record Live {S : Type 0} (C : Cluster S) (start : S) (r : Run S) (i : ℕ) (c : Client) (answered : List Question) : Type 0 where
  pub below : NoneBeyond (at_of C r.members c.member) c.facts
  pub reached : Reached answered c.facts (at_of C r.members c.member)
  pub waits : Waits C start r i c c.placing

pub record Sound {S : Type 0} (C : Cluster S) (start : S) (r : Run S) (i : ℕ) (c : Client) : Type 0 where
  pub served : IsServed C r i c
  pub asks : Asks (talk_of C c) c.facts
  pub live : has_ended C c ≡ false → Live C start r i c asks.answered

-- of all connections; and who was told has connected
pub record AllSound {S : Type 0} (C : Cluster S) (start : S) (r : Run S) : Type 0 where
  pub each : (i : ℕ) (c : Client) → slice_get r.clients i ≡ Some c → Sound C start r i c
  pub known : AllByRecursion (λ (t : Saying). t.conn ≤ length r.clients) r.told

module _ {S : Type 0} (C : Cluster S) (start : S) (r s : Run S) (h : Small C r s) where
  -- a proposal stays one while small things happen
  pub proposal_more : (i : ℕ) (c : Client) (place term : ℕ) → IsProposal C r i c place term → IsProposal C s i c place term
  proposal_more i c place term k = record {
    then_ = k.then_;
    it = k.it;
    entry = k.entry;
    after = k.after;
    same_conn = k.same_conn;
    same_facts = k.same_facts;
    same_question = k.same_question;
    asks = k.asks;
    accepts = k.accepts;
    led = k.led;
    since = path_more C (accepted C k.then_ i k.it place term k.after) r s k.since h;
  }

  pub waits_more : (i : ℕ) (c : Client) (o : Option Placing) → Waits C start r i c o → Waits C start s i c o
  unfolding proposal_more
  waits_more i c None k = tt
  waits_more i c (Some p) k = record { proposal = proposal_more i c p.place p.term k.proposal; from = k.from }

  pub live_more : (i : ℕ) (c : Client) (answered : List Question) → at_of C r.members c.member ≤ at_of C s.members c.member
      → Live C start r i c answered → Live C start s i c answered
  live_more i c answered less k = record {
    below = all_weaker (λ fact. place_of fact ≤ at_of C r.members c.member) (λ fact. place_of fact ≤ at_of C s.members c.member)
        (λ fact g. omega (arith, g, less)) c.facts k.below;
    reached = λ held e. omega (arith, k.reached held e, less);
    waits = waits_more i c c.placing k.waits;
  }

  module _ (four : Four C start) (from : Path C (begun start) r) where
    -- the member of a connection that has not ended has applied no less
    pub further : (i : ℕ) (c : Client) → Lives C r i c → at_of C r.members c.member ≤ at_of C s.members c.member
    further i c is = starts_length (applied C r.members c.member) (applied C s.members c.member) (four.stays r s i c from is h)

    -- a connection to which nothing happens
    pub stays_sound : (i : ℕ) (c : Client) → slice_get r.clients i ≡ Some c → facts_to c.number s.told ≡ facts_to c.number r.told
        → Sound C start r i c → Sound C start s i c
    stays_sound i c there told k = record {
      served = record { number = k.served.number; facts = k.served.facts ∙ sym told; taken = k.served.taken };
      asks = k.asks;
      live = λ alive. live_more i c k.asks.answered (further i c (record { there = there; live = alive })) (k.live alive);
    }
