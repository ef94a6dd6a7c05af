-- A session that takes the requests of a client, one after another: what each of them keeps, its questions keep.
use Rattle.std.proofs.Common.{◌≡◌, ◌⊎◌, inl, inr, ℕ, Bool, true, false, List, [], ◌∷◌, ◌++◌, map, refl, sym, ap, subst, ◌∙◌}
use Rattle.std.proofs.Common.{append-nil}
use Rattle.std.specs.Prelude.{None, Ok}
use Rattle.std.specs.List.{AllByRecursion}
use Rattle.ncc_stream.specs.Stream.{going}
use Rattle.ncc_bolt.specs.Reading.{request_at}
use Rattle.ncc_bolt.specs.Writing.{short_request}
use Rattle.ncc_bolt.specs.declared.message.Request.{Request}
use Rattle.ncc_bolt.proofs.Joined.{request_again, request_short}
use Rattle.ncc_session.specs.declared.config.ConnConfig.{ConnConfig}
use Rattle.ncc_session.specs.declared.state.ConnState.{ConnState}
use Rattle.ncc_session.specs.declared.state.ConnState.TheVariants.{Connected}
use Rattle.ncc_session.specs.declared.ask.Fact.{Fact}
use Rattle.ncc_session.specs.Question.{Question, Output, wrote}
use Rattle.ncc_session.specs.Core.{Next, Doing, idle, asks, Situation}
use Rattle.ncc_session.specs.Table.{turn_of}
use Rattle.ncc_session.specs.Turns.{Turned, freed, goes, answered, heard}
use Rattle.ncc_session.specs.Session.{Input, too_long, end_of, Standing, counted, on_message, on_live, move, start, session, is_ended}
use Rattle.ncc_session.specs.Session.{question_in}
use Rattle.ncc_clients.specs.Transacting.{CanBeSent, Sent}
use Rattle.ncc_clients.proofs.Streams.{arrives, Arrived, inputs_sent}
use Rattle.ncc_clients.proofs.Moving.{Moved, drops, takes, hearkens, moved, all_keep, connected, chosen, starts, rests_at_start}

message_is : (config : ConnConfig) (p : Situation) (q : Request) → request_at (short_request q) ≡ Ok q
    → answered config (counted p) (turn_of p.state q) ≡ on_message config p (short_request q)
message_is config p q e = rw (e, on_message) refl

front_can : (front others : List Request) → AllByRecursion CanBeSent (front ++ others) → AllByRecursion CanBeSent front
front_can [] others h = tt
front_can (q ∷ qs) others h = (h.0, front_can qs others h.1)

-- Stage says where a client's session stands, what it does, which requests are still to come, and what was summed up so far of all that
-- was put out.
module _ (config : ConnConfig) {X : Type 0} (sum : List Output → List X) (Stage : ConnState → Doing → List Request → List X → Type 0) where
  -- where a turn leads to a stage
  pub record After (turn : Turned) (requests : List Request) (before : List X) : Type 0 where
    pub now : List X
    pub is : before ++ sum turn.written ≡ now
    pub stage : Stage turn.place.state turn.place.doing requests now

  -- what a client's session owes, request by request and fact by fact
  pub record Walk : Type 0 where
    pub join : (a b : List Output) → sum (a ++ b) ≡ sum a ++ sum b
    pub nothing : sum [] ≡ []
    pub on_request : (p : Situation) (q : Request) (qs : List Request) (xs : List X) → is_ended p.state ≡ false → question_in p.doing ≡ None
        → request_at (short_request q) ≡ Ok q → Stage p.state p.doing (q ∷ qs) xs
        → After (answered config (counted p) (turn_of p.state q)) qs xs
    pub on_fact : (p : Situation) (q : Question) (n : Next) (fact : Fact) (qs : List Request) (xs : List X) → is_ended p.state ≡ false
        → Stage p.state (asks q n) qs xs → After (heard config (freed p) q n fact) qs xs
    pub on_long : (p : Situation) (qs : List Request) (xs : List X) → Stage p.state p.doing qs xs → After (on_live config p too_long) qs xs
    pub on_end : (s : ConnState) (d : Doing) (q : Request) (qs : List Request) (xs : List X) → is_ended s ≡ true → Stage s d (q ∷ qs) xs
        → Stage s d qs xs

  module _ (walk : Walk) where
    record Kept (p : Situation) (is : List Input) (fs : List Fact) (w : List Output) : Type 0 where
      front : List Request
      others : List Request
      long : Bool
      are : is ≡ map arrives front ++ end_of long
      can : AllByRecursion CanBeSent front
      stage : Stage p.state p.doing (front ++ others) (sum w)

    -- one request has come in
    record Comes (p : Situation) (i : Input) (is : List Input) (w : List Output) : Type 0 where
      first : Request
      front : List Request
      others : List Request
      long : Bool
      is_first : i ≡ arrives first
      are : is ≡ map arrives front ++ end_of long
      reads : request_at (short_request first) ≡ Ok first
      can : AllByRecursion CanBeSent front
      stage : Stage p.state p.doing (first ∷ (front ++ others)) (sum w)

    -- a message that is too long has come in, and nothing behind it
    record Stops (p : Situation) (i : Input) (is : List Input) (w : List Output) : Type 0 where
      others : List Request
      is_long : i ≡ too_long
      none : is ≡ []
      stage : Stage p.state p.doing others (sum w)

    last_long : (p : Situation) (i : Input) (is : List Input) (w : List Output) (others : List Request) (b : Bool) → i ∷ is ≡ end_of b
        → Stage p.state p.doing others (sum w) → Stops p i is w
    last_long p i is w others true e h = record { others = others; is_long = cc; none = cc; stage = h }
    last_long p i is w others false e h = absurd (cc)

    comes : (p : Situation) (i : Input) (is : List Input) (w : List Output) (front others : List Request) (long : Bool)
        → i ∷ is ≡ map arrives front ++ end_of long → AllByRecursion CanBeSent front → Stage p.state p.doing (front ++ others) (sum w)
        → Comes p i is w ⊎ Stops p i is w
    comes p i is w [] others long e can h = inr (last_long p i is w others long e h)
    comes p i is w (q ∷ qs) others long e can h =
        let first : i ≡ arrives q = cc in
        let rest : is ≡ map arrives qs ++ end_of long = cc in
        inl (record {
          first = q;
          front = qs;
          others = others;
          long = long;
          is_first = first;
          are = rest;
          reads = request_again q (short_request q) (request_short q can.0.0);
          can = can.1;
          stage = h;
        })

    stage_after : (w : List Output) (turn : Turned) (qs : List Request) → After turn qs (sum w)
        → Stage turn.place.state turn.place.doing qs (sum (w ++ turn.written))
    stage_after w turn qs a =
        subst (Stage turn.place.state turn.place.doing qs) (sym (walk.join w turn.written ∙ a.is)) a.stage

    drops_kept : (p : Situation) (i : Input) (is : List Input) (fs : List Fact) (w : List Output) → is_ended p.state ≡ true
        → Comes p i is w ⊎ Stops p i is w → Kept (goes p p.state p.doing []).place is fs (w ++ [])
    drops_kept p i is fs w e (inl c) = record {
      front = c.front;
      others = c.others;
      long = c.long;
      are = c.are;
      can = c.can;
      stage = subst (λ (v : List Output). Stage p.state p.doing (c.front ++ c.others) (sum v)) (sym (append-nil w))
          (walk.on_end p.state p.doing c.first (c.front ++ c.others) (sum w) e c.stage);
    }
    drops_kept p i is fs w e (inr c) = record {
      front = [];
      others = c.others;
      long = false;
      are = c.none;
      can = tt;
      stage = subst (λ (v : List Output). Stage p.state p.doing c.others (sum v)) (sym (append-nil w)) c.stage;
    }

    takes_kept : (p : Situation) (i : Input) (is : List Input) (fs : List Fact) (w : List Output) → is_ended p.state ≡ false
        → question_in p.doing ≡ None → Comes p i is w ⊎ Stops p i is w
        → Kept (on_live config p i).place is fs (w ++ (on_live config p i).written)
    takes_kept p i is fs w e n (inl c) =
        let turn = answered config (counted p) (turn_of p.state c.first) in
        let same : turn ≡ on_live config p i = message_is config p c.first c.reads ∙ ap (on_live config p) (sym c.is_first) in
        record {
          front = c.front;
          others = c.others;
          long = c.long;
          are = c.are;
          can = c.can;
          stage = subst (λ (u : Turned). Stage u.place.state u.place.doing (c.front ++ c.others) (sum (w ++ u.written))) same
              (stage_after w turn (c.front ++ c.others)
              (walk.on_request p c.first (c.front ++ c.others) (sum w) e n c.reads c.stage));
        }
    takes_kept p i is fs w e n (inr c) = record {
      front = [];
      others = c.others;
      long = false;
      are = c.none;
      can = tt;
      stage = subst (λ (x : Input). Stage (on_live config p x).place.state (on_live config p x).place.doing c.others
          (sum (w ++ (on_live config p x).written))) (sym c.is_long)
          (stage_after w (on_live config p too_long) c.others (walk.on_long p c.others (sum w) c.stage));
    }

    one_kept : (p : Situation) (is : List Input) (fs : List Fact) (w : List Output) (t : Standing) → Moved config p is fs t → Kept p is fs w
        → Kept t.core t.items t.facts (w ++ t.written)
    one_kept p _ _ w _ (drops i is fs e) k = drops_kept p i is fs w e (comes p i is w k.front k.others k.long k.are k.can k.stage)
    one_kept p _ _ w _ (takes i is fs e n) k = takes_kept p i is fs w e n (comes p i is w k.front k.others k.long k.are k.can k.stage)
    one_kept p _ _ w _ (hearkens q n fact is fs e d f) k = record {
      front = k.front;
      others = k.others;
      long = k.long;
      are = k.are;
      can = k.can;
      stage = stage_after w (heard config (freed p) q n fact) (k.front ++ k.others)
          (walk.on_fact p q n fact (k.front ++ k.others) (sum w) e
          (subst (λ (x : Doing). Stage p.state x (k.front ++ k.others) (sum w)) d k.stage));
    }

    -- where a session ends up
    pub record Ends (written : List Output) : Type 0 where
      pub place : Situation
      pub left : List Request
      pub stage : Stage place.state place.doing left (sum written)

    ends : (requests : List Request) (is : List Input) (facts : List Fact) → Arrived requests is → AllByRecursion CanBeSent requests
        → Stage Connected idle requests [] → Ends (going (move config) connected is facts).written
    ends requests is facts a can h =
        let r = going (move config) connected is facts in
        let same : Stage Connected idle (a.front ++ a.others) (sum []) =
        subst (λ (qs : List Request). Stage Connected idle qs (sum [])) (sym a.begins)
        (subst (Stage Connected idle requests) (sym walk.nothing) h) in
        let k = all_keep (move config) Kept (λ p js fs w t e k. one_kept p js fs w t (moved config p js fs t e) k) connected is facts
        (record {
          front = a.front;
          others = a.others;
          long = a.long;
          are = a.are;
          can = front_can a.front a.others (subst (AllByRecursion CanBeSent) (sym a.begins) can);
          stage = same;
        }) in
        record { place = r.core; left = k.front ++ k.others; stage = k.stage }

    -- Nothing was put out; or the answer to the handshake, and then what belongs to some stage.
    pub walks : (requests : List Request) (bytes : List ℕ) (facts : List Fact) → Sent requests bytes → Stage Connected idle requests []
        → ((session config bytes facts).written ≡ [])
        ⊎ ((w : List Output) × ((session config bytes facts).written ≡ wrote chosen ∷ w) × Ends w)
    unfolding session
    walks requests bytes facts s h = elim (inputs_sent requests bytes s) [
      | inl e ↦ inl (ap (λ (is : List Input). (going (move config) start is facts).written) e
          ∙ ap (λ (r : Standing). r.written) (rests_at_start config facts))
      | inr a ↦ inr (
        (going (move config) connected a.0 facts).written,
        ap (λ (is : List Input). (going (move config) start is facts).written) a.1
            ∙ ap (λ (r : Standing). r.written) (starts config a.0 facts),
        ends requests a.0 facts a.2 s.can h,
      )
    ]
