-- The session of a client that asks for a routing table at most asks nothing else, and so tells no bookmark.
use Rattle.std.proofs.Common.{◌≡◌, inl, inr, ℕ, zero, suc, ◌<◌, Bool, true, false, List, [], ◌∷◌, ◌++◌, length, refl, sym, ap, subst}
use Rattle.std.proofs.Common.{◌∙◌, append-nil, arith}
use Rattle.std.specs.Prelude.{if◌then◌else◌, slice_index_or, Some, None, Ok, Err}
use Rattle.std.specs.List.{AllByRecursion}
use Rattle.ncc_pack.specs.declared.value.Value.{Value}
use Rattle.ncc_pack.specs.declared.value.Value.TheVariants as v
use Rattle.ncc_bolt.specs.Fields.{Pairs}
use Rattle.ncc_bolt.specs.declared.message.Request.{Request}
use Rattle.ncc_bolt.specs.declared.message.Request.TheVariants as q
use Rattle.ncc_store.specs.declared.call.Call.{Call}
use Rattle.ncc_session.specs.declared.config.ConnConfig.{ConnConfig}
use Rattle.ncc_session.specs.declared.state.ConnState.{ConnState}
use Rattle.ncc_session.specs.declared.state.ConnState.TheVariants.{Connected, Ready, Failed, Ended}
use Rattle.ncc_session.specs.declared.refusal.Refusal.TheVariants as r
use Rattle.ncc_session.specs.declared.ask.Fact.{Fact}
use Rattle.ncc_session.specs.declared.ask.Fact.TheVariants as f
use Rattle.ncc_session.specs.Checks.{Checked, is_welcome, need_of}
use Rattle.ncc_session.specs.Question.{Question, leave, route, Row, Output, questions_of}
use Rattle.ncc_session.specs.Core.{Next, routes, Doing, idle, asks, Situation}
use Rattle.ncc_session.specs.Replies.{hello_meta}
use Rattle.ncc_session.specs.Table.{turn_of}
use Rattle.ncc_session.specs.Turns.{Turned, rests, fails, puts, refuses, asks_route, answered, refusal_of, after_route, heard}
use Rattle.ncc_session.specs.Session.{too_long, on_live, counted, session, is_ended, question_in}
use Rattle.ncc_clients.specs.Transacting.{MayLeave, IsRouting, LogsIn, WasEnded, RoutesAlone}
use Rattle.ncc_clients.proofs.Asked.{questions_join}
use Rattle.ncc_clients.proofs.Lists.{all_append}
use Rattle.ncc_clients.proofs.Walking.{After, Walk, walks}
use Rattle.ncc_clients.proofs.Telling.{tells_its_bookmark}

abbrev IsRoute : Question → Type 0
IsRoute question = question ≡ route

abbrev Routes : List Question → Type 0
Routes xs = AllByRecursion IsRoute xs

leave_routing : (qs : List Request) → MayLeave qs → IsRouting qs
leave_routing [] h = tt
leave_routing (q.Goodbye ∷ qs) h = h
leave_routing (q.Route routing bookmarks extra ∷ qs) h = absurd h
leave_routing (_ ∷ qs) h = absurd h

-- ---- the stages

abbrev Stage : ConnState → Doing → List Request → List Question → Type 0
Stage Connected idle qs xs = LogsIn IsRouting qs × Routes xs
Stage Ready idle qs xs = IsRouting qs × Routes xs
Stage Ready (asks route routes) qs xs = MayLeave qs × Routes xs
Stage Failed idle qs xs = MayLeave qs × Routes xs
Stage (Ended why) d qs xs = Routes xs
Stage _ _ _ _ = ⊥

stage_routes : (s : ConnState) (d : Doing) (qs : List Request) (xs : List Question) → Stage s d qs xs → Routes xs
stage_routes Connected idle qs xs h = h.1
stage_routes Ready idle qs xs h = h.1
stage_routes Ready (asks route routes) qs xs h = h.1
stage_routes Failed idle qs xs h = h.1
stage_routes (Ended why) d qs xs h = h
stage_routes _ _ qs xs h = absurd h

module _ (config : ConnConfig) where
  abbrev Goes : Turned → List Request → List Question → Type 0
  Goes turn qs xs = After config questions_of Stage turn qs xs

  abbrev at : ConnState → Doing → ℕ → Situation
  at s d number = record { state = s; number = number; doing = d }

  quiet : (turn : Turned) (qs : List Request) (xs : List Question) → questions_of turn.written ≡ []
      → Stage turn.place.state turn.place.doing qs xs → Goes turn qs xs
  quiet turn qs xs e h = record { now = xs; is = ap (λ (ys : List Question). xs ++ ys) e ∙ append-nil xs; stage = h }

  after_if : (b : Bool) (x y : Turned) (qs : List Request) (xs : List Question) → Goes x qs xs → Goes y qs xs
      → Goes (if b then x else y) qs xs
  after_if true x y qs xs h k = h
  after_if false x y qs xs h k = k

  after_check : {A : Type 0} (p : Situation) (x : Checked A) (go : A → Turned) (qs : List Request) (xs : List Question) → MayLeave qs
      → Routes xs → ((a : A) → Goes (go a) qs xs) → Goes (elim x [ Err refusal ↦ fails p refusal | Ok a ↦ go a ]) qs xs
  after_check p (Err refusal) go qs xs h all k = quiet (fails p refusal) qs xs refl (h, all)
  after_check p (Ok a) go qs xs h all k = k a

  hello_after : (p : Situation) (b : Bool) (qs : List Request) (xs : List Question) → IsRouting qs → Routes xs
      → Goes (if b then rests p Ready (hello_meta config.conn) else refuses p r.Unauthorized) qs xs
  hello_after p b qs xs h all =
      after_if b (rests p Ready (hello_meta config.conn)) (refuses p r.Unauthorized) qs xs
      (quiet (rests p Ready (hello_meta config.conn)) qs xs refl (h, all))
      (quiet (refuses p r.Unauthorized) qs xs refl all)

  at_connected : (number : ℕ) (m : Request) (qs : List Request) (xs : List Question) → LogsIn IsRouting (m ∷ qs) → Routes xs
      → Goes (answered config (counted (at Connected idle number)) (turn_of Connected m)) qs xs
  at_connected number (q.Hello login) qs xs h all =
      hello_after (counted (at Connected idle number)) (is_welcome config.auth login) qs xs h all
  at_connected number q.Goodbye qs xs h all = quiet _ qs xs refl all
  at_connected number _ qs xs h all = absurd h

  route_after : (p : Situation) (bookmarks : List Value) (extra : Pairs) (qs : List Request) (xs : List Question) → p.state ≡ Ready
      → MayLeave qs → Routes xs → Goes (asks_route config p bookmarks extra) qs xs
  route_after p bookmarks extra qs xs ready h all =
      after_check p (need_of config.members.cluster (Some (v.List bookmarks)) extra) (λ need. puts p route routes) qs xs h all
      (λ need. record {
        now = xs ++ route ∷ [];
        is = refl;
        stage = subst (λ (s : ConnState). Stage s (asks route routes) qs (xs ++ route ∷ [])) (sym ready)
            (h, all_append IsRoute xs (route ∷ []) all (refl, tt));
      })

  at_ready : (number : ℕ) (m : Request) (qs : List Request) (xs : List Question) → IsRouting (m ∷ qs) → Routes xs
      → Goes (answered config (counted (at Ready idle number)) (turn_of Ready m)) qs xs
  at_ready number (q.Route routing bookmarks extra) qs xs h all =
      route_after (counted (at Ready idle number)) bookmarks extra qs xs refl h all
  at_ready number q.Goodbye qs xs h all = quiet _ qs xs refl all
  at_ready number _ qs xs h all = absurd h

  at_failed : (number : ℕ) (m : Request) (qs : List Request) (xs : List Question) → MayLeave (m ∷ qs) → Routes xs
      → Goes (answered config (counted (at Failed idle number)) (turn_of Failed m)) qs xs
  at_failed number q.Goodbye qs xs h all = quiet _ qs xs refl all
  at_failed number _ qs xs h all = absurd h

  waits_not : (x : Question) (n : Next) → question_in (asks x n) ≡ None → ⊥
  waits_not x n e = let same : Some x ≡ None = e in cc

  on_request : (s : ConnState) (d : Doing) (number : ℕ) (m : Request) (qs : List Request) (xs : List Question) → is_ended s ≡ false
      → question_in d ≡ None → Stage s d (m ∷ qs) xs → Goes (answered config (counted (at s d number)) (turn_of s m)) qs xs
  on_request Connected idle number m qs xs live none h = at_connected number m qs xs h.0 h.1
  on_request Ready idle number m qs xs live none h = at_ready number m qs xs h.0 h.1
  on_request Failed idle number m qs xs live none h = at_failed number m qs xs h.0 h.1
  on_request (Ended why) d number m qs xs live none h = absurd (let same : true ≡ false = live in cc)
  on_request s (asks x n) number m qs xs live none h = absurd (waits_not x n none)
  on_request _ _ number m qs xs live none h = absurd h

  routed_after : (p : Situation) (fact : Fact) (qs : List Request) (xs : List Question) → MayLeave qs → Routes xs
      → Goes (after_route config p fact) qs xs
  routed_after p (f.Routed leader) qs xs h all = quiet _ qs xs refl (leave_routing qs h, all)
  routed_after p fact qs xs h all = quiet (fails p (refusal_of fact)) qs xs refl (h, all)

  ready_fact : (number : ℕ) (x : Question) (n : Next) (fact : Fact) (qs : List Request) (xs : List Question) → Stage Ready (asks x n) qs xs
      → Goes (heard config (at Ready idle number) x n fact) qs xs
  ready_fact number route routes fact qs xs h = routed_after (at Ready idle number) fact qs xs h.0 h.1
  ready_fact number _ _ fact qs xs h = absurd h

  on_fact : (s : ConnState) (number : ℕ) (x : Question) (n : Next) (fact : Fact) (qs : List Request) (xs : List Question)
      → is_ended s ≡ false → Stage s (asks x n) qs xs → Goes (heard config (at s idle number) x n fact) qs xs
  on_fact Ready number x n fact qs xs live h = ready_fact number x n fact qs xs h
  on_fact (Ended why) number x n fact qs xs live h = absurd (let same : true ≡ false = live in cc)
  on_fact _ number x n fact qs xs live h = absurd h

  on_end : (s : ConnState) (d : Doing) (m : Request) (qs : List Request) (xs : List Question) → is_ended s ≡ true → Stage s d (m ∷ qs) xs
      → Stage s d qs xs
  on_end (Ended why) d m qs xs e h = h
  on_end _ d m qs xs e h = absurd (cc)

  walk : Walk config questions_of Stage
  walk = record {
    join = questions_join;
    nothing = refl;
    on_request = λ p m qs xs live none reads h. on_request p.state p.doing p.number m qs xs live none h;
    on_fact = λ p x n fact qs xs live h. on_fact p.state p.number x n fact qs xs live h;
    on_long = λ p qs xs h. quiet (on_live config p too_long) qs xs refl (stage_routes p.state p.doing qs xs h);
    on_end = on_end;
  }

-- where all questions are that one, no transaction ended
route_not : (calls : List Call) (told : List (List Row)) (ys : List Question) (n : ℕ) → Routes ys → n < length ys
    → slice_index_or ys n (leave calls told) ≡ leave calls told → ⊥
route_not calls told [] n h lt e = absurd (omega arith)
route_not calls told (y ∷ ys) zero h lt e = let same : route ≡ leave calls told = sym h.0 ∙ e in cc
route_not calls told (y ∷ ys) (suc n) h lt e = route_not calls told ys n h.1 (omega arith) e

not_ended : (xs : List Question) → Routes xs → WasEnded xs → ⊥
not_ended xs all w = route_not w.0 w.1 xs w.2.0 all w.2.1 w.2.2

pub routes_alone : RoutesAlone
routes_alone config bytes facts c = (all, λ m text there t. not_ended _ all (tells_its_bookmark config bytes facts m text there t).0) where
  all : Routes (questions_of (session config bytes facts).written)
  all = elim (walks config questions_of Stage (walk config) c.0 bytes facts c.2 (c.1, tt)) [
    | inl e ↦ subst (λ (out : List Output). Routes (questions_of out)) (sym e) tt
    | inr w ↦ subst (λ (out : List Output). Routes (questions_of out)) (sym w.1)
        (stage_routes w.2.place.state w.2.place.doing w.2.left (questions_of w.0) w.2.stage)
  ]
