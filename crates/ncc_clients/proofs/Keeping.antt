-- Each small thing keeps every connection sound.
use Rattle.std.proofs.Common.{◌≡◌, ◌≢◌, ℕ, ◌+◌, ◌<◌, ◌≤◌, Bool, true, false, inl, inr, ◌⊎◌, List, [], ◌∷◌, ◌++◌, length, Option}
use Rattle.std.proofs.Common.{None, Some, refl, ap, sym, ◌∙◌, arith, subst, length-append, eqb-true}
use Rattle.std.specs.Prelude.{slice_get, slice_set, if◌then◌else◌, nat_eq}
use Rattle.std.specs.List.{AllByRecursion}
use Rattle.ncc_tx.specs.declared.entry.Entry.{Entry}
use Rattle.ncc_session.specs.declared.ask.Fact.{Fact}
use Rattle.ncc_session.specs.declared.ask.Fact.TheVariants.{Elsewhere, Full}
use Rattle.ncc_session.specs.Core.{leave_of}
use Rattle.ncc_session.specs.Question.{Question, leave, fits}
use Rattle.ncc_session.specs.Session.{asked_at}
use Rattle.ncc_clients.specs.declared.told.Told.{Told as Saying}
use Rattle.ncc_clients.specs.Members.{Cluster, Proposed, elsewhere, full, placed, at_of, config_of}
use Rattle.ncc_clients.specs.Run.{Run, Client, Placing, begun, talk_of, question_of, has_ended, ticked, opened, fed, with_bytes, told_to}
use Rattle.ncc_clients.specs.Run.{with_fact, moved, accepted, with_placing, proposed, closed_at}
use Rattle.ncc_clients.specs.Moment.{IsOpen, Proposes, Small, Ticks, Opens, Feeds, Tells, Offers, Moves, Restarts, Drives, Closes, Path, Here, Then}
use Rattle.ncc_clients.specs.Four.{Four, Accepts}
use Rattle.ncc_clients.specs.Lawful.{place_of}
use Rattle.ncc_clients.specs.Laws.{facts_to}
use Rattle.ncc_clients.proofs.Lists.{all_weaker, all_append, get_push, get_set, get_within, set_length}
use Rattle.ncc_clients.proofs.Known.{Known}
use Rattle.ncc_clients.proofs.Lives.{asks_live, lives_asking, live_before}
use Rattle.ncc_clients.proofs.Paths.{path_more}
use Rattle.ncc_clients.proofs.Says.{is_said, is_offered}
use Rattle.ncc_clients.proofs.Fits.{same_test, said_fits, said_below, said_enters}
use Rattle.ncc_clients.proofs.Asked.{Enters, asks_fresh, asks_still, asks_bytes, asks_fact, reached_fact}
use Rattle.ncc_clients.proofs.Sound.{Waits, Live, Sound, AllSound, live_more, further, stays_sound}

-- ---- the facts told to a connection, with one more told

facts_same : (n : ℕ) (ts : List Saying) (t : Saying) → t.conn ≡ n → facts_to n (ts ++ (t ∷ [])) ≡ facts_to n ts ++ (t.fact ∷ [])
facts_same n [] t e = ap (λ b. if b then t.fact ∷ [] else []) (ap (λ m. nat_eq m n) e ∙ same_test n)
facts_same n (x ∷ ts) t e = go (nat_eq x.conn n) (facts_same n ts t e) where
  go : (b : Bool) → facts_to n (ts ++ (t ∷ [])) ≡ facts_to n ts ++ (t.fact ∷ [])
      → (if b then x.fact ∷ facts_to n (ts ++ (t ∷ [])) else facts_to n (ts ++ (t ∷ [])))
      ≡ (if b then x.fact ∷ facts_to n ts else facts_to n ts) ++ (t.fact ∷ [])
  go true h = ap (λ l. x.fact ∷ l) h
  go false h = h

facts_other : (n : ℕ) (ts : List Saying) (t : Saying) → t.conn ≢ n → facts_to n (ts ++ (t ∷ [])) ≡ facts_to n ts
facts_other n [] t e = go (nat_eq t.conn n) refl where
  go : (b : Bool) → nat_eq t.conn n ≡ b → (if b then t.fact ∷ [] else []) ≡ []
  go true h = absurd (e (eqb-true t.conn n h))
  go false h = refl
facts_other n (x ∷ ts) t e = ap (λ l. if nat_eq x.conn n then x.fact ∷ l else l) (facts_other n ts t e)

-- nothing was told to a number that nobody has
facts_none : (n m : ℕ) (ts : List Saying) → AllByRecursion (λ (t : Saying). t.conn ≤ m) ts → m < n → facts_to n ts ≡ []
facts_none n m [] h less = refl
facts_none n m (x ∷ ts) h less = go (nat_eq x.conn n) refl (facts_none n m ts h.1 less) where
  go : (b : Bool) → nat_eq x.conn n ≡ b → facts_to n ts ≡ [] → (if b then x.fact ∷ facts_to n ts else facts_to n ts) ≡ []
  go true e k = absurd (omega (arith, eqb-true x.conn n e, h.0, less))
  go false e k = k

-- a fact as it is told
abbrev saying : ℕ → Client → Fact → Saying
saying line c fact = record { line = line; conn = c.number; fact = fact }

-- a client that connects
abbrev pub newcomer : {S : Type 0} → Run S → ℕ → Bool → Client
newcomer r member printed = record {
  number = length r.clients + 1;
  member = member;
  bytes = [];
  facts = [];
  since = r.now;
  placing = None;
  closed = false;
  printed = printed;
}

if_open : (b : Bool) (o : Option Question) → b ≡ false → (if b then None else o) ≡ o
if_open true o e = absurd (cc)
if_open false o e = refl

module _ {S : Type 0} (C : Cluster S) (start : S) (known : Known) (four : Four C start) where
  -- the question of a connection that is not closed is its session's
  pub asked_is : (c : Client) (o : Option Question) → c.closed ≡ false → question_of C c ≡ o → asked_at (talk_of C c).core ≡ o
  asked_is c o open_ e = sym (if_open c.closed (asked_at (talk_of C c).core) open_) ∙ e

  others_known : (r s : Run S) → length r.clients ≤ length s.clients → (ts : List Saying)
      → AllByRecursion (λ (t : Saying). t.conn ≤ length r.clients) ts → AllByRecursion (λ (t : Saying). t.conn ≤ length s.clients) ts
  others_known r s less ts h = all_weaker (λ (t : Saying). t.conn ≤ length r.clients) (λ (t : Saying). t.conn ≤ length s.clients)
      (λ t g. omega (arith, g, less)) ts h

  -- ---- nothing happens to any connection

  all_stay : (r s : Run S) → Small C r s → Path C (begun start) r → s.clients ≡ r.clients → s.told ≡ r.told → AllSound C start r
      → AllSound C start s
  all_stay r s h from clients told k = record {
    each = λ i c e.
        let there : slice_get r.clients i ≡ Some c = ap (λ (cs : List Client). slice_get cs i) (sym clients) ∙ e in
        stays_sound C start r s h four from i c there (ap (facts_to c.number) told) (k.each i c there);
    known = subst (λ ts. AllByRecursion (λ (t : Saying). t.conn ≤ length s.clients) ts) (sym told)
        (others_known r s (omega (arith, ap length clients)) r.told k.known);
  }

  -- ---- one connection becomes another, and no fact is told

  one_changes : (r s : Run S) (i : ℕ) (c d : Client) → Small C r s → Path C (begun start) r → slice_get r.clients i ≡ Some c
      → s.clients ≡ slice_set r.clients i d → s.told ≡ r.told → AllSound C start r → Sound C start s i d → AllSound C start s
  one_changes r s i c d h from there clients told k new = record {
    each = λ j x e. go j x (get_set r.clients i d j x (ap (λ (cs : List Client). slice_get cs j) (sym clients) ∙ e));
    known = subst (λ ts. AllByRecursion (λ (t : Saying). t.conn ≤ length s.clients) ts) (sym told)
        (others_known r s (omega (arith, ap length clients, set_length r.clients i d)) r.told k.known);
  } where
    go : (j : ℕ) (x : Client) → ((j ≡ i) × (d ≡ x)) ⊎ ((j ≢ i) × (slice_get r.clients j ≡ Some x)) → Sound C start s j x
    go j x (inl e) = subst (λ (n : ℕ). Sound C start s n x) (sym e.0) (subst (Sound C start s i) e.1 new)
    go j x (inr e) = stays_sound C start r s h four from j x e.1 (ap (facts_to x.number) told) (k.each j x e.1)

  -- ---- a fact is told

  told_sound : (line : ℕ) (r : Run S) (i : ℕ) (c : Client) (q : Question) (fact : Fact) → IsOpen r i c → question_of C c ≡ Some q
      → fits q fact ≡ true → place_of fact ≤ at_of C r.members c.member → Enters q fact (at_of C r.members c.member)
      → Sound C start r i c → Sound C start (told_to line r i c fact) i (with_fact r.now c fact)
  unfolding asks_fact
  told_sound line r i c q fact is asks fit less enters k =
      let waits = asked_is c (Some q) is.live asks in
      let went = known.on_facts (config_of C c.number) c.bytes c.facts q fact k.served.taken waits fit in
      let l = k.live (asks_live C c q asks) in
      record {
        served = record {
          number = k.served.number;
          facts = ap (λ l. l ++ (fact ∷ [])) k.served.facts
              ∙ sym (facts_same c.number r.told (saying line c fact) refl);
          taken = went.taken;
        };
        asks = asks_fact (talk_of C c) (talk_of C (with_fact r.now c fact)) c.facts q fact went waits k.asks;
        live = λ o. record {
          below = all_append (λ x. place_of x ≤ at_of C r.members c.member) c.facts (fact ∷ []) l.below (less, tt);
          reached = reached_fact k.asks.answered c.facts (at_of C r.members c.member) q fact k.asks.counted l.reached enters;
          waits = tt;
        };
      }

  told_keeps : (line : ℕ) (r : Run S) (i : ℕ) (c : Client) (q : Question) (fact : Fact) → Small C r (told_to line r i c fact)
      → Path C (begun start) r → IsOpen r i c → question_of C c ≡ Some q
      → fits q fact ≡ true → place_of fact ≤ at_of C r.members c.member → Enters q fact (at_of C r.members c.member)
      → AllSound C start r → AllSound C start (told_to line r i c fact)
  told_keeps line r i c q fact h from is asks fit less enters k = record {
    each = λ j x e. go j x (get_set r.clients i (with_fact r.now c fact) j x e);
    known = all_append (λ (t : Saying). t.conn ≤ length (told_to line r i c fact).clients) r.told (saying line c fact ∷ [])
        (others_known r (told_to line r i c fact) (omega (arith, same_length)) r.told k.known)
        (omega (arith, same_length, mine.served.number, get_within r.clients i c is.there), tt);
  } where
    same_length : length (slice_set r.clients i (with_fact r.now c fact)) ≡ length r.clients
    same_length = set_length r.clients i (with_fact r.now c fact)

    mine : Sound C start r i c
    mine = k.each i c is.there

    go : (j : ℕ) (x : Client) → ((j ≡ i) × (with_fact r.now c fact ≡ x)) ⊎ ((j ≢ i) × (slice_get r.clients j ≡ Some x))
        → Sound C start (told_to line r i c fact) j x
    go j x (inl e) = subst (λ (n : ℕ). Sound C start (told_to line r i c fact) n x) (sym e.0)
        (subst (Sound C start (told_to line r i c fact) i) e.1 (told_sound line r i c q fact is asks fit less enters mine))
    go j x (inr e) =
        let other : c.number ≢ x.number = λ n. e.0 (omega (arith, n, mine.served.number, (k.each j x e.1).served.number)) in
        stays_sound C start r (told_to line r i c fact) h four from j x e.1
        (facts_other x.number r.told (saying line c fact) other) (k.each j x e.1)

  -- ---- bytes come in

  -- who is live with them was so before
  fed_live : (r : Run S) (i : ℕ) (c : Client) (piece : List ℕ) → Small C r (fed C r i c piece) → (k : Sound C start r i c)
      → has_ended C (with_bytes C r.now c piece) ≡ false → Live C start (fed C r i c piece) i c k.asks.answered
  fed_live r i c piece h k alive =
      live_more C start r (fed C r i c piece) h i c k.asks.answered (omega arith)
      (k.live (live_before C known r.now c piece k.served.taken alive))

  fed_sound : (r : Run S) (i : ℕ) (c : Client) (piece : List ℕ) (o : Option Question) → asked_at (talk_of C c).core ≡ o
      → Small C r (fed C r i c piece) → IsOpen r i c → Sound C start r i c
      → Sound C start (fed C r i c piece) i (with_bytes C r.now c piece)
  unfolding asks_still asks_bytes
  fed_sound r i c piece None asked_ h is k =
      let went = known.on_bytes (config_of C c.number) c.bytes piece c.facts k.served.taken asked_ in
      record {
        served = record { number = k.served.number; facts = k.served.facts; taken = went.taken };
        asks = asks_bytes (talk_of C c) (talk_of C (with_bytes C r.now c piece)) c.facts went asked_ k.asks;
        live = λ alive.
            let l = fed_live r i c piece h k alive in record { below = l.below; reached = l.reached; waits = none c.placing l.waits };
      }
    where
      none : (o : Option Placing) → Waits C start (fed C r i c piece) i c o
          → Waits C start (fed C r i c piece) i (with_bytes C r.now c piece) o
      none None w = tt
      none (Some p) w = absurd (
          let q = Some (leave_of w.proposal.entry) in let f : None ≡ q = sym asked_ ∙ asked_is c q is.live w.proposal.asks in cc)
  fed_sound r i c piece (Some q) asked_ h is k =
      let st = known.stands_still (config_of C c.number) c.bytes piece c.facts q k.served.taken asked_ in
      let same : question_of C c ≡ question_of C (with_bytes C r.now c piece) =
      ap (λ p. if c.closed then None else asked_at p) (sym st.core) in
      record {
        served = record { number = k.served.number; facts = k.served.facts; taken = st.taken };
        asks = asks_still (talk_of C c) (talk_of C (with_bytes C r.now c piece)) c.facts st k.asks;
        live = λ alive.
            let l = fed_live r i c piece h k alive in record { below = l.below; reached = l.reached; waits = still same c.placing l.waits };
      }
    where
      still : question_of C c ≡ question_of C (with_bytes C r.now c piece) → (o : Option Placing) → Waits C start (fed C r i c piece) i c o
          → Waits C start (fed C r i c piece) i (with_bytes C r.now c piece) o
      still same None w = tt
      still same (Some p) w = record {
        proposal = record {
          then_ = w.proposal.then_;
          it = w.proposal.it;
          entry = w.proposal.entry;
          after = w.proposal.after;
          same_conn = w.proposal.same_conn;
          same_facts = w.proposal.same_facts;
          same_question = w.proposal.same_question ∙ same;
          asks = sym same ∙ w.proposal.asks;
          accepts = w.proposal.accepts;
          led = w.proposal.led;
          since = w.proposal.since;
        };
        from = w.from;
      }

  -- ---- an entry is accepted

  pub leads_accepts : (r : Run S) (i : ℕ) (c : Client) (entry : Entry) (place term : ℕ) (after : S)
      → C.propose r.members c.member entry ≡ placed place term after → C.leads r.members c.member ≡ true
  leads_accepts r i c entry place term after e = go (C.leads r.members c.member) refl where
    go : (b : Bool) → C.leads r.members c.member ≡ b → b ≡ true
    go true h = refl
    go false h = absurd (let f : elsewhere ≡ placed place term after = sym (four.leads r.members c.member entry h) ∙ e in cc)

  accepted_sound : (r : Run S) (i : ℕ) (c : Client) (entry : Entry) (place term : ℕ) (after : S)
      → Small C r (accepted C r i c place term after) → Path C (begun start) r → Accepts C r i c entry place term after
      → Sound C start r i c
      → Sound C start (accepted C r i c place term after) i (with_placing r.now c place term)
  accepted_sound r i c entry place term after h from a k =
      let is = lives_asking C r i c (leave_of entry) a.proposes.there.there a.proposes.entry_is in
      let l = live_more C start r (accepted C r i c place term after) h i c k.asks.answered
      (further C start r (accepted C r i c place term after) h four from i c is) (k.live is.live) in
      record {
        served = record { number = k.served.number; facts = k.served.facts; taken = k.served.taken };
        asks = k.asks;
        live = λ open_. record {
          below = l.below;
          reached = l.reached;
          waits = record {
            proposal = record {
              then_ = r;
              it = c;
              entry = entry;
              after = after;
              same_conn = refl;
              same_facts = refl;
              same_question = refl;
              asks = a.proposes.entry_is;
              accepts = a;
              led = leads_accepts r i c entry place term after a.accepts;
              since = Here (accepted C r i c place term after);
            };
            from = from;
          };
        };
      }

  -- a proposal is answered
  offered_keeps : (line : ℕ) (r : Run S) (i : ℕ) (c : Client) (entry : Entry) (o : Proposed S) → C.propose r.members c.member entry ≡ o
      → Small C r (proposed C line r i c o) → Path C (begun start) r → Proposes C r i c entry → AllSound C start r
      → AllSound C start (proposed C line r i c o)
  offered_keeps line r i c entry elsewhere e h from p k =
      let o = is_offered C r c p.replies in
      told_keeps line r i c (leave o.calls o.told) Elsewhere h from p.there o.asks o.writes (omega arith) tt k
  offered_keeps line r i c entry (full entries) e h from p k =
      let o = is_offered C r c p.replies in
      told_keeps line r i c (leave o.calls o.told) (Full entries) h from p.there o.asks o.writes (omega arith) tt k
  offered_keeps line r i c entry (placed place term after) e h from p k =
      one_changes r (accepted C r i c place term after) i c (with_placing r.now c place term) h from p.there.there refl refl k
      (accepted_sound r i c entry place term after h from (record { proposes = p; accepts = e }) (k.each i c p.there.there))

  -- ---- a client connects

  opened_keeps : (r : Run S) (member : ℕ) (printed : Bool) → Small C r (opened r member printed) → Path C (begun start) r
      → AllSound C start r → AllSound C start (opened r member printed)
  unfolding asks_fresh
  opened_keeps r member printed h from k = record {
    each = λ j x e. go j x (get_push r.clients (newcomer r member printed) j x e);
    known = others_known r (opened r member printed) (omega (arith, length-append r.clients (newcomer r member printed ∷ []))) r.told
        k.known;
  } where
    fresh_sound : Sound C start (opened r member printed) (length r.clients) (newcomer r member printed)
    fresh_sound =
        let f = known.fresh (config_of C (length r.clients + 1)) in
        record {
          served = record {
            number = refl;
            facts = sym (facts_none (length r.clients + 1) (length r.clients) r.told k.known (omega arith));
            taken = f.taken;
          };
          asks = asks_fresh (talk_of C (newcomer r member printed)) f;
          live = λ o. record { below = tt; reached = λ held e. absurd (let g : None ≡ Some held = e in cc); waits = tt };
        }

    go : (j : ℕ) (x : Client) → (slice_get r.clients j ≡ Some x) ⊎ ((j ≡ length r.clients) × (newcomer r member printed ≡ x))
        → Sound C start (opened r member printed) j x
    go j x (inl e) = stays_sound C start r (opened r member printed) h four from j x e refl (k.each j x e)
    go j x (inr e) = subst (λ (n : ℕ). Sound C start (opened r member printed) n x) (sym e.0)
        (subst (Sound C start (opened r member printed) (length r.clients)) e.1 fresh_sound)

  closed_sound : (r : Run S) (i : ℕ) (c : Client) → Sound C start r i c → Sound C start (closed_at r i c) i (record c { closed = true })
  closed_sound r i c k = record {
    served = record { number = k.served.number; facts = k.served.facts; taken = k.served.taken };
    asks = k.asks;
    live = λ o. absurd (let f : true ≡ false = o in cc);
  }

  -- ---- every small thing

  pub small_keeps : (r s : Run S) → Small C r s → Path C (begun start) r → AllSound C start r → AllSound C start s
  small_keeps r _ (Ticks _ to le) from k = all_stay r (ticked r to) (Ticks r to le) from refl refl k
  small_keeps r _ (Opens _ member printed some) from k = opened_keeps r member printed (Opens r member printed some) from k
  small_keeps r _ (Feeds _ i c piece is) from k =
      one_changes r (fed C r i c piece) i c (with_bytes C r.now c piece) (Feeds r i c piece is) from is.there refl refl k
      (fed_sound r i c piece (asked_at (talk_of C c).core) refl (Feeds r i c piece is) is (k.each i c is.there))
  small_keeps r _ (Tells line _ i c fact t) from k =
      let a = is_said C r c fact t.replies in
      told_keeps line r i c a.question fact (Tells line r i c fact t) from t.there a.asks (said_fits C r c known a.question fact a.says)
      (said_below C r c a.question fact a.says) (said_enters C r c a.question fact a.says) k
  small_keeps r _ (Offers line _ i c entry p) from k =
      offered_keeps line r i c entry (C.propose r.members c.member entry) refl (Offers line r i c entry p) from p k
  small_keeps r _ (Moves _ members m) from k = all_stay r (moved C r members) (Moves r members m) from refl refl k
  small_keeps r _ (Restarts _ member members m none) from k =
      all_stay r (moved C r members) (Restarts r member members m none) from refl refl k
  small_keeps r _ (Drives _ driving) from k = all_stay r (record r { driving = driving }) (Drives r driving) from refl refl k
  small_keeps r _ (Closes _ i c is) from k =
      one_changes r (closed_at r i c) i c (record c { closed = true }) (Closes r i c is) from is.there refl refl k
      (closed_sound r i c (k.each i c is.there))

  begun_sound : AllSound C start (begun start)
  begun_sound = record { each = λ i c e. absurd (let f : None ≡ Some c = e in cc); known = tt }

  sound_by : (r s : Run S) → Path C (begun start) r → AllSound C start r → Path C r s → AllSound C start s
  sound_by r s from k (Here _) = k
  sound_by r s from k (Then _ m _ h p) = sound_by m s (path_more C (begun start) r m from h) (small_keeps r m h from k) p

  -- every moment is sound
  pub sound_at : (r : Run S) → Path C (begun start) r → AllSound C start r
  sound_at r p = sound_by (begun start) r (Here (begun start)) begun_sound p
