-- The session of a client that opens at most one transaction asks to enter at most once, and for the greatest place that BEGIN presents.
use Rattle.std.proofs.Common.{◌≡◌, ◌⊎◌, inl, inr, ℕ, ◌+◌, Bool, true, false, List, [], ◌∷◌, ◌++◌, length, refl, sym, ap, subst, ◌∙◌}
use Rattle.std.proofs.Common.{append-nil}
use Rattle.std.specs.Prelude.{if◌then◌else◌, nat_lt, ◌==◌, Some, None, Result, Ok, Err}
use Rattle.ncc_bolt.specs.Fields.{Pairs}
use Rattle.ncc_bolt.specs.Reading.{request_at}
use Rattle.ncc_bolt.specs.Writing.{short_request}
use Rattle.ncc_bolt.specs.declared.error.MessageError.{MessageError}
use Rattle.ncc_bolt.specs.declared.message.Request.{Request}
use Rattle.ncc_bolt.specs.declared.message.Request.TheVariants as q
use Rattle.ncc_store.specs.declared.call.Call.{Call}
use Rattle.ncc_store.specs.Rows.{rows_len, max_bytes}
use Rattle.ncc_session.specs.declared.config.ConnConfig.{ConnConfig}
use Rattle.ncc_session.specs.declared.state.ConnState.{ConnState}
use Rattle.ncc_session.specs.declared.state.ConnState.TheVariants.{Connected, Ready, TxReady, TxStreaming, Failed}
use Rattle.ncc_session.specs.declared.state.ConnState.TheVariants.{Ended}
use Rattle.ncc_session.specs.declared.refusal.Refusal.{Refusal}
use Rattle.ncc_session.specs.declared.refusal.Refusal.TheVariants as r
use Rattle.ncc_session.specs.declared.ask.Fact.{Fact}
use Rattle.ncc_session.specs.declared.ask.Fact.TheVariants as f
use Rattle.ncc_session.specs.declared.checks.Wish.{Wish}
use Rattle.ncc_session.specs.declared.checks.Entrance.{Entrance}
use Rattle.ncc_session.specs.Checks.{Checked, is_welcome, entrance_of}
use Rattle.ncc_session.specs.Question.{Question, enter, run, leave, Row, Output, questions_of}
use Rattle.ncc_session.specs.Core.{Tx, Next, begins, adds, leaves, Doing, idle, opened, asks, Situation}
use Rattle.ncc_session.specs.Replies.{hello_meta}
use Rattle.ncc_session.specs.Table.{turn_of}
use Rattle.ncc_session.specs.Turns.{Turned, freed, rests, fails, puts, refuses, preceded, records, without_steps, pulled, taken}
use Rattle.ncc_session.specs.Turns.{left_in}
use Rattle.ncc_session.specs.Turns.{are_left, may_leave, ends_tx, goes_on, pulls, pulls_wish}
use Rattle.ncc_session.specs.Turns.{checked_step, runs_step}
use Rattle.ncc_session.specs.Turns.{begins_one, answered, with_rows, tells_columns, adds_rows, refusal_of, after_begin, after_step}
use Rattle.ncc_session.specs.Turns.{after_end, heard}
use Rattle.ncc_session.specs.Session.{too_long, on_live, counted, on_message, is_ended, question_in}
use Rattle.ncc_session.specs.Transactions.{Presents, IsGreatest, beginning}
use Rattle.ncc_session.proofs.Holding.{replies_ask}
use Rattle.ncc_session.proofs.Presenting.{needs_the_greatest}
use Rattle.ncc_clients.specs.Transacting.{MayLeave, AreSteps, IsTransaction, LogsIn, AsksElse, AsksOnce, EntersOnce}
use Rattle.ncc_clients.proofs.Asked.{questions_join}
use Rattle.ncc_clients.proofs.Lists.{all_append}
use Rattle.ncc_clients.proofs.Walking.{After, Walk, walks}

leave_steps : (qs : List Request) → MayLeave qs → AreSteps qs
leave_steps [] h = tt
leave_steps (q.Goodbye ∷ qs) h = h
leave_steps (q.Run query params extra ∷ qs) h = absurd h
leave_steps (q.Pull extra ∷ qs) h = absurd h
leave_steps (q.Commit ∷ qs) h = absurd h
leave_steps (_ ∷ qs) h = absurd h

module _ (config : ConnConfig) (extra : Pairs) where
  abbrev Once : List Question → Type 0
  Once xs = AsksOnce config.members.cluster extra xs

  none_once : (xs : List Question) → xs ≡ [] → Once xs
  none_once xs e = subst Once (sym e) tt

  -- it asked to enter, and then something else
  abbrev Entered : List Question → Type 0
  Entered [] = ⊥
  Entered (x ∷ xs) = Once (x ∷ xs)

  entered_once : (xs : List Question) → Entered xs → Once xs
  entered_once [] h = absurd h
  entered_once (x ∷ xs) h = h

  entered_more : (xs : List Question) (x : Question) → AsksElse x → Entered xs → Entered (xs ++ x ∷ [])
  entered_more [] x h e = absurd e
  entered_more (enter need ∷ xs) x h e = (e.0, all_append AsksElse xs (x ∷ []) e.1 (h, tt))
  entered_more (_ ∷ xs) x h e = absurd e

  -- ---- the stages

  -- a transaction is open, or ends
  abbrev InTx : Doing → List Request → Type 0
  InTx (opened tx) qs = AreSteps qs
  InTx (asks (run calls) (adds tx)) qs = AreSteps qs
  InTx (asks (leave calls told) leaves) qs = MayLeave qs
  InTx _ qs = ⊥

  -- before BEGIN, behind it, or behind the end
  abbrev AtRest : Doing → List Request → List Question → Type 0
  AtRest idle qs xs = (IsTransaction extra qs × (xs ≡ [])) ⊎ (MayLeave qs × Once xs)
  AtRest (asks (enter need) (begins write)) qs xs = AreSteps qs × Entered xs
  AtRest _ qs xs = ⊥

  abbrev Stage : ConnState → Doing → List Request → List Question → Type 0
  Stage Connected idle qs xs = LogsIn (IsTransaction extra) qs × (xs ≡ [])
  Stage Ready d qs xs = AtRest d qs xs
  Stage TxReady d qs xs = InTx d qs × Entered xs
  Stage TxStreaming d qs xs = InTx d qs × Entered xs
  Stage Failed idle qs xs = AreSteps qs × Once xs
  Stage (Ended why) d qs xs = Once xs
  Stage _ _ _ _ = ⊥

  abbrev Goes : Turned → List Request → List Question → Type 0
  Goes turn qs xs = After config questions_of Stage turn qs xs

  abbrev at : ConnState → Doing → ℕ → Situation
  at s d number = record { state = s; number = number; doing = d }

  -- ---- a turn that asks nothing

  quiet : (turn : Turned) (qs : List Request) (xs : List Question) → questions_of turn.written ≡ []
      → Stage turn.place.state turn.place.doing qs xs → Goes turn qs xs
  quiet turn qs xs e h = record { now = xs; is = ap (λ (ys : List Question). xs ++ ys) e ∙ append-nil xs; stage = h }

  after_if : (b : Bool) (x y : Turned) (qs : List Request) (xs : List Question) → Goes x qs xs → Goes y qs xs
      → Goes (if b then x else y) qs xs
  after_if true x y qs xs h k = h
  after_if false x y qs xs h k = k

  fail_after : (p : Situation) (refusal : Refusal) (qs : List Request) (xs : List Question) → AreSteps qs → Once xs
      → Goes (fails p refusal) qs xs
  fail_after p refusal qs xs h once = quiet (fails p refusal) qs xs refl (h, once)

  after_check : {A : Type 0} (p : Situation) (x : Checked A) (go : A → Turned) (qs : List Request) (xs : List Question) → AreSteps qs → Once xs
      → ((a : A) → x ≡ Ok a → Goes (go a) qs xs) → Goes (elim x [ Err refusal ↦ fails p refusal | Ok a ↦ go a ]) qs xs
  after_check p (Err refusal) go qs xs h once k = fail_after p refusal qs xs h once
  after_check p (Ok a) go qs xs h once k = k a refl

  -- ---- requests: before BEGIN

  hello_after : (p : Situation) (b : Bool) (qs : List Request) (xs : List Question) → IsTransaction extra qs → xs ≡ []
      → Goes (if b then rests p Ready (hello_meta config.conn) else refuses p r.Unauthorized) qs xs
  hello_after p b qs xs h e =
      after_if b (rests p Ready (hello_meta config.conn)) (refuses p r.Unauthorized) qs xs
      (quiet (rests p Ready (hello_meta config.conn)) qs xs refl (inl (h, e)))
      (quiet (refuses p r.Unauthorized) qs xs refl (none_once xs e))

  at_connected : (number : ℕ) (m : Request) (qs : List Request) (xs : List Question) → LogsIn (IsTransaction extra) (m ∷ qs) → xs ≡ []
      → Goes (answered config (counted (at Connected idle number)) (turn_of Connected m)) qs xs
  at_connected number (q.Hello login) qs xs h e =
      hello_after (counted (at Connected idle number)) (is_welcome config.auth login) qs xs h e
  at_connected number q.Goodbye qs xs h e = quiet _ qs xs refl (none_once xs e)
  at_connected number _ qs xs h e = absurd h

  abbrev request_ok : Request → Result Request MessageError
  request_ok m = Ok m

  same_begin : (given : Pairs) (m : Request) (found : Pairs) → request_ok (q.Begin given) ≡ Ok m
      → beginning (turn_of Ready m) ≡ Some found → given ≡ found
  same_begin given m found e b =
      let same : q.Begin given ≡ m = cc in
      let is : Some given ≡ Some found = ap (λ (x : Request). beginning (turn_of Ready x)) same ∙ b in
      cc

  -- what BEGIN needs is the greatest place that it presents
  begin_needs : (number : ℕ) (given : Pairs) (entrance : Entrance) → request_at (short_request (q.Begin given)) ≡ Ok (q.Begin given)
      → entrance_of config.members.cluster given ≡ Ok entrance → given ≡ extra
      → (places : List ℕ) × Presents config.members.cluster extra places × IsGreatest entrance.need places
  begin_needs number given entrance reads e same =
      let p = at Ready idle number in
      let is : questions_of (on_message config p (short_request (q.Begin given))).written ≡ enter entrance.need ∷ [] =
      rw (reads, e, on_message, begins_one) refl in
      let n = needs_the_greatest config p (short_request (q.Begin given)) entrance.need is in
      let b = n.1 in
      let found : given ≡ b.extra = same_begin given b.request b.extra (sym reads ∙ b.reads) b.begins in
      (n.0, subst (λ (x : Pairs). Presents config.members.cluster x n.0) (sym found ∙ same) b.presents, n.2)

  begin_after : (number : ℕ) (given : Pairs) (qs : List Request) (xs : List Question)
      → request_at (short_request (q.Begin given)) ≡ Ok (q.Begin given)
      → given ≡ extra → AreSteps qs → xs ≡ [] → Goes (begins_one config (counted (at Ready idle number)) given) qs xs
  begin_after number given qs xs reads same h none =
      let p = counted (at Ready idle number) in
      after_check p (entrance_of config.members.cluster given)
      (λ (entrance : Entrance). puts p (enter entrance.need) (begins entrance.write)) qs xs h
      (none_once xs none)
      (λ entrance e. record {
        now = enter entrance.need ∷ [];
        is = ap (λ (l : List Question). l ++ enter entrance.need ∷ []) none;
        stage = (h, (begin_needs number given entrance reads e same, tt));
      })

  at_ready : (number : ℕ) (m : Request) (qs : List Request) (xs : List Question) → request_at (short_request m) ≡ Ok m
      → AtRest idle (m ∷ qs) xs → Goes (answered config (counted (at Ready idle number)) (turn_of Ready m)) qs xs
  at_ready number (q.Begin given) qs xs reads (inl h) = begin_after number given qs xs reads h.0.0 h.0.1 h.1
  at_ready number q.Goodbye qs xs reads (inl h) = quiet _ qs xs refl (none_once xs h.1)
  at_ready number _ qs xs reads (inl h) = absurd h.0
  at_ready number q.Goodbye qs xs reads (inr h) = quiet _ qs xs refl h.1
  at_ready number _ qs xs reads (inr h) = absurd h.0

  at_failed : (number : ℕ) (m : Request) (qs : List Request) (xs : List Question) → AreSteps (m ∷ qs) → Once xs
      → Goes (answered config (counted (at Failed idle number)) (turn_of Failed m)) qs xs
  at_failed number (q.Run query params given) qs xs h once = quiet _ qs xs refl (h, once)
  at_failed number (q.Pull given) qs xs h once = quiet _ qs xs refl (h, once)
  at_failed number q.Commit qs xs h once = quiet _ qs xs refl (leave_steps qs h, once)
  at_failed number q.Goodbye qs xs h once = quiet _ qs xs refl once
  at_failed number _ qs xs h once = absurd h

  -- ---- requests in a transaction

  -- what a state takes in which a transaction is open
  abbrev IsOpenState : ConnState → Type 0
  IsOpenState s = (d : Doing) (qs : List Request) (xs : List Question) → InTx d qs → Entered xs → Stage s d qs xs

  -- a question of the transaction
  asks_more : (p : Situation) (x : Question) (n : Next) (qs : List Request) (xs : List Question) → IsOpenState p.state → InTx (asks x n) qs
      → AsksElse x → Entered xs → Goes (puts p x n) qs xs
  asks_more p x n qs xs k h other e =
      record { now = xs ++ x ∷ []; is = refl; stage = k (asks x n) qs (xs ++ x ∷ []) h (entered_more xs x other e) }

  step_after : (p : Situation) (tx : Tx) (query : List ℕ) (params : Pairs) (qs : List Request) (xs : List Question) → IsOpenState p.state
      → AreSteps qs → Entered xs → Goes (runs_step p tx query params) qs xs
  step_after p tx query params qs xs k h entered =
      after_check p (checked_step tx query params)
      (λ (call : Call). puts p (run (tx.steps ++ call ∷ [])) (adds (without_steps tx))) qs xs h (entered_once xs entered)
      (λ call e. asks_more p (run (tx.steps ++ call ∷ [])) (adds (without_steps tx)) qs xs k h tt entered)

  commit_after : (p : Situation) (tx : Tx) (qs : List Request) (xs : List Question) → IsOpenState p.state → MayLeave qs → Entered xs
      → Goes (ends_tx p tx) qs xs
  commit_after p tx qs xs k h entered =
      after_if (may_leave tx.steps tx.told) (puts p (leave tx.steps tx.told) leaves) (fails p r.TooLarge) qs xs
      (asks_more p (leave tx.steps tx.told) leaves qs xs k h tt entered)
      (fail_after p r.TooLarge qs xs (leave_steps qs h) (entered_once xs entered))

  open_stage : (b : Bool) (tx : Tx) (qs : List Request) (xs : List Question) → AreSteps qs → Entered xs
      → Stage (if b then TxReady else TxStreaming) (opened tx) qs xs
  open_stage true tx qs xs h entered = (h, entered)
  open_stage false tx qs xs h entered = (h, entered)

  abbrev streams : ℕ → Situation
  streams number = at TxStreaming idle number

  on_after : (number : ℕ) (tx : Tx) (result : ℕ) (more : Bool) (qs : List Request) (xs : List Question) → AreSteps qs → Entered xs
      → Goes (goes_on (streams number) tx result more) qs xs
  on_after number tx result true qs xs h entered = quiet _ qs xs refl (h, entered)
  on_after number tx result false qs xs h entered = quiet _ qs xs refl (open_stage (tx.unended == 0) tx qs xs h entered)

  preceded_after : (keep : Bool) (rows : List Row) (turn : Turned) (qs : List Request) (xs : List Question) → Goes turn qs xs
      → Goes (preceded (records keep rows) turn) qs xs
  preceded_after keep rows turn qs xs a = record {
    now = a.now;
    is = ap (λ (ys : List Question). xs ++ ys) (replies_ask keep rows turn.written) ∙ a.is;
    stage = a.stage;
  }

  pull_after : (number : ℕ) (tx : Tx) (given : Pairs) (qs : List Request) (xs : List Question) → AreSteps qs → Entered xs
      → Goes (pulls (streams number) tx true given) qs xs
  pull_after number tx given qs xs h entered =
      after_check (streams number) _ (λ (wish : Wish). pulls_wish (streams number) tx true wish) qs xs h (entered_once xs entered)
      (λ wish e.
      let rows = taken wish.count (left_in tx wish) in
      let more = are_left wish.count (left_in tx wish) in
      preceded_after true rows (goes_on (streams number) (pulled tx wish (length rows) more) wish.number more) qs xs
      (on_after number (pulled tx wish (length rows) more) wish.number more qs xs h entered))

  open_ready : IsOpenState TxReady
  open_ready d qs xs h entered = (h, entered)

  open_streaming : IsOpenState TxStreaming
  open_streaming d qs xs h entered = (h, entered)

  in_ready : (number : ℕ) (tx : Tx) (m : Request) (qs : List Request) (xs : List Question) → AreSteps (m ∷ qs) → Entered xs
      → Goes (answered config (counted (at TxReady (opened tx) number)) (turn_of TxReady m)) qs xs
  in_ready number tx (q.Run query params given) qs xs h entered =
      step_after (freed (counted (at TxReady (opened tx) number))) tx query params qs xs open_ready h entered
  in_ready number tx (q.Pull given) qs xs h entered =
      fail_after (counted (at TxReady (opened tx) number)) r.OutOfPlace qs xs h (entered_once xs entered)
  in_ready number tx q.Commit qs xs h entered = commit_after (freed (counted (at TxReady (opened tx) number))) tx qs xs open_ready h entered
  in_ready number tx q.Goodbye qs xs h entered = quiet _ qs xs refl (entered_once xs entered)
  in_ready number tx _ qs xs h entered = absurd h

  in_streaming : (number : ℕ) (tx : Tx) (m : Request) (qs : List Request) (xs : List Question) → AreSteps (m ∷ qs) → Entered xs
      → Goes (answered config (counted (at TxStreaming (opened tx) number)) (turn_of TxStreaming m)) qs xs
  in_streaming number tx (q.Run query params given) qs xs h entered =
      step_after (freed (counted (at TxStreaming (opened tx) number))) tx query params qs xs open_streaming h entered
  in_streaming number tx (q.Pull given) qs xs h entered =
      pull_after (counted (at TxStreaming (opened tx) number)).number tx given qs xs h entered
  in_streaming number tx q.Commit qs xs h entered =
      commit_after (freed (counted (at TxStreaming (opened tx) number))) tx qs xs open_streaming h entered
  in_streaming number tx q.Goodbye qs xs h entered = quiet _ qs xs refl (entered_once xs entered)
  in_streaming number tx _ qs xs h entered = absurd h

  waits_not : (x : Question) (n : Next) → question_in (asks x n) ≡ None → ⊥
  waits_not x n e = let same : Some x ≡ None = e in cc

  on_request : (s : ConnState) (d : Doing) (number : ℕ) (m : Request) (qs : List Request) (xs : List Question) → is_ended s ≡ false
      → question_in d ≡ None → request_at (short_request m) ≡ Ok m → Stage s d (m ∷ qs) xs
      → Goes (answered config (counted (at s d number)) (turn_of s m)) qs xs
  on_request Connected idle number m qs xs live none reads h = at_connected number m qs xs h.0 h.1
  on_request Ready idle number m qs xs live none reads h = at_ready number m qs xs reads h
  on_request TxReady (opened tx) number m qs xs live none reads h = in_ready number tx m qs xs h.0 h.1
  on_request TxStreaming (opened tx) number m qs xs live none reads h = in_streaming number tx m qs xs h.0 h.1
  on_request Failed idle number m qs xs live none reads h = at_failed number m qs xs h.0 h.1
  on_request (Ended why) d number m qs xs live none reads h = absurd (let same : true ≡ false = live in cc)
  on_request TxReady idle number m qs xs live none reads h = absurd h.0
  on_request TxStreaming idle number m qs xs live none reads h = absurd h.0
  on_request s (asks x n) number m qs xs live none reads h = absurd (waits_not x n none)
  on_request _ _ number m qs xs live none reads h = absurd h

  -- ---- facts

  begun_after : (p : Situation) (write : Bool) (fact : Fact) (qs : List Request) (xs : List Question) → AreSteps qs → Entered xs
      → Goes (after_begin p write fact) qs xs
  begun_after p write (f.Entered place) qs xs h entered = quiet _ qs xs refl (h, entered)
  begun_after p write fact qs xs h entered = fail_after p (refusal_of fact) qs xs h (entered_once xs entered)

  rows_after : (p : Situation) (calls : List Call) (tx : Tx) (rows : List Row) (qs : List Request) (xs : List Question)
      → Goes (tells_columns p (with_rows calls tx rows) (length tx.told)) qs xs → AreSteps qs → Entered xs
      → Goes (adds_rows p calls tx rows) qs xs
  rows_after p calls tx rows qs xs k h entered =
      after_if (nat_lt max_bytes (tx.kept + rows_len rows)) (fails p r.TooLarge)
      (tells_columns p (with_rows calls tx rows) (length tx.told)) qs xs
      (fail_after p r.TooLarge qs xs h (entered_once xs entered)) k

  ready_rows : (number : ℕ) (calls : List Call) (tx : Tx) (fact : Fact) (qs : List Request) (xs : List Question) → AreSteps qs → Entered xs
      → Goes (after_step (at TxReady idle number) calls tx fact) qs xs
  ready_rows number calls tx (f.Rows place rows) qs xs h entered =
      rows_after (at TxReady idle number) calls tx rows qs xs (quiet _ qs xs refl (h, entered)) h entered
  ready_rows number calls tx fact qs xs h entered = fail_after (at TxReady idle number) (refusal_of fact) qs xs h (entered_once xs entered)

  streaming_rows : (number : ℕ) (calls : List Call) (tx : Tx) (fact : Fact) (qs : List Request) (xs : List Question) → AreSteps qs
      → Entered xs → Goes (after_step (streams number) calls tx fact) qs xs
  streaming_rows number calls tx (f.Rows place rows) qs xs h entered =
      rows_after (streams number) calls tx rows qs xs (quiet _ qs xs refl (h, entered)) h entered
  streaming_rows number calls tx fact qs xs h entered = fail_after (streams number) (refusal_of fact) qs xs h (entered_once xs entered)

  ended_after : (p : Situation) (calls : List Call) (fact : Fact) (qs : List Request) (xs : List Question) → MayLeave qs → Entered xs
      → Goes (after_end config p calls fact) qs xs
  ended_after p calls (f.Done place) qs xs h entered = quiet _ qs xs refl (inr (h, entered_once xs entered))
  ended_after p calls (f.Placed place) qs xs h entered = quiet _ qs xs refl (inr (h, entered_once xs entered))
  ended_after p calls fact qs xs h entered = fail_after p (refusal_of fact) qs xs (leave_steps qs h) (entered_once xs entered)

  rest_fact : (number : ℕ) (x : Question) (n : Next) (fact : Fact) (qs : List Request) (xs : List Question) → AtRest (asks x n) qs xs
      → Goes (heard config (at Ready idle number) x n fact) qs xs
  rest_fact number (enter need) (begins write) fact qs xs h = begun_after (at Ready idle number) write fact qs xs h.0 h.1
  rest_fact number _ _ fact qs xs h = absurd h

  ready_fact : (number : ℕ) (x : Question) (n : Next) (fact : Fact) (qs : List Request) (xs : List Question) → InTx (asks x n) qs
      → Entered xs → Goes (heard config (at TxReady idle number) x n fact) qs xs
  ready_fact number (run calls) (adds tx) fact qs xs h entered = ready_rows number calls tx fact qs xs h entered
  ready_fact number (leave calls told) leaves fact qs xs h entered = ended_after (at TxReady idle number) calls fact qs xs h entered
  ready_fact number _ _ fact qs xs h entered = absurd h

  streaming_fact : (number : ℕ) (x : Question) (n : Next) (fact : Fact) (qs : List Request) (xs : List Question) → InTx (asks x n) qs
      → Entered xs → Goes (heard config (streams number) x n fact) qs xs
  streaming_fact number (run calls) (adds tx) fact qs xs h entered = streaming_rows number calls tx fact qs xs h entered
  streaming_fact number (leave calls told) leaves fact qs xs h entered = ended_after (streams number) calls fact qs xs h entered
  streaming_fact number _ _ fact qs xs h entered = absurd h

  on_fact : (s : ConnState) (number : ℕ) (x : Question) (n : Next) (fact : Fact) (qs : List Request) (xs : List Question)
      → is_ended s ≡ false → Stage s (asks x n) qs xs → Goes (heard config (at s idle number) x n fact) qs xs
  on_fact Ready number x n fact qs xs live h = rest_fact number x n fact qs xs h
  on_fact TxReady number x n fact qs xs live h = ready_fact number x n fact qs xs h.0 h.1
  on_fact TxStreaming number x n fact qs xs live h = streaming_fact number x n fact qs xs h.0 h.1
  on_fact (Ended why) number x n fact qs xs live h = absurd (let same : true ≡ false = live in cc)
  on_fact _ number x n fact qs xs live h = absurd h

  on_end : (s : ConnState) (d : Doing) (m : Request) (qs : List Request) (xs : List Question) → is_ended s ≡ true → Stage s d (m ∷ qs) xs
      → Stage s d qs xs
  on_end (Ended why) d m qs xs e h = h
  on_end _ d m qs xs e h = absurd (cc)

  -- at each stage it was asked once at most
  stage_once : (s : ConnState) (d : Doing) (qs : List Request) (xs : List Question) → Stage s d qs xs → Once xs
  stage_once Connected idle qs xs h = none_once xs h.1
  stage_once Ready idle qs xs (inl h) = none_once xs h.1
  stage_once Ready idle qs xs (inr h) = h.1
  stage_once Ready (asks (enter need) (begins write)) qs xs h = entered_once xs h.1
  stage_once Ready _ qs xs h = absurd h
  stage_once TxReady d qs xs h = entered_once xs h.1
  stage_once TxStreaming d qs xs h = entered_once xs h.1
  stage_once Failed idle qs xs h = h.1
  stage_once (Ended why) d qs xs h = h
  stage_once _ _ qs xs h = absurd h

  walk : Walk config questions_of Stage
  walk = record {
    join = questions_join;
    nothing = refl;
    on_request = λ p m qs xs live none reads h. on_request p.state p.doing p.number m qs xs live none reads h;
    on_fact = λ p x n fact qs xs live h. on_fact p.state p.number x n fact qs xs live h;
    on_long = λ p qs xs h. quiet (on_live config p too_long) qs xs refl (stage_once p.state p.doing qs xs h);
    on_end = on_end;
  }

pub enters_once : EntersOnce
enters_once config extra bytes facts c =
    elim (walks config questions_of (Stage config extra) (walk config extra) c.0 bytes facts c.2 (c.1, refl)) [
      | inl e ↦ none_once config extra _ (ap questions_of e)
      | inr w ↦ subst (λ (out : List Output). Once config extra (questions_of out)) (sym w.1)
          (stage_once config extra w.2.place.state w.2.place.doing w.2.left (questions_of w.0) w.2.stage)
    ]
