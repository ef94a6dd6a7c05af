-- A bookmark that a session tells is that of a fact by which it was told that a transaction is done.
use Rattle.std.proofs.Common.{◌≡◌, inl, inr, ℕ, ◌+◌, ◌<◌, ◌≤◌, Bool, true, false, List, [], ◌∷◌, ◌++◌, length, map, drop}
use Rattle.std.proofs.Common.{refl, sym, ap, subst, ◌∙◌, append_assoc, append-nil, arith}
use Rattle.std.specs.Prelude.{if◌then◌else◌, nat_lt, Some, Result, Ok, Err}
use Rattle.std.specs.List.{AllByRecursion, Contains, flat_map}
use Rattle.std.proofs.lemmas.List.Elements.{Contains-append_left, Contains-append_right}
use Rattle.ncc_bolt.specs.Fields.{Pairs}
use Rattle.ncc_bolt.specs.Reading.{request_at}
use Rattle.ncc_bolt.specs.Writing.{short_response}
use Rattle.ncc_bolt.specs.declared.error.MessageError.{MessageError}
use Rattle.ncc_bolt.specs.declared.message.Request.{Request}
use Rattle.ncc_bolt.specs.declared.message.Response.{Response}
use Rattle.ncc_bolt.specs.declared.message.Response.TheVariants as s
use Rattle.ncc_bookmark.specs.Spelling.{text_of}
use Rattle.ncc_chunk.specs.declared.handshake.Shake.{Shake}
use Rattle.ncc_chunk.specs.declared.handshake.Shake.TheVariants.{More, Chosen, BadMagic, NoVersion}
use Rattle.ncc_chunk.specs.Chunked.{chunked}
use Rattle.ncc_chunk.specs.Chunks.{limit}
use Rattle.ncc_chunk.specs.Handshake.{answer_to, handshake_of}
use Rattle.ncc_chunk.specs.Messages.{messages_of, is_too_long}
use Rattle.ncc_store.specs.declared.call.Call.{Call}
use Rattle.ncc_store.specs.Rows.{rows_len, max_bytes}
use Rattle.ncc_stream.specs.Stream.{behind, going}
use Rattle.ncc_stream.proofs.Going.{going_none, going_some}
use Rattle.ncc_session.specs.declared.config.ConnConfig.{ConnConfig}
use Rattle.ncc_session.specs.declared.state.ConnState.{ConnState}
use Rattle.ncc_session.specs.declared.state.ConnState.TheVariants.{Ready, Streaming, Ended}
use Rattle.ncc_session.specs.declared.state.ConnStop.TheVariants as stop
use Rattle.ncc_session.specs.declared.refusal.Refusal.{Refusal}
use Rattle.ncc_session.specs.declared.refusal.Refusal.TheVariants as r
use Rattle.ncc_session.specs.declared.ask.Fact.{Fact}
use Rattle.ncc_session.specs.declared.ask.Fact.TheVariants as f
use Rattle.ncc_session.specs.declared.table.Turn.{Turn}
use Rattle.ncc_session.specs.declared.table.Turn.TheVariants as t
use Rattle.ncc_session.specs.declared.checks.Wish.{Wish}
use Rattle.ncc_session.specs.declared.checks.Entrance.{Entrance}
use Rattle.ncc_session.specs.Checks.{Checked, is_welcome}
use Rattle.ncc_session.specs.Question.{Question, enter, run, leave, route, Row, Output, wrote, asked, bytes_of, questions_of}
use Rattle.ncc_session.specs.Core.{Tx, Next, begins, runs, adds, leaves, routes, Doing, idle, opened, asks, Situation}
use Rattle.ncc_session.specs.Replies.{reply, success, failure_meta, hello_meta, more_meta, end_meta, table_meta}
use Rattle.ncc_session.specs.Table.{turn_of}
use Rattle.ncc_session.specs.Turns.{Turned, goes, freed, rests, fails, puts, refuses, without_steps, records, pulled, taken, left_in}
use Rattle.ncc_session.specs.Turns.{are_left}
use Rattle.ncc_session.specs.Turns.{kind_in, may_leave, ends_tx, ends_result, goes_on, pulls_wish, pulls_rows, runs_entered}
use Rattle.ncc_session.specs.Turns.{answered, tx_in}
use Rattle.ncc_session.specs.Turns.{with_rows, columns_meta, tells_columns, told_meta, tells_done, after_begin, after_enter, after_step}
use Rattle.ncc_session.specs.Turns.{after_run}
use Rattle.ncc_session.specs.Turns.{refusal_of, after_end, after_leave, after_route, heard}
use Rattle.ncc_session.specs.Session.{Input, shaken, message, too_long, shaken_as, behind_shake, end_of, stream_inputs}
use Rattle.ncc_session.specs.Session.{inputs_of}
use Rattle.ncc_session.specs.Session.{Standing, on_shake, counted, fault_at, on_live, ends, move, start, session}
use Rattle.ncc_session.proofs.Holding.{replies_ask}
use Rattle.ncc_session.proofs.Inputs.{none_of_none}
use Rattle.ncc_session.proofs.Lawful.{lawful}
use Rattle.ncc_session.proofs.Shaken.{more_none}
use Rattle.ncc_session.proofs.Written.{answer_some}
use Rattle.ncc_clients.specs.Transacting.{answers_in, TellsBookmark, WasEnded, WasDoneAt, TellsItsBookmark}
use Rattle.ncc_clients.proofs.Asked.{questions_join}
use Rattle.ncc_clients.proofs.Lists.{all_weaker, all_append}
use Rattle.ncc_clients.proofs.Honest.{IsSilent, Tells, failure_silent, row_silent, ignored_silent, none_silent, hello_silent, more_silent}
use Rattle.ncc_clients.proofs.Honest.{end_silent, table_silent, run_silent, step_silent, kind_in_fits, commit_tells, done_tells}
use Rattle.ncc_clients.proofs.Streams.{each_message, no_messages}
use Rattle.ncc_clients.proofs.Moving.{Moved, drops, takes, hearkens, moved, all_keep, stand, connected, starts, rests_at_start}

module _ (config : ConnConfig) (all : List Fact) where
  -- ---- what is kept of each output, where these questions were asked

  abbrev Claims : List Question → List ℕ → Type 0
  Claims qs text =
      WasEnded qs × (place : ℕ) × WasDoneAt all place × (text ≡ text_of (record { cluster = config.members.cluster; place = place }))

  abbrev Honest : List Question → List ℕ → Type 0
  Honest qs m = (text : List ℕ) → TellsBookmark m text → Claims qs text

  abbrev Fine : List Question → Output → Type 0
  Fine qs (asked q) = Unit {0}
  Fine qs (wrote bytes) = (m : List ℕ) × (bytes ≡ chunked m) × (0 < length m) × (length m ≤ limit → Honest qs m)

  abbrev Asked : Doing → List Question → Type 0
  Asked (asks q n) qs = Contains qs q
  Asked _ qs = Unit {0}

  fine_more : (qs more : List Question) (o : Output) → Fine qs o → Fine (qs ++ more) o
  fine_more qs more (asked q) h = tt
  fine_more qs more (wrote bytes) h = (
    h.0,
    h.1,
    h.2,
    λ le text t.
        let c = h.3 le text t in
        ((c.0.0, c.0.1, Contains-append_left qs more (leave c.0.0 c.0.1) c.0.2), c.1, c.2, c.3),
  )

  asked_more : (qs more : List Question) (d : Doing) → Asked d qs → Asked d (qs ++ more)
  asked_more qs more (asks q n) h = Contains-append_left qs more q h
  asked_more qs more idle h = tt
  asked_more qs more (opened tx) h = tt

  -- what a turn puts out is fine, and what it waits for it asked
  record Good (qs : List Question) (turn : Turned) : Type 0 where
    fine : AllByRecursion (Fine qs) turn.written
    asking : Asked turn.place.doing (qs ++ questions_of turn.written)

  module _ (qs : List Question) where
    said : (m : Response) → IsSilent (short_response m) → Fine qs (reply m)
    said m h = (short_response m, refl, answer_some m, λ le text t. absurd (h text le t))

    by_if : (b : Bool) (x y : Turned) → Good qs x → Good qs y → Good qs (if b then x else y)
    by_if true x y h k = h
    by_if false x y h k = k

    fail_good : (p : Situation) (refusal : Refusal) → Good qs (fails p refusal)
    fail_good p refusal =
        record { fine = (said (s.Failure (failure_meta refusal)) (failure_silent (failure_meta refusal)), tt); asking = tt }

    refuse_good : (p : Situation) (refusal : Refusal) → Good qs (refuses p refusal)
    refuse_good p refusal =
        record { fine = (said (s.Failure (failure_meta refusal)) (failure_silent (failure_meta refusal)), tt); asking = tt }

    rest_good : (p : Situation) (state : ConnState) (meta : Pairs) → IsSilent (short_response (s.Success meta)) → Good qs (rests p state meta)
    rest_good p state meta h = record { fine = (said (s.Success meta) h, tt); asking = tt }

    open_good : (p : Situation) (state : ConnState) (tx : Tx) (meta : Pairs) → IsSilent (short_response (s.Success meta))
        → Good qs (goes p state (opened tx) (success meta ∷ []))
    open_good p state tx meta h = record { fine = (said (s.Success meta) h, tt); asking = tt }

    put_good : (p : Situation) (q : Question) (n : Next) → Good qs (puts p q n)
    put_good p q n = record { fine = (tt, tt); asking = Contains-append_right qs (q ∷ []) q (0, omega arith, refl) }

    by_check : {A : Type 0} (p : Situation) (x : Checked A) (go : A → Turned) → ((a : A) → Good qs (go a))
        → Good qs (elim x [ Err refusal ↦ fails p refusal | Ok a ↦ go a ])
    by_check p (Err refusal) go h = fail_good p refusal
    by_check p (Ok a) go h = h a

    -- ---- requests

    leave_good : (p : Situation) (tx : Tx) → Good qs (ends_tx p tx)
    leave_good p tx =
        by_if (may_leave tx.steps tx.told) (puts p (leave tx.steps tx.told) leaves) (fails p r.TooLarge)
        (put_good p (leave tx.steps tx.told) leaves) (fail_good p r.TooLarge)

    result_good : (p : Situation) (state : ConnState) (tx : Tx) (number : ℕ) → Good qs (ends_result p state tx number)
    result_good p Streaming tx number = leave_good p tx
    result_good p _ tx number = open_good p _ tx (end_meta (kind_in tx.steps number))
        (end_silent (kind_in tx.steps number) (kind_in_fits tx.steps number))

    on_good : (p : Situation) (tx : Tx) (number : ℕ) (more : Bool) → Good qs (goes_on p tx number more)
    on_good p tx number true = open_good p p.state tx more_meta more_silent
    on_good p tx number false = result_good p p.state tx number

    rows_fine : (rows : List Row) → AllByRecursion (Fine qs) (map (λ (row : Row). reply (s.Row row)) rows)
    rows_fine [] = tt
    rows_fine (row ∷ rows) = (said (s.Row row) (row_silent row), rows_fine rows)

    records_fine : (keep : Bool) (rows : List Row) → AllByRecursion (Fine qs) (records keep rows)
    records_fine true rows = rows_fine rows
    records_fine false rows = tt

    pulled_good : (p : Situation) (tx : Tx) (keep : Bool) (wish : Wish) (rows : List Row) (more : Bool)
        → Good qs (pulls_rows p tx keep wish rows more)
    pulled_good p tx keep wish rows more =
        let after = goes_on p (pulled tx wish (length rows) more) wish.number more in
        let g = on_good p (pulled tx wish (length rows) more) wish.number more in
        record {
          fine = all_append (Fine qs) (records keep rows) after.written (records_fine keep rows) g.fine;
          asking = subst (λ (x : List Question). Asked after.place.doing (qs ++ x)) (sym (replies_ask keep rows after.written)) g.asking;
        }

    answered_good : (p : Situation) (turn : Turn) → Good qs (answered config p turn)
    answered_good p (t.Login extra) =
        by_if (is_welcome config.auth extra) (rests p Ready (hello_meta config.conn)) (refuses p r.Unauthorized)
        (rest_good p Ready (hello_meta config.conn) (hello_silent config.conn)) (refuse_good p r.Unauthorized)
    answered_good p t.HelloExpected = refuse_good p r.HelloExpected
    answered_good p t.End = record { fine = tt; asking = tt }
    answered_good p t.Reset = rest_good p Ready [] none_silent
    answered_good p t.Ignore = record { fine = (said s.Ignored ignored_silent, tt); asking = tt }
    answered_good p (t.Run query params extra) =
        by_check p _ (λ entrance. runs_entered p query params entrance)
        (λ (entrance : Entrance). by_check p _ (λ call. puts p (enter entrance.need) (runs entrance.write call))
        (λ call. put_good p (enter entrance.need) (runs entrance.write call)))
    answered_good p (t.Begin extra) =
        by_check p _ (λ (entrance : Entrance). puts p (enter entrance.need) (begins entrance.write))
        (λ entrance. put_good p (enter entrance.need) (begins entrance.write))
    answered_good p (t.Route bookmarks extra) = by_check p _ (λ (need : ℕ). puts p route routes) (λ need. put_good p route routes)
    answered_good p (t.Rows extra keep) =
        let tx = tx_in p.doing in
        by_check (freed p) _ (λ wish. pulls_wish (freed p) tx keep wish)
        (λ (wish : Wish). pulled_good (freed p) tx keep wish (taken wish.count (left_in tx wish)) (are_left wish.count (left_in tx wish)))
    answered_good p (t.Step query params) =
        let tx = tx_in p.doing in
        by_check (freed p) _ (λ (call : Call). puts (freed p) (run (tx.steps ++ call ∷ [])) (adds (without_steps tx)))
        (λ call. put_good (freed p) (run (tx.steps ++ call ∷ [])) (adds (without_steps tx)))
    answered_good p t.Commit = leave_good (freed p) (tx_in p.doing)
    answered_good p t.Rollback = rest_good p Ready [] none_silent
    answered_good p t.OutOfPlace = fail_good p r.OutOfPlace

    -- ---- facts

    begin_good : (p : Situation) (write : Bool) (fact : Fact) → Good qs (after_begin p write fact)
    begin_good p write (f.Entered at) = open_good p _ _ [] none_silent
    begin_good p write fact = fail_good p (refusal_of fact)

    enter_good : (p : Situation) (write : Bool) (call : Call) (fact : Fact) → Good qs (after_enter p write call fact)
    enter_good p write call (f.Entered at) = put_good p _ _
    enter_good p write call fact = fail_good p (refusal_of fact)

    columns_silent : (state : ConnState) (calls : List Call) (number : ℕ)
        → IsSilent (short_response (s.Success (columns_meta state calls number)))
    columns_silent Ready calls number = run_silent calls
    columns_silent _ calls number = step_silent calls number

    step_good : (p : Situation) (calls : List Call) (tx : Tx) (fact : Fact) → Good qs (after_step p calls tx fact)
    step_good p calls tx (f.Rows at rows) =
        by_if (nat_lt max_bytes (tx.kept + rows_len rows)) (fails p r.TooLarge)
        (tells_columns p (with_rows calls tx rows) (length tx.told))
        (fail_good p r.TooLarge)
        (open_good p _ (with_rows calls tx rows) (columns_meta p.state calls (length tx.told))
        (columns_silent p.state calls (length tx.told)))
    step_good p calls tx fact = fail_good p (refusal_of fact)

    run_good : (p : Situation) (q : Question) (tx : Tx) (fact : Fact) → Good qs (after_run p q tx fact)
    run_good p (run calls) tx fact = step_good p calls tx fact
    run_good p _ tx fact = fail_good p (refusal_of fact)

    -- what is told at this place is told of a transaction that ended
    told_tells : (state : ConnState) (calls : List Call) (at : ℕ)
        → Tells config.members.cluster at (short_response (s.Success (told_meta config.members.cluster state calls at)))
    told_tells Streaming calls at = done_tells config.members.cluster at (kind_in calls 0) (kind_in_fits calls 0)
    told_tells _ calls at = commit_tells config.members.cluster at

    done_good : (p : Situation) (state : ConnState) (calls : List Call) (at : ℕ) → WasEnded qs → WasDoneAt all at
        → Good qs (tells_done config p state calls at)
    done_good p state calls at ended done =
        let meta = told_meta config.members.cluster state calls at in
        record {
          fine = (
            (
              short_response (s.Success meta),
              refl,
              answer_some (s.Success meta),
              λ le text t. (ended, at, done, told_tells state calls at text t),
            ),
            tt,
          );
          asking = tt;
        }

    end_good : (p : Situation) (calls : List Call) (fact : Fact) → WasEnded qs → Contains all fact → Good qs (after_end config p calls fact)
    end_good p calls (f.Done at) ended among = done_good p p.state calls at ended (inr among)
    end_good p calls (f.Placed at) ended among = done_good p p.state calls at ended (inl among)
    end_good p calls fact ended among = fail_good p (refusal_of fact)

    left_good : (p : Situation) (q : Question) (fact : Fact) → Contains qs q → Contains all fact → Good qs (after_leave config p q fact)
    left_good p (leave calls told) fact there among = end_good p calls fact (calls, told, there) among
    left_good p _ fact there among = fail_good p (refusal_of fact)

    route_good : (p : Situation) (fact : Fact) → Good qs (after_route config p fact)
    route_good p (f.Routed leader) =
        rest_good p Ready (table_meta config.members leader config.ttl) (table_silent config.members leader config.ttl)
    route_good p fact = fail_good p (refusal_of fact)

    heard_good : (p : Situation) (q : Question) (n : Next) (fact : Fact) → Contains qs q → Contains all fact → Good qs (heard config p q n fact)
    heard_good p q (begins write) fact there among = begin_good p write fact
    heard_good p q (runs write call) fact there among = enter_good p write call fact
    heard_good p q (adds tx) fact there among = run_good p q tx fact
    heard_good p q leaves fact there among = left_good p q fact there among
    heard_good p q routes fact there among = route_good p fact

    -- ---- what comes in behind the handshake

    message_good : (p : Situation) (bytes : List ℕ) (x : Result Request MessageError)
        → Good qs (elim x [
          | Ok request ↦ answered config (counted p) (turn_of p.state request)
          | Err cause ↦ ends p (stop.Malformed p.number (fault_at (length bytes) cause) cause) []
        ])
    message_good p bytes (Ok request) = answered_good (counted p) (turn_of p.state request)
    message_good p bytes (Err cause) = record { fine = tt; asking = tt }

    abbrev Comes : Input → Type 0
    Comes (shaken shake) = ⊥
    Comes _ = Unit {0}

    live_good : (p : Situation) (i : Input) → Comes i → Good qs (on_live config p i)
    live_good p (shaken shake) h = absurd h
    live_good p (message bytes) h = message_good p bytes (request_at bytes)
    live_good p too_long h = record { fine = tt; asking = tt }

  -- ---- over whole sessions

  record Kept (p : Situation) (is : List Input) (fs : List Fact) (w : List Output) : Type 0 where
    comes : AllByRecursion (Comes []) is
    told : List Fact
    facts_are : told ++ fs ≡ all
    asking : Asked p.doing (questions_of w)
    fine : AllByRecursion (Fine (questions_of w)) w

  goes_good : (w : List Output) (turn : Turned) → AllByRecursion (Fine (questions_of w)) w → Good (questions_of w) turn
      → Asked turn.place.doing (questions_of (w ++ turn.written))
      × AllByRecursion (Fine (questions_of (w ++ turn.written))) (w ++ turn.written)
  goes_good w turn h g =
      let join = questions_join w turn.written in
      let more = all_weaker (Fine (questions_of w)) (Fine (questions_of w ++ questions_of turn.written))
      (fine_more (questions_of w) (questions_of turn.written)) (w ++ turn.written)
      (all_append (Fine (questions_of w)) w turn.written h g.fine) in (
        subst (Asked turn.place.doing) (sym join) g.asking,
        subst (λ (qs : List Question). AllByRecursion (Fine qs) (w ++ turn.written)) (sym join) more,
      )

  one_kept : (p : Situation) (is : List Input) (fs : List Fact) (w : List Output) (t : Standing) → Moved config p is fs t → Kept p is fs w
      → Kept t.core t.items t.facts (w ++ t.written)
  one_kept p _ _ w _ (drops i is fs e) k =
      let turn = goes p p.state p.doing [] in
      let g = goes_good w turn k.fine (record { fine = tt; asking = asked_more (questions_of w) [] p.doing k.asking }) in
      record { comes = k.comes.1; told = k.told; facts_are = k.facts_are; asking = g.0; fine = g.1 }
  one_kept p _ _ w _ (takes i is fs e n) k =
      let g = goes_good w (on_live config p i) k.fine (live_good (questions_of w) p i k.comes.0) in
      record { comes = k.comes.1; told = k.told; facts_are = k.facts_are; asking = g.0; fine = g.1 }
  one_kept p _ _ w _ (hearkens q n fact is fs e d f) k =
      let there : Contains (questions_of w) q = subst (λ (x : Doing). Asked x (questions_of w)) d k.asking in
      let among : Contains all fact =
      subst (λ (x : List Fact). Contains x fact) k.facts_are
      (Contains-append_right k.told (fact ∷ fs) fact (0, omega arith, refl)) in
      let g = goes_good w (heard config (freed p) q n fact) k.fine (heard_good (questions_of w) (freed p) q n fact there among) in
      record {
        comes = k.comes;
        told = k.told ++ fact ∷ [];
        facts_are = append_assoc k.told (fact ∷ []) fs ∙ k.facts_are;
        asking = g.0;
        fine = g.1;
      }

  all_kept : (is : List Input) → AllByRecursion (Comes []) is
      → let r = going (move config) connected is all in Kept r.core r.items r.facts r.written
  all_kept is h =
      all_keep (move config) Kept (λ p js fs w t e k. one_kept p js fs w t (moved config p js fs t e) k) connected is all
      (record { comes = h; told = []; facts_are = refl; asking = tt; fine = tt })

  -- ---- the messages that were written

  record Answers (qs : List Question) (w : List Output) : Type 0 where
    messages : List (List ℕ)
    are : bytes_of w ≡ flat_map chunked messages
    honest : AllByRecursion (λ m. (0 < length m) × (length m ≤ limit → Honest qs m)) messages

  answers : (qs : List Question) (w : List Output) → AllByRecursion (Fine qs) w → Answers qs w
  answers qs [] h = record { messages = []; are = refl; honest = tt }
  answers qs (asked q ∷ w) h = let a = answers qs w h.1 in record { messages = a.messages; are = a.are; honest = a.honest }
  answers qs (wrote bytes ∷ w) h =
      let a = answers qs w h.1 in
      record {
        messages = h.0.0 ∷ a.messages;
        are = ap (λ (b : List ℕ). b ++ bytes_of w) h.0.1 ∙ ap (λ (b : List ℕ). chunked h.0.0 ++ b) a.are;
        honest = ((h.0.2, h.0.3), a.honest);
      }

  written_honest : (w : List Output) → AllByRecursion (Fine (questions_of w)) w → (m : List ℕ) → Contains (messages_of (bytes_of w)) m
      → Honest (questions_of w) m
  written_honest w h m c =
      let a = answers (questions_of w) w h in
      each_message (Honest (questions_of w)) a.messages a.honest m (subst (λ (b : List ℕ). Contains (messages_of b) m) a.are c)

comes_in : (config : ConnConfig) (all : List Fact) (ms : List (List ℕ)) (b : Bool)
    → AllByRecursion (Comes config all []) (map message ms ++ end_of b)
comes_in config all [] true = (tt, tt)
comes_in config all [] false = tt
comes_in config all (m ∷ ms) b = (tt, comes_in config all ms b)

-- what was written tells what it should, where four bytes answered the handshake
abbrev IsHonest : ConnConfig → List Fact → List Output → Type 0
IsHonest config facts written = (m : List ℕ) → Contains (answers_in written) m → Honest config facts (questions_of written) m

chosen_honest : (config : ConnConfig) (facts : List Fact) (is : List Input) → AllByRecursion (Comes config facts []) is
    → IsHonest config facts (going (move config) start (shaken Chosen ∷ is) facts).written
chosen_honest config facts is h =
    subst (λ (r : Standing). IsHonest config facts r.written) (sym (starts config is facts))
    (λ m c. written_honest config facts (going (move config) connected is facts).written (all_kept config facts is h).fine m c)

nothing_told : (config : ConnConfig) (facts : List Fact) (written : List Output) → drop 4 (bytes_of written) ≡ []
    → IsHonest config facts written
nothing_told config facts written e m c =
    absurd (omega (arith, (subst (λ (ms : List (List ℕ)). Contains ms m) (ap messages_of e ∙ no_messages) c).1))

-- a handshake that chose no version ends the session
refused : (config : ConnConfig) (facts : List Fact) (shake : Shake) (why : _) (w : List Output)
    → on_shake start shake ≡ goes start (Ended why) idle w
    → (going (move config) start (shaken shake ∷ []) facts).written ≡ w
unfolding move
refused config facts shake why w e =
    let turn = goes start (Ended why) idle w in
    let one = going_some (move config) (lawful config) start (shaken shake ∷ []) facts (stand turn [] facts)
    (ap (λ (u : Turned). Some (stand u [] facts)) e) in
    let two = going_none (move config) (lawful config) turn.place [] facts refl in
    ap (λ (x : Standing). x.written) (one ∙ ap (behind w) two) ∙ append-nil w

module _ (config : ConnConfig) (bytes : List ℕ) (facts : List Fact) where
  inputs_by : (a : Shake) → answer_to (handshake_of bytes) ≡ a → inputs_of bytes ≡ shaken_as a ++ stream_inputs (behind_shake a bytes)
  inputs_by a e = ap (λ (x : Shake). shaken_as x ++ stream_inputs (behind_shake x bytes)) e

  by_inputs : (is : List Input) → inputs_of bytes ≡ is → IsHonest config facts (going (move config) start is facts).written
      → IsHonest config facts (session config bytes facts).written
  unfolding session
  by_inputs is e h = subst (λ (js : List Input). IsHonest config facts (going (move config) start js facts).written) (sym e) h

  by_shake : (a : Shake) → answer_to (handshake_of bytes) ≡ a → IsHonest config facts (session config bytes facts).written
  by_shake More e =
      by_inputs [] (more_none bytes e).1
      (subst (λ (r : Standing). IsHonest config facts r.written) (sym (rests_at_start config facts)) (nothing_told config facts [] refl))
  by_shake Chosen e =
      by_inputs (shaken Chosen ∷ stream_inputs (drop 20 bytes)) (inputs_by Chosen e)
      (chosen_honest config facts (stream_inputs (drop 20 bytes))
      (comes_in config facts (messages_of (drop 20 bytes)) (is_too_long (drop 20 bytes))))
  by_shake BadMagic e =
      by_inputs (shaken BadMagic ∷ []) (inputs_by BadMagic e ∙ ap (λ (is : List Input). shaken BadMagic ∷ is) none_of_none)
      (subst (IsHonest config facts) (sym (refused config facts BadMagic stop.BadMagic [] refl)) (nothing_told config facts [] refl))
  by_shake NoVersion e =
      by_inputs (shaken NoVersion ∷ []) (inputs_by NoVersion e ∙ ap (λ (is : List Input). shaken NoVersion ∷ is) none_of_none)
      (subst (IsHonest config facts) (sym (refused config facts NoVersion stop.NoVersion (wrote (0 ∷ 0 ∷ 0 ∷ 0 ∷ []) ∷ []) refl))
      (nothing_told config facts (wrote (0 ∷ 0 ∷ 0 ∷ 0 ∷ []) ∷ []) refl))

pub tells_its_bookmark : TellsItsBookmark
tells_its_bookmark config bytes facts m text c t = by_shake config bytes facts (answer_to (handshake_of bytes)) refl m c text t
