-- What a turn asks is the question that waits behind it.
use Rattle.std.proofs.Common.{◌≡◌, ℕ, ◌+◌, Bool, true, false, Some, None, Result, Ok, Err, List, [], ◌∷◌, ◌++◌, length, refl, sym, ap, ◌∙◌}
use Rattle.std.specs.Prelude.{if◌then◌else◌, map, nat_lt}
use Rattle.ncc_bolt.specs.Fields.{Pairs}
use Rattle.ncc_bolt.specs.declared.message.Request.{Request}
use Rattle.ncc_bolt.specs.declared.message.Response.TheVariants as s
use Rattle.ncc_bolt.specs.declared.error.MessageError.{MessageError}
use Rattle.ncc_bolt.specs.Reading.{request_at}
use Rattle.ncc_chunk.specs.declared.handshake.Shake.{Shake}
use Rattle.ncc_chunk.specs.declared.handshake.Shake.TheVariants.{More, Chosen, BadMagic, NoVersion}
use Rattle.ncc_store.specs.declared.call.Call.{Call}
use Rattle.ncc_pack.specs.declared.value.Value.{Value}
use Rattle.ncc_session.specs.declared.config.ConnConfig.{ConnConfig}
use Rattle.ncc_session.specs.declared.state.ConnState.{ConnState}
use Rattle.ncc_session.specs.declared.state.ConnState.TheVariants.{Ready, Streaming}
use Rattle.ncc_session.specs.declared.state.ConnStop.TheVariants as stop
use Rattle.ncc_session.specs.declared.refusal.Refusal.{Refusal}
use Rattle.ncc_session.specs.declared.refusal.Refusal.TheVariants as r
use Rattle.ncc_session.specs.declared.ask.Fact.{Fact}
use Rattle.ncc_session.specs.declared.ask.Fact.TheVariants as f
use Rattle.ncc_session.specs.declared.table.Turn.{Turn}
use Rattle.ncc_session.specs.declared.table.Turn.TheVariants as t
use Rattle.ncc_session.specs.declared.checks.Wish.{Wish}
use Rattle.ncc_session.specs.declared.checks.Entrance.{Entrance}
use Rattle.ncc_session.specs.Question.{Question, enter, run, leave, route, Output, questions_of, Row}
use Rattle.ncc_session.specs.Core.{Tx, Next, begins, runs, adds, leaves, routes, idle, opened, Situation}
use Rattle.ncc_session.specs.Table.{turn_of}
use Rattle.ncc_session.specs.Replies.{reply, success, more_meta, end_meta, hello_meta}
use Rattle.ncc_session.specs.Checks.{Checked, is_welcome}
use Rattle.ncc_store.specs.Rows.{rows_len, max_bytes}
use Rattle.ncc_session.specs.Turns.{Turned, goes, freed, rests, fails, refuses, puts, answered, heard, records, tx_in}
use Rattle.ncc_session.specs.Turns.{runs_entered, runs_alone, begins_one, asks_route, runs_step, ends_tx, ends_result}
use Rattle.ncc_session.specs.Turns.{goes_on, pulls_wish, pulls, pulled, after_begin, after_enter, after_step, after_run, after_end}
use Rattle.ncc_session.specs.Turns.{after_leave, after_route, adds_rows, tells_columns, tells_done, without_steps, may_leave, open_state, kind_in, with_rows}
use Rattle.ncc_session.specs.Turns.{streaming, columns_meta, new_tx, taken, left_in, are_left}
use Rattle.ncc_session.specs.Session.{Input, shaken, message, too_long, on_shake, on_message, on_live, ends, fault_at, counted, asked_at, question_in, is_ended}
use Rattle.ncc_session.specs.Asking.{waiting}

-- what it asks is the question that waits behind it
abbrev pub Asks : Turned → Type 0
Asks turn = questions_of turn.written ≡ waiting (asked_at turn.place)

none_asked : (b : Bool) → [] ≡ waiting (if b then None else None)
none_asked true = refl
none_asked false = refl

quiet : (place : Situation) (state : ConnState) (written : List Output) → questions_of written ≡ [] → Asks (goes place state idle written)
quiet place state written e = e ∙ none_asked (is_ended state)

opens : (place : Situation) (state : ConnState) (tx : Tx) (written : List Output) → questions_of written ≡ []
    → Asks (goes place state (opened tx) written)
opens place state tx written e = e ∙ none_asked (is_ended state)

one_asked : (b : Bool) (q : Question) → b ≡ false → q ∷ [] ≡ waiting (if b then None else Some q)
one_asked false q e = refl
one_asked true q e = absurd (cc)

puts_asks : (place : Situation) (q : Question) (n : Next) → is_ended place.state ≡ false → Asks (puts place q n)
puts_asks place q n live = one_asked (is_ended place.state) q live

fails_asks : (place : Situation) (refusal : Refusal) → Asks (fails place refusal)
fails_asks place refusal = refl

by_if : (b : Bool) (x y : Turned) → Asks x → Asks y → Asks (if b then x else y)
by_if true x y h k = h
by_if false x y h k = k

by_check : {A : Type 0} (place : Situation) (r : Checked A) (go : A → Turned) → ((a : A) → Asks (go a))
    → Asks (elim r [ Err refusal ↦ fails place refusal | Ok a ↦ go a ])
by_check place (Err refusal) go h = refl
by_check place (Ok a) go h = h a

-- ---- requests

entered_asks : (place : Situation) (query : List ℕ) (params : Pairs) (entrance : Entrance) → is_ended place.state ≡ false
    → Asks (runs_entered place query params entrance)
entered_asks place query params entrance live =
    by_check place _ (λ call. puts place (enter entrance.need) (runs entrance.write call)) (λ call. puts_asks place (enter entrance.need) (runs entrance.write call) live)

alone_asks : (config : ConnConfig) (place : Situation) (query : List ℕ) (params extra : Pairs) → is_ended place.state ≡ false
    → Asks (runs_alone config place query params extra)
alone_asks config place query params extra live =
    by_check place _ (λ entrance. runs_entered place query params entrance) (λ entrance. entered_asks place query params entrance live)

begin_asks : (config : ConnConfig) (place : Situation) (extra : Pairs) → is_ended place.state ≡ false → Asks (begins_one config place extra)
begin_asks config place extra live =
    by_check place _ (λ (entrance : Entrance). puts place (enter entrance.need) (begins entrance.write))
    (λ entrance. puts_asks place (enter entrance.need) (begins entrance.write) live)

route_asks : (config : ConnConfig) (place : Situation) (bookmarks : List Value) (extra : Pairs) → is_ended place.state ≡ false
    → Asks (asks_route config place bookmarks extra)
route_asks config place bookmarks extra live =
    by_check place _ (λ (need : ℕ). puts place route routes) (λ need. puts_asks place route routes live)

step_asks : (place : Situation) (tx : Tx) (query : List ℕ) (params : Pairs) → is_ended place.state ≡ false → Asks (runs_step place tx query params)
step_asks place tx query params live =
    by_check place _ (λ (call : Call). puts place (run (tx.steps ++ call ∷ [])) (adds (without_steps tx)))
    (λ call. puts_asks place (run (tx.steps ++ call ∷ [])) (adds (without_steps tx)) live)

leave_asks : (place : Situation) (tx : Tx) → is_ended place.state ≡ false → Asks (ends_tx place tx)
leave_asks place tx live =
    by_if (may_leave tx.steps tx.told) (puts place (leave tx.steps tx.told) leaves) (fails place r.TooLarge)
    (puts_asks place (leave tx.steps tx.told) leaves live) refl

result_asks : (place : Situation) (state : ConnState) (tx : Tx) (number : ℕ) → is_ended place.state ≡ false → Asks (ends_result place state tx number)
result_asks place Streaming tx number live = leave_asks place tx live
result_asks place _ tx number live =
    opens place (open_state tx.unended) tx (success (end_meta (kind_in tx.steps number)) ∷ []) refl

on_asks : (place : Situation) (tx : Tx) (number : ℕ) (more : Bool) → is_ended place.state ≡ false → Asks (goes_on place tx number more)
on_asks place tx number more live =
    by_if more (goes place place.state (opened tx) (success more_meta ∷ [])) (ends_result place place.state tx number)
    (opens place place.state tx (success more_meta ∷ []) refl) (result_asks place place.state tx number live)

rows_quiet : (rows : List Row) (w : List Output) → questions_of (map (λ row. reply (s.Row row)) rows ++ w) ≡ questions_of w
rows_quiet [] w = refl
rows_quiet (row ∷ rows) w = rows_quiet rows w

records_quiet : (keep : Bool) (rows : List Row) (w : List Output) → questions_of (records keep rows ++ w) ≡ questions_of w
records_quiet true rows w = rows_quiet rows w
records_quiet false rows w = refl

wish_asks : (place : Situation) (tx : Tx) (keep : Bool) (wish : Wish) → is_ended place.state ≡ false → Asks (pulls_wish place tx keep wish)
wish_asks place tx keep wish live =
    let rows = taken wish.count (left_in tx wish) in
    let more = are_left wish.count (left_in tx wish) in
    let now = pulled tx wish (length rows) more in
    records_quiet keep rows (goes_on place now wish.number more).written ∙ on_asks place now wish.number more live

pull_asks : (place : Situation) (tx : Tx) (keep : Bool) (extra : Pairs) → is_ended place.state ≡ false → Asks (pulls place tx keep extra)
pull_asks place tx keep extra live = by_check place _ (λ wish. pulls_wish place tx keep wish) (λ wish. wish_asks place tx keep wish live)

pub answered_asks : (config : ConnConfig) (place : Situation) (turn : Turn) → is_ended place.state ≡ false → Asks (answered config place turn)
answered_asks config place (t.Login extra) live =
    by_if (is_welcome config.auth extra) (rests place Ready (hello_meta config.conn)) (refuses place r.Unauthorized) refl refl
answered_asks config place t.HelloExpected live = refl
answered_asks config place t.End live = refl
answered_asks config place t.Reset live = refl
answered_asks config place t.Ignore live = refl
answered_asks config place (t.Run query params extra) live = alone_asks config place query params extra live
answered_asks config place (t.Begin extra) live = begin_asks config place extra live
answered_asks config place (t.Route bookmarks extra) live = route_asks config place bookmarks extra live
answered_asks config place (t.Rows extra keep) live = pull_asks (freed place) (tx_in place.doing) keep extra live
answered_asks config place (t.Step query params) live = step_asks (freed place) (tx_in place.doing) query params live
answered_asks config place t.Commit live = leave_asks (freed place) (tx_in place.doing) live
answered_asks config place t.Rollback live = refl
answered_asks config place t.OutOfPlace live = refl

-- ---- facts

rows_asks : (place : Situation) (calls : List Call) (tx : Tx) (rows : List Row) → Asks (adds_rows place calls tx rows)
rows_asks place calls tx rows =
    let all = with_rows calls tx rows in
    let number = length tx.told in
    by_if (nat_lt max_bytes (tx.kept + rows_len rows)) (fails place r.TooLarge) (tells_columns place all number) refl
    (opens place (streaming place.state) all (success (columns_meta place.state all.steps number) ∷ []) refl)

done_asks : (config : ConnConfig) (place : Situation) (state : ConnState) (calls : List Call) (at : ℕ) → Asks (tells_done config place state calls at)
done_asks config place Streaming calls at = refl
done_asks config place _ calls at = refl

begun_asks : (place : Situation) (write : Bool) (fact : Fact) → Asks (after_begin place write fact)
begun_asks place write (f.Entered at) = refl
begun_asks place write _ = refl

enter_asks : (place : Situation) (write : Bool) (call : Call) (fact : Fact) → is_ended place.state ≡ false → Asks (after_enter place write call fact)
enter_asks place write call (f.Entered at) live = puts_asks place (run (call ∷ [])) (adds (new_tx write)) live
enter_asks place write call _ live = refl

stepped_asks : (place : Situation) (calls : List Call) (tx : Tx) (fact : Fact) → Asks (after_step place calls tx fact)
stepped_asks place calls tx (f.Rows at rows) = rows_asks place calls tx rows
stepped_asks place calls tx _ = refl

ran_asks : (place : Situation) (question : Question) (tx : Tx) (fact : Fact) → Asks (after_run place question tx fact)
ran_asks place (run calls) tx fact = stepped_asks place calls tx fact
ran_asks place _ tx fact = refl

end_asks : (config : ConnConfig) (place : Situation) (calls : List Call) (fact : Fact) → Asks (after_end config place calls fact)
end_asks config place calls (f.Done at) = done_asks config place place.state calls at
end_asks config place calls (f.Placed at) = done_asks config place place.state calls at
end_asks config place calls _ = refl

left_asks : (config : ConnConfig) (place : Situation) (question : Question) (fact : Fact) → Asks (after_leave config place question fact)
left_asks config place (leave calls told) fact = end_asks config place calls fact
left_asks config place _ fact = refl

routed_asks : (config : ConnConfig) (place : Situation) (fact : Fact) → Asks (after_route config place fact)
routed_asks config place (f.Routed leader) = refl
routed_asks config place _ = refl

pub heard_asks : (config : ConnConfig) (place : Situation) (question : Question) (next : Next) (fact : Fact) → is_ended place.state ≡ false
    → Asks (heard config place question next fact)
heard_asks config place question (begins write) fact live = begun_asks place write fact
heard_asks config place question (runs write call) fact live = enter_asks place write call fact live
heard_asks config place question (adds tx) fact live = ran_asks place question tx fact
heard_asks config place question leaves fact live = left_asks config place question fact
heard_asks config place question routes fact live = routed_asks config place fact

-- ---- inputs

none_waits : (place : Situation) → question_in place.doing ≡ None → [] ≡ waiting (asked_at place)
none_waits place e = none_asked (is_ended place.state) ∙ ap (λ o. waiting (if is_ended place.state then None else o)) (sym e)

shake_asks : (place : Situation) (shake : Shake) → question_in place.doing ≡ None → Asks (on_shake place shake)
shake_asks place Chosen e = refl
shake_asks place NoVersion e = refl
shake_asks place BadMagic e = refl
shake_asks place More e = none_waits place e

message_by : (config : ConnConfig) (place : Situation) (bytes : List ℕ) (r : Result Request MessageError) → is_ended place.state ≡ false
    → Asks (elim r [
      | Ok request ↦ answered config (counted place) (turn_of place.state request)
      | Err cause ↦ ends place (stop.Malformed place.number (fault_at (length bytes) cause) cause) []
    ])
message_by config place bytes (Ok request) live = answered_asks config (counted place) (turn_of place.state request) live
message_by config place bytes (Err cause) live = refl

message_asks : (config : ConnConfig) (place : Situation) (bytes : List ℕ) → is_ended place.state ≡ false → Asks (on_message config place bytes)
message_asks config place bytes live = message_by config place bytes (request_at bytes) live

pub live_asks : (config : ConnConfig) (place : Situation) (input : Input) → is_ended place.state ≡ false → question_in place.doing ≡ None
    → Asks (on_live config place input)
live_asks config place (shaken shake) live e = shake_asks place shake e
live_asks config place (message bytes) live e = message_asks config place bytes live
live_asks config place too_long live e = refl
