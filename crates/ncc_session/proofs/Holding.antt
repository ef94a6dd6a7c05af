-- The questions of a session are transactions, one after another: what a place keeps of the one that is open.
use Rattle.std.proofs.Common.{◌≡◌, ℕ, zero, suc, ◌+◌, Bool, true, false, List, [], ◌∷◌, ◌++◌, length, refl, sym, ap, subst, ◌∙◌}
use Rattle.std.specs.Prelude.{nat_lt, if◌then◌else◌, Option, Some, None, Result, Ok, Err}
use Rattle.ncc_pack.specs.declared.value.Value.{Value}
use Rattle.ncc_pack.specs.declared.value.Value.TheVariants as v
use Rattle.ncc_bolt.specs.Fields.{Pairs}
use Rattle.ncc_bolt.specs.declared.message.Request.{Request}
use Rattle.ncc_bolt.specs.declared.message.Request.TheVariants as r
use Rattle.ncc_bolt.specs.declared.error.MessageError.{MessageError}
use Rattle.ncc_bolt.specs.Reading.{request_at}
use Rattle.ncc_chunk.specs.declared.handshake.Shake.{Shake}
use Rattle.ncc_chunk.specs.declared.handshake.Shake.TheVariants.{More, Chosen, BadMagic, NoVersion}
use Rattle.ncc_store.specs.declared.call.Call.{Call}
use Rattle.ncc_store.specs.Rows.{rows_len, max_bytes}
use Rattle.ncc_stream.specs.Stream.{run as moves, going}
use Rattle.ncc_stream.proofs.Going.{at_none, at_some}
use Rattle.ncc_session.specs.declared.config.ConnConfig.{ConnConfig}
use Rattle.ncc_session.specs.declared.state.ConnState.{ConnState}
use Rattle.ncc_session.specs.declared.state.ConnState.TheVariants.{Connected, Ready, Streaming, TxReady, TxStreaming, Failed, Ended}
use Rattle.ncc_session.specs.declared.refusal.Refusal.{Refusal}
use Rattle.ncc_session.specs.declared.refusal.Refusal.TheVariants as u
use Rattle.ncc_session.specs.declared.ask.Fact.{Fact}
use Rattle.ncc_session.specs.declared.ask.Fact.TheVariants as f
use Rattle.ncc_session.specs.declared.checks.Wish.{Wish}
use Rattle.ncc_session.specs.declared.checks.Entrance.{Entrance}
use Rattle.ncc_session.specs.declared.table.Turn.{Turn}
use Rattle.ncc_session.specs.declared.table.Turn.TheVariants as t
use Rattle.ncc_session.specs.Question.{Question, enter, run, leave, route, Row, Output, wrote, asked, fits, questions_of}
use Rattle.ncc_session.specs.Core.{Tx, Next, begins, runs, adds, leaves, routes, Doing, idle, opened, asks, Situation}
use Rattle.ncc_session.specs.Checks.{Checked, entrance_of, need_of, checked_call, wish_of, is_welcome}
use Rattle.ncc_session.specs.Table.{turn_of}
use Rattle.ncc_session.specs.Turns.{Turned, fails, refusal_of, freed, records, pulled, may_leave, ends_tx, ends_result, goes_on, pulls_rows, pulls}
use Rattle.ncc_session.specs.Turns.{checked_step, runs_step, runs_entered, runs_alone, begins_one, asks_route, logs_in, answered}
use Rattle.ncc_session.specs.Turns.{adds_rows, after_begin, after_enter, after_step, after_end, after_route, heard, taken, left_in}
use Rattle.ncc_session.specs.Turns.{are_left}
use Rattle.ncc_session.specs.Session.{Input, shaken, message, too_long, on_message, on_shake, on_live, on_input, counted, inputs_of}
use Rattle.ncc_session.specs.Session.{Standing, reads, hears, acts, goes_by, move, start, session, is_ended}
use Rattle.ncc_session.specs.Transactions.{Held, entered, stepped, after, Follows, AreTransactions}

-- a state in which a transaction is open
abbrev in_tx : ConnState → Bool
in_tx Streaming = true
in_tx TxReady = true
in_tx TxStreaming = true
in_tx _ = false

-- a turn that wants one
abbrev wants_tx : Turn → Bool
wants_tx (t.Rows extra keep) = true
wants_tx (t.Step query params) = true
wants_tx t.Commit = true
wants_tx _ = false

abbrev held_of : Tx → Held
held_of tx = record { calls = tx.steps; told = tx.told }

-- what goes on behind a question belongs to it
abbrev Matches : Option Held → Question → Next → Type 0
Matches held (enter need) (begins write) = Unit {0}
Matches held (enter need) (runs write call) = Unit {0}
Matches (Some held) (run calls) (adds tx) = tx.told ≡ held.told
Matches held (leave calls told) leaves = Unit {0}
Matches held route routes = Unit {0}
Matches _ _ _ = ⊥

record Waits (held : Option Held) (state : ConnState) (question : Question) (next : Next) : Type 0 where
  live : is_ended state ≡ false
  follows : Follows held question
  matches : Matches held question next

-- what is known of the transaction is what the place keeps
abbrev Holds : Option Held → ConnState → Doing → Type 0
Holds held state idle = in_tx state ≡ false
Holds held state (opened tx) = held ≡ Some (held_of tx)
Holds held state (asks question next) = Waits held state question next

-- the question that waits
abbrev pending : Doing → List Question
pending (asks question next) = question ∷ []
pending _ = []

-- a turn keeps that, and asks what it waits for
record Good (held : Option Held) (turn : Turned) : Type 0 where
  holds : Holds held turn.place.state turn.place.doing
  asking : questions_of turn.written ≡ pending turn.place.doing

fails_well : (held : Option Held) (place : Situation) (refusal : Refusal) → Good held (fails place refusal)
fails_well held place refusal = record { holds = refl; asking = refl }

-- ---- facts

begin_well : (place : Situation) (write : Bool) (fact : Fact) → Good (entered fact) (after_begin place write fact)
begin_well place write (f.Entered at) = record { holds = refl; asking = refl }
begin_well place write fact = fails_well None place (refusal_of fact)

enter_well : (place : Situation) (write : Bool) (call : Call) (fact : Fact) → is_ended place.state ≡ false
    → Good (entered fact) (after_enter place write call fact)
enter_well place write call (f.Entered at) live = record {
  holds = record { live = live; follows = (call, refl); matches = refl };
  asking = refl;
}
enter_well place write call fact live = fails_well None place (refusal_of fact)

rows_well : (held : Held) (place : Situation) (calls : List Call) (tx : Tx) (rows : List Row) (at : ℕ) (large : Bool)
    → nat_lt max_bytes (tx.kept + rows_len rows) ≡ large → tx.told ≡ held.told
    → Good (stepped held calls (f.Rows at rows)) (adds_rows place calls tx rows)
rows_well held place calls tx rows at true e same = rw (e, adds_rows) (fails_well (stepped held calls (f.Rows at rows)) place u.TooLarge)
rows_well held place calls tx rows at false e same = rw (e, adds_rows) (record {
  holds = ap (λ (told : List (List Row)). Some (record { calls = calls; told = told ++ rows ∷ [] })) (sym same);
  asking = refl;
})

step_well : (held : Held) (place : Situation) (calls : List Call) (tx : Tx) (fact : Fact) → tx.told ≡ held.told
    → Good (stepped held calls fact) (after_step place calls tx fact)
step_well held place calls tx (f.Rows at rows) same = rows_well held place calls tx rows at (nat_lt max_bytes (tx.kept + rows_len rows)) refl same
step_well held place calls tx fact same = fails_well None place (refusal_of fact)

end_well : (config : ConnConfig) (place : Situation) (calls : List Call) (fact : Fact) → Good None (after_end config place calls fact)
end_well config place calls (f.Done at) = record { holds = refl; asking = refl }
end_well config place calls (f.Placed at) = record { holds = refl; asking = refl }
end_well config place calls fact = fails_well None place (refusal_of fact)

route_well : (config : ConnConfig) (place : Situation) (fact : Fact) → Good None (after_route config place fact)
route_well config place (f.Routed leader) = record { holds = refl; asking = refl }
route_well config place fact = fails_well None place (refusal_of fact)

heard_well : (config : ConnConfig) (place : Situation) (held : Option Held) (question : Question) (next : Next) (fact : Fact)
    → is_ended place.state ≡ false → Matches held question next
    → Good (after held question fact) (heard config (freed place) question next fact)
heard_well config place held (enter need) (begins write) fact live m = begin_well (freed place) write fact
heard_well config place held (enter need) (runs write call) fact live m = enter_well (freed place) write call fact live
heard_well config place (Some held) (run calls) (adds tx) fact live m = step_well held (freed place) calls tx fact m
heard_well config place held (leave calls told) leaves fact live m = end_well config (freed place) calls fact
heard_well config place held route routes fact live m = route_well config (freed place) fact
heard_well config place held question next fact live m = absurd m

-- ---- requests

pub replies_ask : (keep : Bool) (rows : List Row) (more : List Output) → questions_of (records keep rows ++ more) ≡ questions_of more
replies_ask false rows more = refl
replies_ask true [] more = refl
replies_ask true (row ∷ rows) more = replies_ask true rows more

ends_well : (place : Situation) (tx : Tx) (may : Bool) → may_leave tx.steps tx.told ≡ may → is_ended place.state ≡ false
    → Good (Some (held_of tx)) (ends_tx place tx)
ends_well place tx false e live = rw (e, ends_tx) (fails_well (Some (held_of tx)) place u.TooLarge)
ends_well place tx true e live = rw (e, ends_tx) (record {
  holds = record { live = live; follows = (refl, refl); matches = tt };
  asking = refl;
})

result_well : (place : Situation) (state : ConnState) (tx : Tx) (number : ℕ) → is_ended place.state ≡ false
    → Good (Some (held_of tx)) (ends_result place state tx number)
result_well place Streaming tx number live = ends_well place tx (may_leave tx.steps tx.told) refl live
result_well place _ tx number live = record { holds = refl; asking = refl }

on_well : (place : Situation) (tx : Tx) (number : ℕ) (more : Bool) → is_ended place.state ≡ false
    → Good (Some (held_of tx)) (goes_on place tx number more)
on_well place tx number true live = record { holds = refl; asking = refl }
on_well place tx number false live = result_well place place.state tx number live

rows_out_well : (place : Situation) (tx : Tx) (keep : Bool) (wish : Wish) (rows : List Row) (more : Bool) → is_ended place.state ≡ false
    → Good (Some (held_of tx)) (pulls_rows place tx keep wish rows more)
rows_out_well place tx keep wish rows more live =
    let after : Tx = pulled tx wish (length rows) more in
    let good = on_well place after wish.number more live in
    record {
      holds = good.holds;
      asking = replies_ask keep rows (goes_on place after wish.number more).written ∙ good.asking;
    }

pulls_well : (place : Situation) (tx : Tx) (keep : Bool) (extra : Pairs) (wish : Checked Wish) → wish_of tx.results extra ≡ wish
    → is_ended place.state ≡ false → Good (Some (held_of tx)) (pulls place tx keep extra)
pulls_well place tx keep extra (Err refusal) e live = rw (e, pulls) (fails_well (Some (held_of tx)) place refusal)
pulls_well place tx keep extra (Ok wish) e live =
    rw (e, pulls) (rows_out_well place tx keep wish (taken wish.count (left_in tx wish)) (are_left wish.count (left_in tx wish)) live)

steps_well : (place : Situation) (tx : Tx) (query : List ℕ) (params : Pairs) (call : Checked Call) → checked_step tx query params ≡ call
    → is_ended place.state ≡ false → Good (Some (held_of tx)) (runs_step place tx query params)
steps_well place tx query params (Err refusal) e live = rw (e, runs_step) (fails_well (Some (held_of tx)) place refusal)
steps_well place tx query params (Ok call) e live = rw (e, runs_step) (record {
  holds = record { live = live; follows = (call, refl); matches = refl };
  asking = refl;
})

entered_well : (held : Option Held) (place : Situation) (query : List ℕ) (params : Pairs) (entrance : Entrance) (call : Checked Call)
    → checked_call entrance.write query params ≡ call → is_ended place.state ≡ false
    → Good held (runs_entered place query params entrance)
entered_well held place query params entrance (Err refusal) e live = rw (e, runs_entered) (fails_well held place refusal)
entered_well held place query params entrance (Ok call) e live = rw (e, runs_entered) (record {
  holds = record { live = live; follows = tt; matches = tt };
  asking = refl;
})

alone_well : (held : Option Held) (config : ConnConfig) (place : Situation) (query : List ℕ) (params extra : Pairs)
    (entrance : Checked Entrance) → entrance_of config.members.cluster extra ≡ entrance → is_ended place.state ≡ false
    → Good held (runs_alone config place query params extra)
alone_well held config place query params extra (Err refusal) e live = rw (e, runs_alone) (fails_well held place refusal)
alone_well held config place query params extra (Ok entrance) e live =
    rw (e, runs_alone) (entered_well held place query params entrance (checked_call entrance.write query params) refl live)

begins_well : (held : Option Held) (config : ConnConfig) (place : Situation) (extra : Pairs) (entrance : Checked Entrance)
    → entrance_of config.members.cluster extra ≡ entrance → is_ended place.state ≡ false → Good held (begins_one config place extra)
begins_well held config place extra (Err refusal) e live = rw (e, begins_one) (fails_well held place refusal)
begins_well held config place extra (Ok entrance) e live = rw (e, begins_one) (record {
  holds = record { live = live; follows = tt; matches = tt };
  asking = refl;
})

asks_well : (held : Option Held) (config : ConnConfig) (place : Situation) (bookmarks : List Value) (extra : Pairs) (need : Checked ℕ)
    → need_of config.members.cluster (Some (v.List bookmarks)) extra ≡ need → is_ended place.state ≡ false
    → Good held (asks_route config place bookmarks extra)
asks_well held config place bookmarks extra (Err refusal) e live = rw (e, asks_route) (fails_well held place refusal)
asks_well held config place bookmarks extra (Ok need) e live = rw (e, asks_route) (record {
  holds = record { live = live; follows = tt; matches = tt };
  asking = refl;
})

login_well : (held : Option Held) (config : ConnConfig) (place : Situation) (extra : Pairs) (welcome : Bool)
    → is_welcome config.auth extra ≡ welcome → Good held (logs_in config place extra)
login_well held config place extra true e = rw (e, logs_in) (record { holds = refl; asking = refl })
login_well held config place extra false e = rw (e, logs_in) (record { holds = refl; asking = refl })

-- a turn that wants a transaction finds the one that is known
opened_well : (config : ConnConfig) (place : Situation) (tx : Tx) (turn : Turn) → is_ended place.state ≡ false → wants_tx turn ≡ true
    → place.doing ≡ opened tx → Good (Some (held_of tx)) (answered config place turn)
opened_well config place tx (t.Rows extra keep) live wants is = rw (is, answered) (pulls_well (freed place) tx keep extra (wish_of tx.results extra) refl live)
opened_well config place tx (t.Step query params) live wants is =
    rw (is, answered) (steps_well (freed place) tx query params (checked_step tx query params) refl live)
opened_well config place tx t.Commit live wants is = rw (is, answered) (ends_well (freed place) tx (may_leave tx.steps tx.told) refl live)
opened_well config place tx _ live wants is = absurd (cc)

other_well : (held : Option Held) (config : ConnConfig) (place : Situation) (turn : Turn) → is_ended place.state ≡ false
    → wants_tx turn ≡ false → Good held (answered config place turn)
other_well held config place (t.Rows extra keep) live none = absurd (cc)
other_well held config place (t.Step query params) live none = absurd (cc)
other_well held config place t.Commit live none = absurd (cc)
other_well held config place (t.Login extra) live none = login_well held config place extra (is_welcome config.auth extra) refl
other_well held config place (t.Run query params extra) live none =
    alone_well held config place query params extra (entrance_of config.members.cluster extra) refl live
other_well held config place (t.Begin extra) live none =
    begins_well held config place extra (entrance_of config.members.cluster extra) refl live
other_well held config place (t.Route bookmarks extra) live none =
    asks_well held config place bookmarks extra (need_of config.members.cluster (Some (v.List bookmarks)) extra) refl live
other_well held config place t.OutOfPlace live none = fails_well held place u.OutOfPlace
other_well held config place t.HelloExpected live none = record { holds = refl; asking = refl }
other_well held config place t.End live none = record { holds = refl; asking = refl }
other_well held config place t.Reset live none = record { holds = refl; asking = refl }
other_well held config place t.Ignore live none = record { holds = refl; asking = refl }
other_well held config place t.Rollback live none = record { holds = refl; asking = refl }

-- outside of a transaction no turn wants one
outside : (state : ConnState) (request : Request) → in_tx state ≡ false → wants_tx (turn_of state request) ≡ false
outside Streaming request none = absurd (cc)
outside TxReady request none = absurd (cc)
outside TxStreaming request none = absurd (cc)
outside _ r.Goodbye none = refl
outside Connected (r.Hello extra) none = refl
outside Connected _ none = refl
outside _ r.Reset none = refl
outside Failed _ none = refl
outside Ready (r.Run query params extra) none = refl
outside Ready (r.Begin extra) none = refl
outside Ready (r.Route routing bookmarks extra) none = refl
outside _ (r.Run query params extra) none = refl
outside _ _ none = refl

turn_well : (config : ConnConfig) (held : Option Held) (place : Situation) (doing : Doing) (turn : Turn) (wants : Bool)
    → place.doing ≡ doing → wants_tx turn ≡ wants → Holds held place.state doing → pending doing ≡ [] → is_ended place.state ≡ false
    → (in_tx place.state ≡ false → wants_tx turn ≡ false) → Good held (answered config place turn)
turn_well config held place doing turn false is w holds quiet live out = other_well held config place turn live w
turn_well config held place idle turn true is w holds quiet live out = other_well held config place turn live (out holds)
turn_well config held place (opened tx) turn true is w holds quiet live out =
    rw holds (opened_well config place tx turn live w is)
turn_well config held place (asks question next) turn true is w holds quiet live out = absurd (cc)

-- ---- what comes in

module _ (config : ConnConfig) (held : Option Held) (place : Situation) (holds : Holds held place.state place.doing)
    (quiet : pending place.doing ≡ []) where
  message_well : (bytes : List ℕ) (read : Result Request MessageError) → request_at bytes ≡ read → is_ended place.state ≡ false
      → Good held (on_message config place bytes)
  message_well bytes (Err cause) e live = rw (e, on_message) (record { holds = refl; asking = refl })
  message_well bytes (Ok request) e live = rw (e, on_message)
      (turn_well config held (counted place) place.doing (turn_of place.state request) (wants_tx (turn_of place.state request)) refl refl holds quiet live
      (outside place.state request))

  shake_well : (shake : Shake) → Good held (on_shake place shake)
  shake_well Chosen = record { holds = refl; asking = refl }
  shake_well NoVersion = record { holds = refl; asking = refl }
  shake_well BadMagic = record { holds = refl; asking = refl }
  shake_well More = record { holds = holds; asking = sym quiet }

  live_well : (input : Input) → is_ended place.state ≡ false → Good held (on_live config place input)
  live_well (shaken shake) live = shake_well shake
  live_well (message bytes) live = message_well bytes (request_at bytes) refl live
  live_well too_long live = record { holds = refl; asking = refl }

  input_well : (state : ConnState) (input : Input) → place.state ≡ state → Good held (on_input config place state input)
  input_well (Ended stop) input e = record { holds = holds; asking = sym quiet }
  input_well _ input e = live_well input (ap is_ended e)

-- ---- one move

-- what is known behind a move, and that with what comes later the questions are transactions
record Goes (held : Option Held) (place : Situation) (facts : List Fact) (to : Standing) : Type 0 where
  later : Option Held
  holds : Holds later to.core.state to.core.doing
  joins : (more : List Question) → AreTransactions later (pending to.core.doing ++ more) to.facts
      → AreTransactions held (pending place.doing ++ (questions_of to.written ++ more)) facts

abbrev made : Turned → List Input → List Fact → Standing
made u xs fs = record { core = u.place; items = xs; facts = fs; written = u.written }

same_some : (a b : Standing) → Some a ≡ Some b → a ≡ b
same_some a b e = cc

module _ (config : ConnConfig) (held : Option Held) (place : Situation) (holds : Holds held place.state place.doing) where
  read_goes : (inputs : List Input) (facts : List Fact) (to : Standing) → pending place.doing ≡ []
      → reads config place inputs facts ≡ Some to → Goes held place facts to
  read_goes [] facts to quiet e = absurd (cc)
  read_goes (input ∷ inputs) facts to quiet e =
      let turn : Turned = on_input config place place.state input in
      let good : Good held turn = input_well config held place holds quiet place.state input refl in
      let here : Goes held place facts (made turn inputs facts) = record {
        later = held;
        holds = good.holds;
        joins = λ more k. rw (quiet, good.asking) k;
      } in
      subst (Goes held place facts) (same_some (made turn inputs facts) to e) here

  hear_by : (question : Question) (next : Next) (inputs : List Input) (fact : Fact) (facts : List Fact) (to : Standing) (b : Bool)
      → Waits held place.state question next → pending place.doing ≡ question ∷ []
      → (if b then Some (made (heard config (freed place) question next fact) inputs facts) else None) ≡ Some to
      → Goes held place (fact ∷ facts) to
  hear_by question next inputs fact facts to false waits pend e = absurd (cc)
  hear_by question next inputs fact facts to true waits pend e =
      let turn : Turned = heard config (freed place) question next fact in
      let good : Good (after held question fact) turn =
      heard_well config place held question next fact waits.live waits.matches in
      let here : Goes held place (fact ∷ facts) (made turn inputs facts) = record {
        later = after held question fact;
        holds = good.holds;
        joins = λ more k. rw (pend, good.asking) (waits.follows, k);
      } in
      subst (Goes held place (fact ∷ facts)) (same_some (made turn inputs facts) to e) here

  hear_goes : (question : Question) (next : Next) (inputs : List Input) (facts : List Fact) (to : Standing)
      → Waits held place.state question next → pending place.doing ≡ question ∷ []
      → hears config place question next inputs facts ≡ Some to → Goes held place facts to
  hear_goes question next inputs [] to waits pend e = absurd (cc)
  hear_goes question next inputs (fact ∷ facts) to waits pend e =
      hear_by question next inputs fact facts to (fits question fact) waits pend e

  act_goes : (doing : Doing) (inputs : List Input) (facts : List Fact) (to : Standing) → place.doing ≡ doing
      → Holds held place.state doing → acts config place doing inputs facts ≡ Some to → Goes held place facts to
  act_goes (asks question next) inputs facts to is h e = hear_goes question next inputs facts to h (ap pending is) e
  act_goes idle inputs facts to is h e = read_goes inputs facts to (ap pending is) e
  act_goes (opened tx) inputs facts to is h e = read_goes inputs facts to (ap pending is) e

  over : (doing : Doing) → Holds held place.state doing → is_ended place.state ≡ true → pending doing ≡ []
  over idle h ended = refl
  over (opened tx) h ended = refl
  over (asks question next) h ended = absurd (let live = h.live in cc)

  state_goes : (state : ConnState) (inputs : List Input) (facts : List Fact) (to : Standing) → place.state ≡ state
      → goes_by config place state inputs facts ≡ Some to → Goes held place facts to
  state_goes (Ended stop) inputs facts to is e = read_goes inputs facts to (over place.doing holds (ap is_ended is)) e
  state_goes _ inputs facts to is e = act_goes place.doing inputs facts to refl holds e

  move_goes : (inputs : List Input) (facts : List Fact) (to : Standing) → move config place inputs facts ≡ Some to
      → Goes held place facts to
  unfolding move
  move_goes inputs facts to e = state_goes place.state inputs facts to refl e

-- ---- all moves

questions_join : (a b : List Output) → questions_of (a ++ b) ≡ questions_of a ++ questions_of b
questions_join [] b = refl
questions_join (wrote x ∷ a) b = questions_join a b
questions_join (asked q ∷ a) b = ap (λ (qs : List Question). q ∷ qs) (questions_join a b)

rests : (held : Option Held) (state : ConnState) (doing : Doing) (facts : List Fact) → Holds held state doing
    → AreTransactions held (pending doing ++ []) facts
rests held state idle facts h = tt
rests held state (opened tx) facts h = tt
rests held state (asks question next) [] h = (h.follows, refl)
rests held state (asks question next) (fact ∷ facts) h = (h.follows, tt)

module _ (config : ConnConfig) where
  on_at : (n : ℕ) (held : Option Held) (place : Situation) (inputs : List Input) (facts : List Fact) (o : Option Standing)
      → move config place inputs facts ≡ o
      → ((later : Option Held) (to : Situation) (xs : List Input) (fs : List Fact) → Holds later to.state to.doing
      → AreTransactions later (pending to.doing ++ questions_of (moves (move config) n to xs fs).written) fs)
      → Holds held place.state place.doing
      → AreTransactions held (pending place.doing ++ questions_of (moves (move config) (suc n) place inputs facts).written) facts
  on_at n held place inputs facts None e ih h =
      rw (at_none (move config) (suc n) place inputs facts e) (rests held place.state place.doing facts h)
  on_at n held place inputs facts (Some to) e ih h =
      let g = move_goes config held place h inputs facts to e in
      let rest : List Output = (moves (move config) n to.core to.items to.facts).written in
      rw (at_some (move config) n place inputs facts to e, questions_join to.written rest)
      (g.joins (questions_of rest) (ih g.later to.core to.items to.facts g.holds))

  on_by : (n : ℕ) (held : Option Held) (place : Situation) (inputs : List Input) (facts : List Fact) → Holds held place.state place.doing
      → AreTransactions held (pending place.doing ++ questions_of (moves (move config) n place inputs facts).written) facts
  unfolding moves
  on_by zero held place inputs facts h = rests held place.state place.doing facts h
  on_by (suc n) held place inputs facts h =
      on_at n held place inputs facts (move config place inputs facts) refl (λ l p xs fs k. on_by n l p xs fs k) h

  pub are_transactions : (bytes : List ℕ) (facts : List Fact)
      → AreTransactions None (questions_of (session config bytes facts).written) facts
  unfolding session going
  are_transactions bytes facts = on_by (length (inputs_of bytes) + length facts) None start (inputs_of bytes) facts refl
