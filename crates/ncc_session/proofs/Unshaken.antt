-- A session is shaking exactly as long as its handshake is not whole.
use Rattle.std.proofs.Common.{◌≡◌, ◌≢◌, ℕ, ◌+◌, Bool, true, false, Some, None, Ok, Err, List, [], ◌∷◌, ◌++◌, length, refl, sym, ap, ◌∙◌, subst}
use Rattle.std.specs.Prelude.{Result, if◌then◌else◌, ◌==◌, nat_lt}
use Rattle.ncc_pack.specs.declared.value.Value.{Value}
use Rattle.ncc_pack.specs.declared.value.Value.TheVariants as v
use Rattle.ncc_bolt.specs.Fields.{Pairs}
use Rattle.ncc_bolt.specs.Reading.{request_at}
use Rattle.ncc_bolt.specs.declared.message.Request.{Request}
use Rattle.ncc_bolt.specs.declared.error.MessageError.{MessageError}
use Rattle.ncc_chunk.specs.declared.handshake.Shake.{Shake}
use Rattle.ncc_chunk.specs.declared.handshake.Shake.TheVariants.{More, Chosen, BadMagic, NoVersion}
use Rattle.ncc_chunk.specs.Handshake.{answer_to, handshake_of}
use Rattle.ncc_store.specs.declared.call.Call.{Call}
use Rattle.ncc_store.specs.Rows.{rows_len, max_bytes}
use Rattle.ncc_stream.specs.Stream.{going}
use Rattle.ncc_stream.proofs.Going.{going_none, going_some}
use Rattle.ncc_session.specs.declared.config.ConnConfig.{ConnConfig}
use Rattle.ncc_session.specs.declared.state.ConnState.{ConnState}
use Rattle.ncc_session.specs.declared.state.ConnState.TheVariants.{Shaking, Ready, Streaming, TxReady, TxStreaming, Ended}
use Rattle.ncc_session.specs.declared.ask.Fact.{Fact}
use Rattle.ncc_session.specs.declared.ask.Fact.TheVariants as f
use Rattle.ncc_session.specs.declared.table.Turn.{Turn}
use Rattle.ncc_session.specs.declared.table.Turn.TheVariants as t
use Rattle.ncc_session.specs.declared.checks.Wish.{Wish}
use Rattle.ncc_session.specs.declared.checks.Entrance.{Entrance}
use Rattle.ncc_session.specs.Checks.{Checked, entrance_of, need_of, checked_call, wish_of, is_welcome}
use Rattle.ncc_session.specs.Question.{Question, run, leave, fits}
use Rattle.ncc_session.specs.Core.{Tx, Next, begins, runs, adds, leaves, routes, Doing, idle, opened, asks, Situation}
use Rattle.ncc_session.specs.Table.{turn_of}
use Rattle.ncc_session.specs.Turns.{Turned, freed, may_leave, tx_in, ends_tx, ends_result, goes_on, pulls, pulled, taken}
use Rattle.ncc_session.specs.Turns.{left_in, are_left, runs_entered, runs_alone, begins_one, asks_route, checked_step, runs_step, answered}
use Rattle.ncc_session.specs.Turns.{streaming, tells_done, after_begin, after_enter, after_step, after_run, after_end, after_leave}
use Rattle.ncc_session.specs.Turns.{after_route, heard}
use Rattle.ncc_session.specs.Session.{Input, shaken, message, too_long, Standing, shaken_as, on_shake, counted, on_message, on_live, on_input}
use Rattle.ncc_session.specs.Session.{reads, hears, acts, goes_by, move, stream_of, stream_inputs, start, session}
use Rattle.ncc_session.specs.Laws.{ShakesUntilWhole}
use Rattle.ncc_session.proofs.Lawful.{lawful}
use Rattle.ncc_session.proofs.Shaken.{more_none}
use Rattle.ncc_session.proofs.Shakes.{start_waits, shake_moves}
use Rattle.ncc_session.proofs.Asked.{keeps}

-- the handshake is whole
abbrev IsWhole : ConnState → Type 0
IsWhole Shaking = ⊥
IsWhole _ = Unit {0}

either : (b : Bool) (x y : ConnState) → IsWhole x → IsWhole y → IsWhole (if b then x else y)
either true x y h k = h
either false x y h k = k

either_turn : (b : Bool) (x y : Turned) → IsWhole x.place.state → IsWhole y.place.state → IsWhole (if b then x else y).place.state
either_turn true x y h k = h
either_turn false x y h k = k

-- ---- requests

entered_whole : (p : Situation) (query : List ℕ) (params : Pairs) (e : Entrance) (r : Checked Call) → checked_call e.write query params ≡ r
    → IsWhole p.state → IsWhole (runs_entered p query params e).place.state
entered_whole p query params e (Err refusal) h w = rw (h, IsWhole) tt
entered_whole p query params e (Ok call) h w = rw (h, IsWhole) w

alone_whole : (config : ConnConfig) (p : Situation) (query : List ℕ) (params extra : Pairs) (r : Checked Entrance)
    → entrance_of config.members.cluster extra ≡ r → IsWhole p.state → IsWhole (runs_alone config p query params extra).place.state
alone_whole config p query params extra (Err refusal) h w = rw (h, IsWhole) tt
alone_whole config p query params extra (Ok e) h w =
    rw (h, IsWhole) (entered_whole p query params e (checked_call e.write query params) refl w)

begins_whole : (config : ConnConfig) (p : Situation) (extra : Pairs) (r : Checked Entrance) → entrance_of config.members.cluster extra ≡ r
    → IsWhole p.state → IsWhole (begins_one config p extra).place.state
begins_whole config p extra (Err refusal) h w = rw (h, IsWhole) tt
begins_whole config p extra (Ok e) h w = rw (h, IsWhole) w

route_whole : (config : ConnConfig) (p : Situation) (bookmarks : List Value) (extra : Pairs) (r : Checked ℕ)
    → need_of config.members.cluster (Some (v.List bookmarks)) extra ≡ r → IsWhole p.state
    → IsWhole (asks_route config p bookmarks extra).place.state
route_whole config p bookmarks extra (Err refusal) h w = rw (h, IsWhole) tt
route_whole config p bookmarks extra (Ok need) h w = rw (h, IsWhole) w

step_whole : (p : Situation) (tx : Tx) (query : List ℕ) (params : Pairs) (r : Checked Call) → checked_step tx query params ≡ r
    → IsWhole p.state → IsWhole (runs_step p tx query params).place.state
step_whole p tx query params (Err refusal) h w = rw (h, IsWhole) tt
step_whole p tx query params (Ok call) h w = rw (h, IsWhole) w

ends_by : (p : Situation) (tx : Tx) (b : Bool) → may_leave tx.steps tx.told ≡ b → IsWhole p.state → IsWhole (ends_tx p tx).place.state
ends_by p tx true h w = rw (h, IsWhole) w
ends_by p tx false h w = rw (h, IsWhole) tt

ends_whole : (p : Situation) (tx : Tx) → IsWhole p.state → IsWhole (ends_tx p tx).place.state
ends_whole p tx w = ends_by p tx (may_leave tx.steps tx.told) refl w

result_whole : (p : Situation) (s : ConnState) (tx : Tx) (number : ℕ) → IsWhole p.state → IsWhole (ends_result p s tx number).place.state
result_whole p Streaming tx number w = ends_whole p tx w
result_whole p _ tx number w = either (tx.unended == 0) TxReady TxStreaming tt tt

goes_on_whole : (p : Situation) (tx : Tx) (number : ℕ) (more : Bool) → IsWhole p.state → IsWhole (goes_on p tx number more).place.state
goes_on_whole p tx number true w = w
goes_on_whole p tx number false w = result_whole p p.state tx number w

pulls_whole : (p : Situation) (tx : Tx) (keep : Bool) (extra : Pairs) (r : Checked Wish) → wish_of tx.results extra ≡ r → IsWhole p.state
    → IsWhole (pulls p tx keep extra).place.state
pulls_whole p tx keep extra (Err refusal) h w = rw (h, IsWhole) tt
pulls_whole p tx keep extra (Ok wish) h w =
    let rows = taken wish.count (left_in tx wish) in
    let more = are_left wish.count (left_in tx wish) in
    rw (h, IsWhole) (goes_on_whole p (pulled tx wish (length rows) more) wish.number more w)

answered_whole : (config : ConnConfig) (p : Situation) (turn : Turn) → IsWhole p.state → IsWhole (answered config p turn).place.state
answered_whole config p (t.Login extra) w = either_turn (is_welcome config.auth extra) _ _ tt tt
answered_whole config p t.HelloExpected w = tt
answered_whole config p t.End w = tt
answered_whole config p t.Reset w = tt
answered_whole config p t.Ignore w = tt
answered_whole config p (t.Run query params extra) w =
    alone_whole config p query params extra (entrance_of config.members.cluster extra) refl w
answered_whole config p (t.Begin extra) w = begins_whole config p extra (entrance_of config.members.cluster extra) refl w
answered_whole config p (t.Route bookmarks extra) w =
    route_whole config p bookmarks extra (need_of config.members.cluster (Some (v.List bookmarks)) extra) refl w
answered_whole config p (t.Rows extra keep) w =
    pulls_whole (freed p) (tx_in p.doing) keep extra (wish_of (tx_in p.doing).results extra) refl w
answered_whole config p (t.Step query params) w =
    step_whole (freed p) (tx_in p.doing) query params (checked_step (tx_in p.doing) query params) refl w
answered_whole config p t.Commit w = ends_whole (freed p) (tx_in p.doing) w
answered_whole config p t.Rollback w = tt
answered_whole config p t.OutOfPlace w = tt

message_whole : (config : ConnConfig) (p : Situation) (bytes : List ℕ) (r : Result Request MessageError) → request_at bytes ≡ r
    → IsWhole p.state → IsWhole (on_message config p bytes).place.state
message_whole config p bytes (Err cause) h w = rw (h, IsWhole) tt
message_whole config p bytes (Ok request) h w = rw (h, IsWhole) (answered_whole config (counted p) (turn_of p.state request) w)

shake_whole : (p : Situation) (shake : Shake) → IsWhole p.state → IsWhole (on_shake p shake).place.state
shake_whole p Chosen w = tt
shake_whole p NoVersion w = tt
shake_whole p BadMagic w = tt
shake_whole p More w = w

live_whole : (config : ConnConfig) (p : Situation) (i : Input) → IsWhole p.state → IsWhole (on_live config p i).place.state
live_whole config p (shaken shake) w = shake_whole p shake w
live_whole config p (message bytes) w = message_whole config p bytes (request_at bytes) refl w
live_whole config p too_long w = tt

input_whole : (config : ConnConfig) (p : Situation) (s : ConnState) (i : Input) → IsWhole p.state → IsWhole (on_input config p s i).place.state
input_whole config p (Ended stop) i w = w
input_whole config p _ i w = live_whole config p i w

-- ---- facts

begin_whole : (p : Situation) (write : Bool) (fact : Fact) → IsWhole (after_begin p write fact).place.state
begin_whole p write (f.Entered at) = tt
begin_whole p write _ = tt

enter_whole : (p : Situation) (write : Bool) (call : Call) (fact : Fact) → IsWhole p.state
    → IsWhole (after_enter p write call fact).place.state
enter_whole p write call (f.Entered at) w = w
enter_whole p write call _ w = tt

streaming_whole : (s : ConnState) → IsWhole (streaming s)
streaming_whole Ready = tt
streaming_whole _ = tt

rows_whole : (p : Situation) (calls : List Call) (tx : Tx) (fact : Fact) → IsWhole (after_step p calls tx fact).place.state
rows_whole p calls tx (f.Rows at rows) =
    either_turn (nat_lt max_bytes (tx.kept + rows_len rows)) _ _ tt (streaming_whole p.state)
rows_whole p calls tx _ = tt

run_whole : (p : Situation) (q : Question) (tx : Tx) (fact : Fact) → IsWhole (after_run p q tx fact).place.state
run_whole p (run calls) tx fact = rows_whole p calls tx fact
run_whole p _ tx fact = tt

done_whole : (config : ConnConfig) (p : Situation) (s : ConnState) (calls : List Call) (at : ℕ)
    → IsWhole (tells_done config p s calls at).place.state
done_whole config p Streaming calls at = tt
done_whole config p _ calls at = tt

end_whole : (config : ConnConfig) (p : Situation) (calls : List Call) (fact : Fact) → IsWhole (after_end config p calls fact).place.state
end_whole config p calls (f.Done at) = done_whole config p p.state calls at
end_whole config p calls (f.Placed at) = done_whole config p p.state calls at
end_whole config p calls _ = tt

leave_whole : (config : ConnConfig) (p : Situation) (q : Question) (fact : Fact) → IsWhole (after_leave config p q fact).place.state
leave_whole config p (leave calls told) fact = end_whole config p calls fact
leave_whole config p _ fact = tt

leader_whole : (config : ConnConfig) (p : Situation) (fact : Fact) → IsWhole (after_route config p fact).place.state
leader_whole config p (f.Routed leader) = tt
leader_whole config p _ = tt

heard_whole : (config : ConnConfig) (p : Situation) (q : Question) (n : Next) (fact : Fact) → IsWhole p.state
    → IsWhole (heard config p q n fact).place.state
heard_whole config p q (begins write) fact w = begin_whole p write fact
heard_whole config p q (runs write call) fact w = enter_whole p write call fact w
heard_whole config p q (adds tx) fact w = run_whole p q tx fact
heard_whole config p q leaves fact w = leave_whole config p q fact
heard_whole config p q routes fact w = leader_whole config p fact

-- ---- over whole sessions

reads_whole : (config : ConnConfig) (p : Situation) (xs : List Input) (fs : List Fact) (s : Standing) → reads config p xs fs ≡ Some s
    → IsWhole p.state → IsWhole s.core.state
reads_whole config p [] fs s e w = absurd (cc)
reads_whole config p (x ∷ xs) fs s e w =
    let is : (on_input config p p.state x).place ≡ s.core = cc in
    subst (λ (q : Situation). IsWhole q.state) is (input_whole config p p.state x w)

hears_by : (b : Bool) (u s : Standing) → (if b then Some u else None) ≡ Some s → IsWhole u.core.state → IsWhole s.core.state
hears_by false u s e w = absurd (cc)
hears_by true u s e w = let is : u ≡ s = cc in subst (λ (r : Standing). IsWhole r.core.state) is w

hears_whole : (config : ConnConfig) (p : Situation) (q : Question) (n : Next) (xs : List Input) (fs : List Fact) (s : Standing)
    → hears config p q n xs fs ≡ Some s → IsWhole p.state → IsWhole s.core.state
hears_whole config p q n xs [] s e w = absurd (cc)
hears_whole config p q n xs (x ∷ fs) s e w =
    let u = heard config (freed p) q n x in
    let stand : Standing = record { core = u.place; items = xs; facts = fs; written = u.written } in
    hears_by (fits q x) stand s e (heard_whole config (freed p) q n x w)

acts_whole : (config : ConnConfig) (p : Situation) (d : Doing) (xs : List Input) (fs : List Fact) (s : Standing)
    → acts config p d xs fs ≡ Some s → IsWhole p.state → IsWhole s.core.state
acts_whole config p (asks q n) xs fs s e w = hears_whole config p q n xs fs s e w
acts_whole config p idle xs fs s e w = reads_whole config p xs fs s e w
acts_whole config p (opened tx) xs fs s e w = reads_whole config p xs fs s e w

goes_whole : (config : ConnConfig) (p : Situation) (state : ConnState) (xs : List Input) (fs : List Fact) (s : Standing)
    → goes_by config p state xs fs ≡ Some s → IsWhole p.state → IsWhole s.core.state
goes_whole config p (Ended stop) xs fs s e w = reads_whole config p xs fs s e w
goes_whole config p _ xs fs s e w = acts_whole config p p.doing xs fs s e w

move_whole : (config : ConnConfig) (p : Situation) (xs : List Input) (fs : List Fact) (s : Standing) → move config p xs fs ≡ Some s
    → IsWhole p.state → IsWhole s.core.state
unfolding move
move_whole config p xs fs s e w = goes_whole config p p.state xs fs s e w

settled : (a : Shake) → a ≢ More → IsWhole (on_shake start a).place.state
settled More n = absurd (n refl)
settled Chosen n = tt
settled BadMagic n = tt
settled NoVersion n = tt

whole_by : (config : ConnConfig) (a : Shake) (xs : List Input) (fs : List Fact) → a ≢ More
    → IsWhole (going (move config) start (shaken_as a ++ xs) fs).core.state
whole_by config a xs fs n =
    let u = on_shake start a in
    let t : Standing = record { core = u.place; items = []; facts = []; written = u.written } in
    let one = (lawful config).extends start (shaken_as a) [] t xs fs (shake_moves config a n) in
    let w = keeps (move config) (λ (p : Situation). IsWhole p.state) (λ p ys gs s e h. move_whole config p ys gs s e h) u.place xs fs
    (settled a n) in
    subst (λ (s : Standing). IsWhole s.core.state)
    (sym (going_some (move config) (lawful config) start (shaken_as a ++ xs) fs
    (record { core = u.place; items = xs; facts = fs; written = u.written }) one)) w

session_whole : (config : ConnConfig) (bytes : List ℕ) (facts : List Fact) → answer_to (handshake_of bytes) ≢ More
    → IsWhole (session config bytes facts).core.state
unfolding session
session_whole config bytes facts n = whole_by config (answer_to (handshake_of bytes)) (stream_inputs (stream_of bytes)) facts n

session_shakes : (config : ConnConfig) (bytes : List ℕ) (facts : List Fact) → answer_to (handshake_of bytes) ≡ More
    → (session config bytes facts).core.state ≡ Shaking
unfolding session
session_shakes config bytes facts e =
    ap (λ (s : Standing). s.core.state)
    (ap (λ (is : List Input). going (move config) start is facts) (more_none bytes e).1
    ∙ going_none (move config) (lawful config) start [] facts (start_waits config facts))

by_answer : (config : ConnConfig) (bytes : List ℕ) (facts : List Fact) (a : Shake) → answer_to (handshake_of bytes) ≡ a
    → (session config bytes facts).core.state ≡ Shaking → answer_to (handshake_of bytes) ≡ More
by_answer config bytes facts More e s = e
by_answer config bytes facts Chosen e s =
    absurd (subst IsWhole s (session_whole config bytes facts (λ m. let f : Chosen ≡ More = sym e ∙ m in cc)))
by_answer config bytes facts BadMagic e s =
    absurd (subst IsWhole s (session_whole config bytes facts (λ m. let f : BadMagic ≡ More = sym e ∙ m in cc)))
by_answer config bytes facts NoVersion e s =
    absurd (subst IsWhole s (session_whole config bytes facts (λ m. let f : NoVersion ≡ More = sym e ∙ m in cc)))

pub shakes_until_whole : ShakesUntilWhole
shakes_until_whole config bytes facts =
    (λ s. by_answer config bytes facts (answer_to (handshake_of bytes)) refl s, λ e. session_shakes config bytes facts e)
