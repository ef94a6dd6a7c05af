-- A message that is refused is never refused for want of memory.
use Rattle.std.proofs.Common.{◌≡◌, ℕ, ◌+◌, Bool, true, false, Some, None, Result, Ok, Err, List, [], ◌∷◌, ◌++◌, length, ap, subst}
use Rattle.std.specs.Prelude.{if◌then◌else◌, nat_lt, ◌==◌, ◌||◌, ◌-◌}
use Rattle.ncc_pack.specs.declared.value.Value.{Value}
use Rattle.ncc_pack.specs.declared.value.NodeValue.{NodeValue}
use Rattle.ncc_pack.specs.declared.value.Value.TheOpen.{Value-F}
use Rattle.ncc_pack.specs.declared.error.PackError.{PackError}
use Rattle.ncc_bolt.specs.declared.error.MessageError.{MessageError}
use Rattle.ncc_bolt.specs.declared.error.MessageError.TheVariants as e
use Rattle.ncc_bolt.specs.declared.message.Request.{Request}
use Rattle.ncc_bolt.specs.Fields.{Kind, dictionary, text, list, Pairs}
use Rattle.ncc_bolt.specs.Tags.{first_structure, last_structure}
use Rattle.ncc_pack.specs.Limits.{max_depth}
use Rattle.ncc_pack.specs.Reading.{value_at}
use Rattle.ncc_pack.specs.declared.error.PackError.TheVariants as p
use Rattle.ncc_bolt.specs.Table.{Row as TableRow, requests}
use Rattle.ncc_bolt.specs.Reading.{◌>>=◌, as_message, tag_at, head_at, spelled_at, held_in, field_at, fields_at, ended, counted as counted_fields}
use Rattle.ncc_bolt.specs.Reading.{row_at, in_table, request_at}
use Rattle.ncc_chunk.specs.declared.handshake.Shake.{Shake}
use Rattle.ncc_chunk.specs.declared.handshake.Shake.TheVariants.{More, Chosen, BadMagic, NoVersion}
use Rattle.ncc_store.specs.declared.call.Call.{Call}
use Rattle.ncc_session.specs.declared.config.ConnConfig.{ConnConfig}
use Rattle.ncc_session.specs.declared.state.ConnState.{ConnState}
use Rattle.ncc_session.specs.declared.state.ConnState.TheVariants.{Ready, Streaming, TxReady, TxStreaming, Ended}
use Rattle.ncc_session.specs.declared.state.ConnStop.{ConnStop}
use Rattle.ncc_session.specs.declared.state.ConnStop.TheVariants as stop
use Rattle.ncc_session.specs.declared.ask.Fact.{Fact}
use Rattle.ncc_session.specs.declared.ask.Fact.TheVariants as f
use Rattle.ncc_session.specs.declared.table.Turn.{Turn}
use Rattle.ncc_session.specs.declared.table.Turn.TheVariants as t
use Rattle.ncc_session.specs.declared.refusal.Refusal.TheVariants as r
use Rattle.ncc_session.specs.declared.checks.Wish.{Wish}
use Rattle.ncc_session.specs.declared.checks.Entrance.{Entrance}
use Rattle.ncc_session.specs.Checks.{Checked, is_welcome}
use Rattle.ncc_session.specs.Replies.{success, more_meta, hello_meta}
use Rattle.ncc_store.specs.Rows.{rows_len, max_bytes}
use Rattle.ncc_session.specs.Question.{Question, enter, run as run_asked, leave, route, fits}
use Rattle.ncc_session.specs.Core.{Tx, Next, begins, runs, adds, leaves, routes, Doing, idle, opened, asks, Situation}
use Rattle.ncc_session.specs.Table.{turn_of}
use Rattle.ncc_session.specs.Turns.{Turned, freed, tx_in, puts, fails, ends_tx, ends_result, goes_on, pulls, pulls_wish, runs_entered}
use Rattle.ncc_session.specs.Turns.{answered, tells_columns, streaming, tells_done, after_begin, after_enter, after_step}
use Rattle.ncc_session.specs.Turns.{after_run, after_end, after_leave, after_route, heard, goes, rests, refuses, without_steps, may_leave, with_rows, taken, left_in}
use Rattle.ncc_session.specs.Turns.{are_left, pulled}
use Rattle.ncc_session.specs.Session.{Input, shaken, message, too_long, Standing, on_shake, counted, fault_at, on_live, on_input, ends}
use Rattle.ncc_session.specs.Session.{reads, hears, acts, goes_by, move, inputs_of, start, session}
use Rattle.ncc_session.proofs.Kept.{keeps}

-- ---- reading a message

abbrev Never : {A : Type 0} → Result A MessageError → Type 0
Never r = r ≡ Err e.Memory → ⊥

ok_never : {A : Type 0} (x : A) → Never (Ok x)
ok_never x = λ i. cc

bind_never : {A B : Type 0} (r : Result A MessageError) (g : A → Result B MessageError) → Never r → ((x : A) → Never (g x)) → Never (r >>= g)
bind_never (Ok x) g h k = k x
bind_never (Err c) g h k = λ i. h (let same : c ≡ e.Memory = cc in ap Err same)

if_never : {A : Type 0} (b : Bool) (x y : Result A MessageError) → Never x → Never y → Never (if b then x else y)
if_never true x y h k = h
if_never false x y h k = k

tag_never : (n : ℕ) (bytes : List ℕ) → Never (tag_at n bytes)
tag_never n [] = λ i. cc
tag_never n (x ∷ xs) = λ i. cc

head_never : (bytes : List ℕ) → Never (head_at bytes)
unfolding head_at
head_never [] = λ i. cc
head_never (m ∷ bytes) = if_never (nat_lt m first_structure || nat_lt last_structure m) (Err (e.Pack (p.BadMarker 0))) (tag_at (m - first_structure) bytes) (λ i. cc)
    (tag_never (m - first_structure) bytes)

as_never : {A : Type 0} (r : Result A PackError) → Never (as_message r)
as_never (Ok x) = λ i. cc
as_never (Err c) = λ i. cc

spelled_never : (total : ℕ) (bytes : List ℕ) → Never (spelled_at total bytes)
unfolding spelled_at
spelled_never total bytes = as_never (value_at total max_depth bytes)

held_never : (k : Kind) (c : MessageError) (x : Value-F Value NodeValue) → (c ≡ e.Memory → ⊥) → Never (held_in k c x)
held_never dictionary c (Value-F.Dict ps) h = λ i. cc
held_never text c (Value-F.Text t) h = λ i. cc
held_never list c (Value-F.List xs) h = λ i. cc
held_never dictionary c _ h = λ i. h (cc)
held_never text c _ h = λ i. h (cc)
held_never list c _ h = λ i. h (cc)

field_never : (k : Kind) (total tag number : ℕ) (bytes : List ℕ) → Never (field_at k total tag number bytes)
unfolding field_at
field_never k total tag number bytes =
    bind_never _ _ (spelled_never total bytes) (λ x. bind_never _ _ (held_never k _ _ (λ i. cc)) (λ h. ok_never (h, x.1)))

fields_never : (ks : List Kind) (total tag number : ℕ) (bytes : List ℕ) → Never (fields_at ks total tag number bytes)
fields_never [] total tag number bytes = λ i. cc
fields_never (k ∷ ks) total tag number bytes =
    bind_never _ _ (field_never k total tag number bytes)
    (λ first. bind_never _ _ (fields_never ks total tag (number + 1) first.1) (λ others. ok_never ((first.0, others.0), others.1)))

ended_never : {A : Type 0} (total : ℕ) (x : A) (bytes : List ℕ) → Never (ended total x bytes)
ended_never total x [] = λ i. cc
ended_never total x (b ∷ bytes) = λ i. cc

fields_wrong : (tag n : ℕ) → Never {A = Unit {0}} (Err (e.WrongFields tag n))
fields_wrong tag n i = cc

counted_never : (tag n want : ℕ) → Never (counted_fields tag n want)
counted_never tag n want = if_never (n == want) (Ok tt) (Err (e.WrongFields tag n)) (ok_never tt) (fields_wrong tag n)

row_never : {M : Type 0} (row : TableRow M) (tag n : ℕ) (bytes : List ℕ) → Never (row_at row tag n bytes)
row_never row tag n bytes =
    bind_never _ _ (bind_never _ _ (counted_never tag n (length row.kinds))
    (λ u. bind_never _ _ (fields_never row.kinds _ tag 0 _) (λ fields. ended_never _ fields.0 fields.1))) (λ fields. ok_never (row.make fields))

table_never : {M : Type 0} (rows : List (TableRow M)) (tag n : ℕ) (bytes : List ℕ) → Never (in_table rows tag n bytes)
table_never [] tag n bytes = λ i. cc
table_never (row ∷ rows) tag n bytes =
    if_never (row.tag == tag) (row_at row tag n bytes) (in_table rows tag n bytes) (row_never row tag n bytes) (table_never rows tag n bytes)

request_never : (bytes : List ℕ) → Never (request_at bytes)
request_never bytes = bind_never _ _ (head_never bytes) (λ head. table_never requests head.1 head.0 bytes)

-- ---- where a session stands

abbrev pub NeverMemory : ConnStop → Type 0
NeverMemory (stop.Malformed number at cause) = cause ≡ e.Memory → ⊥
NeverMemory _ = Unit {0}

abbrev Calm : ConnState → Type 0
Calm (Ended why) = NeverMemory why
Calm _ = Unit {0}

abbrev IsCalm : Turned → Type 0
IsCalm turn = Calm turn.place.state

by_if : (b : Bool) (x y : Turned) → IsCalm x → IsCalm y → IsCalm (if b then x else y)
by_if true x y h k = h
by_if false x y h k = k

by_check : {A : Type 0} (place : Situation) (r : Checked A) (go : A → Turned) → ((a : A) → IsCalm (go a))
    → IsCalm (elim r [ Err refusal ↦ fails place refusal | Ok a ↦ go a ])
by_check place (Err refusal) go h = tt
by_check place (Ok a) go h = h a

entered_calm : (p : Situation) (query : List ℕ) (params : Pairs) (en : Entrance) → Calm p.state → IsCalm (runs_entered p query params en)
entered_calm p query params en h = by_check p _ (λ call. puts p (enter en.need) (runs en.write call)) (λ call. h)

leave_calm : (p : Situation) (tx : Tx) → Calm p.state → IsCalm (ends_tx p tx)
leave_calm p tx h = by_if (may_leave tx.steps tx.told) (puts p (leave tx.steps tx.told) leaves) (fails p r.TooLarge) h tt

open_calm : (n : Bool) → Calm (if n then TxReady else TxStreaming)
open_calm true = tt
open_calm false = tt

result_calm : (p : Situation) (s : ConnState) (tx : Tx) (number : ℕ) → Calm p.state → IsCalm (ends_result p s tx number)
result_calm p Streaming tx number h = leave_calm p tx h
result_calm p _ tx number h = open_calm (tx.unended == 0)

on_calm : (p : Situation) (tx : Tx) (number : ℕ) (more : Bool) → Calm p.state → IsCalm (goes_on p tx number more)
on_calm p tx number more h =
    by_if more (goes p p.state (opened tx) (success more_meta ∷ [])) (ends_result p p.state tx number) h (result_calm p p.state tx number h)

wish_calm : (p : Situation) (tx : Tx) (keep : Bool) (wish : Wish) → Calm p.state → IsCalm (pulls_wish p tx keep wish)
wish_calm p tx keep wish h =
    let rows = taken wish.count (left_in tx wish) in
    let more = are_left wish.count (left_in tx wish) in
    on_calm p (pulled tx wish (length rows) more) wish.number more h

pull_calm : (p : Situation) (tx : Tx) (keep : Bool) (extra : Pairs) → Calm p.state → IsCalm (pulls p tx keep extra)
pull_calm p tx keep extra h = by_check p _ (λ wish. pulls_wish p tx keep wish) (λ wish. wish_calm p tx keep wish h)

answered_calm : (config : ConnConfig) (p : Situation) (turn : Turn) → Calm p.state → IsCalm (answered config p turn)
answered_calm config p (t.Login extra) h =
    by_if (is_welcome config.auth extra) (rests p Ready (hello_meta config.conn)) (refuses p r.Unauthorized) tt tt
answered_calm config p t.HelloExpected h = tt
answered_calm config p t.End h = tt
answered_calm config p t.Reset h = tt
answered_calm config p t.Ignore h = tt
answered_calm config p (t.Run query params extra) h =
    by_check p _ (λ entrance. runs_entered p query params entrance) (λ entrance. entered_calm p query params entrance h)
answered_calm config p (t.Begin extra) h =
    by_check p _ (λ (entrance : Entrance). puts p (enter entrance.need) (begins entrance.write)) (λ entrance. h)
answered_calm config p (t.Route bookmarks extra) h = by_check p _ (λ (need : ℕ). puts p route routes) (λ need. h)
answered_calm config p (t.Rows extra keep) h = pull_calm (freed p) (tx_in p.doing) keep extra h
answered_calm config p (t.Step query params) h =
    by_check (freed p) _ (λ (call : Call). puts (freed p) (run_asked ((tx_in p.doing).steps ++ call ∷ [])) (adds (without_steps (tx_in p.doing)))) (λ call. h)
answered_calm config p t.Commit h = leave_calm (freed p) (tx_in p.doing) h
answered_calm config p t.Rollback h = tt
answered_calm config p t.OutOfPlace h = tt

streaming_calm : (s : ConnState) → Calm (streaming s)
streaming_calm Ready = tt
streaming_calm _ = tt

begun_calm : (p : Situation) (write : Bool) (fact : Fact) → IsCalm (after_begin p write fact)
begun_calm p write (f.Entered at) = tt
begun_calm p write _ = tt

enter_calm : (p : Situation) (write : Bool) (call : Call) (fact : Fact) → Calm p.state → IsCalm (after_enter p write call fact)
enter_calm p write call (f.Entered at) h = h
enter_calm p write call _ h = tt

step_calm : (p : Situation) (calls : List Call) (tx : Tx) (fact : Fact) → IsCalm (after_step p calls tx fact)
step_calm p calls tx (f.Rows at rows) =
    by_if (nat_lt max_bytes (tx.kept + rows_len rows)) (fails p r.TooLarge) (tells_columns p (with_rows calls tx rows) (length tx.told)) tt
    (streaming_calm p.state)
step_calm p calls tx _ = tt

run_calm : (p : Situation) (q : Question) (tx : Tx) (fact : Fact) → IsCalm (after_run p q tx fact)
run_calm p (run_asked calls) tx fact = step_calm p calls tx fact
run_calm p _ tx fact = tt

done_calm : (config : ConnConfig) (p : Situation) (s : ConnState) (calls : List Call) (at : ℕ) → IsCalm (tells_done config p s calls at)
done_calm config p Streaming calls at = tt
done_calm config p _ calls at = tt

end_calm : (config : ConnConfig) (p : Situation) (calls : List Call) (fact : Fact) → IsCalm (after_end config p calls fact)
end_calm config p calls (f.Done at) = done_calm config p p.state calls at
end_calm config p calls (f.Placed at) = done_calm config p p.state calls at
end_calm config p calls _ = tt

left_calm : (config : ConnConfig) (p : Situation) (q : Question) (fact : Fact) → IsCalm (after_leave config p q fact)
left_calm config p (leave calls told) fact = end_calm config p calls fact
left_calm config p _ fact = tt

route_calm : (config : ConnConfig) (p : Situation) (fact : Fact) → IsCalm (after_route config p fact)
route_calm config p (f.Routed leader) = tt
route_calm config p _ = tt

heard_calm : (config : ConnConfig) (p : Situation) (q : Question) (n : Next) (fact : Fact) → Calm p.state → IsCalm (heard config p q n fact)
heard_calm config p q (begins write) fact h = begun_calm p write fact
heard_calm config p q (runs write call) fact h = enter_calm p write call fact h
heard_calm config p q (adds tx) fact h = run_calm p q tx fact
heard_calm config p q leaves fact h = left_calm config p q fact
heard_calm config p q routes fact h = route_calm config p fact

shake_calm : (p : Situation) (shake : Shake) → Calm p.state → IsCalm (on_shake p shake)
shake_calm p Chosen h = tt
shake_calm p NoVersion h = tt
shake_calm p BadMagic h = tt
shake_calm p More h = h

message_by : (config : ConnConfig) (p : Situation) (bytes : List ℕ) (r : Result Request MessageError) → Never r → Calm p.state
    → IsCalm (elim r [
      | Ok request ↦ answered config (counted p) (turn_of p.state request)
      | Err cause ↦ ends p (stop.Malformed p.number (fault_at (length bytes) cause) cause) []
    ])
message_by config p bytes (Ok request) n h = answered_calm config (counted p) (turn_of p.state request) h
message_by config p bytes (Err cause) n h = λ i. n (ap Err i)

live_calm : (config : ConnConfig) (p : Situation) (i : Input) → Calm p.state → IsCalm (on_live config p i)
live_calm config p (shaken shake) h = shake_calm p shake h
live_calm config p (message bytes) h = message_by config p bytes (request_at bytes) (request_never bytes) h
live_calm config p too_long h = tt

input_calm : (config : ConnConfig) (p : Situation) (s : ConnState) (i : Input) → Calm p.state → IsCalm (on_input config p s i)
input_calm config p (Ended why) i h = h
input_calm config p _ i h = live_calm config p i h

reads_calm : (config : ConnConfig) (p : Situation) (xs : List Input) (fs : List Fact) (s : Standing) → reads config p xs fs ≡ Some s
    → Calm p.state → Calm s.core.state
reads_calm config p [] fs s i h = absurd (cc)
reads_calm config p (x ∷ xs) fs s i h =
    let is : (on_input config p p.state x).place ≡ s.core = cc in
    subst (λ (q : Situation). Calm q.state) is (input_calm config p p.state x h)

hears_by : (b : Bool) (u s : Standing) → (if b then Some u else None) ≡ Some s → Calm u.core.state → Calm s.core.state
hears_by false u s i h = absurd (cc)
hears_by true u s i h = let is : u ≡ s = cc in subst (λ (r : Standing). Calm r.core.state) is h

hears_calm : (config : ConnConfig) (p : Situation) (q : Question) (n : Next) (xs : List Input) (fs : List Fact) (s : Standing)
    → hears config p q n xs fs ≡ Some s → Calm p.state → Calm s.core.state
hears_calm config p q n xs [] s i h = absurd (cc)
hears_calm config p q n xs (x ∷ fs) s i h =
    let u = heard config (freed p) q n x in
    hears_by (fits q x) (record { core = u.place; items = xs; facts = fs; written = u.written }) s i (heard_calm config (freed p) q n x h)

acts_calm : (config : ConnConfig) (p : Situation) (d : Doing) (xs : List Input) (fs : List Fact) (s : Standing)
    → acts config p d xs fs ≡ Some s → Calm p.state → Calm s.core.state
acts_calm config p (asks q n) xs fs s i h = hears_calm config p q n xs fs s i h
acts_calm config p idle xs fs s i h = reads_calm config p xs fs s i h
acts_calm config p (opened tx) xs fs s i h = reads_calm config p xs fs s i h

goes_calm : (config : ConnConfig) (p : Situation) (state : ConnState) (xs : List Input) (fs : List Fact) (s : Standing)
    → goes_by config p state xs fs ≡ Some s → Calm p.state → Calm s.core.state
goes_calm config p (Ended why) xs fs s i h = reads_calm config p xs fs s i h
goes_calm config p _ xs fs s i h = acts_calm config p p.doing xs fs s i h

move_calm : (config : ConnConfig) (p : Situation) (xs : List Input) (fs : List Fact) (s : Standing) → move config p xs fs ≡ Some s
    → Calm p.state → Calm s.core.state
unfolding move
move_calm config p xs fs s i h = goes_calm config p p.state xs fs s i h

session_calm : (config : ConnConfig) (bytes : List ℕ) (facts : List Fact) → Calm (session config bytes facts).core.state
unfolding session
session_calm config bytes facts =
    keeps (move config) (λ (p : Situation). Calm p.state) (λ p xs fs s i h. move_calm config p xs fs s i h) start (inputs_of bytes) facts tt

pub never_memory : (config : ConnConfig) (bytes : List ℕ) (facts : List Fact) (why : ConnStop)
    → (session config bytes facts).core.state ≡ Ended why → NeverMemory why
never_memory config bytes facts why i = subst Calm i (session_calm config bytes facts)
