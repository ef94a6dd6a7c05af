-- A session asks no question that it may not ask.
use Rattle.std.proofs.Common.{◌≡◌, ℕ, zero, suc, ◌+◌, ◌<◌, ◌≤◌, Bool, true, false, not, ◌||◌, IsTrue, Some, None, Ok, Err, List, [], ◌∷◌, ◌++◌, length}
use Rattle.std.proofs.Common.{refl, ap, ◌∙◌, subst, length-append, arith}
use Rattle.std.specs.Prelude.{Option, Result, if◌then◌else◌, nat_lt}
use Rattle.ncc_pack.specs.declared.value.Value.{Value}
use Rattle.ncc_pack.specs.declared.value.Value.TheVariants as v
use Rattle.ncc_bolt.specs.Fields.{Pairs}
use Rattle.ncc_bolt.specs.Reading.{request_at}
use Rattle.ncc_bolt.specs.declared.message.Request.{Request}
use Rattle.ncc_bolt.specs.declared.error.MessageError.{MessageError}
use Rattle.ncc_chunk.specs.declared.handshake.Shake.{Shake}
use Rattle.ncc_chunk.specs.declared.handshake.Shake.TheVariants.{More, Chosen, BadMagic, NoVersion}
use Rattle.ncc_store.specs.declared.call.Call.{Call}
use Rattle.ncc_store.specs.Rows.{rows_len, max_bytes}
use Rattle.ncc_stream.specs.Stream.{Stand, Move, run, going}
use Rattle.ncc_stream.proofs.Going.{at_none, at_some}
use Rattle.ncc_session.specs.declared.config.ConnConfig.{ConnConfig}
use Rattle.ncc_session.specs.declared.state.ConnState.{ConnState}
use Rattle.ncc_session.specs.declared.state.ConnState.TheVariants.{Streaming, Ended}
use Rattle.ncc_session.specs.declared.ask.Fact.{Fact}
use Rattle.ncc_session.specs.declared.ask.Fact.TheVariants as f
use Rattle.ncc_session.specs.declared.table.Turn.{Turn}
use Rattle.ncc_session.specs.declared.table.Turn.TheVariants as t
use Rattle.ncc_session.specs.declared.checks.Wish.{Wish}
use Rattle.ncc_session.specs.declared.checks.Entrance.{Entrance}
use Rattle.ncc_session.specs.Checks.{Checked, entrance_of, need_of, checked_call, wish_of, is_welcome}
use Rattle.ncc_session.specs.Question.{Question, run as run_asked, leave, some_writes, fits}
use Rattle.ncc_session.specs.Core.{Tx, Next, begins, runs, adds, leaves, routes, Doing, idle, opened, asks, Situation}
use Rattle.ncc_session.specs.Table.{turn_of}
use Rattle.ncc_session.specs.Turns.{Turned, freed, allowed, may_leave, MayAsk, tx_in, ends_tx, ends_result, goes_on, pulls}
use Rattle.ncc_session.specs.Turns.{pulled, taken, left_in, are_left}
use Rattle.ncc_session.specs.Turns.{runs_entered, runs_alone, begins_one, asks_route, checked_step, runs_step, answered}
use Rattle.ncc_session.specs.Turns.{tells_done, after_begin, after_enter, after_step, after_run, after_end, after_leave}
use Rattle.ncc_session.specs.Turns.{after_route, heard}
use Rattle.ncc_session.specs.Session.{Input, shaken, message, too_long, Standing, on_shake, counted, on_message, on_live, on_input}
use Rattle.ncc_session.specs.Session.{reads, hears, acts, goes_by, move, inputs_of, start, session, is_ended, question_in, asked_at}
use Rattle.ncc_session.specs.Talk.{Talk, asked, MayAskAt, facts_behind, facts_in, facts_left}
use Rattle.ncc_session.specs.Took.{Took}
use Rattle.ncc_chunk.specs.Inflow.{Inflow}

-- what is asked may be asked
abbrev pub IsFine : Doing → Type 0
IsFine (asks question next) = MayAsk question
IsFine _ = Unit {0}

-- nothing is asked
abbrev IsQuiet : Doing → Type 0
IsQuiet (asks question next) = ⊥
IsQuiet _ = Unit {0}

quiet_fine : (d : Doing) → IsQuiet d → IsFine d
quiet_fine (asks q n) h = absurd h
quiet_fine idle h = tt
quiet_fine (opened tx) h = tt

quiet_none : (d : Doing) → IsQuiet d → facts_in d ≡ 0
quiet_none (asks q n) h = absurd h
quiet_none idle h = refl
quiet_none (opened tx) h = refl

quiet_if : (b : Bool) (x y : Turned) → IsQuiet x.place.doing → IsQuiet y.place.doing → IsQuiet (if b then x else y).place.doing
quiet_if true x y h k = h
quiet_if false x y h k = k

fine_if : (b : Bool) (x y : Turned) → IsFine x.place.doing → IsFine y.place.doing → IsFine (if b then x else y).place.doing
fine_if true x y h k = h
fine_if false x y h k = k

-- ---- requests

entered_fine : (p : Situation) (query : List ℕ) (params : Pairs) (e : Entrance) (r : Checked Call)
    → checked_call e.write query params ≡ r → IsFine (runs_entered p query params e).place.doing
entered_fine p query params e (Err refusal) h = rw (h, IsFine) tt
entered_fine p query params e (Ok call) h = rw (h, IsFine) tt

alone_fine : (config : ConnConfig) (p : Situation) (query : List ℕ) (params extra : Pairs) (r : Checked Entrance)
    → entrance_of config.members.cluster extra ≡ r → IsFine (runs_alone config p query params extra).place.doing
alone_fine config p query params extra (Err refusal) h = rw (h, IsFine) tt
alone_fine config p query params extra (Ok e) h = rw (h, IsFine) (entered_fine p query params e (checked_call e.write query params) refl)

begins_fine : (config : ConnConfig) (p : Situation) (extra : Pairs) (r : Checked Entrance)
    → entrance_of config.members.cluster extra ≡ r → IsFine (begins_one config p extra).place.doing
begins_fine config p extra (Err refusal) h = rw (h, IsFine) tt
begins_fine config p extra (Ok e) h = rw (h, IsFine) tt

route_fine : (config : ConnConfig) (p : Situation) (bookmarks : List Value) (extra : Pairs) (r : Checked ℕ)
    → need_of config.members.cluster (Some (v.List bookmarks)) extra ≡ r → IsFine (asks_route config p bookmarks extra).place.doing
route_fine config p bookmarks extra (Err refusal) h = rw (h, IsFine) tt
route_fine config p bookmarks extra (Ok need) h = rw (h, IsFine) tt

some_step : (calls : List Call) (call : Call) → 0 < length (calls ++ call ∷ [])
some_step calls call = let l = length-append calls (call ∷ []) in omega arith

step_fine : (p : Situation) (tx : Tx) (query : List ℕ) (params : Pairs) (r : Checked Call)
    → checked_step tx query params ≡ r → IsFine (runs_step p tx query params).place.doing
step_fine p tx query params (Err refusal) h = rw (h, IsFine) tt
step_fine p tx query params (Ok call) h = rw (h, IsFine) (some_step tx.steps call)

leave_by : (b c : Bool) → (not b || c) ≡ true → IsTrue b → IsTrue c
leave_by true c e h = e
leave_by false c e h = absurd (let f : false ≡ true = h in cc)

ends_by : (p : Situation) (tx : Tx) (b : Bool) → may_leave tx.steps tx.told ≡ b → IsFine (ends_tx p tx).place.doing
ends_by p tx true h = rw (h, IsFine) (leave_by (some_writes tx.steps) (allowed tx.steps tx.told) h)
ends_by p tx false h = rw (h, IsFine) tt

ends_fine : (p : Situation) (tx : Tx) → IsFine (ends_tx p tx).place.doing
ends_fine p tx = ends_by p tx (may_leave tx.steps tx.told) refl

result_fine : (p : Situation) (s : ConnState) (tx : Tx) (number : ℕ) → IsFine (ends_result p s tx number).place.doing
result_fine p Streaming tx number = ends_fine p tx
result_fine p _ tx number = tt

goes_on_fine : (p : Situation) (tx : Tx) (number : ℕ) (more : Bool) → IsFine (goes_on p tx number more).place.doing
goes_on_fine p tx number true = tt
goes_on_fine p tx number false = result_fine p p.state tx number

pulls_fine : (p : Situation) (tx : Tx) (keep : Bool) (extra : Pairs) (r : Checked Wish) → wish_of tx.results extra ≡ r
    → IsFine (pulls p tx keep extra).place.doing
pulls_fine p tx keep extra (Err refusal) h = rw (h, IsFine) tt
pulls_fine p tx keep extra (Ok wish) h =
    let rows = taken wish.count (left_in tx wish) in
    let more = are_left wish.count (left_in tx wish) in
    rw (h, IsFine) (goes_on_fine p (pulled tx wish (length rows) more) wish.number more)

answered_fine : (config : ConnConfig) (p : Situation) (turn : Turn) → IsFine (answered config p turn).place.doing
answered_fine config p (t.Login extra) = fine_if (is_welcome config.auth extra) _ _ tt tt
answered_fine config p t.HelloExpected = tt
answered_fine config p t.End = tt
answered_fine config p t.Reset = tt
answered_fine config p t.Ignore = tt
answered_fine config p (t.Run query params extra) =
    alone_fine config p query params extra (entrance_of config.members.cluster extra) refl
answered_fine config p (t.Begin extra) = begins_fine config p extra (entrance_of config.members.cluster extra) refl
answered_fine config p (t.Route bookmarks extra) =
    route_fine config p bookmarks extra (need_of config.members.cluster (Some (v.List bookmarks)) extra) refl
answered_fine config p (t.Rows extra keep) =
    pulls_fine (freed p) (tx_in p.doing) keep extra (wish_of (tx_in p.doing).results extra) refl
answered_fine config p (t.Step query params) =
    step_fine (freed p) (tx_in p.doing) query params (checked_step (tx_in p.doing) query params) refl
answered_fine config p t.Commit = ends_fine (freed p) (tx_in p.doing)
answered_fine config p t.Rollback = tt
answered_fine config p t.OutOfPlace = tt

message_fine : (config : ConnConfig) (p : Situation) (bytes : List ℕ) (r : Result Request MessageError) → request_at bytes ≡ r
    → IsFine (on_message config p bytes).place.doing
message_fine config p bytes (Err cause) h = rw (h, IsFine) tt
message_fine config p bytes (Ok request) h = rw (h, IsFine) (answered_fine config (counted p) (turn_of p.state request))

shake_fine : (p : Situation) (shake : Shake) → IsFine p.doing → IsFine (on_shake p shake).place.doing
shake_fine p Chosen h = tt
shake_fine p NoVersion h = tt
shake_fine p BadMagic h = tt
shake_fine p More h = h

live_fine : (config : ConnConfig) (p : Situation) (i : Input) → IsFine p.doing → IsFine (on_live config p i).place.doing
live_fine config p (shaken shake) h = shake_fine p shake h
live_fine config p (message bytes) h = message_fine config p bytes (request_at bytes) refl
live_fine config p too_long h = tt

input_fine : (config : ConnConfig) (p : Situation) (s : ConnState) (i : Input) → IsFine p.doing → IsFine (on_input config p s i).place.doing
input_fine config p (Ended stop) i h = h
input_fine config p _ i h = live_fine config p i h

-- ---- facts: a fact lowers how many are told, and behind a question for an entrance a run is asked

-- what a fact leads to
record Heard (next : Next) (d : Doing) : Type 0 where
  fine : IsFine d
  less : facts_in d < facts_behind next

one_behind : (n : Next) → 0 < facts_behind n
one_behind (begins write) = omega arith
one_behind (runs write call) = omega arith
one_behind (adds tx) = omega arith
one_behind leaves = omega arith
one_behind routes = omega arith

heard_quiet : (n : Next) (d : Doing) → IsQuiet d → Heard n d
heard_quiet n d h =
    let z = quiet_none d h in
    let o = one_behind n in
    record { fine = quiet_fine d h; less = omega arith }

begin_quiet : (p : Situation) (write : Bool) (fact : Fact) → IsQuiet (after_begin p write fact).place.doing
begin_quiet p write (f.Entered at) = tt
begin_quiet p write _ = tt

enter_heard : (p : Situation) (write : Bool) (call : Call) (fact : Fact)
    → Heard (runs write call) (after_enter p write call fact).place.doing
enter_heard p write call (f.Entered at) = record { fine = omega arith; less = omega arith }
enter_heard p write call _ = record { fine = tt; less = omega arith }

step_quiet : (p : Situation) (calls : List Call) (tx : Tx) (fact : Fact) → IsQuiet (after_step p calls tx fact).place.doing
step_quiet p calls tx (f.Rows at rows) = quiet_if (nat_lt max_bytes (tx.kept + rows_len rows)) _ _ tt tt
step_quiet p calls tx _ = tt

run_quiet : (p : Situation) (q : Question) (tx : Tx) (fact : Fact) → IsQuiet (after_run p q tx fact).place.doing
run_quiet p (run_asked calls) tx fact = step_quiet p calls tx fact
run_quiet p _ tx fact = tt

done_quiet : (config : ConnConfig) (p : Situation) (s : ConnState) (calls : List Call) (at : ℕ)
    → IsQuiet (tells_done config p s calls at).place.doing
done_quiet config p Streaming calls at = tt
done_quiet config p _ calls at = tt

end_quiet : (config : ConnConfig) (p : Situation) (calls : List Call) (fact : Fact) → IsQuiet (after_end config p calls fact).place.doing
end_quiet config p calls (f.Done at) = done_quiet config p p.state calls at
end_quiet config p calls (f.Placed at) = done_quiet config p p.state calls at
end_quiet config p calls _ = tt

leave_quiet : (config : ConnConfig) (p : Situation) (q : Question) (fact : Fact) → IsQuiet (after_leave config p q fact).place.doing
leave_quiet config p (leave calls told) fact = end_quiet config p calls fact
leave_quiet config p _ fact = tt

route_quiet : (config : ConnConfig) (p : Situation) (fact : Fact) → IsQuiet (after_route config p fact).place.doing
route_quiet config p (f.Routed leader) = tt
route_quiet config p _ = tt

by_next : (config : ConnConfig) (p : Situation) (q : Question) (n : Next) (fact : Fact) → Heard n (heard config p q n fact).place.doing
by_next config p q (begins write) fact = heard_quiet (begins write) _ (begin_quiet p write fact)
by_next config p q (runs write call) fact = enter_heard p write call fact
by_next config p q (adds tx) fact = heard_quiet (adds tx) _ (run_quiet p q tx fact)
by_next config p q leaves fact = heard_quiet leaves _ (leave_quiet config p q fact)
by_next config p q routes fact = heard_quiet routes _ (route_quiet config p fact)

-- a fact leads to fewer facts
pub heard_less : (config : ConnConfig) (p : Situation) (q : Question) (n : Next) (fact : Fact)
    → facts_in (heard config p q n fact).place.doing < facts_behind n
heard_less config p q n fact = (by_next config p q n fact).less

pub tell_less : (config : ConnConfig) (p r s : Situation) (q : Question) (n : Next) (fact : Fact) (d f : Inflow) (a b : List ℕ)
    → p.doing ≡ asks q n → Took (heard config (freed p) q n fact) a r b → facts_left s f ≤ facts_left r d
    → facts_left s f < facts_left p d
tell_less config p r s q n fact d f a b e took h =
    let less = heard_less config (freed p) q n fact in
    let here : facts_in p.doing ≡ facts_behind n = ap facts_in e in
    let there : facts_in r.doing ≡ facts_in (heard config (freed p) q n fact).place.doing =
    ap (λ (x : Situation). facts_in x.doing) took.place_is in
    omega arith

-- ---- over whole sessions

reads_fine : (config : ConnConfig) (p : Situation) (xs : List Input) (fs : List Fact) (s : Standing) → reads config p xs fs ≡ Some s
    → IsFine p.doing → IsFine s.core.doing
reads_fine config p [] fs s e h = absurd (cc)
reads_fine config p (x ∷ xs) fs s e h =
    let is : (on_input config p p.state x).place ≡ s.core = cc in
    subst (λ (q : Situation). IsFine q.doing) is (input_fine config p p.state x h)

hears_by : (b : Bool) (u s : Standing) → (if b then Some u else None) ≡ Some s → IsFine u.core.doing → IsFine s.core.doing
hears_by false u s e h = absurd (cc)
hears_by true u s e h = let is : u ≡ s = cc in subst (λ (r : Standing). IsFine r.core.doing) is h

hears_fine : (config : ConnConfig) (p : Situation) (q : Question) (n : Next) (xs : List Input) (fs : List Fact) (s : Standing)
    → hears config p q n xs fs ≡ Some s → IsFine s.core.doing
hears_fine config p q n xs [] s e = absurd (cc)
hears_fine config p q n xs (x ∷ fs) s e =
    let u = heard config (freed p) q n x in
    let stand : Standing = record { core = u.place; items = xs; facts = fs; written = u.written } in
    hears_by (fits q x) stand s e (by_next config (freed p) q n x).fine

acts_fine : (config : ConnConfig) (p : Situation) (d : Doing) (xs : List Input) (fs : List Fact) (s : Standing)
    → acts config p d xs fs ≡ Some s → IsFine p.doing → IsFine s.core.doing
acts_fine config p (asks q n) xs fs s e h = hears_fine config p q n xs fs s e
acts_fine config p idle xs fs s e h = reads_fine config p xs fs s e h
acts_fine config p (opened tx) xs fs s e h = reads_fine config p xs fs s e h

goes_fine : (config : ConnConfig) (p : Situation) (state : ConnState) (xs : List Input) (fs : List Fact) (s : Standing)
    → goes_by config p state xs fs ≡ Some s → IsFine p.doing → IsFine s.core.doing
goes_fine config p (Ended stop) xs fs s e h = reads_fine config p xs fs s e h
goes_fine config p _ xs fs s e h = acts_fine config p p.doing xs fs s e h

move_fine : (config : ConnConfig) (p : Situation) (xs : List Input) (fs : List Fact) (s : Standing) → move config p xs fs ≡ Some s
    → IsFine p.doing → IsFine s.core.doing
unfolding move
move_fine config p xs fs s e h = goes_fine config p p.state xs fs s e h

-- what each move keeps, all of them keep
module _ {C E F W : Type 0} (move : Move C E F W) (P : C → Type 0)
    (each : (c : C) (xs : List E) (fs : List F) (t : Stand C E F W) → move c xs fs ≡ Some t → P c → P t.core) where
  keeps_at : (n : ℕ) (c : C) (xs : List E) (fs : List F) (o : Option (Stand C E F W)) → move c xs fs ≡ o
      → ((d : C) (ys : List E) (gs : List F) → P d → P (run move n d ys gs).core) → P c → P (run move (suc n) c xs fs).core
  keeps_at n c xs fs None e ih h = rw (at_none move (suc n) c xs fs e) h
  keeps_at n c xs fs (Some t) e ih h = rw (at_some move n c xs fs t e) (ih t.core t.items t.facts (each c xs fs t e h))

  keeps_by : (n : ℕ) (c : C) (xs : List E) (fs : List F) → P c → P (run move n c xs fs).core
  unfolding run
  keeps_by zero c xs fs h = h
  keeps_by (suc n) c xs fs h = keeps_at n c xs fs (move c xs fs) refl (λ d ys gs. keeps_by n d ys gs) h

  pub keeps : (c : C) (xs : List E) (fs : List F) → P c → P (going move c xs fs).core
  unfolding going
  keeps c xs fs h = keeps_by (length xs + length fs) c xs fs h

session_fine : (config : ConnConfig) (bytes : List ℕ) (facts : List Fact) → IsFine (session config bytes facts).core.doing
unfolding session
session_fine config bytes facts =
    keeps (move config) (λ (p : Situation). IsFine p.doing) (λ p xs fs s e h. move_fine config p xs fs s e h) start (inputs_of bytes) facts tt

fine_in : (d : Doing) (q : Question) → question_in d ≡ Some q → IsFine d → MayAsk q
fine_in (asks p n) q e h = let is : p ≡ q = cc in subst MayAsk is h
fine_in idle q e h = absurd (cc)
fine_in (opened tx) q e h = absurd (cc)

fine_at : (ended : Bool) (d : Doing) (q : Question) → (if ended then None else question_in d) ≡ Some q → IsFine d → MayAsk q
fine_at true d q e h = absurd (cc)
fine_at false d q e h = fine_in d q e h

pub asks_fine : (config : ConnConfig) (bytes : List ℕ) (facts : List Fact) (q : Question)
    → asked_at (session config bytes facts).core ≡ Some q → MayAsk q
asks_fine config bytes facts q e =
    let s = session config bytes facts in
    fine_at (is_ended s.core.state) s.core.doing q e (session_fine config bytes facts)

pub asked_is : (spent : Bool) (p : Situation) (q : Question) (n : Next) → spent ≡ false → is_ended p.state ≡ false → p.doing ≡ asks q n
    → (if spent then None else asked_at p) ≡ Some q
asked_is spent p q n e f g =
    ap (λ b. if b then None else asked_at p) e ∙ ap (λ b. if b then None else question_in p.doing) f ∙ ap question_in g

asked_fine : (spent : Bool) (p : Situation) (q : Question) → (if spent then None else asked_at p) ≡ Some q → IsFine p.doing → MayAsk q
asked_fine true p q e h = absurd (cc)
asked_fine false p q e h = fine_at (is_ended p.state) p.doing q e h

pub may_ask : (t : Talk) (q : Question) → asked t ≡ Some q → MayAskAt t q
may_ask t q e config bytes facts out k =
    asked_fine t.spent t.place q e
    (subst (λ (s : Standing). IsFine s.core.doing) k.went (session_fine config bytes facts))
