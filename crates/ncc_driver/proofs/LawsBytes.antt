-- What a session is told by bytes has a spelling: so all that it presents, and each address that it connects to, has one.
use Rattle.std.proofs.Common.{◌≡◌, ℕ, zero, suc, Bool, true, false, List, [], ◌∷◌, ◌++◌, length, take, drop, map}
use Rattle.std.proofs.Common.{Option, Some, None, Result, Ok, Err, refl, sym, subst, arith}
use Rattle.std.specs.Prelude.{if◌then◌else◌, nat_lt}
use Rattle.std.specs.List.{AllByRecursion}
use Rattle.ncc_pack.specs.declared.value.Value.{Value}
use Rattle.ncc_pack.specs.declared.value.Value.TheVariants as v
use Rattle.ncc_pack.specs.Fits.{fits}
use Rattle.ncc_pack.proofs.Fields.{IsBytes}
use Rattle.ncc_bolt.specs.Reading.{response_at}
use Rattle.ncc_bolt.specs.declared.error.MessageError.{MessageError}
use Rattle.ncc_bolt.specs.declared.message.Response.{Response}
use Rattle.ncc_bolt.specs.declared.message.Response.TheVariants as s
use Rattle.ncc_bolt.proofs.Joined.{response_taken}
use Rattle.ncc_chunk.specs.Chunks.{Chunks, none, chunk, Framed, nothing, no_op, message}
use Rattle.ncc_chunk.specs.Messages.{messages_of, is_too_long}
use Rattle.ncc_chunk.proofs.Parts.{functions_read}
use Rattle.ncc_route.specs.declared.table.Role.{Role}
use Rattle.ncc_route.specs.Routing.{picked}
use Rattle.rand_pcg.specs.Pcg.{pcg32}
use Rattle.ncc_driver.specs.declared.config.SessionConfig.{SessionConfig}
use Rattle.ncc_driver.specs.declared.standing.Core.{Core}
use Rattle.ncc_driver.specs.declared.standing.Leg.{Leg}
use Rattle.ncc_driver.specs.declared.standing.Leg.TheVariants.{Routing, Working}
use Rattle.ncc_driver.specs.declared.standing.Asked.{Asked}
use Rattle.ncc_driver.specs.declared.standing.Asked.TheVariants as a
use Rattle.ncc_driver.specs.declared.standing.Stage.{Stage}
use Rattle.ncc_driver.specs.declared.standing.Stage.TheVariants as stage
use Rattle.ncc_driver.specs.declared.link.Item.{Item}
use Rattle.ncc_driver.specs.declared.link.Item.TheVariants.{Shaken, Message, TooLong}
use Rattle.ncc_driver.specs.declared.action.Action.{Action}
use Rattle.ncc_driver.specs.declared.action.Action.TheVariants.{Connect, Send, Close, Sleep, Receive, Finish}
use Rattle.ncc_driver.specs.declared.action.Input.{Input}
use Rattle.ncc_driver.specs.declared.action.Input.TheVariants as i
use Rattle.ncc_driver.specs.declared.action.WorkError.TheVariants as e
use Rattle.ncc_driver.specs.declared.action.Last.{Last}
use Rattle.ncc_driver.specs.declared.action.Last.TheVariants as last
use Rattle.ncc_driver.specs.declared.answers.Told.{Told}
use Rattle.ncc_driver.specs.declared.answers.Told.TheVariants as says
use Rattle.ncc_driver.specs.declared.work.WorkStep.{WorkStep}
use Rattle.ncc_driver.specs.declared.work.WorkStep.TheVariants as w
use Rattle.ncc_driver.specs.Work.{Row, Job}
use Rattle.ncc_driver.specs.Config.{config_fits}
use Rattle.ncc_driver.specs.Keeping.{told_fits}
use Rattle.ncc_driver.specs.Answers.{response_of}
use Rattle.ncc_driver.specs.State.{SessionState, new_core}
use Rattle.ncc_driver.specs.Attempts.{at_core, finishes, refuses, retries, sleeps, is_spent, drops_table}
use Rattle.ncc_driver.specs.Attempts.{is_transient, is_no_leader, joins, joins_server, joins_by, joins_router, router_of, one_more, role_of}
use Rattle.ncc_driver.specs.Attempts.{drawn, addresses_in, opened, is_fresh, takes_step, follows_hello, follows, keeps_table}
use Rattle.ncc_driver.specs.Attempts.{behind, so_far}
use Rattle.ncc_driver.specs.Session.{Listening, Standing, State, Ran, Moved, Begun, told_by, answered, listening, items_of, stream_items}
use Rattle.ncc_driver.specs.Session.{end_of, or_more, hears, on_input, on, ahead, begins, told_all, works_all, session, new_state}
use Rattle.ncc_driver.specs.LawsFits.{AreBytes, InputBytes, ToldBytes}
use Rattle.ncc_driver.proofs.Kept.{Kept, stage_kept, role_texts, table_kept, behind_kept, attempts_kept, loses_kept}
use Rattle.ncc_driver.proofs.Kept.{picked_address, routers_fit, IsAddress, kept_of}
use Rattle.ncc_driver.proofs.ToldFits.{success_fits, record_fits, code_fits, meta_fits, failure_fits}
use Rattle.ncc_driver.proofs.LawsGrammar.{told_message}
use Rattle.ncc_driver.proofs.LawsHearing.{next, hear, going_is, walk}
use Rattle.ncc_driver.proofs.Talking.{new_keeps}

-- ---- bytes

at_bytes : (bytes : List ℕ) → AreBytes bytes → IsBytes bytes
at_bytes [] h i = omega arith
at_bytes (x ∷ xs) h zero = h.0
at_bytes (x ∷ xs) h (suc i) = at_bytes xs h.1 i

bytes_on : (xs ys : List ℕ) → AreBytes xs → AreBytes ys → AreBytes (xs ++ ys)
bytes_on [] ys h k = k
bytes_on (x ∷ xs) ys h k = (h.0, bytes_on xs ys h.1 k)

bytes_front : (xs ys : List ℕ) → AreBytes (xs ++ ys) → AreBytes xs
bytes_front [] ys h = tt
bytes_front (x ∷ xs) ys h = (h.0, bytes_front xs ys h.1)

bytes_back : (xs ys : List ℕ) → AreBytes (xs ++ ys) → AreBytes ys
bytes_back [] ys h = h
bytes_back (x ∷ xs) ys h = bytes_back xs ys h.1

bytes_drop : (n : ℕ) (xs : List ℕ) → AreBytes xs → AreBytes (drop n xs)
bytes_drop zero xs h = h
bytes_drop (suc n) [] h = h
bytes_drop (suc n) (x ∷ xs) h = bytes_drop n xs h.1

chunk_bytes : {m bytes : List ℕ} → Chunks m bytes → AreBytes bytes → AreBytes m
chunk_bytes none h = tt
chunk_bytes (chunk high low body m bytes p l c) h =
    bytes_on body m (bytes_front body bytes h.1.1) (chunk_bytes c (bytes_back body bytes h.1.1))

framed_bytes : {stream rest : List ℕ} {messages : List (List ℕ)} → Framed stream messages rest → AreBytes stream
    → AllByRecursion AreBytes messages
framed_bytes (nothing k) h = tt
framed_bytes (no_op f) h = framed_bytes f h.1.1
framed_bytes (message first spelled bytes sp f) h =
    let one = bytes_front spelled bytes h in
    let chunks = bytes_front sp.chunks (0 ∷ 0 ∷ []) (subst AreBytes sp.ends one) in
    (chunk_bytes sp.whole chunks, framed_bytes f (bytes_back spelled bytes h))

-- ---- items

abbrev IsOfBytes : Item → Type 0
IsOfBytes (Message bytes) = AreBytes bytes
IsOfBytes _ = Unit {0}

abbrev OfBytes : List Item → Type 0
OfBytes items = AllByRecursion IsOfBytes items

items_by : (messages : List (List ℕ)) (long : Bool) → AllByRecursion AreBytes messages → OfBytes (map Message messages ++ end_of long)
items_by [] true h = (tt, tt)
items_by [] false h = tt
items_by (x ∷ xs) long h = (h.0, items_by xs long h.1)

link_items : (came : List ℕ) (short : Bool) → AreBytes came
    → OfBytes (if short then [] else Shaken (take 4 came) ∷ stream_items (drop 4 came))
link_items came true h = tt
link_items came false h =
    let stream = drop 4 came in
    (tt, items_by (messages_of stream) (is_too_long stream) (framed_bytes (functions_read stream) (bytes_drop 4 came h)))

items_drop : (n : ℕ) (items : List Item) → OfBytes items → OfBytes (drop n items)
items_drop zero items h = h
items_drop (suc n) [] h = h
items_drop (suc n) (x ∷ items) h = items_drop n items h.1

-- ---- what is told

abbrev told_of : Asked → ℕ → List Row → Result Response MessageError → Told
told_of asked now rows read = elim read [ Ok response ↦ response_of asked now rows response | Err cause ↦ says.Bad ]

read_fits : (asked : Asked) (now : ℕ) (rows : List Row) (bytes : List ℕ) (read : Result Response MessageError) → IsBytes bytes
    → response_at bytes ≡ read → told_fits rows (told_of asked now rows read) ≡ true
read_fits asked now rows bytes (Ok (s.Success meta)) h e =
    success_fits asked now meta rows (meta_fits (s.Success meta) meta bytes (response_taken bytes (s.Success meta) h e) refl)
read_fits asked now rows bytes (Ok (s.Failure meta)) h e =
    code_fits meta rows (failure_fits (s.Failure meta) meta bytes (response_taken bytes (s.Failure meta) h e) refl)
read_fits asked now rows bytes (Ok (s.Row fields)) h e = record_fits asked rows fields
read_fits asked now rows bytes (Ok s.Ignored) h e = refl
read_fits asked now rows bytes (Err cause) h e = refl

shake_fits : (rows : List Row) (b : Bool) → told_fits rows (if b then says.Done else says.Bad) ≡ true
shake_fits rows true = refl
shake_fits rows false = refl

item_fits : (asked : Asked) (now : ℕ) (rows : List Row) (item : Item) → IsOfBytes item
    → told_fits rows (told_by asked now rows item) ≡ true
item_fits asked now rows (Message bytes) h =
    subst (λ (told : Told). told_fits rows told ≡ true) (sym (told_message asked now rows bytes))
    (read_fits asked now rows bytes (response_at bytes) (at_bytes bytes h) refl)
item_fits (a.Shake leg) now rows (Shaken bytes) h = shake_fits rows _
item_fits (a.Shake leg) now rows TooLong h = refl
item_fits (a.Hello leg) now rows _ h = refl
item_fits a.Route now rows _ h = refl
item_fits a.Begin now rows _ h = refl
item_fits a.Run now rows _ h = refl
item_fits a.Pull now rows _ h = refl
item_fits a.Commit now rows _ h = refl

-- ---- who is connected to

abbrev pub ConnectsFit : List Action → Type 0
ConnectsFit [] = Unit {0}
ConnectsFit (Connect address ∷ actions) = (fits (v.Text address) ≡ true) × ConnectsFit actions
ConnectsFit (action ∷ actions) = ConnectsFit actions

connects_on : (xs ys : List Action) → ConnectsFit xs → ConnectsFit ys → ConnectsFit (xs ++ ys)
connects_on [] ys h k = k
connects_on (Connect address ∷ xs) ys h k = (h.0, connects_on xs ys h.1 k)
connects_on (Send bytes ∷ xs) ys h k = connects_on xs ys h k
connects_on (Close ∷ xs) ys h k = connects_on xs ys h k
connects_on (Sleep until ∷ xs) ys h k = connects_on xs ys h k
connects_on (Receive ∷ xs) ys h k = connects_on xs ys h k
connects_on (Finish end ∷ xs) ys h k = connects_on xs ys h k

pub connect_in : (front : List Action) (address : List ℕ) (back : List Action) → ConnectsFit (front ++ Connect address ∷ back)
    → fits (v.Text address) ≡ true
connect_in [] address back h = h.0
connect_in (Connect other ∷ front) address back h = connect_in front address back h.1
connect_in (Send bytes ∷ front) address back h = connect_in front address back h
connect_in (Close ∷ front) address back h = connect_in front address back h
connect_in (Sleep until ∷ front) address back h = connect_in front address back h
connect_in (Receive ∷ front) address back h = connect_in front address back h
connect_in (Finish end ∷ front) address back h = connect_in front address back h

retry_fits : (p : SessionState) (now : ℕ) (reason : Last) (spent : Bool)
    → ConnectsFit (if spent then finishes p (Err (e.RetriesSpent p.core.attempts reason)) else sleeps p now).actions
retry_fits p now reason true = tt
retry_fits p now reason false = tt

retries_fit : (p : SessionState) (now : ℕ) (reason : Last) → ConnectsFit (retries p now reason).actions
retries_fit p now reason = retry_fits p now reason (is_spent now p.core.began)

fell_fits : (p : SessionState) (now : ℕ) (code : List ℕ) (again leaderless : Bool)
    → ConnectsFit (if again then retries p now (last.Code code) else if leaderless then retries (drops_table p) now (last.Code code)
    else refuses p code).actions
fell_fits p now code true leaderless = retries_fit p now (last.Code code)
fell_fits p now code false true = retries_fit (drops_table p) now (last.Code code)
fell_fits p now code false false = tt

joins_fit : (p : SessionState) (now : ℕ) (role : Role) (core : Core) (found : Option Value) → IsAddress found
    → ConnectsFit (joins p now role core found).actions
joins_fit p now role core None h = retries_fit (drops_table (at_core p core)) now (last.NoServer role)
joins_fit p now role core (Some x) h =
    subst (λ (y : Value). ConnectsFit (joins p now role core (Some y)).actions) (sym h.1) (h.2, tt)

joins_by_fit : (p : SessionState) (core : Core) (found : Option Value) → IsAddress found → ConnectsFit (joins_by p core found).actions
joins_by_fit p core None h = tt
joins_by_fit p core (Some x) h = subst (λ (y : Value). ConnectsFit (joins_by p core (Some y)).actions) (sym h.1) (h.2, tt)

server_fits : (writes : Bool) (p : SessionState) (now : ℕ) → Kept p.core → ConnectsFit (joins_server writes p now).actions
server_fits writes p now k =
    joins_fit p now (role_of writes) (drawn p.core) (picked (pcg32 p.core.words).0 (addresses_in (role_of writes) p.core.table))
    (picked_address _ _ (role_texts writes p.core.table k.table))

attempt_fits : (config : SessionConfig) (writes : Bool) (p : SessionState) (now : ℕ) (fresh : Bool) → config_fits config ≡ true → Kept p.core
    → ConnectsFit (if fresh then joins_server writes (opened p) now else joins_router config (opened p)).actions
attempt_fits config writes p now true c k =
    let q = opened p in
    joins_fit q now (role_of writes) (drawn q.core) (picked (pcg32 q.core.words).0 (addresses_in (role_of writes) q.core.table))
    (picked_address _ _ (role_texts writes q.core.table k.table))
attempt_fits config writes p now false c k =
    let q = opened p in
    joins_by_fit q (record q.core { connects = one_more q.core.connects }) (router_of config q.core)
    (picked_address _ _ (routers_fit config q.core.route c k.route))

step_fits : (p : SessionState) (step : WorkStep) → ConnectsFit (takes_step p step).actions
step_fits p (w.Run query params) = tt
step_fits p w.Commit = tt

hello_fits : (writes : Bool) (p : SessionState) (leg : Leg) → ConnectsFit (follows_hello writes p leg).actions
hello_fits writes p Routing = tt
hello_fits writes p Working = tt

follow_fits : (config : SessionConfig) (job : Job) (p : SessionState) (asked : Asked) → ConnectsFit (follows config job p asked).actions
follow_fits config job p (a.Shake leg) = tt
follow_fits config job p (a.Hello leg) = hello_fits job.writes p leg
follow_fits config job p a.Begin = step_fits (record { core = p.core; told = Some [] }) (job.steps [])
follow_fits config job p a.Run = tt
follow_fits config job p a.Pull =
    let told = so_far p.told ++ p.core.rows ∷ [] in step_fits (record { core = p.core; told = Some told }) (job.steps told)
follow_fits config job p a.Route = tt
follow_fits config job p a.Commit = tt

answer_fits : (config : SessionConfig) (job : Job) (now : ℕ) (p : SessionState) (asked : Asked) (number : ℕ) (told : Told)
    → told_fits p.core.rows told ≡ true → Kept p.core → ConnectsFit (behind config job now p asked number told).actions
answer_fits config job now p asked number says.Done h k = follow_fits config job p asked
answer_fits config job now p asked number (says.Row fields) h k = tt
answer_fits config job now p asked number (says.Routed table) h k =
    server_fits job.writes (keeps_table p table) now (table_kept p table h k)
answer_fits config job now p asked number (says.Committed bookmark) h k = tt
answer_fits config job now p asked number (says.Failed code) h k = fell_fits p now code (is_transient code) (is_no_leader code)
answer_fits config job now p asked number says.Bad h k = tt

-- ---- what is heard and told

pub record Fine (q : SessionState) (actions : List Action) : Type 0 where
  pub kept : Kept q.core
  pub connects : ConnectsFit actions

pub record FineRan (r : Ran) : Type 0 where
  pub fine : Fine r.state.place r.actions
  pub came : AreBytes r.state.came

module _ (config : SessionConfig) (allowed : config_fits config ≡ true) (job : Job) where
  module _ (now : ℕ) where
    abbrev Hears : Listening → List Item → Standing → Type 0
    Hears l items r = Kept l.place.core → OfBytes items → Fine r.core.place r.written

    heard : (l : Listening) (items : List Item) → Hears l items (hear config job now l items)
    heard = walk config job now Hears
        (λ l k h. record { kept = k; connects = tt })
        (λ l asked item items e ih k h.
        let told = told_by asked now l.place.core.rows item in
        let f = item_fits asked now l.place.core.rows item h.0 in
        let u = answered config job now l asked item in
        let g = ih (behind_kept config job now l.place asked _ told f k) h.1 in
        record {
          kept = g.kept;
          connects = connects_on u.actions (hear config job now (next config job now l asked item) items).written
              (answer_fits config job now l.place asked _ told f k) g.connects;
        })
        (λ l item items f k h. record { kept = k; connects = tt })

    more_or : (actions : List Action) → ConnectsFit actions → ConnectsFit (or_more actions)
    more_or [] h = tt
    more_or (action ∷ actions) h = h

    hears_fine : (s : State) (bytes : List ℕ) → Kept s.place.core → AreBytes s.came → AreBytes bytes
        → FineRan (hears config job now s bytes)
    hears_fine s bytes k c b =
        let came = s.came ++ bytes in
        let items = drop s.taken (items_of came) in
        let all = bytes_on s.came bytes c b in
        let r = hear config job now (listening s) items in
        let g = heard (listening s) items k (items_drop s.taken (items_of came) (link_items came (nat_lt (length came) 4) all)) in
        record {
          fine = subst (λ (x : Standing). Fine x.core.place (or_more x.written)) (sym (going_is config job now (listening s) items))
              (record { kept = g.kept; connects = more_or r.written g.connects });
          came = all;
        }

    input_fine : (s : State) (st : Stage) (input : Input) → Kept s.place.core → AreBytes s.came → InputBytes input
        → FineRan (on_input config job now s st input)
    input_fine s stage.Begun i.Start k c b = record {
      fine = record {
        kept = attempts_kept config job.writes s.place now allowed k;
        connects = attempt_fits config job.writes s.place now (is_fresh now s.place.core.table) allowed k;
      };
      came = c;
    }
    input_fine s stage.Sleeps i.Woken k c b = record {
      fine = record {
        kept = attempts_kept config job.writes s.place now allowed k;
        connects = attempt_fits config job.writes s.place now (is_fresh now s.place.core.table) allowed k;
      };
      came = c;
    }
    input_fine s (stage.Joins leg) i.Connected k c b = record {
      fine = record { kept = stage_kept s.place.core (stage.Awaits (a.Shake leg)) k; connects = tt };
      came = tt;
    }
    input_fine s (stage.Joins leg) i.Lost k c b = record {
      fine = record { kept = loses_kept s.place now k; connects = retries_fit (drops_table s.place) now last.LinkLost };
      came = c;
    }
    input_fine s (stage.Awaits asked) (i.Bytes bytes) k c b = hears_fine s bytes k c b
    input_fine s (stage.Awaits asked) i.Lost k c b = record {
      fine = record { kept = loses_kept s.place now k; connects = retries_fit (drops_table s.place) now last.LinkLost };
      came = c;
    }
    input_fine s _ input k c b = record { fine = record { kept = k; connects = tt }; came = c }

    on_fine : (s : State) (input : Input) → Kept s.place.core → AreBytes s.came → InputBytes input → FineRan (on config job now s input)
    unfolding on
    on_fine s input k c b = input_fine s s.place.core.stage input k c b

  then_fine : (r q : Ran) → FineRan r → FineRan q → FineRan (ahead r.actions q)
  then_fine r q g h = record {
    fine = record { kept = h.fine.kept; connects = connects_on r.actions q.actions g.fine.connects h.fine.connects };
    came = h.came;
  }

  told_fine : (s : State) (xs : List Moved) → Kept s.place.core → AreBytes s.came → AllByRecursion (λ (x : Moved). InputBytes x.0) xs
      → FineRan (told_all config job s xs)
  unfolding told_all
  told_fine s [] k c b = record { fine = record { kept = k; connects = tt }; came = c }
  told_fine s (x ∷ xs) k c b =
      let r = on config job x.1 s x.0 in
      let g = on_fine x.1 s x.0 k c b.0 in
      then_fine r (told_all config job r.state xs) g (told_fine r.state xs g.fine.kept g.came b.1)

begins_kept : (now : ℕ) (s : State) → Kept s.place.core → Kept (begins now s).place.core
unfolding begins
begins_kept now s k = record {
  bookmarks = k.bookmarks;
  few = k.few;
  route = k.route;
  table = k.table;
  address = k.address;
  rows = k.rows;
  delay = refl;
}

begins_came : (now : ℕ) (s : State) → AreBytes s.came → AreBytes (begins now s).came
unfolding begins
begins_came now s c = c

pub work_fine : (config : SessionConfig) → config_fits config ≡ true → (s : State) (work : Begun) → Kept s.place.core → AreBytes s.came
    → ToldBytes work → FineRan (told_all config work.job (begins work.began s) work.inputs)
work_fine config allowed s work k c b =
    told_fine config allowed work.job (begins work.began s) work.inputs (begins_kept work.began s k) (begins_came work.began s c) b

works_fine : (config : SessionConfig) → config_fits config ≡ true → (s : State) (works : List Begun) → Kept s.place.core
    → AreBytes s.came → AllByRecursion ToldBytes works → FineRan (works_all config s works)
unfolding works_all
works_fine config allowed s [] k c b = record { fine = record { kept = k; connects = tt }; came = c }
works_fine config allowed s (work ∷ works) k c b =
    let r = told_all config work.job (begins work.began s) work.inputs in
    let g = work_fine config allowed s work k c b.0 in
    then_fine config allowed work.job r (works_all config r.state works) g
    (works_fine config allowed r.state works g.fine.kept g.came b.1)

pub session_fine : (config : SessionConfig) → config_fits config ≡ true → (works : List Begun) → AllByRecursion ToldBytes works
    → FineRan (session config works)
unfolding session
session_fine config allowed works b =
    works_fine config allowed (new_state config) works (kept_of (new_core config) (new_keeps config (new_core config) refl allowed)) tt b
