-- Each thing that an attempt sends lowers what it may still send.
use Rattle.std.proofs.Common.{◌≡◌, ℕ, suc, ◌+◌, ◌*◌, ◌<◌, ◌≤◌, Bool, true, false, List, [], ◌∷◌, ◌++◌, length, drop}
use Rattle.std.proofs.Common.{Option, Some, Ok, Err, refl, sym, ap, ◌∙◌, subst, arith, length-append}
use Rattle.std.specs.Prelude.{if◌then◌else◌, nat_le, bytes_eq}
use Rattle.std.specs.List.{All}
use Rattle.std.proofs.lemmas.List.Elements.{All-head, All-tail}
use Rattle.std.proofs.lemmas.Slice.Eq.{bytes_eq-Decides}
use Rattle.ncc_pack.specs.declared.value.Value.{Value}
use Rattle.ncc_pack.specs.declared.value.Value.TheVariants as v
use Rattle.ncc_bolt.specs.Fields.{Pairs}
use Rattle.ncc_bolt.specs.declared.message.Request.TheVariants as r
use Rattle.rand_pcg.specs.Pcg.{pcg32}
use Rattle.ncc_route.specs.Routing.{picked}
use Rattle.ncc_route.specs.declared.table.Table.{Table}
use Rattle.ncc_route.specs.declared.table.Role.{Role}
use Rattle.ncc_driver.specs.declared.config.SessionConfig.{SessionConfig}
use Rattle.ncc_driver.specs.declared.standing.Core.{Core}
use Rattle.ncc_driver.specs.declared.standing.Leg.TheVariants.{Routing, Working}
use Rattle.ncc_driver.specs.declared.standing.Asked.{Asked}
use Rattle.ncc_driver.specs.declared.standing.Asked.TheVariants as a
use Rattle.ncc_driver.specs.declared.standing.Stage.{Stage}
use Rattle.ncc_driver.specs.declared.standing.Stage.TheVariants as stage
use Rattle.ncc_driver.specs.declared.link.Item.{Item}
use Rattle.ncc_driver.specs.declared.action.Action.{Action}
use Rattle.ncc_driver.specs.declared.action.Action.TheVariants.{Connect, Send, Close, Sleep, Receive, Finish}
use Rattle.ncc_driver.specs.declared.action.Input.{Input}
use Rattle.ncc_driver.specs.declared.action.Input.TheVariants as i
use Rattle.ncc_driver.specs.declared.action.WorkError.TheVariants as e
use Rattle.ncc_driver.specs.declared.action.Last.{Last}
use Rattle.ncc_driver.specs.declared.action.Last.TheVariants as last
use Rattle.ncc_driver.specs.declared.answers.Told.{Told}
use Rattle.ncc_driver.specs.declared.answers.Told.TheVariants as says
use Rattle.ncc_driver.specs.declared.work.WorkStep.{WorkStep}
use Rattle.ncc_driver.specs.declared.work.WorkStep.TheVariants as w
use Rattle.ncc_driver.specs.Work.{Row, Job}
use Rattle.ncc_driver.specs.Requests.{closes, shakes, shake_bytes}
use Rattle.ncc_driver.specs.State.{SessionState, Turned}
use Rattle.ncc_driver.specs.Attempts.{goes, before, done_of, at_core, awaits, finishes, refuses, retries, sleeps, is_spent}
use Rattle.ncc_driver.specs.Attempts.{drops_table}
use Rattle.ncc_driver.specs.Attempts.{fails, fails_by, is_transient, is_no_leader, joins, joins_server, joins_by, joins_router}
use Rattle.ncc_driver.specs.Attempts.{router_of, one_more, role_of, drawn, addresses_in, opened, is_fresh, takes_step, steps_on}
use Rattle.ncc_driver.specs.Attempts.{follows, keeps_table, behind, so_far}
use Rattle.ncc_driver.specs.Session.{Listening, Standing, State, Moved, told_by, answered, listening, items_of}
use Rattle.ncc_driver.specs.Session.{or_more, hears, on_input, on, told_all}
use Rattle.ncc_driver.specs.LawsLegs.{wire}
use Rattle.ncc_driver.specs.LawsLeft.{HasSteps, messages_in, steps_left, left_awaiting, left_at, left_of, begins_attempt}
use Rattle.ncc_driver.specs.LawsLeft.{SendsLower, LeftAtMost, BeginsSilent, AttemptSendsAtMost, AddHasTwo, PutHasOne, GetHasOne}
use Rattle.ncc_driver.proofs.LawsHearing.{next, hear, going_is, walk}
use Rattle.ncc_driver.proofs.LegsTold.{Own, own_told}

-- ---- what is counted

if_more : (b : Bool) (m n : ℕ) → (if b then m else suc m) + n ≡ (if b then m + n else suc (m + n))
if_more true m n = refl
if_more false m n = omega arith

none_and : (n : ℕ) → 0 + n ≡ n
none_and n = omega arith

none_le : (n k : ℕ) → n ≤ k → 0 + n ≤ k
none_le n k h = omega arith

messages_on : (xs ys : List Action) → messages_in (xs ++ ys) ≡ messages_in xs + messages_in ys
messages_on [] ys = sym (none_and (messages_in ys))
messages_on (Send bytes ∷ xs) ys =
    let b = bytes_eq bytes (wire r.Goodbye) in
    ap (λ (m : ℕ). if b then m else suc m) (messages_on xs ys) ∙ sym (if_more b (messages_in xs) (messages_in ys))
messages_on (Connect address ∷ xs) ys = messages_on xs ys
messages_on (Close ∷ xs) ys = messages_on xs ys
messages_on (Sleep until ∷ xs) ys = messages_on xs ys
messages_on (Receive ∷ xs) ys = messages_on xs ys
messages_on (Finish end ∷ xs) ys = messages_on xs ys

none_of_closes : (xs : List Action) → messages_in (closes ++ xs) ≡ messages_in xs
none_of_closes xs =
    ap (λ (b : Bool). if b then messages_in xs else suc (messages_in xs)) ((bytes_eq-Decides (wire r.Goodbye) (wire r.Goodbye)).1 refl)

one_if : (b : Bool) → (if b then 0 else 1) ≤ 1
one_if true = omega arith
one_if false = omega arith

more_none : (actions : List Action) → messages_in (or_more actions) ≡ messages_in actions
more_none [] = refl
more_none (action ∷ actions) = refl

nothing : (k : ℕ) → 0 ≤ k
nothing k = omega arith

same_le : (k : ℕ) → k ≤ k
same_le k = omega arith

trans_le : (a b c : ℕ) → a ≤ b → b ≤ c → a ≤ c
trans_le a b c h g = omega arith

one_and : (m n k : ℕ) → m ≤ 1 → suc n ≤ k → m + n ≤ k
one_and m n k a b = omega arith

both_lower : (all m n was middle last : ℕ) → all ≡ m + n → m + middle ≤ was → n + last ≤ middle → all + last ≤ was
both_lower all m n was middle last e a b = omega arith

module _ (most : ℕ) where
  abbrev Lowers : ℕ → Turned → Type 0
  Lowers k t = messages_in t.actions + left_of most t.place ≤ k

  abbrev ran : SessionState → ℕ
  ran p = length (so_far p.told)

  -- ---- ends

  retried_by : (k : ℕ) (p : SessionState) (now : ℕ) (reason : Last) (spent : Bool)
      → Lowers k (if spent then finishes p (Err (e.RetriesSpent p.core.attempts reason)) else sleeps p now)
  retried_by k p now reason true = nothing k
  retried_by k p now reason false = nothing k

  retried : (k : ℕ) (p : SessionState) (now : ℕ) (reason : Last) → Lowers k (retries p now reason)
  retried k p now reason = retried_by k p now reason (is_spent now p.core.began)

  closed : (k : ℕ) (t : Turned) → Lowers k t → Lowers k (before closes t)
  closed k t h = subst (λ (m : ℕ). m + left_of most t.place ≤ k) (sym (none_of_closes t.actions)) h

  fell_by : (k : ℕ) (p : SessionState) (now : ℕ) (code : List ℕ) (again leaderless : Bool)
      → Lowers k (if again then retries p now (last.Code code) else if leaderless then retries (drops_table p) now (last.Code code)
      else refuses p code)
  fell_by k p now code true leaderless = retried k p now (last.Code code)
  fell_by k p now code false true = retried k (drops_table p) now (last.Code code)
  fell_by k p now code false false = nothing k

  fell : (k : ℕ) (p : SessionState) (now : ℕ) (code : List ℕ) → Lowers k (fails p now code)
  fell k p now code = closed k (fails_by p now code) (fell_by k p now code (is_transient code) (is_no_leader code))

  -- ---- who is connected to

  joined : (k : ℕ) (p : SessionState) (now : ℕ) (role : Role) (core : Core) (found : Option Value) → steps_left most 0 + 3 ≤ k
      → Lowers k (joins p now role core found)
  joined k p now role core (Some (v.Text address)) h = none_le (steps_left most 0 + 3) k h
  joined k p now role core _ h = retried k (drops_table (at_core p core)) now (last.NoServer role)

  joined_server : (k : ℕ) (writes : Bool) (p : SessionState) (now : ℕ) → steps_left most 0 + 3 ≤ k → Lowers k (joins_server writes p now)
  joined_server k writes p now h =
      joined k p now (role_of writes) (drawn p.core) (picked (pcg32 p.core.words).0 (addresses_in (role_of writes) p.core.table)) h

  -- ---- what follows an answer

  asked_for : (k : ℕ) (q : SessionState) (asked : Asked) (bytes : List ℕ) → suc (left_awaiting most asked (ran q)) ≤ k
      → Lowers k (awaits q asked (Send bytes ∷ Receive ∷ []))
  asked_for k q asked bytes h =
      one_and _ (left_awaiting most asked (ran q)) k (one_if (bytes_eq bytes (wire r.Goodbye))) h

  module _ (config : SessionConfig) (job : Job) (few : HasSteps most job) where
    no_run : (query : List ℕ) (params : Pairs) → w.Commit ≡ w.Run query params → ⊥
    no_run query params e = absurd (cc)

    before_last : (rows : List (List Row)) (query : List ℕ) (params : Pairs) (past : Bool) → job.steps rows ≡ w.Run query params
        → nat_le most (length rows) ≡ past → length rows < most
    before_last rows query params true e f = absurd (no_run query params (sym (few rows (grind arith)) ∙ e))
    before_last rows query params false e f = grind arith

    stepped : (p : SessionState) (rows : List (List Row)) (step : WorkStep) → job.steps rows ≡ step
        → Lowers (steps_left most (length rows)) (takes_step (record { core = p.core; told = Some rows }) step)
    stepped p rows (w.Run query params) e =
        let l = before_last rows query params (nat_le most (length rows)) e refl in
        asked_for (steps_left most (length rows)) (record { core = p.core; told = Some rows }) a.Run _ (omega (arith, l))
    stepped p rows w.Commit e =
        asked_for (steps_left most (length rows)) (record { core = p.core; told = Some rows }) a.Commit _ (omega arith)

    went_on : (p : SessionState) → Lowers (steps_left most (ran p + 1)) (steps_on job p (so_far p.told ++ p.core.rows ∷ []))
    went_on p =
        let rows = so_far p.told ++ p.core.rows ∷ [] in
        subst (λ (n : ℕ). Lowers (steps_left most n) (steps_on job p rows)) (length-append (so_far p.told) (p.core.rows ∷ []))
        (stepped p rows (job.steps rows) refl)

    stays : (p q : SessionState) (asked : Asked) → q.core.stage ≡ stage.Awaits asked → q.told ≡ p.told
        → Lowers (left_awaiting most asked (ran p)) (goes q [])
    stays p q asked e f =
        let same : left_of most q ≡ left_awaiting most asked (ran p) =
        ap (λ (st : Stage). left_at most st (ran q)) e
        ∙ ap (λ (told : Option (List (List Row))). left_awaiting most asked (length (so_far told))) f in
        none_le (left_of most q) (left_awaiting most asked (ran p))
        (subst (λ (n : ℕ). n ≤ left_awaiting most asked (ran p)) (sym same) (same_le (left_awaiting most asked (ran p))))

    followed : (p : SessionState) (asked : Asked) → p.core.stage ≡ stage.Awaits asked
        → Lowers (left_awaiting most asked (ran p)) (follows config job p asked)
    followed p (a.Shake Routing) e = asked_for _ p (a.Hello Routing) _ (omega arith)
    followed p (a.Shake Working) e = asked_for _ p (a.Hello Working) _ (omega arith)
    followed p (a.Hello Routing) e = asked_for _ p a.Route _ (omega arith)
    followed p (a.Hello Working) e = asked_for _ p a.Begin _ (omega arith)
    followed p a.Begin e = stepped p [] (job.steps []) refl
    followed p a.Run e = asked_for _ (at_core p (record p.core { rows = [] })) a.Pull _ (omega arith)
    followed p a.Pull e = went_on p
    followed p a.Route e = stays p p a.Route e refl
    followed p a.Commit e = stays p p a.Commit e refl

    routed : (p : SessionState) (now : ℕ) (asked : Asked) (table : Table) → asked ≡ a.Route
        → Lowers (left_awaiting most asked (ran p)) (before closes (joins_server job.writes (keeps_table p table) now))
    routed p now asked table e =
        subst (λ (x : Asked). Lowers (left_awaiting most x (ran p)) (before closes (joins_server job.writes (keeps_table p table) now)))
        (sym e)
        (closed (steps_left most 0 + 3) (joins_server job.writes (keeps_table p table) now)
        (joined_server (steps_left most 0 + 3) job.writes (keeps_table p table) now (same_le (steps_left most 0 + 3))))

    answer_lowers : (now : ℕ) (p : SessionState) (asked : Asked) (number : ℕ) (told : Told) → p.core.stage ≡ stage.Awaits asked
        → Own p.core.rows asked told → Lowers (left_awaiting most asked (ran p)) (behind config job now p asked number told)
    answer_lowers now p asked number says.Done e o = followed p asked e
    answer_lowers now p asked number (says.Row fields) e o =
        stays p (at_core p (record p.core { rows = p.core.rows ++ fields ∷ [] })) asked e refl
    answer_lowers now p asked number (says.Routed table) e o = routed p now asked table o
    answer_lowers now p asked number (says.Committed bookmark) e o =
        closed _ (finishes (at_core p (record p.core { bookmarks = v.Text bookmark ∷ [] })) (Ok (done_of p.core bookmark))) (nothing _)
    answer_lowers now p asked number (says.Failed code) e o = fell _ p now code
    answer_lowers now p asked number says.Bad at o = closed _ (finishes p (Err (e.BadReply number))) (nothing _)

    -- ---- what is told

    abbrev Heard : Listening → List Item → Standing → Type 0
    Heard l items r = messages_in r.written + left_of most r.core.place ≤ left_of most l.place

    left_is : (p : SessionState) (st : Stage) → p.core.stage ≡ st → left_at most st (ran p) ≡ left_of most p
    left_is p st e = ap (λ (x : Stage). left_at most x (ran p)) (sym e)

    heard : (now : ℕ) (l : Listening) (items : List Item) → Heard l items (hear config job now l items)
    heard now = walk config job now Heard
        (λ l. none_le (left_of most l.place) (left_of most l.place) (same_le (left_of most l.place)))
        (λ l asked item items e ih.
        let k = next config job now l asked item in
        let u = answered config job now l asked item in
        let q = hear config job now k items in
        let told = told_by asked now l.place.core.rows item in
        let g = answer_lowers now l.place asked _ told e (own_told asked now l.place.core.rows item) in
        both_lower (messages_in (u.actions ++ q.written)) (messages_in u.actions) (messages_in q.written) (left_of most l.place)
        (left_of most k.place) (left_of most q.core.place) (messages_on u.actions q.written)
        (subst (λ (n : ℕ). Lowers n u) (left_is l.place (stage.Awaits asked) e) g) ih)
        (λ l item items f. none_le (left_of most l.place) (left_of most l.place) (same_le (left_of most l.place)))

    hears_lower : (now : ℕ) (s : State) (bytes : List ℕ)
        → let x = hears config job now s bytes in messages_in x.actions + left_of most x.state.place ≤ left_of most s.place
    hears_lower now s bytes =
        let items = drop s.taken (items_of (s.came ++ bytes)) in
        subst (λ (x : Standing). messages_in (or_more x.written) + left_of most x.core.place ≤ left_of most s.place)
        (sym (going_is config job now (listening s) items))
        (let q = hear config job now (listening s) items in
        subst (λ (m : ℕ). m + left_of most q.core.place ≤ left_of most s.place) (sym (more_none q.written))
        (heard now (listening s) items))

    input_lowers : (now : ℕ) (s : State) (st : Stage) (input : Input) → s.place.core.stage ≡ st → begins_attempt input ≡ false
        → let x = on_input config job now s st input in messages_in x.actions + left_of most x.state.place ≤ left_of most s.place
    input_lowers now s stage.Begun i.Start e f = absurd (cc)
    input_lowers now s stage.Sleeps i.Woken e f = absurd (cc)
    input_lowers now s (stage.Joins Routing) i.Connected e f =
        subst (λ (n : ℕ). Lowers n (awaits s.place (a.Shake Routing) shakes)) (left_is s.place (stage.Joins Routing) e)
        (asked_for (left_at most (stage.Joins Routing) (ran s.place)) s.place (a.Shake Routing) shake_bytes (omega arith))
    input_lowers now s (stage.Joins Working) i.Connected e f =
        subst (λ (n : ℕ). Lowers n (awaits s.place (a.Shake Working) shakes)) (left_is s.place (stage.Joins Working) e)
        (asked_for (left_at most (stage.Joins Working) (ran s.place)) s.place (a.Shake Working) shake_bytes (omega arith))
    input_lowers now s (stage.Joins leg) i.Lost e f = retried _ (drops_table s.place) now last.LinkLost
    input_lowers now s (stage.Awaits asked) (i.Bytes bytes) e f = hears_lower now s bytes
    input_lowers now s (stage.Awaits asked) i.Lost e f = retried _ (drops_table s.place) now last.LinkLost
    input_lowers now s _ input e f = none_le (left_of most s.place) (left_of most s.place) (same_le (left_of most s.place))

pub sends_lower : SendsLower
unfolding on
sends_lower config job most now s input few f = input_lowers most config job few now s s.place.core.stage input refl f

-- ---- how much is left at most

awaiting_most : (most ran : ℕ) (asked : Asked) → left_awaiting most asked ran ≤ 2 * most + 7
awaiting_most most ran (a.Shake Routing) = omega arith
awaiting_most most ran (a.Shake Working) = omega arith
awaiting_most most ran (a.Hello Routing) = omega arith
awaiting_most most ran (a.Hello Working) = omega arith
awaiting_most most ran a.Route = omega arith
awaiting_most most ran a.Begin = omega arith
awaiting_most most ran a.Run = omega arith
awaiting_most most ran a.Pull = omega arith
awaiting_most most ran a.Commit = omega arith

at_most : (most ran : ℕ) (st : Stage) → left_at most st ran ≤ 2 * most + 7
at_most most ran (stage.Joins Routing) = omega arith
at_most most ran (stage.Joins Working) = omega arith
at_most most ran (stage.Awaits asked) = awaiting_most most ran asked
at_most most ran _ = omega arith

pub left_at_most : LeftAtMost
left_at_most most place = at_most most (length (so_far place.told)) place.core.stage

-- ---- what begins an attempt

silent_retry : (p : SessionState) (now : ℕ) (reason : Last) (spent : Bool)
    → messages_in (if spent then finishes p (Err (e.RetriesSpent p.core.attempts reason)) else sleeps p now).actions ≡ 0
silent_retry p now reason true = refl
silent_retry p now reason false = refl

silent_joins : (p : SessionState) (now : ℕ) (role : Role) (core : Core) (found : Option Value)
    → messages_in (joins p now role core found).actions ≡ 0
silent_joins p now role core (Some (v.Text address)) = refl
silent_joins p now role core _ =
    let q = drops_table (at_core p core) in silent_retry q now (last.NoServer role) (is_spent now q.core.began)

silent_router : (p : SessionState) (core : Core) (found : Option Value) → messages_in (joins_by p core found).actions ≡ 0
silent_router p core (Some (v.Text address)) = refl
silent_router p core _ = refl

silent_by : (config : SessionConfig) (writes : Bool) (p : SessionState) (now : ℕ) (fresh : Bool)
    → messages_in (if fresh then joins_server writes (opened p) now else joins_router config (opened p)).actions ≡ 0
silent_by config writes p now true =
    let q = opened p in
    silent_joins q now (role_of writes) (drawn q.core) (picked (pcg32 q.core.words).0 (addresses_in (role_of writes) q.core.table))
silent_by config writes p now false =
    let q = opened p in
    silent_router q (record q.core { connects = one_more q.core.connects }) (router_of config q.core)

silent_input : (config : SessionConfig) (job : Job) (now : ℕ) (s : State) (st : Stage) (input : Input) → begins_attempt input ≡ true
    → messages_in (on_input config job now s st input).actions ≡ 0
silent_input config job now s stage.Begun i.Start f = silent_by config job.writes s.place now (is_fresh now s.place.core.table)
silent_input config job now s stage.Sleeps i.Woken f = silent_by config job.writes s.place now (is_fresh now s.place.core.table)
silent_input config job now s (stage.Joins leg) i.Connected f = absurd (cc)
silent_input config job now s (stage.Joins leg) i.Lost f = absurd (cc)
silent_input config job now s (stage.Awaits asked) (i.Bytes bytes) f = absurd (cc)
silent_input config job now s (stage.Awaits asked) i.Lost f = absurd (cc)
silent_input config job now s _ input f = refl

pub begins_silent : BeginsSilent
unfolding on
begins_silent config job now s input f = silent_input config job now s s.place.core.stage input f

-- ---- one attempt

two_lower : (m n a k : ℕ) → m + a ≤ k → n ≤ a → m + n ≤ k
two_lower m n a k h g = omega arith

more_sent : (config : SessionConfig) (job : Job) (most : ℕ) (s : State) (xs : List Moved) → HasSteps most job
    → All (λ (x : Moved). begins_attempt x.0 ≡ false) xs → messages_in (told_all config job s xs).actions ≤ left_of most s.place
unfolding told_all
more_sent config job most s [] few none = nothing (left_of most s.place)
more_sent config job most s (x ∷ xs) few none =
    let u = on config job x.1 s x.0 in
    let q = told_all config job u.state xs in
    let one = sends_lower config job most x.1 s x.0 few (All-head (λ (y : Moved). begins_attempt y.0 ≡ false) x xs none) in
    subst (λ (m : ℕ). m ≤ left_of most s.place) (sym (messages_on u.actions q.actions))
    (two_lower (messages_in u.actions) (messages_in q.actions) (left_of most u.state.place) (left_of most s.place) one
    (more_sent config job most u.state xs few (All-tail (λ (y : Moved). begins_attempt y.0 ≡ false) x xs none)))

first_sent : (config : SessionConfig) (job : Job) (most : ℕ) (s : State) (x : Moved) (begins : Bool) → HasSteps most job
    → begins_attempt x.0 ≡ begins
    → let u = on config job x.1 s x.0 in messages_in u.actions + left_of most u.state.place ≤ 2 * most + 7
first_sent config job most s x true few e =
    let u = on config job x.1 s x.0 in
    subst (λ (m : ℕ). m + left_of most u.state.place ≤ 2 * most + 7) (sym (begins_silent config job x.1 s x.0 e))
    (none_le (left_of most u.state.place) (2 * most + 7) (left_at_most most u.state.place))
first_sent config job most s x false few e =
    let u = on config job x.1 s x.0 in
    trans_le (messages_in u.actions + left_of most u.state.place) (left_of most s.place) (2 * most + 7)
    (sends_lower config job most x.1 s x.0 few e) (left_at_most most s.place)

pub attempt_sends_at_most : AttemptSendsAtMost
unfolding told_all
attempt_sends_at_most config job most s x xs few none =
    let u = on config job x.1 s x.0 in
    let q = told_all config job u.state xs in
    subst (λ (m : ℕ). m ≤ 2 * most + 7) (sym (messages_on u.actions q.actions))
    (two_lower (messages_in u.actions) (messages_in q.actions) (left_of most u.state.place) (2 * most + 7)
    (first_sent config job most s x (begins_attempt x.0) few refl) (more_sent config job most u.state xs few none))

-- ---- the three works

pub add_has_two : AddHasTwo
add_has_two key by [] l = absurd (omega arith)
add_has_two key by (rows ∷ []) l = absurd (omega arith)
add_has_two key by (rows ∷ more ∷ told) l = refl

pub put_has_one : PutHasOne
put_has_one key value [] l = absurd (omega arith)
put_has_one key value (rows ∷ told) l = refl

pub get_has_one : GetHasOne
get_has_one key [] l = absurd (omega arith)
get_has_one key (rows ∷ told) l = refl
