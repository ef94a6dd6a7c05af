-- What an input makes a session send waits to go up behind it only where that is a handshake or a request, GOODBYE apart.
use Rattle.std.proofs.Common.{◌≡◌, ◌≤◌, ◌⊎◌, inl, inr, ℕ, zero, suc, ◌-◌, ◌^◌, Bool, true, false, List, []}
use Rattle.std.proofs.Common.{◌∷◌, ◌++◌, drop, length, take}
use Rattle.std.proofs.Common.{Option, Some, refl, sym, ap, ◌∙◌, subst, arith}
use Rattle.std.specs.Prelude.{if◌then◌else◌, min, bytes_eq, nat_lt, nat_eq}
use Rattle.ncc_clients.proofs.Fits.{same_test}
use Rattle.std.proofs.lemmas.Slice.Eq.{bytes_eq-Decides}
use Rattle.ncc_pack.specs.declared.value.Value.{Value}
use Rattle.ncc_pack.specs.declared.value.Value.TheVariants as v
use Rattle.ncc_bolt.specs.declared.message.Request.TheVariants as r
use Rattle.ncc_chunk.specs.Chunked.{most, chunk_of, chunks_of, chunks_by, chunked}
use Rattle.rand_pcg.specs.Pcg.{pcg32}
use Rattle.ncc_route.specs.Routing.{picked}
use Rattle.ncc_route.specs.declared.table.Role.{Role}
use Rattle.ncc_driver.specs.declared.config.SessionConfig.{SessionConfig}
use Rattle.ncc_driver.specs.declared.standing.Core.{Core}
use Rattle.ncc_driver.specs.declared.standing.Leg.{Leg}
use Rattle.ncc_driver.specs.declared.standing.Leg.TheVariants.{Routing, Working}
use Rattle.ncc_driver.specs.declared.standing.Asked.{Asked}
use Rattle.ncc_driver.specs.declared.standing.Asked.TheVariants as a
use Rattle.ncc_driver.specs.declared.standing.Stage.{Stage}
use Rattle.ncc_driver.specs.declared.standing.Stage.TheVariants as stage
use Rattle.ncc_driver.specs.declared.link.Item.{Item}
use Rattle.ncc_driver.specs.declared.action.Action.{Action}
use Rattle.ncc_driver.specs.declared.action.Action.TheVariants.{Connect, Send, Close, Sleep, Receive, Finish}
use Rattle.ncc_driver.specs.declared.action.Input.{Input}
use Rattle.ncc_driver.specs.declared.action.Input.TheVariants as i
use Rattle.ncc_driver.specs.declared.action.Last.{Last}
use Rattle.ncc_driver.specs.declared.answers.Told.{Told}
use Rattle.ncc_driver.specs.declared.answers.Told.TheVariants as says
use Rattle.ncc_driver.specs.declared.work.WorkStep.{WorkStep}
use Rattle.ncc_driver.specs.declared.work.WorkStep.TheVariants as w
use Rattle.ncc_driver.specs.Work.{Job}
use Rattle.ncc_driver.specs.Requests.{closes, shake_bytes}
use Rattle.ncc_driver.specs.State.{SessionState, Turned}
use Rattle.ncc_driver.specs.Attempts.{retries, is_spent, is_transient, is_no_leader, fails_by, drops_table, at_core, joins, joins_server}
use Rattle.ncc_driver.specs.Attempts.{joins_by, router_of, one_more, role_of, drawn, addresses_in, opened, is_fresh, attempts}
use Rattle.ncc_driver.specs.Attempts.{so_far, takes_step, follows_hello, follows, keeps_table, behind}
use Rattle.ncc_driver.specs.Session.{Listening, Standing, State, items_of, listening, hears, on_input, on, told_by, or_more}
use Rattle.ncc_driver.specs.LawsLegs.{wire}
use Rattle.ncc_driver.specs.LawsLeft.{messages_in}
use Rattle.ncc_driver.proofs.LawsHearing.{hear, going_is, walk}

-- something was sent, and no link was closed behind that
abbrev pub waits_behind : Bool → List Action → Bool
waits_behind waits [] = waits
waits_behind waits (Send bytes ∷ actions) = waits_behind true actions
waits_behind waits (Close ∷ actions) = waits_behind false actions
waits_behind waits (Connect address ∷ actions) = waits_behind waits actions
waits_behind waits (Sleep until ∷ actions) = waits_behind waits actions
waits_behind waits (Receive ∷ actions) = waits_behind waits actions
waits_behind waits (Finish end ∷ actions) = waits_behind waits actions

abbrev pub Counted : List Action → Type 0
Counted actions = waits_behind false actions ≡ true → 1 ≤ messages_in actions

-- ---- one after another

behind_both : (waits : Bool) (xs ys : List Action) → waits_behind waits (xs ++ ys) ≡ waits_behind (waits_behind waits xs) ys
behind_both waits [] ys = refl
behind_both waits (Send bytes ∷ xs) ys = behind_both true xs ys
behind_both waits (Close ∷ xs) ys = behind_both false xs ys
behind_both waits (Connect address ∷ xs) ys = behind_both waits xs ys
behind_both waits (Sleep until ∷ xs) ys = behind_both waits xs ys
behind_both waits (Receive ∷ xs) ys = behind_both waits xs ys
behind_both waits (Finish end ∷ xs) ys = behind_both waits xs ys

pub either : (waits : Bool) (ys : List Action) → waits_behind waits ys ≡ true → (waits ≡ true) ⊎ (waits_behind false ys ≡ true)
either waits [] e = inl e
either waits (Send bytes ∷ ys) e = inr e
either waits (Close ∷ ys) e = inr e
either waits (Connect address ∷ ys) e = either waits ys e
either waits (Sleep until ∷ ys) e = either waits ys e
either waits (Receive ∷ ys) e = either waits ys e
either waits (Finish end ∷ ys) e = either waits ys e

less_if : (b : Bool) (m n : ℕ) → m ≤ n → (if b then m else suc m) ≤ (if b then n else suc n)
less_if true m n h = h
less_if false m n h = omega arith

less_both : (b : Bool) (m n : ℕ) → m ≤ n → m ≤ (if b then n else suc n)
less_both true m n h = h
less_both false m n h = omega arith

first_less : (xs ys : List Action) → messages_in xs ≤ messages_in (xs ++ ys)
first_less [] ys = omega arith
first_less (Send bytes ∷ xs) ys =
    less_if (bytes_eq bytes (wire r.Goodbye)) (messages_in xs) (messages_in (xs ++ ys)) (first_less xs ys)
first_less (Connect address ∷ xs) ys = first_less xs ys
first_less (Close ∷ xs) ys = first_less xs ys
first_less (Sleep until ∷ xs) ys = first_less xs ys
first_less (Receive ∷ xs) ys = first_less xs ys
first_less (Finish end ∷ xs) ys = first_less xs ys

last_less : (xs ys : List Action) → messages_in ys ≤ messages_in (xs ++ ys)
last_less [] ys = omega arith
last_less (Send bytes ∷ xs) ys =
    less_both (bytes_eq bytes (wire r.Goodbye)) (messages_in ys) (messages_in (xs ++ ys)) (last_less xs ys)
last_less (Connect address ∷ xs) ys = last_less xs ys
last_less (Close ∷ xs) ys = last_less xs ys
last_less (Sleep until ∷ xs) ys = last_less xs ys
last_less (Receive ∷ xs) ys = last_less xs ys
last_less (Finish end ∷ xs) ys = last_less xs ys

trans : (m n : ℕ) → 1 ≤ m → m ≤ n → 1 ≤ n
trans m n h g = omega arith

counted_both : (xs ys : List Action) → Counted xs → Counted ys → Counted (xs ++ ys)
counted_both xs ys f g e = go (either (waits_behind false xs) ys (sym (behind_both false xs ys) ∙ e)) where
  go : (waits_behind false xs ≡ true) ⊎ (waits_behind false ys ≡ true) → 1 ≤ messages_in (xs ++ ys)
  go (inl x) = trans (messages_in xs) (messages_in (xs ++ ys)) (f x) (first_less xs ys)
  go (inr y) = trans (messages_in ys) (messages_in (xs ++ ys)) (g y) (last_less xs ys)

silent : (actions : List Action) → waits_behind false actions ≡ false → Counted actions
silent actions h e = absurd (let f : false ≡ true = sym h ∙ e in cc)

-- ---- a request is not GOODBYE

-- the first byte of a message stands behind the size of its chunk
third : List ℕ → ℕ
third (a ∷ b ∷ c ∷ cs) = c
third _ = 0

third_by : (n byte : ℕ) (bytes more : List ℕ) → third (chunks_by n (byte ∷ bytes) ++ more) ≡ byte
unfolding chunks_by third
third_by zero byte bytes more = refl
third_by (suc n) byte bytes more = go (nat_lt most (length (byte ∷ bytes))) where
  go : (b : Bool) → third ((if b then chunk_of (take most (byte ∷ bytes)) ++ chunks_by n (drop most (byte ∷ bytes))
      else chunk_of (byte ∷ bytes)) ++ more) ≡ byte
  go true = refl
  go false = refl

third_is : (byte : ℕ) (bytes : List ℕ) → third (chunked (byte ∷ bytes)) ≡ byte
unfolding chunks_of
third_is byte bytes = third_by (length (byte ∷ bytes)) byte bytes (0 ∷ 0 ∷ [])

other : (m n : ℕ) → m ≡ n → nat_eq m n ≡ false → ⊥
other m n e f = let g : true ≡ false = sym (same_test n) ∙ ap (λ (x : ℕ). nat_eq x n) (sym e) ∙ f in cc

not_goodbye : (byte : ℕ) (bytes : List ℕ) → nat_eq byte 176 ≡ false → bytes_eq (chunked (byte ∷ bytes)) (wire r.Goodbye) ≡ false
not_goodbye byte bytes f = go (bytes_eq (chunked (byte ∷ bytes)) (wire r.Goodbye)) refl where
  go : (b : Bool) → bytes_eq (chunked (byte ∷ bytes)) (wire r.Goodbye) ≡ b → b ≡ false
  go false e = refl
  go true e = absurd (other byte 176 (sym (third_is byte bytes)
      ∙ ap third ((bytes_eq-Decides (chunked (byte ∷ bytes)) (wire r.Goodbye)).0 e) ∙ third_is 176 (2 ∷ [])) f)

one : (b : Bool) → b ≡ false → 1 ≤ (if b then 0 else 1)
one true e = absurd (let f : true ≡ false = e in cc)
one false e = omega arith

-- it is sent, and counts
sent_counts : (bytes : List ℕ) → bytes_eq bytes (wire r.Goodbye) ≡ false → Counted (Send bytes ∷ Receive ∷ [])
sent_counts bytes f e = one (bytes_eq bytes (wire r.Goodbye)) f

commit_counts : bytes_eq (wire r.Commit) (wire r.Goodbye) ≡ false
unfolding chunks_of chunks_by
commit_counts = refl

shake_counts : bytes_eq shake_bytes (wire r.Goodbye) ≡ false
unfolding chunks_of chunks_by
shake_counts = refl

pub shake_sends : 1 ≤ messages_in (Send shake_bytes ∷ Receive ∷ [])
shake_sends = sent_counts shake_bytes shake_counts refl

-- ---- each answer

abbrev Sends : Turned → Type 0
Sends t = Counted t.actions

if_sends : (b : Bool) (t u : Turned) → Sends t → Sends u → Sends (if b then t else u)
if_sends true t u h k = h
if_sends false t u h k = k

none_sent : {A : Type 0} → false ≡ true → A
none_sent e = absurd (let f : false ≡ true = e in cc)

retried : (p : SessionState) (now : ℕ) (reason : Last) → Sends (retries p now reason)
retried p now reason = if_sends (is_spent now p.core.began) _ _ (λ e. none_sent e) (λ e. none_sent e)

fell : (p : SessionState) (now : ℕ) (code : List ℕ) → Sends (fails_by p now code)
fell p now code =
    if_sends (is_transient code) _ _ (retried p now _) (if_sends (is_no_leader code) _ _ (retried (drops_table p) now _) (λ e. none_sent e))

-- where a link is closed first
closed : (actions : List Action) → Counted actions → Counted (closes ++ actions)
closed actions h e = trans (messages_in actions) (messages_in (closes ++ actions)) (h e) (last_less closes actions)

joined : (p : SessionState) (now : ℕ) (role : Role) (core : Core) (found : Option Value) → Sends (joins p now role core found)
joined p now role core (Some (v.Text address)) = λ e. none_sent e
joined p now role core _ = retried (drops_table (at_core p core)) now _

joined_server : (writes : Bool) (p : SessionState) (now : ℕ) → Sends (joins_server writes p now)
joined_server writes p now =
    joined p now (role_of writes) (drawn p.core) (picked (pcg32 p.core.words).0 (addresses_in (role_of writes) p.core.table))

joined_by : (p : SessionState) (core : Core) (found : Option Value) → Sends (joins_by p core found)
joined_by p core (Some (v.Text address)) = λ e. none_sent e
joined_by p core _ = λ e. none_sent e

attempted : (config : SessionConfig) (writes : Bool) (p : SessionState) (now : ℕ) → Sends (attempts config writes p now)
attempted config writes p now =
    let q = opened p in
    if_sends (is_fresh now p.core.table) _ _ (joined_server writes q now)
    (joined_by q (record q.core { connects = one_more q.core.connects }) (router_of config q.core))

stepped : (p : SessionState) (step : WorkStep) → Sends (takes_step p step)
stepped p (w.Run query params) = sent_counts _ (not_goodbye 179 _ refl)
stepped p w.Commit = sent_counts _ commit_counts

greeted : (writes : Bool) (p : SessionState) (leg : Leg) → Sends (follows_hello writes p leg)
greeted writes p Routing = sent_counts _ (not_goodbye 179 _ refl)
greeted writes p Working = sent_counts _ (not_goodbye 177 _ refl)

followed : (config : SessionConfig) (job : Job) (p : SessionState) (asked : Asked) → Sends (follows config job p asked)
followed config job p (a.Shake leg) = sent_counts _ (not_goodbye 177 _ refl)
followed config job p (a.Hello leg) = greeted job.writes p leg
followed config job p a.Begin = stepped (record { core = p.core; told = Some [] }) (job.steps [])
followed config job p a.Run = sent_counts _ (not_goodbye 177 _ refl)
followed config job p a.Pull =
    let rows = so_far p.told ++ p.core.rows ∷ [] in stepped (record { core = p.core; told = Some rows }) (job.steps rows)
followed config job p a.Route = λ e. none_sent e
followed config job p a.Commit = λ e. none_sent e

answered : (config : SessionConfig) (job : Job) (now : ℕ) (p : SessionState) (asked : Asked) (number : ℕ) (told : Told)
    → Sends (behind config job now p asked number told)
answered config job now p asked number says.Done = followed config job p asked
answered config job now p asked number (says.Row fields) = λ e. none_sent e
answered config job now p asked number (says.Routed table) = closed (joins_server job.writes (keeps_table p table) now).actions
    (joined_server job.writes (keeps_table p table) now)
answered config job now p asked number (says.Committed bookmark) = λ e. none_sent e
answered config job now p asked number (says.Failed code) = closed (fails_by p now code).actions (fell p now code)
answered config job now p asked number says.Bad = λ e. none_sent e

module _ (config : SessionConfig) (job : Job) (now : ℕ) where
  abbrev Heard : Listening → List Item → Standing → Type 0
  Heard l items q = Counted q.written

  heard : (l : Listening) (items : List Item) → Heard l items (hear config job now l items)
  heard = walk config job now Heard
      (λ l e. none_sent e)
      (λ l asked item items e ih.
      let number = min l.taken (2 ^ 64 - 1) - 1 in
      let told = told_by asked now l.place.core.rows item in
      counted_both (behind config job now l.place asked number told).actions _ (answered config job now l.place asked number told) ih)
      (λ l item items f e. none_sent e)

  or_more_counts : (actions : List Action) → Counted actions → Counted (or_more actions)
  or_more_counts [] h = h
  or_more_counts (action ∷ actions) h = h

  heard_all : (s : State) (bytes : List ℕ) → Counted (hears config job now s bytes).actions
  heard_all s bytes =
      let items = drop s.taken (items_of (s.came ++ bytes)) in
      subst (λ (q : Standing). Counted (or_more q.written)) (sym (going_is config job now (listening s) items))
      (or_more_counts (hear config job now (listening s) items).written (heard (listening s) items))

  input_counts : (s : State) (st : Stage) (input : Input) → Counted (on_input config job now s st input).actions
  input_counts s stage.Begun i.Start = attempted config job.writes s.place now
  input_counts s stage.Sleeps i.Woken = attempted config job.writes s.place now
  input_counts s (stage.Joins leg) i.Connected = sent_counts shake_bytes shake_counts
  input_counts s (stage.Joins leg) i.Lost = retried (drops_table s.place) now _
  input_counts s (stage.Awaits asked) (i.Bytes bytes) = heard_all s bytes
  input_counts s (stage.Awaits asked) i.Lost = retried (drops_table s.place) now _
  input_counts s _ input = λ e. none_sent e

  -- What waits to go up behind an input counts.
  pub on_counts : (s : State) (input : Input) → Counted (on config job now s input).actions
  unfolding on
  on_counts s input = input_counts s s.place.core.stage input
