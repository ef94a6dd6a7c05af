-- What each turn keeps true of a session's core.
use Rattle.std.proofs.Common.{◌≡◌, ℕ, zero, suc, ◌%◌, Bool, true, false, ◌&&◌, List, [], ◌∷◌, length, refl, sym}
use Rattle.std.proofs.Common.{◌∙◌, subst, arith}
use Rattle.std.specs.Prelude.{Option, Some, None, nat_le, if◌then◌else◌, slice_get}
use Rattle.std.proofs.lemmas.Bool.{le-leb}
use Rattle.ncc_pack.specs.declared.value.Value.{Value, roll-Value, out-Value, roll-out-Value}
use Rattle.ncc_pack.specs.declared.value.Value.TheOpen.{Value-F}
use Rattle.ncc_pack.specs.declared.value.Value.TheVariants as v
use Rattle.ncc_pack.specs.declared.value.NodeValue.{NodeValue}
use Rattle.ncc_pack.specs.Fits.{fits}
use Rattle.ncc_route.specs.declared.table.Table.{Table}
use Rattle.ncc_route.specs.declared.table.Role.{Role}
use Rattle.ncc_route.specs.Routing.{picked}
use Rattle.ncc_driver.specs.declared.config.SessionConfig.{SessionConfig}
use Rattle.ncc_driver.specs.declared.standing.Core.{Core}
use Rattle.ncc_driver.specs.declared.standing.Leg.{Leg}
use Rattle.ncc_driver.specs.declared.standing.Leg.TheVariants.{Routing, Working}
use Rattle.ncc_driver.specs.declared.standing.Asked.{Asked}
use Rattle.ncc_driver.specs.declared.standing.Asked.TheVariants as a
use Rattle.ncc_driver.specs.declared.standing.Stage.{Stage}
use Rattle.ncc_driver.specs.declared.standing.Stage.TheVariants as stage
use Rattle.ncc_driver.specs.declared.action.Last.{Last}
use Rattle.ncc_driver.specs.declared.work.WorkStep.{WorkStep}
use Rattle.ncc_driver.specs.declared.work.WorkStep.TheVariants as w
use Rattle.ncc_driver.specs.declared.answers.Told.{Told}
use Rattle.ncc_driver.specs.declared.answers.Told.TheVariants as m
use Rattle.ncc_driver.specs.Config.{text_has_spelling, texts_fit, config_fits}
use Rattle.ncc_driver.specs.Keeping.{core_keeps, table_fits, addresses_fit, told_fits}
use Rattle.ncc_driver.specs.Hearing.{awaits_more}
use Rattle.ncc_driver.specs.Spelling.{list_within}
use Rattle.ncc_driver.specs.Work.{Job, rows_fit}
use Rattle.ncc_driver.specs.State.{SessionState, Turned}
use Rattle.ncc_driver.specs.Attempts.{retries, sleeps, loses, fails, succeeds, is_spent, is_transient, is_no_leader}
use Rattle.ncc_driver.specs.Attempts.{drops_table, connects, joins, joins_server, joins_by, joins_router, role_of, addresses_in, or_else}
use Rattle.ncc_driver.specs.Attempts.{drawn}
use Rattle.ncc_driver.specs.Attempts.{opened, attempts, is_fresh, takes_step, follows, follows_hello, keeps_table, keeps_and_joins, behind}
use Rattle.ncc_driver.specs.Attempts.{at_core, router_of, next_delay}

-- what a core keeps, fact by fact
pub record Kept (core : Core) : Type 0 where
  pub bookmarks : texts_fit core.bookmarks ≡ true
  pub few : nat_le (length core.bookmarks) 256 ≡ true
  pub route : texts_fit core.route ≡ true
  pub table : table_fits core.table ≡ true
  pub address : fits (v.Text core.address) ≡ true
  pub rows : rows_fit core.rows ≡ true
  pub delay : nat_le core.delay 30_000 ≡ true

pub left : (x y : Bool) → (x && y) ≡ true → x ≡ true
left true y h = refl
left false y h = h

pub right : (x y : Bool) → (x && y) ≡ true → y ≡ true
right true y h = h
right false y h = let f : false ≡ true = h in absurd (cc)

pub kept_of : (core : Core) → core_keeps core ≡ true → Kept core
kept_of core h =
    let six = left _ _ h in
    let five = left _ _ six in
    let four = left _ _ five in
    let three = left _ _ four in
    let two = left _ _ three in
    record {
      bookmarks = left _ _ two;
      few = right _ _ two;
      route = right _ _ three;
      table = right _ _ four;
      address = right _ _ five;
      rows = right _ _ six;
      delay = right _ _ h;
    }

pub keeps_by : (core : Core) → Kept core → core_keeps core ≡ true
keeps_by core k = rw (k.bookmarks, k.few, k.route, k.table, k.address, k.rows, k.delay) refl

pub no_rows : rows_fit [] ≡ true
no_rows = list_within [] 32 (omega arith)

-- ---- retries

pub stage_kept : (core : Core) (s : Stage) → Kept core → Kept (record core { stage = s })
stage_kept core s k = record {
  bookmarks = k.bookmarks;
  few = k.few;
  route = k.route;
  table = k.table;
  address = k.address;
  rows = k.rows;
  delay = k.delay;
}

short_delay : (delay : ℕ) → nat_le (next_delay delay) 30_000 ≡ true
short_delay delay = le-leb (next_delay delay) 30_000 (omega arith)

sleeps_kept : (p : SessionState) (now : ℕ) → Kept p.core → Kept (sleeps p now).place.core
sleeps_kept p now k = record {
  bookmarks = k.bookmarks;
  few = k.few;
  route = k.route;
  table = k.table;
  address = k.address;
  rows = k.rows;
  delay = short_delay p.core.delay;
}

if_kept : (b : Bool) (t u : Turned) → Kept t.place.core → Kept u.place.core → Kept (if b then t else u).place.core
if_kept true t u k l = k
if_kept false t u k l = l

pub retries_kept : (p : SessionState) (now : ℕ) (last : Last) → Kept p.core → Kept (retries p now last).place.core
retries_kept p now last k =
    if_kept (is_spent now p.core.began) _ _ (stage_kept p.core stage.Rests k) (sleeps_kept p now k)

dropped : (core : Core) → Kept core → Kept (record core { table = None })
dropped core k = record {
  bookmarks = k.bookmarks;
  few = k.few;
  route = k.route;
  table = refl;
  address = k.address;
  rows = k.rows;
  delay = k.delay;
}

pub loses_kept : (p : SessionState) (now : ℕ) → Kept p.core → Kept (loses p now).place.core
loses_kept p now k = retries_kept (drops_table p) now _ (dropped p.core k)

fails_kept : (p : SessionState) (now : ℕ) (code : List ℕ) → Kept p.core → Kept (fails p now code).place.core
fails_kept p now code k =
    if_kept (is_transient code) _ _ (retries_kept p now _ k)
    (if_kept (is_no_leader code) _ _ (retries_kept (drops_table p) now _ (dropped p.core k)) (stage_kept p.core stage.Rests k))

succeeds_kept : (p : SessionState) (bookmark : List ℕ) → fits (v.Text bookmark) ≡ true → Kept p.core → Kept (succeeds p bookmark).place.core
unfolding text_has_spelling
succeeds_kept p bookmark h k = record {
  bookmarks = rw h refl;
  few = refl;
  route = k.route;
  table = k.table;
  address = k.address;
  rows = k.rows;
  delay = k.delay;
}

-- ---- an address that is picked

-- a text that fits, or none
abbrev pub IsAddress : Option Value → Type 0
IsAddress None = Unit {0}
IsAddress (Some x) = (t : List ℕ) × (x ≡ v.Text t) × (fits (v.Text t) ≡ true)

Named : Value → Type 0
Named x = text_has_spelling x ≡ true → (t : List ℕ) × (x ≡ v.Text t) × (fits (v.Text t) ≡ true)

not_named : (x y : Value) → y ≡ x → text_has_spelling x ≡ false → Named y
unfolding Named
not_named x y is h = subst Named (sym is) (λ e. let f : false ≡ true = sym h ∙ e in absurd (cc))

named_by : (l : Value-F Value NodeValue) → Named (roll-Value l)
unfolding Named text_has_spelling
named_by (Value-F.Text t) = subst Named (sym (v.rolls-Text t)) (λ h. (t, refl, h))
named_by Value-F.Null = not_named v.Null (roll-Value Value-F.Null) v.rolls-Null refl
named_by (Value-F.Bool b) = not_named (v.Bool b) (roll-Value (Value-F.Bool b)) (v.rolls-Bool b) refl
named_by (Value-F.Int z) = not_named (v.Int z) (roll-Value (Value-F.Int z)) (v.rolls-Int z) refl
named_by (Value-F.Bytes b) = not_named (v.Bytes b) (roll-Value (Value-F.Bytes b)) (v.rolls-Bytes b) refl
named_by (Value-F.List xs) = not_named (v.List xs) (roll-Value (Value-F.List xs)) (v.rolls-List xs) refl
named_by (Value-F.Dict ps) = not_named (v.Dict ps) (roll-Value (Value-F.Dict ps)) (v.rolls-Dict ps) refl
named_by (Value-F.Node n) = not_named (v.Node n) (roll-Value (Value-F.Node n)) (v.rolls-Node n) refl

pub named : (x : Value) → text_has_spelling x ≡ true → (t : List ℕ) × (x ≡ v.Text t) × (fits (v.Text t) ≡ true)
unfolding Named
named x = subst Named (roll-out-Value x) (named_by (out-Value x))

got_address : (xs : List Value) (i : ℕ) → texts_fit xs ≡ true → IsAddress (slice_get xs i)
got_address [] i h = tt
got_address (x ∷ xs) zero h = named x (left (text_has_spelling x) (texts_fit xs) h)
got_address (x ∷ xs) (suc i) h = got_address xs i (right (text_has_spelling x) (texts_fit xs) h)

pub picked_address : (word : ℕ) (xs : List Value) → texts_fit xs ≡ true → IsAddress (picked word xs)
picked_address word xs h = got_address xs (word % length xs) h

connects_kept : (p : SessionState) (core : Core) (leg : Leg) (t : List ℕ) → fits (v.Text t) ≡ true → Kept core
    → Kept (connects p core leg t).place.core
connects_kept p core leg t h k = record {
  bookmarks = k.bookmarks;
  few = k.few;
  route = k.route;
  table = k.table;
  address = h;
  rows = k.rows;
  delay = k.delay;
}

joins_kept : (p : SessionState) (now : ℕ) (role : Role) (core : Core) (o : Option Value) → IsAddress o → Kept core
    → Kept (joins p now role core o).place.core
joins_kept p now role core None h k = retries_kept (drops_table (at_core p core)) now _ (dropped core k)
joins_kept p now role core (Some x) h k =
    subst (λ (y : Value). Kept (joins p now role core (Some y)).place.core) (sym h.1) (connects_kept p core Working h.0 h.2 k)

joins_by_kept : (p : SessionState) (core : Core) (o : Option Value) → IsAddress o → Kept core → Kept (joins_by p core o).place.core
joins_by_kept p core None h k = k
joins_by_kept p core (Some x) h k =
    subst (λ (y : Value). Kept (joins_by p core (Some y)).place.core) (sym h.1) (connects_kept p core Routing h.0 h.2 k)

pub role_texts : (writes : Bool) (table : Option Table) → table_fits table ≡ true → texts_fit (addresses_in (role_of writes) table) ≡ true
role_texts true None h = refl
role_texts false None h = refl
role_texts true (Some t) h = left _ _ (left _ _ h)
role_texts false (Some t) h = right _ _ (left _ _ h)

drawn_kept : (core : Core) → Kept core → Kept (drawn core)
drawn_kept core k = record {
  bookmarks = k.bookmarks;
  few = k.few;
  route = k.route;
  table = k.table;
  address = k.address;
  rows = k.rows;
  delay = k.delay;
}

pub joins_server_kept : (writes : Bool) (p : SessionState) (now : ℕ) → Kept p.core → Kept (joins_server writes p now).place.core
joins_server_kept writes p now k =
    joins_kept p now (role_of writes) (drawn p.core) _ (picked_address _ _ (role_texts writes p.core.table k.table)) (drawn_kept p.core k)

pub routers_fit : (config : SessionConfig) (route : List Value) → config_fits config ≡ true → texts_fit route ≡ true
    → texts_fit (or_else route config.routers) ≡ true
routers_fit config [] h r = right _ _ (left _ _ (left _ _ h))
routers_fit config (x ∷ xs) h r = r

pub joins_router_kept : (config : SessionConfig) (p : SessionState) → config_fits config ≡ true → Kept p.core
    → Kept (joins_router config p).place.core
joins_router_kept config p h k =
    joins_by_kept p _ (router_of config p.core) (picked_address _ _ (routers_fit config p.core.route h k.route)) (record {
      bookmarks = k.bookmarks;
      few = k.few;
      route = k.route;
      table = k.table;
      address = k.address;
      rows = k.rows;
      delay = k.delay;
    })

pub attempts_kept : (config : SessionConfig) (writes : Bool) (p : SessionState) (now : ℕ) → config_fits config ≡ true → Kept p.core
    → Kept (attempts config writes p now).place.core
attempts_kept config writes p now h k =
    let o : Kept (opened p).core = record {
      bookmarks = k.bookmarks;
      few = k.few;
      route = k.route;
      table = k.table;
      address = k.address;
      rows = no_rows;
      delay = k.delay;
    } in
    if_kept (is_fresh now p.core.table) _ _ (joins_server_kept writes (opened p) now o) (joins_router_kept config (opened p) h o)

-- ---- behind an answer

step_kept : (p : SessionState) (step : WorkStep) → Kept p.core → Kept (takes_step p step).place.core
step_kept p (w.Run query params) k = stage_kept p.core (stage.Awaits a.Run) k
step_kept p w.Commit k = stage_kept p.core (stage.Awaits a.Commit) k

hello_kept : (writes : Bool) (p : SessionState) (leg : Leg) → Kept p.core → Kept (follows_hello writes p leg).place.core
hello_kept writes p Routing k = stage_kept p.core (stage.Awaits a.Route) k
hello_kept writes p Working k = stage_kept p.core (stage.Awaits a.Begin) k

pub follows_kept : (config : SessionConfig) (job : Job) (p : SessionState) (asked : Asked) → Kept p.core
    → Kept (follows config job p asked).place.core
follows_kept config job p (a.Shake leg) k = stage_kept p.core (stage.Awaits (a.Hello leg)) k
follows_kept config job p (a.Hello leg) k = hello_kept job.writes p leg k
follows_kept config job p a.Begin k = step_kept _ (job.steps []) k
follows_kept config job p a.Run k = record {
  bookmarks = k.bookmarks;
  few = k.few;
  route = k.route;
  table = k.table;
  address = k.address;
  rows = no_rows;
  delay = k.delay;
}
follows_kept config job p a.Pull k = step_kept _ (job.steps _) k
follows_kept config job p a.Route k = k
follows_kept config job p a.Commit k = k

pub table_kept : (p : SessionState) (table : Table) → addresses_fit table ≡ true → Kept p.core → Kept (keeps_table p table).core
table_kept p table h k = record {
  bookmarks = k.bookmarks;
  few = k.few;
  route = right _ _ h;
  table = h;
  address = k.address;
  rows = k.rows;
  delay = k.delay;
}

pub behind_kept : (config : SessionConfig) (job : Job) (now : ℕ) (p : SessionState) (asked : Asked) (number : ℕ) (told : Told)
    → told_fits p.core.rows told ≡ true → Kept p.core → Kept (behind config job now p asked number told).place.core
behind_kept config job now p asked number m.Done h k = follows_kept config job p asked k
behind_kept config job now p asked number (m.Row fields) h k = record {
  bookmarks = k.bookmarks;
  few = k.few;
  route = k.route;
  table = k.table;
  address = k.address;
  rows = h;
  delay = k.delay;
}
behind_kept config job now p asked number (m.Routed table) h k =
    joins_server_kept job.writes (keeps_table p table) now (table_kept p table h k)
behind_kept config job now p asked number (m.Committed bookmark) h k = succeeds_kept p bookmark h k
behind_kept config job now p asked number (m.Failed code) h k = fails_kept p now code k
behind_kept config job now p asked number m.Bad h k = stage_kept p.core stage.Rests k

-- ---- where a turn leaves a session that waits for no answer

abbrev pub Quiet : Turned → Type 0
Quiet t = awaits_more t.place.core.stage ≡ false

if_quiet : (b : Bool) (t u : Turned) → Quiet t → Quiet u → Quiet (if b then t else u)
if_quiet true t u k l = k
if_quiet false t u k l = l

pub retries_quiet : (p : SessionState) (now : ℕ) (last : Last) → Quiet (retries p now last)
retries_quiet p now last = if_quiet (is_spent now p.core.began) _ _ refl refl

pub fails_quiet : (p : SessionState) (now : ℕ) (code : List ℕ) → Quiet (fails p now code)
fails_quiet p now code =
    if_quiet (is_transient code) _ _ (retries_quiet p now _) (if_quiet (is_no_leader code) _ _ (retries_quiet (drops_table p) now _) refl)

joins_quiet : (p : SessionState) (now : ℕ) (role : Role) (core : Core) (o : Option Value) → IsAddress o → Quiet (joins p now role core o)
joins_quiet p now role core None h = retries_quiet (drops_table (at_core p core)) now _
joins_quiet p now role core (Some x) h = subst (λ (y : Value). Quiet (joins p now role core (Some y))) (sym h.1) refl

joins_by_quiet : (p : SessionState) (core : Core) (o : Option Value) → IsAddress o → awaits_more core.stage ≡ false → Quiet (joins_by p core o)
joins_by_quiet p core None h q = q
joins_by_quiet p core (Some x) h q = subst (λ (y : Value). Quiet (joins_by p core (Some y))) (sym h.1) refl

pub joins_server_quiet : (writes : Bool) (p : SessionState) (now : ℕ) → Kept p.core → Quiet (joins_server writes p now)
joins_server_quiet writes p now k =
    joins_quiet p now (role_of writes) (drawn p.core) _ (picked_address _ _ (role_texts writes p.core.table k.table))

pub attempts_quiet : (config : SessionConfig) (writes : Bool) (p : SessionState) (now : ℕ) → config_fits config ≡ true → Kept p.core
    → awaits_more p.core.stage ≡ false → Quiet (attempts config writes p now)
attempts_quiet config writes p now h k q =
    if_quiet (is_fresh now p.core.table) _ _
    (joins_quiet (opened p) now (role_of writes) (drawn (opened p).core) _ (picked_address _ _ (role_texts writes p.core.table k.table)))
    (joins_by_quiet (opened p) _ (router_of config (opened p).core) (picked_address _ _ (routers_fit config p.core.route h k.route)) q)

pub keeps_and_joins_quiet : (writes : Bool) (now : ℕ) (p : SessionState) (table : Table) → addresses_fit table ≡ true → Kept p.core
    → Quiet (keeps_and_joins writes now p table)
keeps_and_joins_quiet writes now p table h k = joins_server_quiet writes (keeps_table p table) now (table_kept p table h k)
