-- Whom a session connects to.
use Rattle.std.proofs.Common.{◌≡◌, ℕ, Bool, true, List, [], ◌++◌, sym, ap, subst, ◌∙◌}
use Rattle.std.specs.Prelude.{Option, Some, None}
use Rattle.rand_pcg.specs.Lcg.{Lcg}
use Rattle.rand_pcg.specs.Pcg.{pcg32}
use Rattle.ncc_pack.specs.declared.value.Value.{Value}
use Rattle.ncc_pack.specs.declared.value.Value.TheVariants as v
use Rattle.ncc_route.specs.declared.table.Table.{Table}
use Rattle.ncc_route.specs.declared.table.Role.{Role}
use Rattle.ncc_route.specs.Routing.{picked}
use Rattle.ncc_driver.specs.Work.{Row, rows_fit}
use Rattle.ncc_driver.specs.declared.config.SessionConfig.{SessionConfig}
use Rattle.ncc_driver.specs.declared.standing.Core.{Core}
use Rattle.ncc_driver.specs.declared.standing.Leg.TheVariants.{Routing, Working}
use Rattle.ncc_driver.specs.declared.action.Action.{Action}
use Rattle.ncc_driver.specs.declared.action.Last.TheVariants as last
use Rattle.ncc_driver.specs.Config.{config_fits}
use Rattle.ncc_driver.specs.Keeping.{as_text, core_keeps}
use Rattle.ncc_driver.specs.Requests.{closes}
use Rattle.ncc_driver.specs.State.{SessionState, Turned, Makes}
use Rattle.ncc_driver.specs.Attempts.{connects, retries, joins, joins_server, joins_by, joins_router, role_of, addresses_in, or_else, drawn}
use Rattle.ncc_driver.specs.Attempts.{drops_table, at_core, one_more, keeps_table, keeps_and_joins}
use Rattle.ncc_driver.proofs.Turning.{closed}
use Rattle.ncc_driver.proofs.Kept.{Kept, kept_of, keeps_by, no_rows, joins_server_kept, joins_router_kept}

-- a turn makes this of these rows
abbrev MakesOf : Turned → Option (List (List Row)) → Core → List Action → List Action → Type 0
MakesOf t told new before after = (t.place ≡ record { core = new; told = told }) × (after ≡ before ++ t.actions)

word_is : (word : ℕ) (words old : Lcg) → (word, words) ≡ pcg32 old → word ≡ (pcg32 old).0
word_is word words old e = ap (λ (x : ℕ × Lcg). x.0) e

words_are : (word : ℕ) (words old : Lcg) → (word, words) ≡ pcg32 old → words ≡ (pcg32 old).1
words_are word words old e = ap (λ (x : ℕ × Lcg). x.1) e

-- what the definition picks
picked_is : (writes : Bool) (core : Core) (word : ℕ) (words : Lcg) (role : Role) (o : Option Value) → role ≡ role_of writes
    → (word, words) ≡ pcg32 core.words → picked word (addresses_in role core.table) ≡ o
    → picked (pcg32 core.words).0 (addresses_in (role_of writes) core.table) ≡ o
picked_is writes core word words role o r w e =
    ap (λ (k : ℕ). picked k (addresses_in (role_of writes) core.table)) (sym (word_is word words core.words w))
    ∙ ap (λ (x : Role). picked word (addresses_in x core.table)) (sym r) ∙ e

pub server_some : (writes : Bool) (now : ℕ) (core new : Core) (word : ℕ) (words : Lcg) (role : Role) (found : Option (List ℕ))
    (address : List ℕ) (before after : List Action) → role ≡ role_of writes → (word, words) ≡ pcg32 core.words
    → picked word (addresses_in role core.table) ≡ as_text found → found ≡ Some address
    → Makes (λ p. connects p p.core Working address) (record core { words = words }) new before after
    → Makes (λ p. joins_server writes p now) core new before after
server_some writes now core new word words role found address before after r w e f h told =
    let p : SessionState = record { core = core; told = told } in
    let o = picked_is writes core word words role (Some (v.Text address)) r w (e ∙ ap as_text f) in
    let is : joins_server writes p now ≡ connects p (drawn core) Working address =
    ap (λ (x : Option Value). joins p now (role_of writes) (drawn core) x) o in
    let g = subst (λ (x : Lcg). MakesOf (connects (record { core = record core { words = x }; told = told }) (record core { words = x })
    Working address) told new before after) (words_are word words core.words w) (h told) in
    subst (λ (t : Turned). MakesOf t told new before after) (sym is) g

pub server_none : (writes : Bool) (now : ℕ) (core new : Core) (word : ℕ) (words : Lcg) (role : Role) (found : Option (List ℕ))
    (before after : List Action) → role ≡ role_of writes → (word, words) ≡ pcg32 core.words
    → picked word (addresses_in role core.table) ≡ as_text found → found ≡ None
    → Makes (λ p. retries p now (last.NoServer role)) (record core { words = words; table = None }) new before after
    → Makes (λ p. joins_server writes p now) core new before after
server_none writes now core new word words role found before after r w e f h told =
    let p : SessionState = record { core = core; told = told } in
    let o = picked_is writes core word words role None r w (e ∙ ap as_text f) in
    let is : joins_server writes p now ≡ retries (drops_table (at_core p (drawn core))) now (last.NoServer (role_of writes)) =
    ap (λ (x : Option Value). joins p now (role_of writes) (drawn core) x) o in
    let g = subst (λ (x : Lcg). MakesOf (retries (record { core = record core { words = x; table = None }; told = told }) now
    (last.NoServer role)) told new before after) (words_are word words core.words w) (h told) in
    let g' = subst (λ (x : Role). MakesOf (retries (drops_table (at_core p (drawn core))) now (last.NoServer x)) told new before
    after) r g in
    subst (λ (t : Turned). MakesOf t told new before after) (sym is) g'

pub router_some : (config : SessionConfig) (core new : Core) (all : List Value) (found : Option (List ℕ)) (address : List ℕ) (count : ℕ)
    (before after : List Action) → all ≡ or_else core.route config.routers → picked core.connects all ≡ as_text found → found ≡ Some address
    → count ≡ one_more core.connects
    → Makes (λ p. connects p p.core Routing address) (record core { connects = count }) new before after
    → Makes (λ p. joins_router config p) core new before after
router_some config core new all found address count before after a e f n h told =
    let p : SessionState = record { core = core; told = told } in
    let counted : Core = record core { connects = one_more core.connects } in
    let o : picked core.connects (or_else core.route config.routers) ≡ Some (v.Text address) =
    ap (λ (xs : List Value). picked core.connects xs) (sym a) ∙ e ∙ ap as_text f in
    let is : joins_router config p ≡ connects p counted Routing address = ap (λ (x : Option Value). joins_by p counted x) o in
    let g = subst (λ (x : ℕ). MakesOf (connects (record { core = record core { connects = x }; told = told }) (record core { connects = x })
    Routing address) told new before after) n (h told) in
    subst (λ (t : Turned). MakesOf t told new before after) (sym is) g

-- ---- an attempt

made_kept : (turn : SessionState → Turned) (old new : Core) (before after : List Action) → Makes turn old new before after
    → Kept (turn (record { core = old; told = None })).place.core → core_keeps new ≡ true
made_kept turn old new before after h k =
    let e : (turn (record { core = old; told = None })).place.core ≡ new = ap (λ (p : SessionState). p.core) (h None).0 in
    keeps_by new (subst (λ (c : Core). Kept c) e k)

opened_kept : (core : Core) (count : ℕ) (rows : List Row) → rows ≡ [] → Kept core → Kept (record core { attempts = count; rows = rows })
opened_kept core count rows z k = record {
  bookmarks = k.bookmarks;
  few = k.few;
  route = k.route;
  table = k.table;
  address = k.address;
  rows = ap rows_fit z ∙ no_rows;
  delay = k.delay;
}

pub server_keeps : (writes : Bool) (now : ℕ) (core new : Core) (count : ℕ) (rows : List Row) (before after : List Action) → rows ≡ []
    → core_keeps core ≡ true
    → Makes (λ p. joins_server writes p now) (record core { attempts = count; rows = rows }) new before after → core_keeps new ≡ true
server_keeps writes now core new count rows before after z k h =
    let opened : Core = record core { attempts = count; rows = rows } in
    made_kept (λ p. joins_server writes p now) opened new before after h
    (joins_server_kept writes (record { core = opened; told = None }) now (opened_kept core count rows z (kept_of core k)))

pub router_keeps : (config : SessionConfig) (core new : Core) (count : ℕ) (rows : List Row) (before after : List Action) → rows ≡ []
    → config_fits config ≡ true → core_keeps core ≡ true
    → Makes (λ p. joins_router config p) (record core { attempts = count; rows = rows }) new before after → core_keeps new ≡ true
router_keeps config core new count rows before after z f k h =
    let opened : Core = record core { attempts = count; rows = rows } in
    made_kept (λ p. joins_router config p) opened new before after h
    (joins_router_kept config (record { core = opened; told = None }) f (opened_kept core count rows z (kept_of core k)))

-- ---- a table that was got

pub table_kept : (writes : Bool) (now : ℕ) (core new : Core) (table : Table) (route : List Value) (qs mid rs : List Action)
    → mid ≡ qs ++ closes → route ≡ table.route
    → Makes (λ p. joins_server writes p now) (record core { route = route; table = Some table }) new mid rs
    → Makes (λ p. keeps_and_joins writes now p table) core new qs rs
table_kept writes now core new table route qs mid rs m r h =
    let g = subst (λ (x : List Value). Makes (λ p. joins_server writes p now) (record core { route = x; table = Some table }) new
    mid rs) r h in
    closed (λ p. joins_server writes (keeps_table p table) now) core new qs mid rs m g
