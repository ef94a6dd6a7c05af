-- An attempt through one router and one server, up to the transaction's begin, from wherever a session stands without a fresh table.
use Rattle.std.proofs.Common.{◌≡◌, ℕ, ◌%◌, Bool, true, false, List, [], ◌∷◌, ◌++◌, length, drop}
use Rattle.std.proofs.Common.{Option, Some, None, refl, ap, ◌∙◌, arith}
use Rattle.std.specs.Prelude.{slice_get, if◌then◌else◌}
use Rattle.rand_pcg.specs.Pcg.{pcg32}
use Rattle.ncc_pack.specs.declared.value.Value.{Value}
use Rattle.ncc_pack.specs.declared.value.Value.TheVariants as v
use Rattle.ncc_chunk.specs.Messages.{front_by, parts_by, messages_of, rest_of, is_too_long}
use Rattle.ncc_route.specs.declared.auth.Auth.TheVariants.{Nobody}
use Rattle.ncc_route.specs.declared.table.Table.{Table}
use Rattle.ncc_route.specs.Routing.{picked}
use Rattle.ncc_driver.specs.declared.standing.Core.{Core}
use Rattle.ncc_driver.specs.declared.standing.Leg.TheVariants.{Routing, Working}
use Rattle.ncc_driver.specs.declared.standing.Asked.TheVariants as a
use Rattle.ncc_driver.specs.declared.standing.Stage.{Stage}
use Rattle.ncc_driver.specs.declared.standing.Stage.TheVariants as stage
use Rattle.ncc_driver.specs.declared.link.Item.TheVariants.{Shaken, Message}
use Rattle.ncc_driver.specs.declared.action.Action.TheVariants.{Connect}
use Rattle.ncc_driver.specs.declared.action.Input.{Input}
use Rattle.ncc_driver.specs.declared.action.Input.TheVariants as i
use Rattle.ncc_driver.specs.declared.answers.Told.TheVariants as says
use Rattle.ncc_driver.specs.declared.work.WorkStep.{WorkStep}
use Rattle.ncc_driver.specs.Work.{Row, Job, job_by}
use Rattle.ncc_driver.specs.Requests.{shakes, asks, closes, hello, route, begin}
use Rattle.ncc_driver.specs.Answers.{message_of}
use Rattle.ncc_driver.specs.State.{SessionState, Turned}
use Rattle.ncc_driver.specs.Attempts.{one_more as step_up, attempts, is_fresh, opened, joins_server, joins_router, joins_by, or_else}
use Rattle.ncc_driver.specs.Attempts.{role_of, joins, drawn, keeps_table, goes, before}
use Rattle.ncc_driver.specs.Session.{State, Ran, Moved, items_of, or_more, on_place, on, ahead}
use Rattle.ncc_driver.specs.Worked.{n1, config, success, comes, shaken}
use Rattle.ncc_driver.proofs.WorkedReading.{one_writer, success_tells}
use Rattle.ncc_driver.proofs.WorkedRuns.{runs, first_runs, hears_one}

pub picks_one : (word : ℕ) (x : Value) → picked word (x ∷ []) ≡ Some x
picks_one word x = let e : word % 1 ≡ 0 = omega arith in ap (λ (k : ℕ). slice_get (x ∷ []) k) e

-- the core of an attempt that asks a router, and of one that has a server
abbrev pub asking : Core → Stage → Core
asking c st = record c { stage = st; connects = step_up c.connects; attempts = step_up c.attempts; address = n1; rows = [] }

abbrev pub serving : Core → Table → List ℕ → Stage → Core
serving c t address st = record c {
  stage = st;
  words = (pcg32 c.words).1;
  table = Some t;
  route = t.route;
  connects = step_up c.connects;
  attempts = step_up c.attempts;
  address = address;
  rows = [];
}

-- a link on which so much came, of which so many items were taken
abbrev pub stands : Core → Option (List (List Row)) → List ℕ → ℕ → State
stands core told came taken = record { place = record { core = core; told = told }; came = came; taken = taken }

routes_by : (p : SessionState) (now : ℕ) (fresh : Bool) → p.core.route ≡ [] → fresh ≡ false
    → (if fresh then joins_server true (opened p) now else joins_router config (opened p))
    ≡ goes (record { core = asking p.core (stage.Joins Routing); told = None }) (Connect n1 ∷ [])
routes_by p now true r e = absurd (cc)
routes_by p now false r e =
    let core = record (opened p).core { connects = step_up p.core.connects } in
    ap (λ (l : List Value). joins_by (opened p) core (picked p.core.connects (or_else l config.routers))) r
    ∙ ap (λ (o : Option Value). joins_by (opened p) core o) (picks_one p.core.connects (v.Text n1))

pub routes : (p : SessionState) (now : ℕ) → p.core.route ≡ [] → is_fresh now p.core.table ≡ false
    → attempts config true p now ≡ goes (record { core = asking p.core (stage.Joins Routing); told = None }) (Connect n1 ∷ [])
routes p now r e = routes_by p now (is_fresh now p.core.table) r e

-- the bytes of a link on which the handshake and HELLO were answered
abbrev pub greeted : List ℕ
greeted = 0 ∷ 0 ∷ 4 ∷ 4 ∷ 0 ∷ 3 ∷ 0xB1 ∷ 0x70 ∷ 0xA0 ∷ 0 ∷ 0 ∷ []

module _ (steps : List (List Row) → WorkStep) (now : ℕ) (c : Core) (seconds : ℕ) (address : List ℕ) (message : List ℕ) where
  abbrev job : Job
  job = job_by true steps

  abbrev t : Table
  t = one_writer address now seconds

  abbrev chunk : List ℕ
  chunk = 0 ∷ length message ∷ message ++ 0 ∷ 0 ∷ []

  serves : (told : Option (List (List Row))) (core : Core) → core ≡ asking c (stage.Awaits a.Route)
      → before closes (joins_server true (keeps_table (record { core = core; told = told }) t) now)
      ≡ goes (record { core = serving c t address (stage.Joins Working); told = told }) (closes ++ Connect address ∷ [])
  serves told core e =
      ap (λ (x : Core). before closes (joins_server true (keeps_table (record { core = x; told = told }) t) now)) e
      ∙ ap (λ (o : Option Value). let p = keeps_table (record { core = asking c (stage.Awaits a.Route); told = told }) t in
      before closes (joins p now (role_of true) (drawn p.core) o)) (picks_one (pcg32 c.words).0 (v.Text address))

  -- with the server's link open and HELLO answered, BEGIN is asked
  begins_there : (came : List ℕ) (taken : ℕ) (xs : List Moved) (rest : Ran)
      → runs config job (stands (serving c t address (stage.Awaits a.Begin)) None greeted 2) xs ≡ rest
      → runs config job (stands (serving c t address (stage.Joins Working)) None came taken)
      ((i.Connected, now) ∷ shaken now ∷ comes now success ∷ xs)
      ≡ ahead (shakes ++ asks (hello Nobody address) ++ asks (begin c.bookmarks true)) rest
  unfolding on messages_of is_too_long rest_of parts_by front_by
  begins_there came taken xs rest h =
      first_runs config job _ (i.Connected, now) _ (record {
        state = stands (serving c t address (stage.Awaits (a.Shake Working))) None [] 0;
        actions = shakes;
      }) _ refl
      (first_runs config job _ (shaken now) _ _ _
      (hears_one config job now (stands (serving c t address (stage.Awaits (a.Shake Working))) None [] 0) (0 ∷ 0 ∷ 4 ∷ 4 ∷ [])
      (a.Shake Working) (Shaken (0 ∷ 0 ∷ 4 ∷ 4 ∷ [])) says.Done refl refl refl)
      (first_runs config job _ (comes now success) _ _ _
      (hears_one config job now (stands (serving c t address (stage.Awaits (a.Hello Working))) None (0 ∷ 0 ∷ 4 ∷ 4 ∷ []) 1)
      (0 ∷ 3 ∷ 0xB1 ∷ 0x70 ∷ 0xA0 ∷ 0 ∷ 0 ∷ []) (a.Hello Working) (Message success) says.Done refl refl
      (success_tells (a.Hello Working) now []))
      h))

  -- with the router's link open, HELLO and ROUTE are answered
  routes_there : (came : List ℕ) (taken : ℕ) (xs : List Moved) (rest : Ran)
      → message_of a.Route now [] message ≡ says.Routed t
      → drop 2 (items_of (greeted ++ chunk)) ≡ Message message ∷ []
      → runs config job (stands (serving c t address (stage.Joins Working)) None (greeted ++ chunk) 3) xs ≡ rest
      → runs config job (stands (asking c (stage.Joins Routing)) None came taken)
      ((i.Connected, now) ∷ shaken now ∷ comes now success ∷ (i.Bytes chunk, now) ∷ xs)
      ≡ ahead (shakes ++ asks (hello Nobody n1) ++ asks (route n1) ++ closes ++ Connect address ∷ []) rest
  unfolding on messages_of is_too_long rest_of parts_by front_by
  routes_there came taken xs rest tells item h =
      let s = stands (asking c (stage.Awaits a.Route)) None greeted 2 in
      first_runs config job _ (i.Connected, now) _ (record {
        state = stands (asking c (stage.Awaits (a.Shake Routing))) None [] 0;
        actions = shakes;
      }) _ refl
      (first_runs config job _ (shaken now) _ _ _
      (hears_one config job now (stands (asking c (stage.Awaits (a.Shake Routing))) None [] 0) (0 ∷ 0 ∷ 4 ∷ 4 ∷ [])
      (a.Shake Routing) (Shaken (0 ∷ 0 ∷ 4 ∷ 4 ∷ [])) says.Done refl refl refl)
      (first_runs config job _ (comes now success) _ _ _
      (hears_one config job now (stands (asking c (stage.Awaits (a.Hello Routing))) None (0 ∷ 0 ∷ 4 ∷ 4 ∷ []) 1)
      (0 ∷ 3 ∷ 0xB1 ∷ 0x70 ∷ 0xA0 ∷ 0 ∷ 0 ∷ []) (a.Hello Routing) (Message success) says.Done refl refl
      (success_tells (a.Hello Routing) now []))
      (first_runs config job _ (i.Bytes chunk, now) _ (record {
        state = stands (serving c t address (stage.Joins Working)) None (greeted ++ chunk) 3;
        actions = closes ++ Connect address ∷ [];
      }) _
      (hears_one config job now s chunk a.Route (Message message) (says.Routed t) refl item tells
      ∙ ap (λ (u : Turned). record {
        state = record { place = u.place; came = greeted ++ chunk; taken = 3 };
        actions = or_more u.actions;
      }) (serves None (asking c (stage.Awaits a.Route)) refl))
      h)))

  -- from the start on
  pub attempt_there : (s : State) (start : Input) (xs : List Moved) (rest : Ran)
      → on config job now s start ≡ on_place s (attempts config true s.place now)
      → s.place.core ≡ c → c.route ≡ [] → is_fresh now c.table ≡ false
      → message_of a.Route now [] message ≡ says.Routed t
      → drop 2 (items_of (greeted ++ chunk)) ≡ Message message ∷ []
      → runs config job (stands (serving c t address (stage.Awaits a.Begin)) None greeted 2) xs ≡ rest
      → runs config job s ((start, now) ∷ (i.Connected, now) ∷ shaken now ∷ comes now success ∷ (i.Bytes chunk, now) ∷ (i.Connected, now)
      ∷ shaken now ∷ comes now success ∷ xs)
      ≡ ahead (Connect n1 ∷ shakes ++ asks (hello Nobody n1) ++ asks (route n1) ++ closes ++ Connect address ∷ shakes
      ++ asks (hello Nobody address) ++ asks (begin c.bookmarks true)) rest
  attempt_there s start xs rest o e r f tells item h =
      first_runs config job s (start, now) _ (record {
        state = stands (asking c (stage.Joins Routing)) None s.came s.taken;
        actions = Connect n1 ∷ [];
      }) _
      (o ∙ ap (λ (u : Turned). on_place s u)
      (routes s.place now (ap (λ (x : Core). x.route) e ∙ r) (ap (λ (x : Core). is_fresh now x.table) e ∙ f)
      ∙ ap (λ (x : Core). goes (record { core = asking x (stage.Joins Routing); told = None }) (Connect n1 ∷ [])) e))
      (routes_there s.came s.taken _ _ tells item (begins_there (greeted ++ chunk) 3 xs rest h))
