-- What a failed attempt makes of a session, by whether too long has passed since its work began.
use Rattle.std.proofs.Common.{◌≡◌, ℕ, true, false, List, [], ◌∷◌, ◌++◌, Ok, Err, ap, subst, ◌∙◌, append_assoc}
use Rattle.std.specs.Prelude.{Option}
use Rattle.ncc_pack.specs.declared.value.Value.{Value}
use Rattle.ncc_pack.specs.declared.value.Value.TheVariants as v
use Rattle.ncc_driver.specs.declared.standing.Core.{Core}
use Rattle.ncc_driver.specs.declared.action.Action.{Action}
use Rattle.ncc_driver.specs.declared.action.Last.{Last}
use Rattle.ncc_driver.specs.declared.action.WorkDone.{WorkDone}
use Rattle.ncc_driver.specs.declared.action.WorkError.TheVariants as e
use Rattle.ncc_driver.specs.State.{SessionState, Turned, Makes}
use Rattle.ncc_driver.specs.Work.{Row}
use Rattle.ncc_driver.specs.Requests.{closes}
use Rattle.ncc_driver.specs.Attempts.{is_spent, finishes, retries, sleeps, before, is_transient, is_no_leader, fails, at_core, place_of}
use Rattle.ncc_driver.specs.Attempts.{done_of, succeeds}

pub spent_retries : (core new : Core) (now : ℕ) (last : Last) (qs rs : List Action) → is_spent now core.began ≡ true
    → Makes (λ p. finishes p (Err (e.RetriesSpent core.attempts last))) core new qs rs → Makes (λ p. retries p now last) core new qs rs
spent_retries core new now last qs rs b h told = rw b (h told)

pub slept_retries : (core new : Core) (now : ℕ) (last : Last) (qs rs : List Action) → is_spent now core.began ≡ false
    → Makes (λ p. sleeps p now) core new qs rs → Makes (λ p. retries p now last) core new qs rs
slept_retries core new now last qs rs b h told = rw b (h told)

-- what is done behind the closing of a link
pub closed : (turn : SessionState → Turned) (core new : Core) (qs mid rs : List Action) → mid ≡ qs ++ closes
    → Makes turn core new mid rs → Makes (λ p. before closes (turn p)) core new qs rs
closed turn core new qs mid rs m h told =
    let actions = (turn (record { core = core; told = told })).actions in
    ((h told).0, (h told).1 ∙ ap (λ (x : List Action). x ++ actions) m ∙ append_assoc qs closes actions)

pub refused : (core new : Core) (now : ℕ) (code : List ℕ) (qs mid rs : List Action) → is_transient code ≡ false → is_no_leader code ≡ false
    → mid ≡ qs ++ closes → Makes (λ p. finishes p (Err (e.Refused core.attempts code))) core new mid rs
    → Makes (λ p. fails p now code) core new qs rs
refused core new now code qs mid rs t n m h told =
    rw (t, n) (closed (λ p. finishes p (Err (e.Refused core.attempts code))) core new qs mid rs m h told)

-- the work was committed
pub succeeded : (core new : Core) (bookmark moved copy : List ℕ) (none marks : List Value) (place : Option ℕ) (rows : List Row)
    (qs mid rs : List Action) → mid ≡ qs ++ closes → moved ≡ bookmark → none ≡ [] → copy ≡ bookmark → marks ≡ none ++ v.Text copy ∷ []
    → place ≡ place_of bookmark
    → rows ≡ core.rows
    → Makes (λ p. finishes p (Ok (record { attempts = core.attempts; place = place; bookmark = moved; rows = rows })))
    (record core { bookmarks = marks }) new mid rs
    → Makes (λ p. succeeds p bookmark) core new qs rs
succeeded core new bookmark moved copy none marks place rows qs mid rs m b z s e p r h =
    let marks' : marks ≡ v.Text bookmark ∷ [] = e ∙ ap (λ (xs : List Value). xs ++ v.Text copy ∷ []) z
    ∙ ap (λ (t : List ℕ). v.Text t ∷ []) s in
    let done : WorkDone = record { attempts = core.attempts; place = place; bookmark = moved; rows = rows } in
    let same : done ≡ done_of core bookmark =
    ap (λ (t : List ℕ). record { attempts = core.attempts; place = place; bookmark = t; rows = rows }) b
    ∙ ap (λ (o : Option ℕ). record { attempts = core.attempts; place = o; bookmark = bookmark; rows = rows }) p
    ∙ ap (λ (x : List Row). record { attempts = core.attempts; place = place_of bookmark; bookmark = bookmark; rows = x }) r in
    let g = subst (λ (xs : List Value). Makes (λ p. finishes p (Ok done)) (record core { bookmarks = xs }) new mid rs) marks' h in
    let g' = subst (λ (d : WorkDone). Makes (λ p. finishes p (Ok d)) (record core { bookmarks = v.Text bookmark ∷ [] }) new mid
    rs) same g in
    closed (λ p. finishes (at_core p (record p.core { bookmarks = v.Text bookmark ∷ [] })) (Ok (done_of p.core bookmark))) core new
    qs mid rs m g'
