-- A work that is begun and started in a new session.
use Rattle.std.proofs.Common.{◌≡◌, ℕ, ◌≤◌, false, List, [], ◌∷◌, refl, sym, ap, ◌∙◌, subst, arith}
use Rattle.std.specs.Prelude.{IsTrue}
use Rattle.ncc_driver.specs.Config.{config_fits}
use Rattle.ncc_driver.specs.declared.config.SessionConfig.{SessionConfig}
use Rattle.ncc_driver.specs.declared.standing.Core.{Core}
use Rattle.ncc_driver.specs.declared.standing.Stage.{Stage}
use Rattle.ncc_driver.specs.declared.standing.Stage.TheVariants as stage
use Rattle.ncc_driver.specs.declared.action.Input.TheVariants as i
use Rattle.ncc_driver.specs.Work.{Row, Job}
use Rattle.ncc_driver.specs.State.{BehindAt, new_core}
use Rattle.ncc_driver.specs.Session.{begins, told_all, works_all, session, told_in}
use Rattle.ncc_driver.specs.Talk.{Held, Stands, StandsAt, Tells, TellBreaks, StaysWith, begun, works_at}
use Rattle.ncc_client.specs.declared.working.Stop.{Stop}
use Rattle.ncc_client.specs.declared.working.Stop.TheVariants as stop
use Rattle.ncc_client.specs.Calls.{Call}
use Rattle.ncc_client.specs.Working.{timed}
use Rattle.ncc_client.specs.Turning.{At, IsAt, Stops, Worked}
use Rattle.ncc_client.proofs.Lists.{lost_none}

-- ---- a new session

fresh_core : (config : SessionConfig) → (session config []).state.place.core ≡ new_core config
unfolding session works_all
fresh_core config = refl

core_new : (held : Held) (config : SessionConfig) → Stands held config [] [] → held.core ≡ new_core config
core_new held config k = sym k.core_is ∙ fresh_core config

pub new_rests : (held : Held) (config : SessionConfig) → Stands held config [] [] → works_at held.core.stage ≡ false
unfolding new_core
new_rests held config k = ap (λ (c : Core). works_at c.stage) (core_new held config k)

pub new_began : (held : Held) (config : SessionConfig) (now : ℕ) → Stands held config [] [] → held.core.began ≤ now
unfolding new_core
new_began held config now k = let e : held.core.began ≡ 0 = ap (λ (c : Core). c.began) (core_new held config k) in omega arith

-- ---- a work that was begun

begun_stage : (config : SessionConfig) (job : Job) (now : ℕ) → (session config (begun job now ∷ [])).state.place.core.stage ≡ stage.Begun
unfolding session works_all told_all begins
begun_stage config job now = refl

begun_began : (config : SessionConfig) (job : Job) (now : ℕ) → (session config (begun job now ∷ [])).state.place.core.began ≡ now
unfolding session works_all told_all begins
begun_began config job now = refl

pub waits_at : (held : Held) (config : SessionConfig) (job : Job) (now : ℕ) → Stands held config (begun job now ∷ []) []
    → held.core.stage ≡ stage.Begun
waits_at held config job now k = ap (λ (c : Core). c.stage) (sym k.core_is) ∙ begun_stage config job now

pub begun_later : (held : Held) (config : SessionConfig) (job : Job) (now : ℕ) → Stands held config (begun job now ∷ []) []
    → held.core.began ≤ now
begun_later held config job now k =
    let e : held.core.began ≡ now = ap (λ (c : Core). c.began) (sym k.core_is) ∙ begun_began config job now in omega arith

pub begun_stands : (held : Held) (config : SessionConfig) (job : Job) (now : ℕ) (behind : List (List Row) → Type 0)
    → Stands held config (begun job now ∷ []) [] → StandsAt held.core.stage behind
begun_stands held config job now behind k =
    subst (λ (s : Stage). StandsAt s behind) (sym (waits_at held config job now k)) tt

begun_behind : (held : Held) (config : SessionConfig) (job : Job) (now : ℕ) (behind : List (List Row) → Type 0)
    → Stands held config (begun job now ∷ []) []
    → BehindAt held.core.stage behind (told_in config (begun job now ∷ []))
begun_behind held config job now behind k =
    subst (λ (s : Stage). BehindAt s behind (told_in config (begun job now ∷ []))) (sym (waits_at held config job now k)) tt

-- ---- and started

started : (mid new : Held) (config : SessionConfig) (job : Job) (now : ℕ) (before after : List (List Row) → Type 0)
    → Stands mid config (begun job now ∷ []) [] → Tells before mid job i.Start now new → StaysWith before after mid job i.Start now new
    → At config job after [] now [] new
unfolding timed
started mid new config job now before after k t s =
    let b = begun_behind mid config job now before k in
    record {
      one_each = refl;
      stands = t config [] (begun job now) [] refl k b;
      is_behind = s config [] (begun job now) [] refl k b;
    }

pub started_is : (new : Held) (config : SessionConfig) (job : Job) (now last : ℕ) (behind : List (List Row) → Type 0)
    → IsTrue (config_fits config) → At config job behind [] now [] new → now ≤ last → IsAt job behind last new
started_is new config job now last behind f k l =
    record { config = config; calls = []; began = now; later = []; fits = f; at = k; in_time = l }

worked : (config : SessionConfig) (job : Job) (behind : List (List Row) → Type 0) (made : List Call → Type 0)
    (ticks ticked : List ℕ → Type 0) (rose : Type 0) (now : ℕ) (held : Held) (why : Stop) → At config job behind [] now [] held
    → Stops job behind made ticks rose held why → ((ms : List ℕ) → ticks ms → ticked (now ∷ ms))
    → Worked config job made ticked rose why
worked config job behind made ticks ticked rose now held why k s f = record {
  went = record {
    calls = s.went.calls;
    moments = now ∷ s.went.moments;
    made_it = s.went.made_it;
    ticked_it = f s.went.moments s.went.ticked_it;
    lost = s.went.lost;
  };
  began = now;
  later = s.went.moments;
  moments_are = refl;
  stopped = s.stopped config [] now [] k;
}

broke : (mid new : Held) (config : SessionConfig) (job : Job) (now : ℕ) (made : List Call → Type 0) (ticked : List ℕ → Type 0)
    (rose : Type 0) → Stands mid config (begun job now ∷ []) [] → TellBreaks mid job i.Start now new → made [] → ticked (now ∷ [])
    → Worked config job made ticked rose stop.Memory
unfolding timed
broke mid new config job now made ticked rose k t m c =
    let b = t config [] (begun job now) [] refl k in
    record {
      went = record { calls = []; moments = now ∷ []; made_it = m; ticked_it = c; lost = lost_none rose };
      began = now;
      later = [];
      moments_are = refl;
      stopped = record { one_each = refl; rest = b.rest; acts_are = b.begins; stops = tt };
    }

-- ---- the same of jobs that are equal

as_job : (mid : Held) (config : SessionConfig) (now : ℕ) (job work : Job) → work ≡ job → Stands mid config (begun job now ∷ []) []
    → Stands mid config (begun work now ∷ []) []
as_job mid config now job work e k = subst (λ (j : Job). Stands mid config (begun j now ∷ []) []) (sym e) k

pub started_as : (mid new : Held) (config : SessionConfig) (job work last : Job) (now : ℕ) (before after : List (List Row) → Type 0)
    → work ≡ job → last ≡ work → Stands mid config (begun job now ∷ []) [] → Tells before mid work i.Start now new
    → StaysWith before after mid work i.Start now new → At config last after [] now [] new
started_as mid new config job work last now before after e f k t s =
    subst (λ (j : Job). At config j after [] now [] new) (sym f)
    (started mid new config work now before after (as_job mid config now job work e k) t s)

pub worked_as : (config : SessionConfig) (job last : Job) (behind : List (List Row) → Type 0) (made : List Call → Type 0)
    (ticks ticked : List ℕ → Type 0) (rose : Type 0) (now : ℕ) (held : Held) (why : Stop) → last ≡ job
    → At config last behind [] now [] held
    → Stops last behind made ticks rose held why → ((ms : List ℕ) → ticks ms → ticked (now ∷ ms))
    → Worked config job made ticked rose why
worked_as config job last behind made ticks ticked rose now held why e k s f =
    subst (λ (j : Job). Worked config j made ticked rose why) e
    (worked config last behind made ticks ticked rose now held why k s f)

pub broke_as : (mid new : Held) (config : SessionConfig) (job work : Job) (now : ℕ) (made : List Call → Type 0)
    (ticked : List ℕ → Type 0) (rose : Type 0) → work ≡ job → Stands mid config (begun job now ∷ []) []
    → TellBreaks mid work i.Start now new → made [] → ticked (now ∷ []) → Worked config job made ticked rose stop.Memory
broke_as mid new config job work now made ticked rose e k t m c =
    subst (λ (j : Job). Worked config j made ticked rose stop.Memory) e
    (broke mid new config work now made ticked rose (as_job mid config now job work e k) t m c)
