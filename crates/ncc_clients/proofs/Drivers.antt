-- What is used of the sessions of drivers, by the laws of drivers.
use Rattle.std.proofs.Common.{◌≡◌, ◌⊎◌, inl, inr, ℕ, Bool, List, [], ◌∷◌, ◌++◌, refl, sym, subst}
use Rattle.std.specs.List.{AllByRecursion}
use Rattle.ncc_pack.specs.declared.value.Value.{Value}
use Rattle.ncc_bolt.specs.declared.message.Request.{Request}
use Rattle.ncc_bolt.specs.declared.message.Request.TheVariants as r
use Rattle.ncc_route.specs.declared.auth.Auth.{Auth}
use Rattle.ncc_driver.specs.declared.work.WorkStep.{WorkStep}
use Rattle.ncc_driver.specs.declared.work.WorkStep.TheVariants as w
use Rattle.ncc_driver.specs.Work.{Row, Job}
use Rattle.ncc_driver.specs.Requests.{hello, route, begin}
use Rattle.ncc_driver.specs.LawsLegs.{presented_behind, sent_since, IsPart, routing_leg, step_asked, steps_asked, working_leg}
use Rattle.ncc_driver.specs.LawsFits.{IsFitLeg, JobFits, ToldBytes}
use Rattle.ncc_driver.proofs.LawsJoins.{connects_last, joins_behind_connect, succeeds_on_bytes}
use Rattle.ncc_driver.proofs.LawsLegs.{sends_what_fits_to_bytes, ends_last, commits_by_answer}
use Rattle.ncc_driver.proofs.LawsWaits.{lost_while_linked}
use Rattle.ncc_driver.specs.Session.{Begun}
use Rattle.ncc_clients.specs.Course.{IsAllowed}
use Rattle.ncc_clients.specs.Transacting.{AreSteps, IsTransaction, IsRouting, LogsIn}
use Rattle.ncc_clients.proofs.Driven.{begins_with, IsLeg, SendsByLegs, DriverSays}

-- ---- the first of what a leg asks, and maybe GOODBYE

-- RUN and PULL, and COMMIT last
abbrev AreWork : List Request → Type 0
AreWork [] = Unit {0}
AreWork (r.Run query params extra ∷ requests) = AreWork requests
AreWork (r.Pull extra ∷ requests) = AreWork requests
AreWork (r.Commit ∷ []) = Unit {0}
AreWork _ = ⊥

step_work : (step : WorkStep) (more : List Request) → AreWork more → AreWork (step_asked step more)
step_work (w.Run query params) more h = h
step_work w.Commit more h = tt

steps_work : (job : Job) (told more : List (List Row)) → AreWork (steps_asked job told more)
steps_work job told [] = step_work (job.steps told) [] tt
steps_work job told (rows ∷ more) = step_work (job.steps told) (steps_asked job (told ++ rows ∷ []) more) (steps_work job _ more)

work_front : (a b : List Request) → AreWork (a ++ b) → AreSteps a × AreSteps (a ++ r.Goodbye ∷ [])
work_front [] b h = (tt, tt)
work_front (r.Run query params extra ∷ a) b h = work_front a b h
work_front (r.Pull extra ∷ a) b h = work_front a b h
work_front (r.Commit ∷ []) b h = (tt, tt)
work_front (r.Commit ∷ x ∷ a) b h = absurd h
work_front (_ ∷ a) b h = absurd h

same_head : (x y : Request) (xs ys : List Request) → x ∷ xs ≡ y ∷ ys → (x ≡ y) × (xs ≡ ys)
same_head x y xs ys e = (cc, cc)

-- what a leg is of which requests are a part
abbrev Both : (List Request → Type 0) → List Request → Type 0
Both P front = P front × P (front ++ r.Goodbye ∷ [])

routing_both : (auth : Auth) (address : List ℕ) (front rest : List Request) → routing_leg auth address ≡ front ++ rest
    → Both (LogsIn IsRouting) front
routing_both auth address [] rest e = (tt, tt)
routing_both auth address (x ∷ []) rest e =
    let s = same_head (hello auth address) x _ _ e in subst (λ (y : Request). Both (LogsIn IsRouting) (y ∷ [])) s.0 (tt, tt)
routing_both auth address (x ∷ y ∷ front) rest e =
    let s = same_head (hello auth address) x _ _ e in
    let t = same_head (route address) y _ _ s.1 in
    subst (λ (z : Request). Both (LogsIn IsRouting) (z ∷ y ∷ front)) s.0
    (subst (λ (z : Request). Both (LogsIn IsRouting) (hello auth address ∷ z ∷ front)) t.0 (last front rest t.1))
  where
    last : (front rest : List Request) → [] ≡ front ++ rest → Both (LogsIn IsRouting) (hello auth address ∷ route address ∷ front)
    last [] rest e = (tt, tt)
    last (x ∷ front) rest e = absurd (cc)

working_both : (auth : Auth) (address : List ℕ) (bookmarks : List Value) (job : Job) (told : List (List Row)) (front rest : List Request)
    → working_leg auth address bookmarks job told ≡ front ++ rest
    → Both (LogsIn (IsTransaction (begins_with bookmarks job.writes))) front
working_both auth address bookmarks job told [] rest e = (tt, tt)
working_both auth address bookmarks job told (x ∷ []) rest e =
    let s = same_head (hello auth address) x _ _ e in
    subst (λ (y : Request). Both (LogsIn (IsTransaction (begins_with bookmarks job.writes))) (y ∷ [])) s.0 (tt, tt)
working_both auth address bookmarks job told (x ∷ y ∷ front) rest e =
    let extra = begins_with bookmarks job.writes in
    let s = same_head (hello auth address) x _ _ e in
    let t = same_head (begin bookmarks job.writes) y _ _ s.1 in
    let steps = work_front front rest (subst AreWork t.1 (steps_work job [] told)) in
    subst (λ (z : Request). Both (LogsIn (IsTransaction extra)) (z ∷ y ∷ front)) s.0
    (subst (λ (z : Request). Both (LogsIn (IsTransaction extra)) (hello auth address ∷ z ∷ front)) t.0
    ((refl, steps.0), (refl, steps.1)))

part_of : (P : List Request → Type 0) (requests whole : List Request) (part : IsPart requests whole) → Both P part.front → P requests
part_of P requests whole part both = go part.is where
  go : (requests ≡ part.front) ⊎ (requests ≡ part.front ++ r.Goodbye ∷ []) → P requests
  go (inl e) = subst P (sym e) both.0
  go (inr e) = subst P (sym e) both.1

pub leg_is : (auth : Auth) (address : List ℕ) (bookmarks : List Value) (job : Job) (sent : List (List ℕ))
    → IsFitLeg auth address bookmarks job sent → IsLeg bookmarks sent
leg_is auth address bookmarks job sent k = record { requests = k.requests; fit = k.fit; leg = go k.leg; sent_is = k.sent_is } where
  go : IsPart k.requests (routing_leg auth address)
      ⊎ ((told : List (List Row)) × IsPart k.requests (working_leg auth address bookmarks job told))
      → LogsIn IsRouting k.requests ⊎ ((writes : Bool) × LogsIn (IsTransaction (begins_with bookmarks writes)) k.requests)
  go (inl p) = inl (part_of (LogsIn IsRouting) k.requests (routing_leg auth address) p (routing_both auth address p.front p.rest p.split))
  go (inr h) =
      let extra = begins_with bookmarks job.writes in
      inr (
        job.writes,
        part_of (LogsIn (IsTransaction extra)) k.requests (working_leg auth address bookmarks job h.0) h.1
            (working_both auth address bookmarks job h.0 h.1.front h.1.rest h.1.split),
      )

-- ---- all that is used

last_allowed : (works : List Begun) (work : Begun) → AllByRecursion IsAllowed (works ++ work ∷ []) → JobFits work.job
last_allowed [] work h = h.0.0
last_allowed (x ∷ works) work h = last_allowed works work h.1

all_told : (works : List Begun) → AllByRecursion IsAllowed works → AllByRecursion ToldBytes works
all_told [] h = tt
all_told (x ∷ works) h = (h.0.1, all_told works h.1)

legs : SendsByLegs
legs config works work front back fits allowed done =
    let x = sends_what_fits_to_bytes config works work front back fits (last_allowed works work allowed)
    (all_told (works ++ work ∷ []) allowed) done in
    leg_is config.auth x.0 (presented_behind config works) work.job (sent_since [] front) x.1

pub driver_says : DriverSays
driver_says = record {
  legs = legs;
  ends_last = ends_last;
  commits = λ config works work front done back h.
      let c = commits_by_answer config works work front done back h in
      record { message = c.message; came_is = c.came_is; tells = (c.meta, c.reads, c.bookmark_is); place_is = c.place_is };
  joins = λ config job now s input. record {
    connects = λ front address back e. connects_last config job now s input front address back e;
    waits = λ leg e. joins_behind_connect config job now s input leg e;
  };
  succeeds = succeeds_on_bytes;
  lost = lost_while_linked;
}
