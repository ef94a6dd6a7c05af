-- Turns one after the other.
use Rattle.std.proofs.Common.{◌≡◌, ℕ, ◌≤◌, Bool, List, [], ◌++◌, sym, ap, ◌∙◌, subst, arith, append_assoc, append-nil}
use Rattle.ncc_driver.specs.declared.config.SessionConfig.{SessionConfig}
use Rattle.ncc_driver.specs.declared.work.WorkStep.{WorkStep}
use Rattle.ncc_driver.specs.Work.{Row, Job, job_by}
use Rattle.ncc_driver.specs.Talk.{Held}
use Rattle.ncc_client.specs.declared.working.Stop.{Stop}
use Rattle.ncc_client.specs.Calls.{Call}
use Rattle.ncc_client.specs.Turning.{At, IsAt, Went, Goes, Stopped, Stops}
use Rattle.ncc_client.proofs.Lists.{lost_on}
use Rattle.ncc_client.proofs.Going.{nothing}

pub same_job : (a b : Bool) (s t : List (List Row) → WorkStep) → a ≡ b → s ≡ t → job_by a s ≡ job_by b t
same_job a b s t e f = ap (λ (x : Bool). job_by x s) e ∙ ap (λ (x : List (List Row) → WorkStep). job_by b x) f

pub goes_none : (job : Job) (behind : List (List Row) → Type 0) (made : List Call → Type 0) (ticked : List ℕ → Type 0) (rose : Type 0)
    (held : Held) → made [] → ticked [] → Goes job behind behind made ticked rose held held
goes_none job behind made ticked rose held m t = record {
  went = nothing made ticked rose m t;
  goes_on = λ config calls began later k.
      subst (λ (l : List ℕ). At config job behind (calls ++ []) began l held) (sym (append-nil later))
      (subst (λ (l : List Call). At config job behind l began later held) (sym (append-nil calls)) k);
}

-- both were done
abbrev pub Joins : {A : Type 0} → (List A → Type 0) → (List A → Type 0) → (List A → Type 0) → Type 0
Joins first second both = (xs ys : List _) → first xs → second ys → both (xs ++ ys)

abbrev both_went : (m n both : List Call → Type 0) (s t ticked : List ℕ → Type 0) (r u rose : Type 0) → Went m s r → Went n t u
    → Joins m n both → Joins s t ticked → (r → rose) → (u → rose) → Went both ticked rose
both_went m n both s t ticked r u rose a b jm jt f g = record {
  calls = a.calls ++ b.calls;
  moments = a.moments ++ b.moments;
  made_it = jm a.calls b.calls a.made_it b.made_it;
  ticked_it = jt a.moments b.moments a.ticked_it b.ticked_it;
  lost = lost_on a.calls b.calls rose (λ h. f (a.lost h)) (λ h. g (b.lost h));
}

then_at : (config : SessionConfig) (job : Job) (behind : List (List Row) → Type 0) (calls a b : List Call) (began : ℕ) (later s t : List ℕ)
    (held : Held) → At config job behind ((calls ++ a) ++ b) began ((later ++ s) ++ t) held
    → At config job behind (calls ++ (a ++ b)) began (later ++ (s ++ t)) held
then_at config job behind calls a b began later s t held k =
    subst (λ (l : List ℕ). At config job behind (calls ++ (a ++ b)) began l held) (append_assoc later s t)
    (subst (λ (l : List Call). At config job behind l began ((later ++ s) ++ t) held) (append_assoc calls a b) k)

then_stopped : (config : SessionConfig) (job : Job) (calls a b : List Call) (began : ℕ) (later s t : List ℕ)
    (why : Stop) → Stopped config job ((calls ++ a) ++ b) began ((later ++ s) ++ t) why
    → Stopped config job (calls ++ (a ++ b)) began (later ++ (s ++ t)) why
then_stopped config job calls a b began later s t why k =
    subst (λ (l : List ℕ). Stopped config job (calls ++ (a ++ b)) began l why) (append_assoc later s t)
    (subst (λ (l : List Call). Stopped config job l began ((later ++ s) ++ t) why) (append_assoc calls a b) k)

pub goes_then : (job work : Job) (x y z : List (List Row) → Type 0) (m n both : List Call → Type 0) (s t ticked : List ℕ → Type 0)
    (r u rose : Type 0) (old mid new : Held) → work ≡ job → Goes job x y m s r old mid → Goes work y z n t u mid new
    → Joins m n both → Joins s t ticked → (r → rose) → (u → rose) → Goes job x z both ticked rose old new
goes_then job work x y z m n both s t ticked r u rose old mid new e a c jm jt f g =
    let b : Goes job y z n t u mid new = subst (λ (j : Job). Goes j y z n t u mid new) e c in
    record {
      went = both_went m n both s t ticked r u rose a.went b.went jm jt f g;
      goes_on = λ config calls began later k.
          then_at config job z calls a.went.calls b.went.calls began later a.went.moments b.went.moments new
          (b.goes_on config _ began _ (a.goes_on config calls began later k));
    }

pub goes_stops : (job work : Job) (x y : List (List Row) → Type 0) (m n both : List Call → Type 0) (s t ticked : List ℕ → Type 0)
    (r u rose : Type 0) (old mid : Held) (why : Stop) → work ≡ job → Goes job x y m s r old mid → Stops work y n t u mid why
    → Joins m n both → Joins s t ticked → (r → rose) → (u → rose) → Stops job x both ticked rose old why
goes_stops job work x y m n both s t ticked r u rose old mid why e a c jm jt f g =
    let b : Stops job y n t u mid why = subst (λ (j : Job). Stops j y n t u mid why) e c in
    record {
      went = both_went m n both s t ticked r u rose a.went b.went jm jt f g;
      stopped = λ config calls began later k.
          then_stopped config job calls a.went.calls b.went.calls began later a.went.moments b.went.moments why
          (b.stopped config _ began _ (a.goes_on config calls began later k));
    }

pub goes_is_at : (job work : Job) (x y : List (List Row) → Type 0) (m : List Call → Type 0) (s : List ℕ → Type 0) (r : Type 0)
    (old new : Held) (last now : ℕ) → work ≡ job → Goes job x y m s r old new → IsAt job x last old → last ≤ now → IsAt work y now new
goes_is_at job work x y m s r old new last now e a k l =
    subst (λ (j : Job). IsAt j y now new) (sym e) (record {
      config = k.config;
      calls = k.calls ++ a.went.calls;
      began = k.began;
      later = k.later ++ a.went.moments;
      fits = k.fits;
      at = a.goes_on k.config k.calls k.began k.later k.at;
      in_time = let t = k.in_time in omega (arith, t, l);
    })
