-- What a session presents.
use Rattle.std.proofs.Common.{◌≡◌, ℕ, List, [], ◌∷◌, ◌++◌, refl, sym, ◌∙◌, subst}
use Rattle.ncc_pack.specs.declared.value.Value.{Value}
use Rattle.ncc_driver.specs.declared.config.SessionConfig.{SessionConfig}
use Rattle.ncc_driver.specs.declared.action.Action.{Action}
use Rattle.ncc_driver.specs.Work.{Job}
use Rattle.ncc_driver.specs.State.{new_core}
use Rattle.ncc_driver.specs.Session.{State, Ran, Moved, Begun, new_state, ahead, on, begins, told_all, works_all, session}
use Rattle.ncc_driver.specs.Laws.{presented, PresentsLast, KeepsLast}
use Rattle.ncc_driver.proofs.LawsTurns.{IsPresented, Presents}
use Rattle.ncc_driver.proofs.LawsMakes.{presented_on, presents_on, on_makes}

-- from one state on, with these presented
record Carries (given : List Value) (r : Ran) : Type 0 where
  bookmarks : r.state.place.core.bookmarks ≡ presented given r.actions
  presents : Presents given r.actions

carries_on : (given : List Value) (r u : Ran) → Carries given r → Carries r.state.place.core.bookmarks u → Carries given (ahead r.actions u)
carries_on given r u h k =
    let k : Carries (presented given r.actions) u = subst (λ (g : List Value). Carries g u) h.bookmarks k in
    record {
      bookmarks = k.bookmarks ∙ sym (presented_on given r.actions u.actions);
      presents = presents_on given r.actions u.actions h.presents k.presents;
    }

told_carries : (config : SessionConfig) (job : Job) (s : State) (xs : List Moved)
    → Carries s.place.core.bookmarks (told_all config job s xs)
unfolding told_all
told_carries config job s [] = record { bookmarks = refl; presents = tt }
told_carries config job s (x ∷ xs) =
    let r = on config job x.1 s x.0 in
    let m = on_makes config job x.1 s x.0 in
    carries_on s.place.core.bookmarks r (told_all config job r.state xs) (record { bookmarks = m.bookmarks; presents = m.presents })
    (told_carries config job r.state xs)

begins_same : (now : ℕ) (s : State) → (begins now s).place.core.bookmarks ≡ s.place.core.bookmarks
unfolding begins
begins_same now s = refl

works_carry : (config : SessionConfig) (s : State) (works : List Begun) → Carries s.place.core.bookmarks (works_all config s works)
unfolding works_all
works_carry config s [] = record { bookmarks = refl; presents = tt }
works_carry config s (work ∷ works) =
    let r = told_all config work.job (begins work.began s) work.inputs in
    carries_on s.place.core.bookmarks r (works_all config r.state works)
    (subst (λ (g : List Value). Carries g r) (begins_same work.began s) (told_carries config work.job (begins work.began s) work.inputs))
    (works_carry config r.state works)

new_bookmarks : (config : SessionConfig) → (new_core config).bookmarks ≡ config.bookmarks
unfolding new_core
new_bookmarks config = refl

session_carries : (config : SessionConfig) (works : List Begun) → Carries config.bookmarks (session config works)
unfolding session
session_carries config works =
    subst (λ (g : List Value). Carries g (works_all config (new_state config) works)) (new_bookmarks config)
    (works_carry config (new_state config) works)

pub keeps_last : KeepsLast
keeps_last config works = (session_carries config works).bookmarks

presents_at : (given : List Value) (front : List Action) (action : Action) (back : List Action) → Presents given (front ++ action ∷ back)
    → IsPresented (presented given front) action
presents_at given [] action back h = h.0
presents_at given (x ∷ front) action back h =
    subst (λ (g : List Value). IsPresented g action) (sym (presented_on given (x ∷ []) front))
    (presents_at (presented given (x ∷ [])) front action back h.1)

pub presents_last : PresentsLast
presents_last config works front back extra e =
    presents_at config.bookmarks front _ back (subst (λ (l : List Action). Presents config.bookmarks l) e
    (session_carries config works).presents)
    extra refl
