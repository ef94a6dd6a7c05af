-- Runs step by step, where answers are read by their laws.
use Rattle.std.proofs.Common.{◌≡◌, ℕ, ◌+◌, ◌-◌, ◌^◌, min, List, [], ◌∷◌, ◌++◌, drop}
use Rattle.std.proofs.Common.{refl, ap, ◌∙◌, append-nil}
use Rattle.ncc_stream.specs.Stream.{behind, still}
use Rattle.ncc_driver.specs.declared.config.SessionConfig.{SessionConfig}
use Rattle.ncc_driver.specs.declared.standing.Asked.{Asked}
use Rattle.ncc_driver.specs.declared.standing.Stage.{Stage}
use Rattle.ncc_driver.specs.declared.standing.Stage.TheVariants as stage
use Rattle.ncc_driver.specs.declared.link.Item.{Item}
use Rattle.ncc_driver.specs.declared.action.Action.{Action}
use Rattle.ncc_driver.specs.declared.action.Input.TheVariants as i
use Rattle.ncc_driver.specs.declared.answers.Told.{Told}
use Rattle.ncc_driver.specs.Work.{Job}
use Rattle.ncc_driver.specs.Attempts.{behind as answers}
use Rattle.ncc_driver.specs.Session.{Listening, Standing, State, Ran, Moved, Begun, items_of, told_by, listening, or_more, heard}
use Rattle.ncc_driver.specs.Session.{on_input, on, same, ahead}
use Rattle.ncc_driver.specs.Session.{new_state, begins, told_all, works_all, session, acts}
use Rattle.ncc_driver.proofs.LawsHearing.{hear, hear_asked, going_is}

-- what a session makes of inputs from a state on
abbrev pub runs : SessionConfig → Job → State → List Moved → Ran
runs config job s xs = told_all config job s xs

pub first_runs : (config : SessionConfig) (job : Job) (s : State) (x : Moved) (xs : List Moved) (r rest : Ran)
    → on config job x.1 s x.0 ≡ r → runs config job r.state xs ≡ rest → runs config job s (x ∷ xs) ≡ ahead r.actions rest
unfolding told_all
first_runs config job s x xs r rest e h =
    ap (λ (q : Ran). ahead q.actions (runs config job q.state xs)) e ∙ ap (λ (w : Ran). ahead r.actions w) h

pub last_runs : (config : SessionConfig) (job : Job) (s : State) → runs config job s [] ≡ same s
unfolding told_all
last_runs config job s = refl

pub one_work : (config : SessionConfig) (w : Begun) (r : Ran) → runs config w.job (begins w.began (new_state config)) w.inputs ≡ r
    → acts config (w ∷ []) ≡ r.actions
unfolding session works_all
one_work config w r e = append-nil _ ∙ ap (λ (q : Ran). q.actions) e

pub two_works : (config : SessionConfig) (w u : Begun) (r q : Ran) → runs config w.job (begins w.began (new_state config)) w.inputs ≡ r
    → runs config u.job (begins u.began r.state) u.inputs ≡ q → acts config (w ∷ u ∷ []) ≡ r.actions ++ q.actions
unfolding session works_all
two_works config w u r q e f =
    ap (λ (x : Ran). x.actions ++ ((runs config u.job (begins u.began x.state) u.inputs).actions ++ [])) e
    ∙ ap (λ (l : List Action). r.actions ++ l) (append-nil _)
    ∙ ap (λ (x : Ran). r.actions ++ x.actions) f

-- one item comes
abbrev pub answer_of : SessionConfig → Job → ℕ → State → List ℕ → Asked → Told → Ran
answer_of config job now s bytes asked told =
    let t = answers config job now s.place asked (min s.taken (2 ^ 64 - 1) - 1) told in
    record { state = record { place = t.place; came = s.came ++ bytes; taken = s.taken + 1 }; actions = or_more t.actions }

hear_nothing : (config : SessionConfig) (job : Job) (now : ℕ) (l : Listening) → hear config job now l [] ≡ still l [] []
unfolding hear
hear_nothing config job now l = refl

pub hears_one : (config : SessionConfig) (job : Job) (now : ℕ) (s : State) (bytes : List ℕ) (asked : Asked) (item : Item) (told : Told)
    → s.place.core.stage ≡ stage.Awaits asked → drop s.taken (items_of (s.came ++ bytes)) ≡ item ∷ []
    → told_by asked now s.place.core.rows item ≡ told
    → on config job now s (i.Bytes bytes) ≡ answer_of config job now s bytes asked told
unfolding on
hears_one config job now s bytes asked item told e f g =
    let came = s.came ++ bytes in
    let l = listening s in
    ap (λ (x : Stage). on_input config job now s x (i.Bytes bytes)) e
    ∙ ap (λ (r : Standing). heard s came r) (going_is config job now l (drop s.taken (items_of came)))
    ∙ ap (λ (is : List Item). heard s came (hear config job now l is)) f
    ∙ ap (λ (r : Standing). heard s came r) (hear_asked config job now l asked item [] e)
    ∙ ap (λ (t : Told). let u = answers config job now s.place asked (min s.taken (2 ^ 64 - 1) - 1) t in
    heard s came (behind u.actions (hear config job now (record { place = u.place; taken = s.taken + 1 }) []))) g
    ∙ ap (λ (r : Standing). heard s came (behind (answers config job now s.place asked (min s.taken (2 ^ 64 - 1) - 1) told).actions r))
    (hear_nothing config job now _)
    ∙ ap (λ (w : List Action). record {
      state = (answer_of config job now s bytes asked told).state;
      actions = or_more w;
    }) (append-nil _)
