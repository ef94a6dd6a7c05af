-- What a session wants done is what is done at its moments.
use Rattle.std.proofs.Common.{◌≡◌, ℕ, false, List, [], ◌∷◌, ◌++◌, drop, refl, sym, ap, ◌∙◌, append-nil}
use Rattle.std.specs.List.{flat_map}
use Rattle.std.proofs.lemmas.Grind.{flat_map-append}
use Rattle.ncc_driver.specs.declared.config.SessionConfig.{SessionConfig}
use Rattle.ncc_driver.specs.declared.standing.Asked.{Asked}
use Rattle.ncc_driver.specs.declared.standing.Stage.{Stage}
use Rattle.ncc_driver.specs.declared.standing.Stage.TheVariants as stage
use Rattle.ncc_driver.specs.declared.link.Item.{Item}
use Rattle.ncc_driver.specs.declared.action.Action.{Action}
use Rattle.ncc_driver.specs.declared.action.Input.{Input}
use Rattle.ncc_driver.specs.declared.action.Input.TheVariants as i
use Rattle.ncc_driver.specs.Session.{Listening, Standing, State, Moved, Begun, items_of, listening, or_more}
use Rattle.ncc_driver.specs.Session.{answered, new_state, on_input, on, begins, told_all, works_all, session}
use Rattle.ncc_driver.specs.Laws.{but_receives}
use Rattle.ncc_driver.specs.LawsEnds.{starts, joins, breaks, moment}
use Rattle.ncc_driver.specs.LawsEnds.{Moment, done_at, hears_item, next_item, heard_in, met_by, moments_in, moments_from, ActsByMoments}
use Rattle.ncc_driver.proofs.LawsTurns.{is_asking}
use Rattle.ncc_driver.proofs.LawsHearing.{hear, going_is, walk}
use Rattle.ncc_driver.proofs.LawsMakes.{but_on, but_more}

-- ---- hearing

heard_at : SessionConfig → Begun → ℕ → Listening → Item → List Item → Stage → List Moment
heard_at config work now l item items st = elim st [
  | stage.Awaits asked ↦ hears_item work now l asked item ∷ heard_in config work now (next_item config work now l asked item) items
  | _ ↦ []
]

heard_is : (config : SessionConfig) (work : Begun) (now : ℕ) (l : Listening) (item : Item) (items : List Item) (st : Stage)
    → l.place.core.stage ≡ st → heard_in config work now l (item ∷ items) ≡ heard_at config work now l item items st
unfolding heard_in heard_at
heard_is config work now l item items st e = ap (λ (x : Stage). heard_at config work now l item items x) e

pub heard_none : (config : SessionConfig) (work : Begun) (now : ℕ) (l : Listening) → heard_in config work now l [] ≡ []
unfolding heard_in
heard_none config work now l = refl

pub heard_asked : (config : SessionConfig) (work : Begun) (now : ℕ) (l : Listening) (asked : Asked) (item : Item) (items : List Item)
    → l.place.core.stage ≡ stage.Awaits asked
    → heard_in config work now l (item ∷ items)
    ≡ hears_item work now l asked item ∷ heard_in config work now (next_item config work now l asked item) items
unfolding heard_at
heard_asked config work now l asked item items e = heard_is config work now l item items (stage.Awaits asked) e

heard_by : (config : SessionConfig) (work : Begun) (now : ℕ) (l : Listening) (item : Item) (items : List Item) (st : Stage)
    → l.place.core.stage ≡ st → is_asking st ≡ false → heard_in config work now l (item ∷ items) ≡ []
unfolding heard_at
heard_by config work now l item items (stage.Awaits asked) e f = absurd (cc)
heard_by config work now l item items st e f = heard_is config work now l item items st e

pub heard_not : (config : SessionConfig) (work : Begun) (now : ℕ) (l : Listening) (item : Item) (items : List Item)
    → is_asking l.place.core.stage ≡ false → heard_in config work now l (item ∷ items) ≡ []
heard_not config work now l item items f = heard_by config work now l item items l.place.core.stage refl f

-- what is done at moments
abbrev all_done : SessionConfig → List Moment → List Action
all_done config ms = flat_map (done_at config) ms

done_on : (config : SessionConfig) (xs ys : List Moment) → all_done config (xs ++ ys) ≡ all_done config xs ++ all_done config ys
done_on config xs ys = flat_map-append (done_at config) xs ys

hear_done : (config : SessionConfig) (work : Begun) (now : ℕ) (l : Listening) (items : List Item)
    → (hear config work.job now l items).written ≡ all_done config (heard_in config work now l items)
hear_done config work now = walk config work.job now (λ l items r. r.written ≡ all_done config (heard_in config work now l items))
    (λ l. ap (all_done config) (sym (heard_none config work now l)))
    (λ l asked item items e ih.
    ap (λ (w : List Action). (answered config work.job now l asked item).actions ++ w) ih
    ∙ ap (all_done config) (sym (heard_asked config work now l asked item items e)))
    (λ l item items f. ap (all_done config) (sym (heard_not config work now l item items f)))

-- ---- a session

one_done : (config : SessionConfig) (m : Moment) → but_receives (done_at config m) ≡ but_receives (all_done config (m ∷ []))
one_done config m = ap but_receives (sym (append-nil (done_at config m)))

input_done : (config : SessionConfig) (work : Begun) (now : ℕ) (s : State) (st : Stage) (input : Input)
    → but_receives (on_input config work.job now s st input).actions ≡ but_receives (all_done config (met_by config work now s st input))
input_done config work now s stage.Begun i.Start = one_done config (moment work now s.place starts)
input_done config work now s stage.Sleeps i.Woken = one_done config (moment work now s.place starts)
input_done config work now s (stage.Joins leg) i.Connected = one_done config (moment work now s.place (joins leg))
input_done config work now s (stage.Joins leg) i.Lost = one_done config (moment work now s.place breaks)
input_done config work now s (stage.Awaits asked) (i.Bytes bytes) =
    let items = drop s.taken (items_of (s.came ++ bytes)) in
    ap (λ (r : Standing). but_receives (or_more r.written)) (going_is config work.job now (listening s) items)
    ∙ but_more (hear config work.job now (listening s) items).written
    ∙ ap but_receives (hear_done config work now (listening s) items)
input_done config work now s (stage.Awaits asked) i.Lost = one_done config (moment work now s.place breaks)
input_done config work now s _ input = refl

on_done : (config : SessionConfig) (work : Begun) (now : ℕ) (s : State) (input : Input)
    → but_receives (on config work.job now s input).actions
    ≡ but_receives (all_done config (met_by config work now s s.place.core.stage input))
unfolding on
on_done config work now s input = input_done config work now s s.place.core.stage input

both_done : (config : SessionConfig) (ws vs : List Action) (xs ys : List Moment) → but_receives ws ≡ but_receives (all_done config xs)
    → but_receives vs ≡ but_receives (all_done config ys) → but_receives (ws ++ vs) ≡ but_receives (all_done config (xs ++ ys))
both_done config ws vs xs ys e f =
    but_on ws vs ∙ ap (λ (w : List Action). w ++ but_receives vs) e ∙ ap (λ (w : List Action). but_receives (all_done config xs) ++ w) f
    ∙ sym (but_on (all_done config xs) (all_done config ys)) ∙ ap but_receives (sym (done_on config xs ys))

told_done : (config : SessionConfig) (work : Begun) (s : State) (xs : List Moved)
    → but_receives (told_all config work.job s xs).actions ≡ but_receives (all_done config (moments_in config work s xs))
unfolding told_all moments_in
told_done config work s [] = refl
told_done config work s (x ∷ xs) =
    let r = on config work.job x.1 s x.0 in
    both_done config r.actions (told_all config work.job r.state xs).actions (met_by config work x.1 s s.place.core.stage x.0)
    (moments_in config work r.state xs) (on_done config work x.1 s x.0) (told_done config work r.state xs)

works_done : (config : SessionConfig) (s : State) (works : List Begun)
    → but_receives (works_all config s works).actions ≡ but_receives (all_done config (moments_from config s works))
unfolding works_all moments_from
works_done config s [] = refl
works_done config s (work ∷ works) =
    let b = begins work.began s in
    let r = told_all config work.job b work.inputs in
    both_done config r.actions (works_all config r.state works).actions (moments_in config work b work.inputs)
    (moments_from config r.state works) (told_done config work b work.inputs) (works_done config r.state works)

pub acts_by_moments : ActsByMoments
unfolding session
acts_by_moments config works = works_done config (new_state config) works
