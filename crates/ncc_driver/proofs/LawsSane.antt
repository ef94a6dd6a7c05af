-- Each moment of a session knows when its work was begun, and that the addresses of its table are texts.
use Rattle.std.proofs.Common.{◌≡◌, ℕ, true, false, List, [], ◌∷◌, ◌++◌, drop, refl, sym, ap, ◌∙◌, subst}
use Rattle.std.specs.List.{AllByRecursion}
use Rattle.std.proofs.lemmas.List.Elements.{All-from_recursion, All-weaker}
use Rattle.ncc_stream.specs.Stream.{behind, still}
use Rattle.ncc_driver.specs.declared.config.SessionConfig.{SessionConfig}
use Rattle.ncc_driver.specs.declared.standing.Asked.{Asked}
use Rattle.ncc_driver.specs.declared.standing.Stage.{Stage}
use Rattle.ncc_driver.specs.declared.standing.Stage.TheVariants as stage
use Rattle.ncc_driver.specs.declared.link.Item.{Item}
use Rattle.ncc_driver.specs.declared.action.Input.{Input}
use Rattle.ncc_driver.specs.declared.action.Input.TheVariants as i
use Rattle.ncc_driver.specs.State.{SessionState, new_core}
use Rattle.ncc_driver.specs.Session.{Listening, Standing, State, Moved, Begun, items_of, told_by, listening, answered}
use Rattle.ncc_driver.specs.Session.{new_state, on_input, on, begins, told_all}
use Rattle.ncc_driver.specs.LawsEnds.{Met, starts, joins, breaks, Moment, moment, turns_by, hears_item, heard_in, met_by}
use Rattle.ncc_driver.specs.LawsEnds.{moments_in, moments_from, moments, EndsByCause, EndsExactly}
use Rattle.ncc_driver.proofs.LawsTurns.{is_asking}
use Rattle.ncc_driver.proofs.LawsTurns.{answered as makes_answered}
use Rattle.ncc_driver.proofs.LawsHearing.{next, hear, going_is, walk}
use Rattle.ncc_driver.proofs.LawsMakes.{asking_linked, on_makes}
use Rattle.ncc_driver.proofs.LawsMoments.{heard_none, heard_asked, heard_not}
use Rattle.ncc_driver.proofs.LawsCauses.{HasTexts, Sane, ends_by_cause}
use Rattle.ncc_driver.proofs.LawsTables.{told_good, turn_keeps}

abbrev AllSane : List Moment → Type 0
AllSane ms = AllByRecursion Sane ms

sane_on : (xs ys : List Moment) → AllSane xs → AllSane ys → AllSane (xs ++ ys)
sane_on [] ys g h = h
sane_on (x ∷ xs) ys g h = (g.0, sane_on xs ys g.1 h)

-- a place in a work that was begun then
record Within (began : ℕ) (p : SessionState) : Type 0 where
  since : p.core.began ≡ began
  texts : HasTexts p.core.table

-- what one turn of a work leads to
turned_within : (config : SessionConfig) (work : Begun) (now : ℕ) (p : SessionState) (met : Met) → Within work.began p
    → (turns_by config work.job now p met).place.core.began ≡ p.core.began
    → Within work.began (turns_by config work.job now p met).place
turned_within config work now p met w b = record { since = b ∙ w.since; texts = turn_keeps config work.job now p met w.texts }

-- ---- hearing

record Heard (config : SessionConfig) (work : Begun) (now : ℕ) (l : Listening) (items : List Item) (r : Standing) : Type 0 where
  sane : AllSane (heard_in config work now l items)
  within : Within work.began r.core.place

module _ (config : SessionConfig) (work : Begun) (now : ℕ) where
  abbrev Hears : Listening → List Item → Standing → Type 0
  Hears l items r = Within work.began l.place → Heard config work now l items r

  hears_none : (l : Listening) → Hears l [] (still l [] [])
  hears_none l w = record { sane = subst AllSane (sym (heard_none config work now l)) tt; within = w }

  hears_not : (l : Listening) (item : Item) (items : List Item) → is_asking l.place.core.stage ≡ false
      → Hears l (item ∷ items) (still l (item ∷ items) [])
  hears_not l item items f w = record { sane = subst AllSane (sym (heard_not config work now l item items f)) tt; within = w }

  hears_asked : (l : Listening) (asked : Asked) (item : Item) (items : List Item) → l.place.core.stage ≡ stage.Awaits asked
      → let k = next config work.job now l asked item in Hears k items (hear config work.job now k items)
      → Hears l (item ∷ items) (behind (answered config work.job now l asked item).actions (hear config work.job now k items))
  hears_asked l asked item items e ih w =
      let here = hears_item work now l asked item in
      let told = told_by asked now l.place.core.rows item in
      let g : is_asking l.place.core.stage ≡ true = ap is_asking e in
      let m = makes_answered config work.job now l.place asked _ told true (asking_linked l.place.core.stage g) refl g in
      let k = next config work.job now l asked item in
      let h = ih (turned_within config work now l.place here.met w m.began) in
      record {
        sane = subst AllSane (sym (heard_asked config work now l asked item items e))
            (record { began = w.since; texts = w.texts }, h.sane);
        within = h.within;
      }

  hear_sane : (l : Listening) (items : List Item) → Hears l items (hear config work.job now l items)
  hear_sane = walk config work.job now Hears hears_none hears_asked hears_not

-- ---- a session

record SaneOn (config : SessionConfig) (work : Begun) (now : ℕ) (s : State) (st : Stage) (input : Input) : Type 0 where
  sane : AllSane (met_by config work now s st input)
  texts : HasTexts (on_input config work.job now s st input).state.place.core.table

one_sane : (config : SessionConfig) (work : Begun) (now : ℕ) (p : SessionState) (met : Met) → Within work.began p
    → AllSane (moment work now p met ∷ []) × HasTexts (turns_by config work.job now p met).place.core.table
one_sane config work now p met w = ((record { began = w.since; texts = w.texts }, tt), turn_keeps config work.job now p met w.texts)

input_sane : (config : SessionConfig) (work : Begun) (now : ℕ) (s : State) (st : Stage) (input : Input) → Within work.began s.place
    → SaneOn config work now s st input
input_sane config work now s stage.Begun i.Start w =
    let o = one_sane config work now s.place starts w in record { sane = o.0; texts = o.1 }
input_sane config work now s stage.Sleeps i.Woken w =
    let o = one_sane config work now s.place starts w in record { sane = o.0; texts = o.1 }
input_sane config work now s (stage.Joins leg) i.Connected w =
    let o = one_sane config work now s.place (joins leg) w in record { sane = o.0; texts = o.1 }
input_sane config work now s (stage.Joins leg) i.Lost w =
    let o = one_sane config work now s.place breaks w in record { sane = o.0; texts = o.1 }
input_sane config work now s (stage.Awaits asked) (i.Bytes bytes) w =
    let items = drop s.taken (items_of (s.came ++ bytes)) in
    let h = hear_sane config work now (listening s) items w in
    record {
      sane = h.sane;
      texts = subst (λ (r : Standing). HasTexts r.core.place.core.table) (sym (going_is config work.job now (listening s) items))
          h.within.texts;
    }
input_sane config work now s (stage.Awaits asked) i.Lost w =
    let o = one_sane config work now s.place breaks w in record { sane = o.0; texts = o.1 }
input_sane config work now s _ input w = record { sane = tt; texts = w.texts }

on_sane : (config : SessionConfig) (work : Begun) (now : ℕ) (s : State) (input : Input) → Within work.began s.place
    → AllSane (met_by config work now s s.place.core.stage input) × Within work.began (on config work.job now s input).state.place
unfolding on
on_sane config work now s input w =
    let o = input_sane config work now s s.place.core.stage input w in
    (o.sane, record { since = (on_makes config work.job now s input).began ∙ w.since; texts = o.texts })

told_sane : (config : SessionConfig) (work : Begun) (s : State) (xs : List Moved) → Within work.began s.place
    → AllSane (moments_in config work s xs) × HasTexts (told_all config work.job s xs).state.place.core.table
unfolding moments_in told_all
told_sane config work s [] w = (tt, w.texts)
told_sane config work s (x ∷ xs) w =
    let o = on_sane config work x.1 s x.0 w in
    let r = (on config work.job x.1 s x.0).state in
    let t = told_sane config work r xs o.1 in
    (sane_on _ _ o.0 t.0, t.1)

begins_within : (began : ℕ) (s : State) → HasTexts s.place.core.table → Within began (begins began s).place
unfolding begins
begins_within began s t = record { since = refl; texts = t }

works_sane : (config : SessionConfig) (s : State) (works : List Begun) → HasTexts s.place.core.table → AllSane (moments_from config s works)
unfolding moments_from
works_sane config s [] t = tt
works_sane config s (work ∷ works) t =
    let b = begins work.began s in
    let h = told_sane config work b work.inputs (begins_within work.began s t) in
    sane_on _ _ h.0 (works_sane config (told_all config work.job b work.inputs).state works h.1)

new_texts : (config : SessionConfig) → HasTexts (new_state config).place.core.table
unfolding new_core
new_texts config = tt

pub ends_exactly : EndsExactly
ends_exactly config works =
    All-weaker Sane (EndsByCause config) (λ here s. ends_by_cause config here s
    (λ asked item. told_good asked here.now here.place.core.rows item)) (moments config works)
    (All-from_recursion Sane (moments config works) (works_sane config (new_state config) works (new_texts config)))
