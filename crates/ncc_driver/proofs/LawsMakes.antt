-- What inputs make of a session, turn by turn.
use Rattle.std.proofs.Common.{◌≡◌, ℕ, Bool, true, false, not, List, [], ◌∷◌, ◌++◌, drop, refl, sym, ap, ◌∙◌, subst}
use Rattle.std.specs.Prelude.{Ok}
use Rattle.ncc_pack.specs.declared.value.Value.{Value}
use Rattle.ncc_driver.specs.declared.config.SessionConfig.{SessionConfig}
use Rattle.ncc_driver.specs.declared.standing.Asked.{Asked}
use Rattle.ncc_driver.specs.declared.standing.Stage.{Stage}
use Rattle.ncc_driver.specs.declared.standing.Stage.TheVariants as stage
use Rattle.ncc_driver.specs.declared.link.Item.{Item}
use Rattle.ncc_driver.specs.declared.action.Action.{Action}
use Rattle.ncc_driver.specs.declared.action.Action.TheVariants.{Connect, Close, Receive, Finish}
use Rattle.ncc_driver.specs.declared.action.Input.{Input}
use Rattle.ncc_driver.specs.declared.action.Input.TheVariants as i
use Rattle.ncc_driver.specs.Work.{Job}
use Rattle.ncc_driver.specs.State.{SessionState, Turned}
use Rattle.ncc_driver.specs.Session.{Listening, Standing, State, Ran, answered, told_by, listening, items_of, or_more, hears}
use Rattle.ncc_driver.specs.Session.{on_input, on}
use Rattle.std.proofs.lemmas.List.Elements.{filter-append}
use Rattle.ncc_driver.specs.Laws.{is_receive, but_receives, presented, linked_by, unless_lost}
use Rattle.ncc_driver.proofs.LawsTurns.{IsPresented, Presents, has_link, is_asking, Makes, stayed, lost, attempted, shaken}
use Rattle.ncc_driver.proofs.LawsTurns.{answered as makes_answered}
use Rattle.ncc_driver.proofs.LawsHearing.{next, hear, hear_not, going_is, walk}

-- ---- actions behind actions

pub presented_on : (given : List Value) (xs ys : List Action) → presented given (xs ++ ys) ≡ presented (presented given xs) ys
presented_on given [] ys = refl
presented_on given (Finish (Ok done) ∷ xs) ys = presented_on _ xs ys
presented_on given (_ ∷ xs) ys = presented_on given xs ys

pub presents_on : (given : List Value) (xs ys : List Action) → Presents given xs → Presents (presented given xs) ys
    → Presents given (xs ++ ys)
presents_on given [] ys h k = k
presents_on given (x ∷ xs) ys h k =
    (h.0, presents_on (presented given (x ∷ [])) xs ys h.1 (subst (λ (g : List Value). Presents g ys) (presented_on given (x ∷ []) xs) k))

pub linked_on : (linked : Bool) (xs ys : List Action) → linked_by linked (xs ++ ys) ≡ linked_by (linked_by linked xs) ys
linked_on linked [] ys = refl
linked_on linked (Connect address ∷ xs) ys = linked_on true xs ys
linked_on linked (Close ∷ xs) ys = linked_on false xs ys
linked_on linked (_ ∷ xs) ys = linked_on linked xs ys

abbrev pub then_turned : Turned → Turned → Turned
then_turned t u = record { place = u.place; actions = t.actions ++ u.actions }

pub makes_on : (p : SessionState) (linked : Bool) (t u : Turned) → Makes p linked t → Makes t.place (linked_by linked t.actions) u
    → Makes p linked (then_turned t u)
makes_on p linked t u h k = record {
  bookmarks = k.bookmarks ∙ ap (λ (g : List Value). presented g u.actions) h.bookmarks
      ∙ sym (presented_on p.core.bookmarks t.actions u.actions);
  presents = presents_on p.core.bookmarks t.actions u.actions h.presents
      (subst (λ (g : List Value). Presents g u.actions) h.bookmarks k.presents);
  began = k.began ∙ h.began;
  link = k.link ∙ sym (linked_on linked t.actions u.actions);
  asking = λ e. h.asking (k.asking e);
}

-- ---- without Receives

pub but_on : (xs ys : List Action) → but_receives (xs ++ ys) ≡ but_receives xs ++ but_receives ys
but_on xs ys = filter-append (λ action. not (is_receive action)) xs ys

pub but_more : (xs : List Action) → but_receives (or_more xs) ≡ but_receives xs
but_more [] = refl
but_more (x ∷ xs) = refl

-- ---- what is heard

abbrev pub made : Standing → Turned
made r = record { place = r.core.place; actions = r.written }

pub asking_linked : (st : Stage) → is_asking st ≡ true → has_link st ≡ true
asking_linked (stage.Awaits asked) e = refl
asking_linked _ e = absurd (cc)

both_asks : true ≡ false → ⊥
both_asks e = absurd (cc)

module _ (config : SessionConfig) (job : Job) (now : ℕ) where
  abbrev Hears : Listening → List Item → Standing → Type 0
  Hears l items r = is_asking l.place.core.stage ≡ true → Makes l.place true (made r)

  hears_on : (l : Listening) (asked : Asked) (item : Item) (items : List Item) (again : Bool)
      → let k = next config job now l asked item in let t = answered config job now l asked item in
      is_asking k.place.core.stage ≡ again → Makes l.place true t → Hears k items (hear config job now k items)
      → Makes l.place true (then_turned t (made (hear config job now k items)))
  hears_on l asked item items true e h ih =
      let k = next config job now l asked item in
      let t = answered config job now l asked item in
      let linked : true ≡ linked_by true t.actions = sym (asking_linked k.place.core.stage e) ∙ h.link in
      makes_on l.place true t (made (hear config job now k items)) h
      (subst (λ (b : Bool). Makes k.place b (made (hear config job now k items))) linked (ih e))
  hears_on l asked item items false e h ih =
      let k = next config job now l asked item in
      let t = answered config job now l asked item in
      subst (λ (r : Standing). Makes l.place true (then_turned t (made r))) (sym (hear_not config job now k items e))
      (makes_on l.place true t (record { place = k.place; actions = [] }) h (stayed k.place k.place _ refl refl refl h.link))

  pub hear_makes : (l : Listening) (items : List Item) → is_asking l.place.core.stage ≡ true
      → Makes l.place true (made (hear config job now l items))
  hear_makes = walk config job now Hears
      (λ l e. stayed l.place l.place true refl refl refl (asking_linked l.place.core.stage e))
      (λ l asked item items e ih g.
      let told = told_by asked now l.place.core.rows item in
      hears_on l asked item items (is_asking (next config job now l asked item).place.core.stage) refl
      (makes_answered config job now l.place asked _ told true (asking_linked l.place.core.stage g) refl g) ih)
      (λ l item items f e. absurd (both_asks (sym e ∙ f)))

-- ---- what is told

-- what an input makes of a session
pub record MakesOf (p : SessionState) (linked : Bool) (q : SessionState) (actions : List Action) : Type 0 where
  pub bookmarks : q.core.bookmarks ≡ presented p.core.bookmarks actions
  pub presents : Presents p.core.bookmarks actions
  pub began : q.core.began ≡ p.core.began
  pub link : has_link q.core.stage ≡ linked_by linked actions

pub of_turn : (p : SessionState) (linked : Bool) (t : Turned) → Makes p linked t → MakesOf p linked t.place t.actions
of_turn p linked t h = record { bookmarks = h.bookmarks; presents = h.presents; began = h.began; link = h.link }

no_receive : (given : List Value) → IsPresented given Receive
no_receive given extra e = absurd (cc)

more_or : (p : SessionState) (linked : Bool) (q : SessionState) (actions : List Action) → MakesOf p linked q actions
    → MakesOf p linked q (or_more actions)
more_or p linked q [] h = record { bookmarks = h.bookmarks; presents = (no_receive p.core.bookmarks, tt); began = h.began; link = h.link }
more_or p linked q (action ∷ actions) h = h

abbrev MakesRan : State → Bool → Ran → Type 0
MakesRan s linked r = MakesOf s.place linked r.state.place r.actions

hears_makes : (config : SessionConfig) (job : Job) (now : ℕ) (s : State) (bytes : List ℕ) → is_asking s.place.core.stage ≡ true
    → MakesRan s true (hears config job now s bytes)
hears_makes config job now s bytes e =
    let items = drop s.taken (items_of (s.came ++ bytes)) in
    more_or s.place true _ _
    (subst (λ (r : Standing). MakesOf s.place true r.core.place r.written) (sym (going_is config job now (listening s) items))
    (of_turn s.place true _ (hear_makes config job now (listening s) items e)))

same_makes : (s : State) (linked : Bool) → has_link s.place.core.stage ≡ linked → MakesOf s.place linked s.place []
same_makes s linked e = record { bookmarks = refl; presents = tt; began = refl; link = e }

unless_false : (input : Input) → unless_lost input false ≡ false
unless_false i.Lost = refl
unless_false _ = refl

input_makes : (config : SessionConfig) (job : Job) (now : ℕ) (s : State) (st : Stage) (input : Input) → s.place.core.stage ≡ st
    → MakesRan s (unless_lost input (has_link st)) (on_input config job now s st input)
input_makes config job now s stage.Begun i.Start e = of_turn s.place false _ (attempted config job.writes s.place now (ap has_link e))
input_makes config job now s stage.Sleeps i.Woken e = of_turn s.place false _ (attempted config job.writes s.place now (ap has_link e))
input_makes config job now s (stage.Joins leg) i.Connected e =
    let h = shaken s.place true leg refl in record { bookmarks = h.0; presents = h.1; began = h.2; link = h.3 }
input_makes config job now s (stage.Joins leg) i.Lost e = of_turn s.place false _ (lost s.place now)
input_makes config job now s (stage.Awaits asked) (i.Bytes bytes) e = hears_makes config job now s bytes (ap is_asking e)
input_makes config job now s (stage.Awaits asked) i.Lost e = of_turn s.place false _ (lost s.place now)
input_makes config job now s stage.Rests input e = same_makes s _ (ap has_link e ∙ sym (unless_false input))
input_makes config job now s _ input e = same_makes s _ (ap has_link e)

pub on_makes : (config : SessionConfig) (job : Job) (now : ℕ) (s : State) (input : Input)
    → MakesRan s (unless_lost input (has_link s.place.core.stage)) (on config job now s input)
unfolding on
on_makes config job now s input = input_makes config job now s s.place.core.stage input refl
