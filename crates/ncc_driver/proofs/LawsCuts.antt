-- How the bytes of answers were cut.
use Rattle.std.proofs.Common.{◌≡◌, ℕ, Bool, true, false, List, [], ◌∷◌, ◌++◌, length, map, drop}
use Rattle.std.proofs.Common.{refl, sym, ap, ◌∙◌, subst, arith, append_assoc, append-nil}
use Rattle.std.specs.Prelude.{if◌then◌else◌, Err}
use Rattle.std.proofs.lemmas.List.{map-append, length-append, drop_at, append_cancel_left}
use Rattle.ncc_stream.specs.Stream.{behind}
use Rattle.ncc_driver.specs.declared.config.SessionConfig.{SessionConfig}
use Rattle.ncc_driver.specs.declared.standing.Stage.{Stage}
use Rattle.ncc_driver.specs.declared.standing.Stage.TheVariants as stage
use Rattle.ncc_driver.specs.declared.link.Item.{Item}
use Rattle.ncc_driver.specs.declared.action.Action.{Action}
use Rattle.ncc_driver.specs.declared.action.Input.{Input}
use Rattle.ncc_driver.specs.declared.action.Input.TheVariants as i
use Rattle.ncc_driver.specs.declared.action.Last.{Last}
use Rattle.ncc_driver.specs.declared.action.Last.TheVariants as last
use Rattle.ncc_driver.specs.declared.action.WorkError.TheVariants as e
use Rattle.ncc_driver.specs.Work.{Job}
use Rattle.ncc_driver.specs.State.{SessionState, Turned, new_core}
use Rattle.ncc_driver.specs.Attempts.{loses, finishes, sleeps, drops_table, is_spent}
use Rattle.ncc_driver.specs.Session.{Listening, Standing, State, Ran, Moved, Begun, items_of, listening, same, on_place, or_more, heard}
use Rattle.ncc_driver.specs.Session.{new_state, ahead, on_input, on, begins, told_all, works_all, session}
use Rattle.ncc_driver.specs.Laws.{one_byte, cut_input, cut_inputs, cut_work, CutOtherwise, SameLink, Alike, but_receives}
use Rattle.ncc_driver.specs.Laws.{CutsChangeOnlyReceives, told_these, PiecesMayBeCut, EmptyPiecesMayCome, AlikeActAlike, is_awaited}
use Rattle.ncc_driver.proofs.LawsTurns.{is_asking, has_link, Makes, attempted, lost}
use Rattle.ncc_driver.proofs.LawsHearing.{hear, going_is}
use Rattle.ncc_driver.proofs.LawsMakes.{but_on, but_more}
use Rattle.ncc_driver.proofs.LawsItems.{not_both, items_go, hear_counts, hear_rests, hear_on, hear_off}
use Rattle.ncc_driver.proofs.LawsWaits.{others_change_nothing}

-- ---- standing alike

-- a link does not count where no answer is awaited
no_link : (st : Stage) (s t : State) → is_asking st ≡ false → SameLink st s t
no_link (stage.Awaits asked) s t e = absurd (cc)
no_link _ s t e = tt

link_at : (st : Stage) (s t : State) → (is_asking st ≡ true → (s.came ≡ t.came) × (s.taken ≡ t.taken)) → SameLink st s t
link_at (stage.Awaits asked) s t h = h refl
link_at _ s t h = tt

link_of : (st : Stage) (s t : State) → SameLink st s t → is_asking st ≡ true → (s.came ≡ t.came) × (s.taken ≡ t.taken)
link_of (stage.Awaits asked) s t h e = h
link_of _ s t h e = absurd (cc)

alike_same : (s : State) → Alike s s
alike_same s = record { place = refl; link = link_at s.place.core.stage s s (λ e. (refl, refl)) }

alike_back : (s t : State) → Alike s t → Alike t s
alike_back s t h = record {
  place = sym h.place;
  link = link_at t.place.core.stage t s (λ e.
      let k = link_of s.place.core.stage s t h.link (ap (λ (p : SessionState). is_asking p.core.stage) h.place ∙ e) in (sym k.0, sym k.1));
}

alike_then : (s t u : State) → Alike s t → Alike t u → Alike s u
alike_then s t u h k = record {
  place = h.place ∙ k.place;
  link = link_at s.place.core.stage s u (λ e.
      let x = link_of s.place.core.stage s t h.link e in
      let y = link_of t.place.core.stage t u k.link (sym (ap (λ (p : SessionState). is_asking p.core.stage) h.place) ∙ e) in
      (x.0 ∙ y.0, x.1 ∙ y.1));
}

-- they stand alike, and the same was done but for Receives
record AlikeRan (r u : Ran) : Type 0 where
  state : Alike r.state u.state
  actions : but_receives r.actions ≡ but_receives u.actions

ran_same : (r : Ran) → AlikeRan r r
ran_same r = record { state = alike_same r.state; actions = refl }

ran_back : (r u : Ran) → AlikeRan r u → AlikeRan u r
ran_back r u h = record { state = alike_back r.state u.state h.state; actions = sym h.actions }

ran_then : (r u v : Ran) → AlikeRan r u → AlikeRan u v → AlikeRan r v
ran_then r u v h k = record { state = alike_then r.state u.state v.state h.state k.state; actions = h.actions ∙ k.actions }

ran_is : (r u : Ran) → r ≡ u → AlikeRan r u
ran_is r u e = subst (λ (x : Ran). AlikeRan r x) e (ran_same r)

ahead_alike : (xs ys : List Action) (r u : Ran) → but_receives xs ≡ but_receives ys → AlikeRan r u → AlikeRan (ahead xs r) (ahead ys u)
ahead_alike xs ys r u e h = record {
  state = h.state;
  actions =
      but_on xs r.actions ∙ ap (λ (x : List Action). x ++ but_receives r.actions) e
      ∙ ap (λ (x : List Action). but_receives ys ++ x) h.actions ∙ sym (but_on ys u.actions);
}

-- ---- what stands alike acts alike

abbrev at : SessionState → List ℕ → ℕ → State
at p came taken = record { place = p; came = came; taken = taken }

record Acts (r u : Ran) : Type 0 where
  state : Alike r.state u.state
  actions : r.actions ≡ u.actions

acts_same : (r u : Ran) → r ≡ u → Acts r u
acts_same r u e = subst (λ (x : Ran). Acts r x) e (record { state = alike_same r.state; actions = refl })

turn_alike : (p : SessionState) (linked : Bool) (c d : List ℕ) (m n : ℕ) (t : Turned) → Makes p linked t → is_asking p.core.stage ≡ false
    → Acts (on_place (at p c m) t) (on_place (at p d n) t)
turn_alike p linked c d m n t h f = record {
  state = record { place = refl; link = link_at t.place.core.stage _ _ (λ e. absurd (not_both _ (h.asking e) f)) };
  actions = refl;
}

retry_stage : (p : SessionState) (now : ℕ) (reason : Last) (spent : Bool)
    → is_asking (if spent then finishes p (Err (e.RetriesSpent p.core.attempts reason)) else sleeps p now).place.core.stage ≡ false
retry_stage p now reason true = refl
retry_stage p now reason false = refl

lost_stage : (p : SessionState) (now : ℕ) → is_asking (loses p now).place.core.stage ≡ false
lost_stage p now = retry_stage (drops_table p) now last.LinkLost (is_spent now p.core.began)

act_by : (config : SessionConfig) (job : Job) (now : ℕ) (p : SessionState) (c d : List ℕ) (m n : ℕ) (st : Stage) (input : Input)
    → p.core.stage ≡ st → SameLink p.core.stage (at p c m) (at p d n)
    → Acts (on_input config job now (at p c m) st input) (on_input config job now (at p d n) st input)
act_by config job now p c d m n stage.Begun i.Start e k = turn_alike p false c d m n _
    (attempted config job.writes p now (ap has_link e)) (ap is_asking e)
act_by config job now p c d m n stage.Sleeps i.Woken e k = turn_alike p false c d m n _
    (attempted config job.writes p now (ap has_link e)) (ap is_asking e)
act_by config job now p c d m n (stage.Joins leg) i.Connected e k = acts_same _ _ refl
act_by config job now p c d m n (stage.Joins leg) i.Lost e k = turn_alike p false c d m n _ (lost p now) (ap is_asking e)
act_by config job now p c d m n (stage.Awaits asked) input e k =
    let l = link_of p.core.stage (at p c m) (at p d n) k (ap is_asking e) in
    acts_same _ _ (ap (λ (x : List ℕ). on_input config job now (at p x m) (stage.Awaits asked) input) l.0
    ∙ ap (λ (x : ℕ). on_input config job now (at p d x) (stage.Awaits asked) input) l.1)
act_by config job now p c d m n _ input e k = record { state = record { place = refl; link = k }; actions = refl }

act_at : (config : SessionConfig) (job : Job) (now : ℕ) (p : SessionState) (c d : List ℕ) (m n : ℕ) (input : Input)
    → SameLink p.core.stage (at p c m) (at p d n) → Acts (on config job now (at p c m) input) (on config job now (at p d n) input)
unfolding on
act_at config job now p c d m n input k = act_by config job now p c d m n p.core.stage input refl k

act_on : (config : SessionConfig) (job : Job) (now : ℕ) (s t : State) (input : Input) (q : SessionState) → s.place ≡ q
    → SameLink s.place.core.stage s (at q t.came t.taken) → Acts (on config job now s input) (on config job now (at q t.came t.taken) input)
act_on config job now s t input q e = subst
    (λ (x : SessionState). SameLink s.place.core.stage s (at x t.came t.taken)
    → Acts (on config job now s input) (on config job now (at x t.came t.taken) input))
    e (λ k. act_at config job now s.place s.came t.came s.taken t.taken input k)

acts_alike : (config : SessionConfig) (job : Job) (now : ℕ) (s t : State) (input : Input) → Alike s t
    → Acts (on config job now s input) (on config job now t input)
acts_alike config job now s t input h = act_on config job now s t input t.place h.place h.link

pub alike_act_alike : AlikeActAlike
alike_act_alike config job now s t input h = let a = acts_alike config job now s t input h in (a.state, a.actions)

told_alike : (config : SessionConfig) (job : Job) (s t : State) (xs : List Moved) → Alike s t
    → AlikeRan (told_all config job s xs) (told_all config job t xs)
unfolding told_all
told_alike config job s t [] h = record { state = h; actions = refl }
told_alike config job s t (x ∷ xs) h =
    let a = acts_alike config job x.1 s t x.0 h in
    let k = (on config job x.1 s x.0).state in
    let l = (on config job x.1 t x.0).state in
    ahead_alike _ _ _ _ (ap but_receives a.actions) (told_alike config job k l xs a.state)

begins_alike : (now : ℕ) (s t : State) → Alike s t → Alike (begins now s) (begins now t)
unfolding begins
begins_alike now s t h = record { place = ap (λ (p : SessionState). (begins now (at p [] 0)).place) h.place; link = tt }

works_alike : (config : SessionConfig) (s t : State) (works : List Begun) → Alike s t
    → AlikeRan (works_all config s works) (works_all config t works)
unfolding works_all
works_alike config s t [] h = record { state = h; actions = refl }
works_alike config s t (w ∷ works) h =
    let a = told_alike config w.job (begins w.began s) (begins w.began t) w.inputs (begins_alike w.began s t h) in
    let k = (told_all config w.job (begins w.began s) w.inputs).state in
    let l = (told_all config w.job (begins w.began t) w.inputs).state in
    ahead_alike _ _ _ _ a.actions (works_alike config k l works a.state)

-- ---- all that is whole was taken

abbrev Took : State → Type 0
Took s = is_asking s.place.core.stage ≡ true → s.taken ≡ length (items_of s.came)

took_turn : (s : State) (linked : Bool) (t : Turned) → Makes s.place linked t → is_asking s.place.core.stage ≡ false
    → Took (on_place s t).state
took_turn s linked t h f e = absurd (not_both _ (h.asking e) f)

-- what a session hears of more bytes, where it took all before
record HearsMore (config : SessionConfig) (job : Job) (now : ℕ) (s : State) (bytes : List ℕ) : Type 0 where
  items : List Item
  whole : items_of (s.came ++ bytes) ≡ items_of s.came ++ items
  ran : on config job now s (i.Bytes bytes) ≡ heard s (s.came ++ bytes) (hear config job now (listening s) items)

hears_more : (config : SessionConfig) (job : Job) (now : ℕ) (s : State) (bytes : List ℕ) (st : Stage) → s.place.core.stage ≡ st
    → is_asking st ≡ true → Took s → HearsMore config job now s bytes
unfolding on
hears_more config job now s bytes (stage.Awaits asked) e f k =
    let came = s.came ++ bytes in
    let g = items_go s.came bytes in
    let items = drop s.taken (items_of came) in
    let left : items ≡ g.more =
    ap (λ (is : List Item). drop s.taken is) g.is ∙ drop_at (items_of s.came) g.more s.taken (sym (k (ap is_asking e))) in
    record {
      items = g.more;
      whole = g.is;
      ran =
          ap (λ (x : Stage). on_input config job now s x (i.Bytes bytes)) e
          ∙ ap (λ (r : Standing). heard s came r) (going_is config job now (listening s) items)
          ∙ ap (λ (is : List Item). heard s came (hear config job now (listening s) is)) left;
    }
hears_more config job now s bytes _ e f k = absurd (cc)

-- where it still waits it took all of that too
took_heard : (config : SessionConfig) (job : Job) (now : ℕ) (s : State) (bytes : List ℕ) (items : List Item)
    → items_of (s.came ++ bytes) ≡ items_of s.came ++ items → s.taken ≡ length (items_of s.came)
    → Took (heard s (s.came ++ bytes) (hear config job now (listening s) items)).state
took_heard config job now s bytes items g k f =
    let c = hear_counts config job now (listening s) items in
    let n : length (hear config job now (listening s) items).items ≡ 0 = ap length (hear_rests config job now (listening s) items f) in
    let l = ap length g ∙ length-append (items_of s.came) items in
    omega arith

on_took_by : (config : SessionConfig) (job : Job) (now : ℕ) (s : State) (st : Stage) (input : Input) → s.place.core.stage ≡ st → Took s
    → on config job now s input ≡ on_input config job now s st input → Took (on_input config job now s st input).state
on_took_by config job now s stage.Begun i.Start e k o =
    took_turn s false _ (attempted config job.writes s.place now (ap has_link e)) (ap is_asking e)
on_took_by config job now s stage.Sleeps i.Woken e k o =
    took_turn s false _ (attempted config job.writes s.place now (ap has_link e)) (ap is_asking e)
on_took_by config job now s (stage.Joins leg) i.Connected e k o = λ f. refl
on_took_by config job now s (stage.Joins leg) i.Lost e k o = λ f. absurd (not_both _ f (lost_stage s.place now))
on_took_by config job now s (stage.Awaits asked) (i.Bytes bytes) e k o =
    let m = hears_more config job now s bytes (stage.Awaits asked) e refl k in
    subst (λ (r : Ran). Took r.state) (sym m.ran ∙ o) (took_heard config job now s bytes m.items m.whole (k (ap is_asking e)))
on_took_by config job now s (stage.Awaits asked) i.Lost e k o = λ f. absurd (not_both _ f (lost_stage s.place now))
on_took_by config job now s _ input e k o = k

on_took : (config : SessionConfig) (job : Job) (now : ℕ) (s : State) (input : Input) → Took s → Took (on config job now s input).state
unfolding on
on_took config job now s input k = on_took_by config job now s s.place.core.stage input refl k refl

told_took : (config : SessionConfig) (job : Job) (s : State) (xs : List Moved) → Took s → Took (told_all config job s xs).state
unfolding told_all
told_took config job s [] k = k
told_took config job s (x ∷ xs) k = told_took config job (on config job x.1 s x.0).state xs (on_took config job x.1 s x.0 k)

begins_took : (now : ℕ) (s : State) → Took (begins now s)
unfolding begins
begins_took now s e = absurd (cc)

-- ---- a piece that is cut in two

not_awaited : (st : Stage) (bytes : List ℕ) → is_asking st ≡ false → is_awaited st (i.Bytes bytes) ≡ false
not_awaited (stage.Awaits asked) bytes e = absurd (cc)
not_awaited _ bytes e = refl

unheard : (config : SessionConfig) (job : Job) (now : ℕ) (s : State) (bytes : List ℕ) → is_asking s.place.core.stage ≡ false
    → on config job now s (i.Bytes bytes) ≡ same s
unheard config job now s bytes e = others_change_nothing config job now s (i.Bytes bytes) (not_awaited s.place.core.stage bytes e)

abbrev told_two : SessionConfig → Job → ℕ → State → List ℕ → List ℕ → Ran
told_two config job now s front back =
    let r = on config job now s (i.Bytes front) in ahead r.actions (on config job now r.state (i.Bytes back))

but_both : (xs ys : List Action) → but_receives (or_more (xs ++ ys)) ≡ but_receives (or_more xs ++ or_more ys)
but_both xs ys =
    but_more (xs ++ ys) ∙ but_on xs ys ∙ ap (λ (x : List Action). x ++ but_receives ys) (sym (but_more xs))
    ∙ ap (λ (x : List Action). but_receives (or_more xs) ++ x) (sym (but_more ys)) ∙ sym (but_on (or_more xs) (or_more ys))

-- where it waits for more in between
cut_on : (config : SessionConfig) (job : Job) (now : ℕ) (s : State) (front back : List ℕ) (xs ys : List Item)
    → let r = hear config job now (listening s) xs in let q = (heard s (s.came ++ front) r).state in
    is_asking r.core.place.core.stage ≡ true
    → AlikeRan (heard s (s.came ++ (front ++ back)) (hear config job now (listening s) (xs ++ ys)))
    (ahead (or_more r.written) (heard q (q.came ++ back) (hear config job now (listening q) ys)))
cut_on config job now s front back xs ys e =
    let r = hear config job now (listening s) xs in
    let u = hear config job now r.core ys in
    let came = s.came ++ (front ++ back) in
    let q = (heard s (s.came ++ front) r).state in
    ran_then _ (heard s came (behind r.written u)) _
    (ran_is _ _ (ap (λ (x : Standing). heard s came x) (hear_on config job now (listening s) xs ys e)))
    (record {
      state = record {
        place = refl;
        link = link_at u.core.place.core.stage _ _ (λ f. (sym (append_assoc s.came front back), refl));
      };
      actions = but_both r.written u.written;
    })

-- where it takes no more
cut_off : (config : SessionConfig) (job : Job) (now : ℕ) (s : State) (front back : List ℕ) (xs ys : List Item)
    → let r = hear config job now (listening s) xs in let q = (heard s (s.came ++ front) r).state in
    is_asking r.core.place.core.stage ≡ false
    → AlikeRan (heard s (s.came ++ (front ++ back)) (hear config job now (listening s) (xs ++ ys))) (ahead (or_more r.written) (same q))
cut_off config job now s front back xs ys e =
    let r = hear config job now (listening s) xs in
    let h = hear_off config job now (listening s) xs ys e in
    record {
      state = record {
        place = ap (λ (l : Listening). l.place) h.0;
        link = no_link _ _ _ (ap (λ (l : Listening). is_asking l.place.core.stage) h.0 ∙ e);
      };
      actions = ap (λ (w : List Action). but_receives (or_more w)) h.1 ∙ ap but_receives (sym (append-nil (or_more r.written)));
    }

abbrev then_back : SessionConfig → Job → ℕ → List ℕ → Ran → Ran
then_back config job now back r = ahead r.actions (on config job now r.state (i.Bytes back))

-- the items of both pieces
both_items : (s : State) (front back : List ℕ) (all xs ys : List Item) → items_of (s.came ++ (front ++ back)) ≡ items_of s.came ++ all
    → items_of (s.came ++ front) ≡ items_of s.came ++ xs → items_of ((s.came ++ front) ++ back) ≡ items_of (s.came ++ front) ++ ys
    → all ≡ xs ++ ys
both_items s front back all xs ys a x y = append_cancel_left (items_of s.came) all (xs ++ ys) (
    sym a ∙ ap items_of (sym (append_assoc s.came front back)) ∙ y ∙ ap (λ (is : List Item). is ++ ys) x
    ∙ append_assoc (items_of s.came) xs ys)

cut_by : (config : SessionConfig) (job : Job) (now : ℕ) (s : State) (front back : List ℕ) (again : Bool) → Took s
    → is_asking s.place.core.stage ≡ true
    → (one : HearsMore config job now s front) → (all : HearsMore config job now s (front ++ back))
    → is_asking (hear config job now (listening s) one.items).core.place.core.stage ≡ again
    → AlikeRan (on config job now s (i.Bytes (front ++ back))) (told_two config job now s front back)
cut_by config job now s front back true k e one all f =
    let r = hear config job now (listening s) one.items in
    let q = (heard s (s.came ++ front) r).state in
    let two = hears_more config job now q back q.place.core.stage refl f (took_heard config job now s front one.items one.whole (k e)) in
    let is = both_items s front back all.items one.items two.items all.whole one.whole two.whole in
    ran_then _ _ _
    (ran_is _ _ (all.ran ∙ ap (λ (x : List Item). heard s (s.came ++ (front ++ back)) (hear config job now (listening s) x)) is))
    (ran_then _ _ _ (cut_on config job now s front back one.items two.items f)
    (ran_is _ _ (sym (ap (then_back config job now back) one.ran ∙ ap (λ (x : Ran). ahead (or_more r.written) x) two.ran))))
cut_by config job now s front back false k e one all f =
    let r = hear config job now (listening s) one.items in
    let q = (heard s (s.came ++ front) r).state in
    let g = items_go (s.came ++ front) back in
    let is = both_items s front back all.items one.items g.more all.whole one.whole g.is in
    ran_then _ _ _
    (ran_is _ _ (all.ran ∙ ap (λ (x : List Item). heard s (s.came ++ (front ++ back)) (hear config job now (listening s) x)) is))
    (ran_then _ _ _ (cut_off config job now s front back one.items g.more f)
    (ran_is _ _ (sym (ap (then_back config job now back) one.ran
    ∙ ap (λ (x : Ran). ahead (or_more r.written) x) (unheard config job now q back f)))))

cut_asked : (config : SessionConfig) (job : Job) (now : ℕ) (s : State) (front back : List ℕ) (again : Bool)
    → is_asking s.place.core.stage ≡ again → Took s
    → AlikeRan (on config job now s (i.Bytes (front ++ back))) (told_two config job now s front back)
cut_asked config job now s front back true e k =
    let one = hears_more config job now s front s.place.core.stage refl e k in
    let all = hears_more config job now s (front ++ back) s.place.core.stage refl e k in
    cut_by config job now s front back _ k e one all refl
cut_asked config job now s front back false e k =
    ran_is _ _ (unheard config job now s (front ++ back) e
    ∙ sym (ap (then_back config job now back) (unheard config job now s front e) ∙ unheard config job now s back e))

-- in two pieces it is the same
cut_two : (config : SessionConfig) (job : Job) (now : ℕ) (s : State) (front back : List ℕ) → Took s
    → AlikeRan (on config job now s (i.Bytes (front ++ back))) (told_two config job now s front back)
cut_two config job now s front back k = cut_asked config job now s front back (is_asking s.place.core.stage) refl k

hears_none : (config : SessionConfig) (job : Job) (now : ℕ) (s : State)
    → AlikeRan (heard s (s.came ++ []) (hear config job now (listening s) [])) (same s)
unfolding hear
hears_none config job now s = record {
  state = record { place = refl; link = link_at s.place.core.stage _ _ (λ e. (append-nil s.came, refl)) };
  actions = refl;
}

-- an empty piece is nothing
cut_none_by : (config : SessionConfig) (job : Job) (now : ℕ) (s : State) (again : Bool) → is_asking s.place.core.stage ≡ again → Took s
    → AlikeRan (on config job now s (i.Bytes [])) (same s)
cut_none_by config job now s true e k =
    let one = hears_more config job now s [] s.place.core.stage refl e k in
    let none : [] ≡ one.items = append_cancel_left (items_of s.came) [] one.items (
    append-nil (items_of s.came) ∙ ap items_of (sym (append-nil s.came)) ∙ one.whole) in
    ran_then _ _ _
    (ran_is _ _ (one.ran ∙ ap (λ (x : List Item). heard s (s.came ++ []) (hear config job now (listening s) x)) (sym none)))
    (hears_none config job now s)
cut_none_by config job now s false e k = ran_is _ _ (unheard config job now s [] e)

cut_none : (config : SessionConfig) (job : Job) (now : ℕ) (s : State) → Took s → AlikeRan (on config job now s (i.Bytes [])) (same s)
cut_none config job now s k = cut_none_by config job now s (is_asking s.place.core.stage) refl k

-- ---- all pieces

told_behind : (config : SessionConfig) (job : Job) (s : State) (xs ys : List Moved)
    → told_all config job s (xs ++ ys) ≡ ahead (told_all config job s xs).actions (told_all config job (told_all config job s xs).state ys)
unfolding told_all
told_behind config job s [] ys = refl
told_behind config job s (x ∷ xs) ys =
    let r = on config job x.1 s x.0 in
    let u = told_all config job r.state xs in
    let v = told_all config job u.state ys in
    ap (λ (w : Ran). ahead r.actions w) (told_behind config job r.state xs ys)
    ∙ ap (λ (a : List Action). record { state = v.state; actions = a }) (sym (append_assoc r.actions u.actions v.actions))

bytes_alike : (config : SessionConfig) (job : Job) (now : ℕ) (s : State) (bytes : List ℕ) → Took s
    → AlikeRan (on config job now s (i.Bytes bytes)) (told_all config job s (map (one_byte now) bytes))
unfolding told_all
bytes_alike config job now s [] k = cut_none config job now s k
bytes_alike config job now s (b ∷ bytes) k =
    let r = on config job now s (i.Bytes (b ∷ [])) in
    ran_then _ _ _ (cut_two config job now s (b ∷ []) bytes k)
    (ahead_alike r.actions r.actions _ _ refl
    (bytes_alike config job now r.state bytes (on_took config job now s (i.Bytes (b ∷ [])) k)))

told_one : (config : SessionConfig) (job : Job) (now : ℕ) (s : State) (input : Input)
    → AlikeRan (on config job now s input) (told_all config job s ((input, now) ∷ []))
unfolding told_all
told_one config job now s input =
    let r = on config job now s input in
    ran_is _ _ (ap (λ (a : List Action). record { state = r.state; actions = a }) (sym (append-nil r.actions)))

input_alike : (config : SessionConfig) (job : Job) (now : ℕ) (s : State) (input : Input) → Took s
    → AlikeRan (on config job now s input) (told_all config job s (cut_input input now))
input_alike config job now s (i.Bytes bytes) k = bytes_alike config job now s bytes k
input_alike config job now s i.Start k = told_one config job now s i.Start
input_alike config job now s i.Connected k = told_one config job now s i.Connected
input_alike config job now s i.Lost k = told_one config job now s i.Lost
input_alike config job now s i.Woken k = told_one config job now s i.Woken

inputs_alike : (config : SessionConfig) (job : Job) (s : State) (xs : List Moved) → Took s
    → AlikeRan (told_all config job s xs) (told_all config job s (cut_inputs xs))
unfolding told_all
inputs_alike config job s [] k = ran_same (same s)
inputs_alike config job s (x ∷ xs) k =
    let r = on config job x.1 s x.0 in
    let q = told_all config job s (cut_input x.0 x.1) in
    let h = input_alike config job x.1 s x.0 k in
    ran_then _ _ _
    (ahead_alike r.actions q.actions _ _ h.actions
    (ran_then _ _ _ (inputs_alike config job r.state xs (on_took config job x.1 s x.0 k))
    (told_alike config job r.state q.state (cut_inputs xs) h.state)))
    (ran_is _ _ (sym (told_behind config job s (cut_input x.0 x.1) (cut_inputs xs))))

works_cut : (config : SessionConfig) (s : State) (works : List Begun) → Took s
    → AlikeRan (works_all config s works) (works_all config s (map cut_work works))
unfolding works_all
works_cut config s [] k = ran_same (same s)
works_cut config s (w ∷ works) k =
    let b = begins w.began s in
    let r = told_all config w.job b w.inputs in
    let q = told_all config w.job b (cut_inputs w.inputs) in
    let h = inputs_alike config w.job b w.inputs (begins_took w.began s) in
    ahead_alike r.actions q.actions _ _ h.actions
    (ran_then _ _ _ (works_cut config r.state works (told_took config w.job b w.inputs (begins_took w.began s)))
    (works_alike config r.state q.state (map cut_work works) h.state))

new_took : (config : SessionConfig) → Took (new_state config)
unfolding new_core
new_took config e = absurd (cc)

session_cut : (config : SessionConfig) (works : List Begun)
    → AlikeRan (session config works) (works_all config (new_state config) (map cut_work works))
unfolding session
session_cut config works = works_cut config (new_state config) works (new_took config)

pub cuts_change_only_receives : CutsChangeOnlyReceives
cuts_change_only_receives config works others e =
    let h = ran_then _ _ _ (session_cut config works)
    (ran_then _ _ _ (ran_is _ _ (ap (λ (ws : List Begun). works_all config (new_state config) ws) e))
    (ran_back _ _ (session_cut config others))) in
    (h.state, h.actions)

-- ---- which lists are the same but for cuts

inputs_behind : (xs ys : List Moved) → cut_inputs (xs ++ ys) ≡ cut_inputs xs ++ cut_inputs ys
inputs_behind [] ys = refl
inputs_behind (x ∷ xs) ys =
    ap (λ (l : List Moved). cut_input x.0 x.1 ++ l) (inputs_behind xs ys)
    ∙ sym (append_assoc (cut_input x.0 x.1) (cut_inputs xs) (cut_inputs ys))

told_otherwise : (before after : List Begun) (work : Begun) (xs ys : List Moved) → cut_inputs xs ≡ cut_inputs ys
    → CutOtherwise (before ++ told_these work xs ∷ after) (before ++ told_these work ys ∷ after)
told_otherwise before after work xs ys e =
    map-append cut_work before (told_these work xs ∷ after)
    ∙ ap (λ (l : List Moved). map cut_work before ++ told_these work l ∷ map cut_work after) e
    ∙ sym (map-append cut_work before (told_these work ys ∷ after))

pub pieces_may_be_cut : PiecesMayBeCut
pieces_may_be_cut before after work xs ys front back now = told_otherwise before after work _ _ (
    inputs_behind xs ((i.Bytes (front ++ back), now) ∷ ys)
    ∙ ap (λ (l : List Moved). cut_inputs xs ++ l) (
    ap (λ (l : List Moved). l ++ cut_inputs ys) (map-append (one_byte now) front back)
    ∙ append_assoc (map (one_byte now) front) (map (one_byte now) back) (cut_inputs ys))
    ∙ sym (inputs_behind xs ((i.Bytes front, now) ∷ (i.Bytes back, now) ∷ ys)))

pub empty_pieces_may_come : EmptyPiecesMayCome
empty_pieces_may_come before after work xs ys now = told_otherwise before after work _ _ (
    inputs_behind xs ys ∙ sym (inputs_behind xs ((i.Bytes [], now) ∷ ys)))
