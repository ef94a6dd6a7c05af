-- What a session sends at each input, and what a success rests on.
use Rattle.std.proofs.Common.{◌≡◌, ◌⊎◌, inl, inr, ℕ, zero, suc, Bool, true, false, List, [], ◌∷◌, ◌++◌, length, take, drop, map}
use Rattle.std.proofs.Common.{refl, sym, ap, ◌∙◌, subst, append-nil}
use Rattle.std.specs.Prelude.{if◌then◌else◌, nat_lt}
use Rattle.std.specs.List.{Contains}
use Rattle.std.proofs.lemmas.List.Elements.{Contains-append_left, Contains-append_right, Contains-push}
use Rattle.ncc_pack.specs.declared.value.Value.{Value}
use Rattle.ncc_bolt.specs.declared.message.Request.{Request}
use Rattle.ncc_bolt.specs.declared.message.Request.TheVariants as r
use Rattle.ncc_chunk.specs.Messages.{messages_of, is_too_long}
use Rattle.ncc_driver.specs.declared.config.SessionConfig.{SessionConfig}
use Rattle.ncc_driver.specs.declared.standing.Asked.{Asked}
use Rattle.ncc_driver.specs.declared.standing.Asked.TheVariants as a
use Rattle.ncc_driver.specs.declared.standing.Stage.{Stage}
use Rattle.ncc_driver.specs.declared.standing.Stage.TheVariants as stage
use Rattle.ncc_driver.specs.declared.link.Item.{Item}
use Rattle.ncc_driver.specs.declared.link.Item.TheVariants.{Shaken, Message, TooLong}
use Rattle.ncc_driver.specs.declared.action.Action.{Action}
use Rattle.ncc_driver.specs.declared.action.Action.TheVariants.{Connect, Send, Close, Sleep, Receive, Finish}
use Rattle.ncc_driver.specs.declared.action.Input.{Input}
use Rattle.ncc_driver.specs.declared.action.Input.TheVariants as i
use Rattle.ncc_driver.specs.declared.action.WorkDone.{WorkDone}
use Rattle.ncc_driver.specs.declared.answers.Told.{Told}
use Rattle.ncc_driver.specs.declared.answers.Told.TheVariants as says
use Rattle.ncc_driver.specs.declared.work.WorkStep.TheVariants as w
use Rattle.ncc_driver.specs.Work.{Row, Job}
use Rattle.ncc_driver.specs.Requests.{commit}
use Rattle.ncc_driver.specs.State.{SessionState}
use Rattle.ncc_driver.specs.Attempts.{done_of, attempts}
use Rattle.ncc_driver.specs.Talk.{works_at}
use Rattle.ncc_driver.specs.Session.{Listening, Standing, State, Ran, Moved, told_by, answered, listening, items_of, end_of, or_more}
use Rattle.ncc_driver.specs.Session.{stream_items, hears, same, on_input, on, told_all, ahead}
use Rattle.ncc_driver.specs.Laws.{is_awaited}
use Rattle.ncc_driver.specs.LawsLegs.{on_link, IsCommitted}
use Rattle.ncc_driver.proofs.LawsHearing.{next, hear, going_is, walk}
use Rattle.ncc_driver.proofs.LawsWaits.{others_change_nothing}
use Rattle.ncc_driver.proofs.LawsGrammar.{committed_by_bookmark}
use Rattle.ncc_driver.proofs.LegsTold.{Own, own_told}
use Rattle.ncc_driver.proofs.LegsTraced.{Trace, traced, traced_all, traced_on, over_on, sent_more, steps_part}
use Rattle.ncc_driver.proofs.LegsTurns.{left, in_steps, IsSent, SentAt, Open, AtStage, At, Along, Goes, along_on}
use Rattle.ncc_driver.proofs.LegsTurns.{lost, attempted, shaken, answered as goes_answered}

-- ---- what stands in a list

abbrev In : {X : Type 0} → List X → X → Type 0
In [] y = ⊥
In (x ∷ xs) y = (x ≡ y) ⊎ In xs y

in_drop : {X : Type 0} (n : ℕ) (xs : List X) (y : X) → In (drop n xs) y → In xs y
in_drop zero xs y h = h
in_drop (suc n) [] y h = h
in_drop (suc n) (x ∷ xs) y h = inr (in_drop n xs y h)

in_contains : {X : Type 0} (xs : List X) (y : X) → In xs y → Contains xs y
in_contains [] y h = absurd h
in_contains {X = X} (x ∷ xs) y (inl e) =
    subst (λ (z : X). Contains (z ∷ xs) y) (sym e) (Contains-append_left (y ∷ []) xs y (Contains-push [] y))
in_contains (x ∷ xs) y (inr h) = Contains-append_right (x ∷ []) xs y (in_contains xs y h)

in_stream : (messages : List (List ℕ)) (long : Bool) (message : List ℕ) → In (map Message messages ++ end_of long) (Message message)
    → In messages message
in_stream [] true message (inl e) = absurd (cc)
in_stream [] true message (inr h) = h
in_stream [] false message h = h
in_stream (x ∷ xs) long message (inl e) = inl (cc)
in_stream (x ∷ xs) long message (inr h) = inr (in_stream xs long message h)

in_link : (came : List ℕ) (short : Bool) (message : List ℕ)
    → In (if short then [] else Shaken (take 4 came) ∷ stream_items (drop 4 came)) (Message message)
    → In (messages_of (drop 4 came)) message
in_link came true message h = absurd h
in_link came false message (inl e) = absurd (cc)
in_link came false message (inr h) = in_stream (messages_of (drop 4 came)) (is_too_long (drop 4 came)) message h

-- A message that a link still holds came on it.
came_on : (came : List ℕ) (n : ℕ) (message : List ℕ) → In (drop n (items_of came)) (Message message)
    → Contains (messages_of (drop 4 came)) message
came_on came n message h =
    in_contains (messages_of (drop 4 came)) message
    (in_link came (nat_lt (length came) 4) message (in_drop n (items_of came) (Message message) h))

pub not_both : true ≡ false → ⊥
not_both e = absurd (cc)

idle : (st : Stage) (input : Input) → works_at st ≡ false → is_awaited st input ≡ false
idle stage.Rests input e = refl
idle _ input e = absurd (cc)

-- ---- what a success rests on

module _ (config : SessionConfig) (given : List Value) (job : Job) where
  abbrev pub Committed : List ℕ → Trace → WorkDone → Type 0
  Committed came t done = IsCommitted config given job t.sent came done

  committed : (came : List ℕ) (t : Trace) (p : SessionState) (message bookmark : List ℕ) (now : ℕ) (rows : List Row)
      → Contains (messages_of (drop 4 came)) message → told_by a.Commit now rows (Message message) ≡ says.Committed bookmark
      → SentAt config given job t p.told a.Commit → Committed came (left t) (done_of p.core bookmark)
  committed came t p message bookmark now rows c e h =
      let said = (committed_by_bookmark now rows message bookmark).0 e in
      let sent = in_steps config given job t.address h.requests (commit ∷ []) in
      let whole = steps_part job config.auth t.address given h.rows h.requests w.Commit (commit ∷ []) [] h.ran h.step_is refl in
      record {
        address = t.address;
        told = h.rows;
        ends = h.step_is;
        sent_is = sent_more t.sent sent r.Goodbye h.sent_is
            ∙ ap (λ (x : List Request). on_link (x ++ r.Goodbye ∷ [])) (sym (append-nil sent) ∙ sym whole);
        message = message;
        came_is = c;
        meta = said.0;
        reads = said.1;
        bookmark_is = said.2;
        place_is = refl;
      }

  -- What these items tell of COMMIT is told by a message of the link.
  abbrev Supplies : (Trace → WorkDone → Type 0) → ℕ → List Item → Type 0
  Supplies C now items =
      (t : Trace) (p : SessionState) (item : Item) (bookmark : List ℕ) → In items item
      → told_by a.Commit now p.core.rows item ≡ says.Committed bookmark → SentAt config given job t p.told a.Commit
      → C (left t) (done_of p.core bookmark)

  supplies : (came : List ℕ) (n now : ℕ) → Supplies (Committed came) now (drop n (items_of came))
  supplies came n now t p (Message message) bookmark h e s =
      committed came t p message bookmark now p.core.rows (came_on came n message h) e s
  supplies came n now t p (Shaken bytes) bookmark h e s = absurd (cc)
  supplies came n now t p TooLong bookmark h e s = absurd (cc)

  -- ---- what is heard

  leg_of : (t : Trace) (p : SessionState) (st : Stage) → AtStage config given job t p st → IsSent config given job t
  leg_of t p stage.Rests h = h
  leg_of t p stage.Begun h = h.leg
  leg_of t p stage.Sleeps h = h.leg
  leg_of t p (stage.Joins leg) h = h.0.open_.leg
  leg_of t p (stage.Awaits asked) h = h.0.open_.leg

  module _ (C : Trace → WorkDone → Type 0) where
    abbrev GoesTo : Trace → SessionState → List Action → Type 0
    GoesTo t p actions = Goes config given job C t (record { place = p; actions = actions })

    goes_on : (t : Trace) (p q : SessionState) (xs ys : List Action) → GoesTo t p xs → GoesTo (traced_all t xs) q ys → GoesTo t q (xs ++ ys)
    goes_on t p q xs ys g h = record {
      along = along_on config given job C t xs ys g.along h.along;
      at = subst (λ (u : Trace). At config given job u q) (sym (traced_on t xs ys)) h.at;
    }

    stands : (t : Trace) (p : SessionState) → At config given job t p → GoesTo t p []
    stands t p h = record { along = leg_of t p p.core.stage h; at = h }

    causes : (now : ℕ) (t : Trace) (p : SessionState) (asked : Asked) (item : Item) (items : List Item) → Supplies C now (item ∷ items)
        → (bookmark : List ℕ) → told_by asked now p.core.rows item ≡ says.Committed bookmark → SentAt config given job t p.told asked
        → C (left t) (done_of p.core bookmark)
    causes now t p asked item items s bookmark e h =
        let c = subst (λ (told : Told). Own p.core.rows asked told) e (own_told asked now p.core.rows item) in
        s t p item bookmark (inl refl) (subst (λ (x : Asked). told_by x now p.core.rows item ≡ says.Committed bookmark) c e)
        (subst (λ (x : Asked). SentAt config given job t p.told x) c h)

    abbrev Hears : ℕ → Listening → List Item → Standing → Type 0
    Hears now l items r =
        (t : Trace) → At config given job t l.place → Supplies C now items → GoesTo t r.core.place r.written

    heard : (now : ℕ) (l : Listening) (items : List Item) → Hears now l items (hear config job now l items)
    heard now = walk config job now (Hears now)
        (λ l t h s. stands t l.place h)
        (λ l asked item items e ih t h s.
        let k = next config job now l asked item in
        let u = answered config job now l asked item in
        let at = subst (λ (x : Stage). AtStage config given job t l.place x) e h in
        let g = goes_answered config given job C now t l.place asked _ (told_by asked now l.place.core.rows item) e at.0 at.1
        (own_told asked now l.place.core.rows item) (causes now t l.place asked item items s) in
        goes_on t k.place (hear config job now k items).core.place u.actions (hear config job now k items).written g
        (ih (traced_all t u.actions) g.at (λ t' p' item' bookmark' h' e' s'. s t' p' item' bookmark' (inr h') e' s')))
        (λ l item items f t h s. stands t l.place h)

    more_or : (t : Trace) (p q : SessionState) (actions : List Action) → t.over ≡ false → GoesTo t q actions → GoesTo t q (or_more actions)
    more_or t p q [] o g = record { along = (g.along, o, tt, g.along); at = g.at }
    more_or t p q (action ∷ actions) o g = g

  -- ---- what is told

  abbrev GoesRan : Trace → Ran → Type 0
  GoesRan t r = GoesTo (Committed r.state.came) t r.state.place r.actions

  began : (t : Trace) (s : State) (st : Stage) (now : ℕ) → s.place.core.stage ≡ st → Open config given job t s.place.core.bookmarks
      → ((q : SessionState) → Open config given job t q.core.bookmarks → AtStage config given job t q st)
      → GoesTo (Committed s.came) t (attempts config job.writes s.place now).place (attempts config job.writes s.place now).actions
  began t s st now e o k =
      attempted config given job (Committed s.came) t job.writes s.place now o
      (λ q b se. subst (λ (x : Stage). AtStage config given job t q x) (sym (se ∙ e))
      (k q (record { leg = o.leg; over = o.over; given_is = b ∙ o.given_is })))

  hears_go : (now : ℕ) (t : Trace) (s : State) (asked : Asked) (bytes : List ℕ) → s.place.core.stage ≡ stage.Awaits asked
      → At config given job t s.place → GoesRan t (hears config job now s bytes)
  hears_go now t s asked bytes e h =
      let came = s.came ++ bytes in
      let items = drop s.taken (items_of came) in
      let at = subst (λ (x : Stage). AtStage config given job t s.place x) e h in
      let r = hear config job now (listening s) items in
      more_or (Committed came) t s.place _ _ at.0.open_.over
      (subst (λ (x : Standing). GoesTo (Committed came) t x.core.place x.written) (sym (going_is config job now (listening s) items))
      (heard (Committed came) now (listening s) items t h (supplies came s.taken now)))

  input_goes : (now : ℕ) (t : Trace) (s : State) (st : Stage) (input : Input) → s.place.core.stage ≡ st
      → At config given job t s.place → GoesRan t (on_input config job now s st input)
  input_goes now t s stage.Begun i.Start e h =
      began t s stage.Begun now e (subst (λ (x : Stage). AtStage config given job t s.place x) e h) (λ q o. o)
  input_goes now t s stage.Sleeps i.Woken e h =
      began t s stage.Sleeps now e (subst (λ (x : Stage). AtStage config given job t s.place x) e h) (λ q o. o)
  input_goes now t s (stage.Joins leg) i.Connected e h =
      let at = subst (λ (x : Stage). AtStage config given job t s.place x) e h in
      shaken config given job (Committed []) t s.place leg at.0 at.1
  input_goes now t s (stage.Joins leg) i.Lost e h =
      let at = subst (λ (x : Stage). AtStage config given job t s.place x) e h in
      lost config given job (Committed s.came) t s.place now at.0.open_
  input_goes now t s (stage.Awaits asked) (i.Bytes bytes) e h = hears_go now t s asked bytes e h
  input_goes now t s (stage.Awaits asked) i.Lost e h =
      let at = subst (λ (x : Stage). AtStage config given job t s.place x) e h in
      lost config given job (Committed s.came) t s.place now at.0.open_
  input_goes now t s _ input e h = stands (Committed s.came) t s.place h

  on_goes : (now : ℕ) (t : Trace) (s : State) (input : Input) → At config given job t s.place → GoesRan t (on config job now s input)
  unfolding on
  on_goes now t s input h = input_goes now t s s.place.core.stage input refl h

  -- ---- one input after another

  rests : (s : State) (xs : List Moved) → works_at s.place.core.stage ≡ false → told_all config job s xs ≡ same s
  unfolding told_all
  rests s [] e = refl
  rests s (x ∷ xs) e =
      ap (λ (r : Ran). ahead r.actions (told_all config job r.state xs))
      (others_change_nothing config job x.1 s x.0 (idle s.place.core.stage x.0 e))
      ∙ rests s xs e

  live : (t : Trace) (p : SessionState) (st : Stage) → works_at st ≡ true → AtStage config given job t p st → t.over ≡ false
  live t p stage.Rests w h = absurd (cc)
  live t p stage.Begun w h = h.over
  live t p stage.Sleeps w h = h.over
  live t p (stage.Joins leg) w h = h.0.open_.over
  live t p (stage.Awaits asked) w h = h.0.open_.over

  -- As long as the work has not ended there was no success to have a cause.
  free : (C D : Trace → WorkDone → Type 0) (t : Trace) (xs : List Action) → (traced_all t xs).over ≡ false
      → Along config given job C t xs → Along config given job D t xs
  free C D t [] o h = h
  free C D t (Finish end ∷ xs) o h = absurd (not_both (sym (over_on (traced t (Finish end)) xs refl) ∙ o))
  free C D t (Connect address ∷ xs) o h = (h.0, h.1, h.2, free C D _ xs o h.3)
  free C D t (Send bytes ∷ xs) o h = (h.0, h.1, h.2, free C D _ xs o h.3)
  free C D t (Close ∷ xs) o h = (h.0, h.1, h.2, free C D t xs o h.3)
  free C D t (Sleep until ∷ xs) o h = (h.0, h.1, h.2, free C D t xs o h.3)
  free C D t (Receive ∷ xs) o h = (h.0, h.1, h.2, free C D t xs o h.3)

  more_told : (t : Trace) (r q : Ran) (live_on : Bool) → works_at r.state.place.core.stage ≡ live_on
      → (live_on ≡ false → q ≡ same r.state) → GoesRan t r → GoesRan (traced_all t r.actions) q → GoesRan t (ahead r.actions q)
  more_told t r q true e k g h =
      let o = live (traced_all t r.actions) r.state.place r.state.place.core.stage e g.at in
      goes_on (Committed q.state.came) t r.state.place q.state.place r.actions q.actions
      (record { along = free (Committed r.state.came) (Committed q.state.came) t r.actions o g.along; at = g.at }) h
  more_told t r q false e k g h =
      subst (λ (x : Ran). GoesRan t (ahead r.actions x)) (sym (k refl))
      (goes_on (Committed r.state.came) t r.state.place r.state.place r.actions [] g
      (stands (Committed r.state.came) (traced_all t r.actions) r.state.place g.at))

  pub told_goes : (t : Trace) (s : State) (xs : List Moved) → At config given job t s.place → GoesRan t (told_all config job s xs)
  unfolding told_all
  told_goes t s [] h = stands (Committed s.came) t s.place h
  told_goes t s (x ∷ xs) h =
      let r = on config job x.1 s x.0 in
      let g = on_goes x.1 t s x.0 h in
      more_told t r (told_all config job r.state xs) (works_at r.state.place.core.stage) refl (λ e. rests r.state xs e) g
      (told_goes (traced_all t r.actions) r.state xs g.at)
