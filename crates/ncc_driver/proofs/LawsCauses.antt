-- What ends a work at a moment: exactly its cause.
use Rattle.std.proofs.Common.{◌≡◌, ◌⊎◌, inl, inr, ℕ, zero, suc, ◌-◌, ◌%◌, ◌<◌, ◌≤◌, Bool, true, false, List, [], ◌∷◌, ◌++◌}
use Rattle.std.proofs.Common.{length, take, drop}
use Rattle.std.proofs.Common.{get_or, Option, Some, None, refl, sym, ap, ◌∙◌, subst, arith}
use Rattle.std.specs.Prelude.{◌↔◌, Result, Ok, Err, if◌then◌else◌, nat_lt, slice_get}
use Rattle.std.specs.List.{Contains}
use Rattle.std.proofs.lemmas.Slice.Eq.{bytes_eq-Decides}
use Rattle.std.proofs.lemmas.List.{take-append-drop, take_at}
use Rattle.ncc_pack.specs.declared.value.Value.{Value}
use Rattle.ncc_pack.specs.declared.value.Value.TheVariants as v
use Rattle.ncc_pack.specs.Texts.{texts_alone}
use Rattle.ncc_route.specs.declared.table.Table.{Table}
use Rattle.ncc_route.specs.Routing.{ends, addresses, picked}
use Rattle.ncc_driver.specs.declared.config.SessionConfig.{SessionConfig}
use Rattle.ncc_driver.specs.declared.standing.Core.{Core}
use Rattle.ncc_driver.specs.declared.standing.Leg.{Leg}
use Rattle.ncc_driver.specs.declared.standing.Leg.TheVariants.{Routing, Working}
use Rattle.ncc_driver.specs.declared.standing.Asked.{Asked}
use Rattle.ncc_driver.specs.declared.standing.Asked.TheVariants as a
use Rattle.ncc_driver.specs.declared.action.Action.{Action}
use Rattle.ncc_driver.specs.declared.action.Action.TheVariants.{Finish}
use Rattle.ncc_driver.specs.declared.action.WorkDone.{WorkDone}
use Rattle.ncc_driver.specs.declared.action.WorkError.{WorkError}
use Rattle.ncc_driver.specs.declared.action.WorkError.TheVariants as error
use Rattle.ncc_driver.specs.declared.action.Last.{Last}
use Rattle.ncc_driver.specs.declared.action.Last.TheVariants as last
use Rattle.ncc_driver.specs.declared.answers.Told.{Told}
use Rattle.ncc_driver.specs.declared.answers.Told.TheVariants as says
use Rattle.ncc_driver.specs.declared.work.WorkStep.{WorkStep}
use Rattle.ncc_driver.specs.declared.work.WorkStep.TheVariants as w
use Rattle.ncc_driver.specs.Work.{Job}
use Rattle.ncc_driver.specs.State.{SessionState, Turned}
use Rattle.ncc_driver.specs.Attempts.{retries, finishes, sleeps, is_spent, done_of, transient, not_a_leader, is_transient, is_no_leader}
use Rattle.ncc_driver.specs.Attempts.{role_of, joins, drawn, drops_table, at_core, joins_server, addresses_in, joins_by}
use Rattle.ncc_driver.specs.Attempts.{joins_router, router_of}
use Rattle.ncc_driver.specs.Attempts.{opened, is_fresh, follows, follows_hello, takes_step, so_far, behind, keeps_table, refuses, awaits}
use Rattle.ncc_driver.specs.Requests.{shakes}
use Rattle.rand_pcg.specs.Pcg.{pcg32}
use Rattle.ncc_driver.specs.LawsEnds.{Met, starts, joins as joins_met, hears, breaks, Moment, done_at, turns_by, MayBeTriedAgain}
use Rattle.ncc_driver.specs.LawsEnds.{NamesNone}
use Rattle.ncc_driver.specs.LawsEnds.{no_server, told_at, FailsTold, FailsBy, attempt_at, IsCause, EndsByCause}
use Rattle.ncc_driver.specs.LawsAnswers.{IsAnswer}
use Rattle.ncc_driver.specs.declared.link.Item.{Item}
use Rattle.ncc_driver.proofs.LawsGrammar.{bad_outside_grammar}

-- ---- which ends a list of actions holds

abbrev pub End : Type 0
End = Result WorkDone WorkError

abbrev pub Ends : List Action → End → Type 0
Ends [] end = ⊥
Ends (Finish result ∷ actions) end = (result ≡ end) ⊎ Ends actions end
Ends (action ∷ actions) end = Ends actions end

tail_has : (x y : Action) (xs : List Action) → Contains xs y → Contains (x ∷ xs) y
tail_has x y xs h = let l : h.0 < length xs = h.1 in (suc h.0, omega arith, h.2)

has_at : (x y : Action) (xs : List Action) (k : ℕ) → k < length (x ∷ xs) → get_or (x ∷ xs) k y ≡ y → (x ≡ y) ⊎ Contains xs y
has_at x y xs zero l e = inl e
has_at x y xs (suc k) l e = inr (k, omega arith, e)

finish_ends : (q end : End) (xs : List Action) → (Finish q ≡ Finish end) ⊎ Contains xs (Finish end)
    → (Contains xs (Finish end) → Ends xs end)
    → (q ≡ end) ⊎ Ends xs end
finish_ends q end xs (inl e) f = inl (cc)
finish_ends q end xs (inr h) f = inr (f h)

other_ends : (x : Action) (end : End) (xs : List Action) → (x ≡ Finish end → ⊥) → (x ≡ Finish end) ⊎ Contains xs (Finish end)
    → (Contains xs (Finish end) → Ends xs end) → Ends xs end
other_ends x end xs n (inl e) f = absurd (n e)
other_ends x end xs n (inr h) f = f h

has_ends : (xs : List Action) (end : End) → Contains xs (Finish end) → Ends xs end
has_ends [] end h = let l : h.0 < 0 = h.1 in absurd (omega arith)
has_ends (Finish q ∷ xs) end h = finish_ends q end xs (has_at _ _ xs h.0 h.1 h.2) (λ k. has_ends xs end k)
has_ends (x ∷ xs) end h = other_ends x end xs (λ e. absurd (cc)) (has_at _ _ xs h.0 h.1 h.2) (λ k. has_ends xs end k)

finish_has : (q end : End) (xs : List Action) → (q ≡ end) ⊎ Ends xs end → (Ends xs end → Contains xs (Finish end))
    → Contains (Finish q ∷ xs) (Finish end)
finish_has q end xs (inl e) f = (zero, omega arith, ap (λ (x : End). Finish x) e)
finish_has q end xs (inr h) f = tail_has (Finish q) (Finish end) xs (f h)

ends_has : (xs : List Action) (end : End) → Ends xs end → Contains xs (Finish end)
ends_has [] end h = absurd h
ends_has (Finish q ∷ xs) end h = finish_has q end xs h (λ k. ends_has xs end k)
ends_has (x ∷ xs) end h = tail_has x (Finish end) xs (ends_has xs end h)

-- ---- causes, by what is met

-- what is told causes this end
abbrev pub ToldCause : Moment → Asked → ℕ → End → Told → Type 0
ToldCause here asked number (Err (error.RetriesSpent attempts reason)) told =
    FailsTold here.job told reason × (30_000 ≤ here.now - here.began) × (attempts ≡ here.place.core.attempts)
ToldCause here asked number (Ok result) (says.Committed bookmark) = (asked ≡ a.Commit) × (result ≡ done_of here.place.core bookmark)
ToldCause here asked number (Err (error.Refused attempts c)) (says.Failed code) =
    (c ≡ code) × ¬ (MayBeTriedAgain code) × (attempts ≡ here.place.core.attempts)
ToldCause here asked number (Err (error.BadReply n)) says.Bad = n ≡ number
ToldCause here asked number _ _ = ⊥

-- an end by a failure that is met
abbrev pub SpentCause : Moment → Met → End → Type 0
SpentCause here met (Err (error.RetriesSpent attempts reason)) =
    FailsBy here met reason × (30_000 ≤ here.now - here.began) × (attempts ≡ attempt_at here met)
SpentCause here met _ = ⊥

abbrev pub MetCause : Moment → End → Met → Type 0
MetCause here end (hears asked number item) = ToldCause here asked number end (told_at here asked item)
MetCause here end met = SpentCause here met end

spent_met : (here : Moment) (met : Met) (attempts : ℕ) (reason : Last)
    → FailsBy here met reason × (30_000 ≤ here.now - here.began) × (attempts ≡ attempt_at here met)
    → MetCause here (Err (error.RetriesSpent attempts reason)) met
spent_met here starts attempts reason h = h
spent_met here (joins_met leg) attempts reason h = h
spent_met here (hears asked number item) attempts reason h = h
spent_met here breaks attempts reason h = h

met_spent : (here : Moment) (met : Met) (attempts : ℕ) (reason : Last) → MetCause here (Err (error.RetriesSpent attempts reason)) met
    → FailsBy here met reason × (30_000 ≤ here.now - here.began) × (attempts ≡ attempt_at here met)
met_spent here starts attempts reason h = h
met_spent here (joins_met leg) attempts reason h = h
met_spent here (hears asked number item) attempts reason h = h
met_spent here breaks attempts reason h = h

told_is_bad : (here : Moment) (asked : Asked) (item : Item) → ¬ (IsAnswer asked here.place.core.rows item)
    → told_at here asked item ≡ says.Bad
told_is_bad here asked item n = (bad_outside_grammar asked here.now here.place.core.rows item).1 n

cause_met : (here : Moment) (end : End) → IsCause here end → MetCause here end here.met
cause_met here (Ok result) h =
    subst (λ (met : Met). MetCause here (Ok result) met) (sym h.3)
    (subst (λ (told : Told). ToldCause here a.Commit h.0 (Ok result) told) (sym h.4) (refl, h.5))
cause_met here (Err (error.RetriesSpent attempts reason)) h = spent_met here here.met attempts reason h
cause_met here (Err (error.Refused attempts code)) h =
    let end : End = Err (error.Refused attempts code) in
    subst (λ (met : Met). MetCause here end met) (sym h.3)
    (subst (λ (told : Told). ToldCause here h.0 h.1 end told) (sym h.4) (refl, h.5, h.6))
cause_met here (Err (error.BadReply number)) h =
    let end : End = Err (error.BadReply number) in
    subst (λ (met : Met). MetCause here end met) (sym h.2)
    (subst (λ (told : Told). ToldCause here h.0 number end told) (sym (told_is_bad here h.0 h.1 h.3)) refl)

-- what is told, and causes an end, is its cause where it is met
told_cause : (here : Moment) (asked : Asked) (number : ℕ) (item : Item) (end : End) (told : Told) → here.met ≡ hears asked number item
    → told_at here asked item ≡ told → ToldCause here asked number end told → IsCause here end
told_cause here asked number item (Err (error.RetriesSpent attempts reason)) told e f h =
    subst (λ (x : Met). FailsBy here x reason × (30_000 ≤ here.now - here.began) × (attempts ≡ attempt_at here x)) (sym e)
    (subst (λ (x : Told). FailsTold here.job x reason) (sym f) h.0, h.1, h.2)
told_cause here asked number item (Ok result) (says.Committed bookmark) e f h = (
  number,
  item,
  bookmark,
  e ∙ ap (λ (x : Asked). hears x number item) h.0,
  ap (λ (x : Asked). told_at here x item) (sym h.0) ∙ f,
  h.1,
)
told_cause here asked number item (Err (error.Refused attempts c)) (says.Failed code) e f h = (
  asked,
  number,
  item,
  e,
  f ∙ ap (λ (x : List ℕ). says.Failed x) (sym h.0),
  subst (λ (x : List ℕ). ¬ (MayBeTriedAgain x)) (sym h.0) h.1,
  h.2,
)
told_cause here asked number item (Err (error.BadReply n)) says.Bad e f h = (
  asked,
  item,
  e ∙ ap (λ (x : ℕ). hears asked x item) (sym h),
  (bad_outside_grammar asked here.now here.place.core.rows item).0 f,
)
told_cause here asked number item _ _ e f h = absurd h

spent_cause : (here : Moment) (met : Met) (end : End) → here.met ≡ met → SpentCause here met end → IsCause here end
spent_cause here met (Err (error.RetriesSpent attempts reason)) e h =
    subst (λ (x : Met). FailsBy here x reason × (30_000 ≤ here.now - here.began) × (attempts ≡ attempt_at here x)) (sym e) h
spent_cause here met _ e h = absurd h

met_cause : (here : Moment) (end : End) (met : Met) → here.met ≡ met → MetCause here end met → IsCause here end
met_cause here end (hears asked number item) e h = told_cause here asked number item end (told_at here asked item) e refl h
met_cause here end starts e h = spent_cause here starts end e h
met_cause here end (joins_met leg) e h = spent_cause here (joins_met leg) end e h
met_cause here end breaks e h = spent_cause here breaks end e h

-- ---- the ends of lists

-- The actions end so exactly where this holds.
abbrev Exactly : List Action → (End → Type 0) → Type 0
Exactly actions C = (end : End) → Ends actions end ↔ C end

no_end : (actions : List Action) (C : End → Type 0) → ((end : End) → Ends actions end → ⊥) → ((end : End) → C end → ⊥) → Exactly actions C
no_end actions C f g end = (λ h. absurd (f end h), λ h. absurd (g end h))

one_of : (q end : End) → (q ≡ end) ⊎ ⊥ → q ≡ end
one_of q end (inl e) = e
one_of q end (inr h) = absurd h

one_end : (q : End) (C : End → Type 0) → C q → ((end : End) → C end → q ≡ end) → (end : End) → ((q ≡ end) ⊎ ⊥) ↔ C end
one_end q C c f end = (λ h. subst C (one_of q end h) c, λ h. inl (f end h))

true_false : true ≡ false → ⊥
true_false e = absurd (cc)

-- ---- a retry

-- Only a failure that may be tried again can end it.
abbrev OnlySpent : Moment → (End → Type 0) → (Last → Type 0) → ℕ → Type 0
OnlySpent here C F attempts = (end : End) → C end → (n : ℕ) × (reason : Last) × (end ≡ Err (error.RetriesSpent n reason))
    × F reason × (30_000 ≤ here.now - here.began) × (n ≡ attempts)

is_late : (now began : ℕ) → is_spent now began ≡ true → 30_000 ≤ now - began
is_late now began e = grind arith

not_late : (now began : ℕ) → is_spent now began ≡ false → 30_000 ≤ now - began → ⊥
not_late now began e l = absurd (grind arith)

-- C is the cause, and F what a failure is that may be tried again
module _ (here : Moment) (C : End → Type 0) (F : Last → Type 0) (attempts : ℕ) (reason : Last) (fails : F reason)
    (one : (r : Last) → F r → r ≡ reason) (spent : 30_000 ≤ here.now - here.began → C (Err (error.RetriesSpent attempts reason)))
    (only : OnlySpent here C F attempts) where
  retry_by : (p : SessionState) → p.core.began ≡ here.began → p.core.attempts ≡ attempts → (late : Bool)
      → is_spent here.now p.core.began ≡ late
      → Exactly (if late then finishes p (Err (error.RetriesSpent p.core.attempts reason)) else sleeps p here.now).actions C
  retry_by p b n true e =
      one_end (Err (error.RetriesSpent p.core.attempts reason)) C
      (subst (λ (x : ℕ). C (Err (error.RetriesSpent x reason))) (sym n)
      (spent (subst (λ (x : ℕ). 30_000 ≤ here.now - x) b (is_late here.now p.core.began e))))
      (λ end h.
      let o = only end h in
      ap (λ (x : ℕ). Err (error.RetriesSpent x reason)) (n ∙ sym o.5)
      ∙ ap (λ (x : Last). Err (error.RetriesSpent o.0 x)) (sym (one o.1 o.3)) ∙ sym o.2)
  retry_by p b n false e = no_end (sleeps p here.now).actions C (λ end h. h) (λ end h.
      not_late here.now p.core.began e (subst (λ (x : ℕ). 30_000 ≤ here.now - x) (sym b) (only end h).4))

  retry_ends : (p : SessionState) → p.core.began ≡ here.began → p.core.attempts ≡ attempts → Exactly (retries p here.now reason).actions C
  retry_ends p b n = retry_by p b n (is_spent here.now p.core.began) refl

-- ---- codes

transient_front : (code : List ℕ) → is_transient code ≡ true → MayBeTriedAgain code
transient_front code e =
    let same : take (length transient) code ≡ transient = (bytes_eq-Decides (take (length transient) code) transient).0 e in
    inl (
      drop (length transient) code,
      sym (take-append-drop (length transient) code) ∙ ap (λ (x : List ℕ). x ++ drop (length transient) code) same,
    )

no_leader : (code : List ℕ) → is_no_leader code ≡ true → MayBeTriedAgain code
no_leader code e = inr ((bytes_eq-Decides code not_a_leader).0 e)

front_transient : (rest : List ℕ) → is_transient (transient ++ rest) ≡ true
front_transient rest = (bytes_eq-Decides (take (length transient) (transient ++ rest)) transient).1
    (take_at transient rest (length transient) refl)

not_again : (code : List ℕ) → is_transient code ≡ false → is_no_leader code ≡ false → MayBeTriedAgain code → ⊥
not_again code t n (inl h) =
    let k : is_transient code ≡ true = ap is_transient h.1 ∙ front_transient h.0 in absurd (cc)
not_again code t n (inr h) =
    let k : is_no_leader code ≡ true = (bytes_eq-Decides code not_a_leader).1 h in absurd (cc)

-- ---- servers

text_at : (xs : List Value) (k : ℕ) → texts_alone xs ≡ true → k < length xs → (address : List ℕ) × (slice_get xs k ≡ Some (v.Text address))
text_at [] k t l = absurd (omega arith)
text_at (v.Text address ∷ xs) zero t l = (address, refl)
text_at (v.Text address ∷ xs) (suc k) t l = text_at xs k t (omega arith)
text_at (x ∷ xs) k t l = absurd (cc)

within : (word n : ℕ) → 0 < n → word % n < n
within word n l = omega arith

-- Of texts, of which there are some, a word picks one.
pub picks_text : (word : ℕ) (x : Value) (xs : List Value) → texts_alone (x ∷ xs) ≡ true
    → (address : List ℕ) × (picked word (x ∷ xs) ≡ Some (v.Text address))
picks_text word x xs t = text_at (x ∷ xs) (word % length (x ∷ xs)) t (within word (length (x ∷ xs)) (omega arith))

abbrev pub TableTexts : Table → Type 0
TableTexts table = (texts_alone table.write ≡ true) × (texts_alone table.read ≡ true) × (texts_alone table.route ≡ true)

abbrev pub HasTexts : Option Table → Type 0
HasTexts (Some table) = TableTexts table
HasTexts None = Unit {0}

texts_for : (writes : Bool) (table : Table) → TableTexts table → texts_alone (addresses (role_of writes) table) ≡ true
texts_for true table t = t.0
texts_for false table t = t.1

-- The work fails where the table names no server, and only there.
record Serves (here : Moment) (C : End → Type 0) (F : Last → Type 0) (attempts : ℕ) (table : Table) : Type 0 where
  fails : NamesNone here.job table → F (no_server here.job)
  one : (r : Last) → F r → (r ≡ no_server here.job) × NamesNone here.job table
  spent : NamesNone here.job table → 30_000 ≤ here.now - here.began → C (Err (error.RetriesSpent attempts (no_server here.job)))
  only : OnlySpent here C F attempts

module _ (here : Moment) (C : End → Type 0) (F : Last → Type 0) (attempts : ℕ) (table : Table) (s : Serves here C F attempts table)
    (p : SessionState) (held : p.core.table ≡ Some table) (b : p.core.began ≡ here.began) (n : p.core.attempts ≡ attempts) where
  abbrev joins_of : List Value → Turned
  joins_of found = joins p here.now (role_of here.job.writes) (drawn p.core) (picked (pcg32 p.core.words).0 found)

  serve_none : addresses (role_of here.job.writes) table ≡ [] → Exactly (joins_of []).actions C
  serve_none e =
      retry_ends here C F attempts (no_server here.job) (s.fails e) (λ r h. (s.one r h).0) (s.spent e) s.only
      (drops_table (at_core p (drawn p.core))) b n

  picked_ends : (found : Option Value) (address : List ℕ) → found ≡ Some (v.Text address) → (end : End)
      → Ends (joins p here.now (role_of here.job.writes) (drawn p.core) found).actions end → ⊥
  picked_ends found address e end h =
      subst (λ (o : Option Value). Ends (joins p here.now (role_of here.job.writes) (drawn p.core) o).actions end) e h

  not_none : (x : Value) (xs : List Value) → [] ≡ x ∷ xs → ⊥
  not_none x xs e = absurd (cc)

  serve_by : (found : List Value) → addresses (role_of here.job.writes) table ≡ found → texts_alone found ≡ true
      → Exactly (joins_of found).actions C
  serve_by [] e t = serve_none e
  serve_by (x ∷ xs) e t =
      let k = picks_text (pcg32 p.core.words).0 x xs t in
      no_end (joins_of (x ∷ xs)).actions C (picked_ends (picked (pcg32 p.core.words).0 (x ∷ xs)) k.0 k.1)
      (λ end h. let o = s.only end h in not_none x xs (sym (s.one o.1 o.3).1 ∙ e))

  serve : TableTexts table → Exactly (joins_server here.job.writes p here.now).actions C
  serve t =
      let role = role_of here.job.writes in
      subst (λ (found : List Value). Exactly (joins_of found).actions C)
      (sym (ap (λ (o : Option Table). addresses_in role o) held))
      (serve_by (addresses role table) refl (texts_for here.job.writes table t))

-- ---- each thing that may be met

-- what is told that only a failure that may be tried again can end
abbrev is_plain : Told → Bool
is_plain (says.Committed bookmark) = false
is_plain (says.Failed code) = false
is_plain says.Bad = false
is_plain _ = true

told_only : (here : Moment) (asked : Asked) (number : ℕ) (end : End) (told : Told) → is_plain told ≡ true
    → ToldCause here asked number end told
    → (n : ℕ) × (reason : Last) × (end ≡ Err (error.RetriesSpent n reason))
    × FailsTold here.job told reason × (30_000 ≤ here.now - here.began) × (n ≡ here.place.core.attempts)
told_only here asked number (Err (error.RetriesSpent n reason)) told e h = (n, reason, refl, h.0, h.1, h.2)
told_only here asked number (Ok result) (says.Committed bookmark) e h = absurd (cc)
told_only here asked number (Err (error.Refused n c)) (says.Failed code) e h = absurd (cc)
told_only here asked number (Err (error.BadReply n)) says.Bad e h = absurd (cc)
told_only here asked number _ _ e h = absurd h

spent_only : (here : Moment) (met : Met) → OnlySpent here (SpentCause here met) (FailsBy here met) (attempt_at here met)
spent_only here met (Err (error.RetriesSpent n reason)) h = (n, reason, refl, h.0, h.1, h.2)
spent_only here met _ h = absurd h

-- a moment of a session, of which these are known
abbrev pub GoodTold : Asked → Told → Type 0
GoodTold asked (says.Routed table) = TableTexts table
GoodTold asked (says.Committed bookmark) = asked ≡ a.Commit
GoodTold asked _ = Unit {0}

pub record Sane (here : Moment) : Type 0 where
  pub began : here.place.core.began ≡ here.began
  pub texts : HasTexts here.place.core.table

same_table : (t u : Table) → Some t ≡ Some u → t ≡ u
same_table t u e = cc

fresh_is : (now : ℕ) (table : Table) → nat_lt now (ends table) ≡ true → now < ends table
fresh_is now table e = grind arith

is_fresh_at : (now : ℕ) (table : Table) → now < ends table → nat_lt now (ends table) ≡ true
is_fresh_at now table l = grind arith

routed_nowhere : (p : SessionState) (core : Core) (found : Option Value) (end : End) → Ends (joins_by p core found).actions end → ⊥
routed_nowhere p core (Some (v.Text address)) end h = h
routed_nowhere p core _ end h = h

starts_serves : (here : Moment) (table : Table) → here.place.core.table ≡ Some table → here.now < ends table
    → Serves here (SpentCause here starts) (FailsBy here starts) (attempt_at here starts) table
starts_serves here table e l = record {
  fails = λ n. ((table, e, l, n), refl);
  one = λ r h. (h.1, subst (λ (t : Table). NamesNone here.job t) (same_table h.0.0 table (sym h.0.1 ∙ e)) h.0.3);
  spent = λ n late. (((table, e, l, n), refl), late, refl);
  only = spent_only here starts;
}

starts_by : (config : SessionConfig) (here : Moment) → Sane here → (held : Option Table) → here.place.core.table ≡ held
    → HasTexts held → (fresh : Bool) → is_fresh here.now held ≡ fresh
    → Exactly (if fresh then joins_server here.job.writes (opened here.place) here.now else joins_router config (opened here.place)).actions
    (SpentCause here starts)
starts_by config here s (Some table) e t true f =
    serve here (SpentCause here starts) (FailsBy here starts) (attempt_at here starts) table
    (starts_serves here table e (fresh_is here.now table f)) (opened here.place) e s.began refl t
starts_by config here s None e t true f = absurd (cc)
starts_by config here s held e t false f =
    no_end (joins_router config (opened here.place)).actions (SpentCause here starts)
    (λ end h. routed_nowhere (opened here.place) _ (router_of config (opened here.place).core) end h)
    (λ end h.
    let o = spent_only here starts end h in
    let g : is_fresh here.now held ≡ true =
    ap (λ (x : Option Table). is_fresh here.now x) (sym e ∙ o.3.0.1) ∙ is_fresh_at here.now o.3.0.0 o.3.0.2 in
    true_false (sym g ∙ f))

-- ---- answers

steps_nowhere : (p : SessionState) (step : WorkStep) (end : End) → Ends (takes_step p step).actions end → ⊥
steps_nowhere p (w.Run query params) end h = h
steps_nowhere p w.Commit end h = h

greets_nowhere : (writes : Bool) (p : SessionState) (leg : Leg) (end : End) → Ends (follows_hello writes p leg).actions end → ⊥
greets_nowhere writes p Routing end h = h
greets_nowhere writes p Working end h = h

follows_nowhere : (config : SessionConfig) (job : Job) (p : SessionState) (asked : Asked) (end : End)
    → Ends (follows config job p asked).actions end → ⊥
follows_nowhere config job p (a.Shake leg) end h = h
follows_nowhere config job p (a.Hello leg) end h = greets_nowhere job.writes p leg end h
follows_nowhere config job p a.Begin end h = steps_nowhere (record { core = p.core; told = Some [] }) (job.steps []) end h
follows_nowhere config job p a.Run end h = h
follows_nowhere config job p a.Pull end h =
    let told = so_far p.told ++ p.core.rows ∷ [] in steps_nowhere (record { core = p.core; told = Some told }) (job.steps told) end h
follows_nowhere config job p _ end h = h

-- what is told where it causes no end
nothing_told : (here : Moment) (asked : Asked) (number : ℕ) (end : End) (told : Told) → is_plain told ≡ true
    → ((reason : Last) → FailsTold here.job told reason → ⊥) → ToldCause here asked number end told → ⊥
nothing_told here asked number end told e f h = let o = told_only here asked number end told e h in f o.1 o.3

routed_serves : (here : Moment) (asked : Asked) (number : ℕ) (table : Table)
    → Serves here (λ end. ToldCause here asked number end (says.Routed table)) (FailsTold here.job (says.Routed table))
    here.place.core.attempts table
routed_serves here asked number table = record {
  fails = λ n. (n, refl);
  one = λ r h. (h.1, h.0);
  spent = λ n late. ((n, refl), late, refl);
  only = λ end h. told_only here asked number end (says.Routed table) refl h;
}

committed_one : (here : Moment) (asked : Asked) (number : ℕ) (bookmark : List ℕ) (end : End)
    → ToldCause here asked number end (says.Committed bookmark) → Ok (done_of here.place.core bookmark) ≡ end
committed_one here asked number bookmark (Ok result) h = ap (λ (x : WorkDone). Ok x) (sym h.1)
committed_one here asked number bookmark (Err (error.RetriesSpent n r)) h = absurd h.0
committed_one here asked number bookmark _ h = absurd h

bad_one : (here : Moment) (asked : Asked) (number : ℕ) (end : End) → ToldCause here asked number end says.Bad
    → Err (error.BadReply number) ≡ end
bad_one here asked number (Err (error.BadReply n)) h = ap (λ (x : ℕ). Err (error.BadReply x)) (sym h)
bad_one here asked number (Err (error.RetriesSpent n r)) h = absurd h.0
bad_one here asked number _ h = absurd h

refused_one : (here : Moment) (asked : Asked) (number : ℕ) (code : List ℕ) → (MayBeTriedAgain code → ⊥) → (end : End)
    → ToldCause here asked number end (says.Failed code) → Err (error.Refused here.place.core.attempts code) ≡ end
refused_one here asked number code not (Err (error.Refused n c)) h =
    ap (λ (x : ℕ). Err (error.Refused x code)) (sym h.2) ∙ ap (λ (x : List ℕ). Err (error.Refused n x)) (sym h.0)
refused_one here asked number code not (Err (error.RetriesSpent n r)) h = absurd (not h.0.0)
refused_one here asked number code not _ h = absurd h

failed_spent : (here : Moment) (asked : Asked) (number : ℕ) (code : List ℕ) → MayBeTriedAgain code
    → OnlySpent here (λ end. ToldCause here asked number end (says.Failed code)) (FailsTold here.job (says.Failed code))
    here.place.core.attempts
failed_spent here asked number code may (Err (error.RetriesSpent n reason)) h = (n, reason, refl, h.0, h.1, h.2)
failed_spent here asked number code may (Err (error.Refused n c)) h = absurd (h.1 may)
failed_spent here asked number code may _ h = absurd h

-- a code that may be tried again
tried_again : (here : Moment) (asked : Asked) (number : ℕ) (code : List ℕ) → MayBeTriedAgain code → (p : SessionState)
    → p.core.began ≡ here.began → p.core.attempts ≡ here.place.core.attempts
    → Exactly (retries p here.now (last.Code code)).actions (λ end. ToldCause here asked number end (says.Failed code))
tried_again here asked number code may p b n =
    retry_ends here (λ end. ToldCause here asked number end (says.Failed code)) (FailsTold here.job (says.Failed code))
    here.place.core.attempts (last.Code code) (may, refl) (λ r h. h.1) (λ late. ((may, refl), late, refl))
    (failed_spent here asked number code may) p b n

failed_by : (here : Moment) → Sane here → (asked : Asked) (number : ℕ) (code : List ℕ) (again leaderless : Bool)
    → is_transient code ≡ again → is_no_leader code ≡ leaderless
    → Exactly (if again then retries here.place here.now (last.Code code)
    else if leaderless then retries (drops_table here.place) here.now (last.Code code) else refuses here.place code).actions
    (λ end. ToldCause here asked number end (says.Failed code))
failed_by here s asked number code true leaderless t n =
    tried_again here asked number code (transient_front code t) here.place s.began refl
failed_by here s asked number code false true t n =
    tried_again here asked number code (no_leader code n) (drops_table here.place) s.began refl
failed_by here s asked number code false false t n =
    let not = not_again code t n in
    one_end (Err (error.Refused here.place.core.attempts code)) (λ end. ToldCause here asked number end (says.Failed code))
    (refl, not, refl) (refused_one here asked number code not)

heard_ends : (config : SessionConfig) (here : Moment) → Sane here → (asked : Asked) (number : ℕ) (told : Told) → GoodTold asked told
    → Exactly (behind config here.job here.now here.place asked number told).actions (λ end. ToldCause here asked number end told)
heard_ends config here s asked number says.Done g =
    no_end (follows config here.job here.place asked).actions _ (follows_nowhere config here.job here.place asked)
    (λ end h. nothing_told here asked number end says.Done refl (λ r f. f) h)
heard_ends config here s asked number (says.Row fields) g =
    no_end [] _ (λ end h. h) (λ end h. nothing_told here asked number end (says.Row fields) refl (λ r f. f) h)
heard_ends config here s asked number (says.Routed table) g =
    serve here (λ end. ToldCause here asked number end (says.Routed table)) (FailsTold here.job (says.Routed table))
    here.place.core.attempts
    table (routed_serves here asked number table) (keeps_table here.place table) refl s.began refl g
heard_ends config here s asked number (says.Committed bookmark) g =
    one_end (Ok (done_of here.place.core bookmark)) (λ end. ToldCause here asked number end (says.Committed bookmark))
    (g, refl) (committed_one here asked number bookmark)
heard_ends config here s asked number (says.Failed code) g =
    failed_by here s asked number code (is_transient code) (is_no_leader code) refl refl
heard_ends config here s asked number says.Bad g =
    one_end (Err (error.BadReply number)) (λ end. ToldCause here asked number end says.Bad) refl (bad_one here asked number)

met_ends : (config : SessionConfig) (here : Moment) → Sane here
    → ((asked : Asked) (item : Item) → GoodTold asked (told_at here asked item)) → (met : Met)
    → Exactly (turns_by config here.job here.now here.place met).actions (λ end. MetCause here end met)
met_ends config here s good starts =
    starts_by config here s here.place.core.table refl s.texts (is_fresh here.now here.place.core.table) refl
met_ends config here s good (joins_met leg) =
    no_end (awaits here.place (a.Shake leg) shakes).actions (SpentCause here (joins_met leg)) (λ end h. h)
    (λ end h. (spent_only here (joins_met leg) end h).3)
met_ends config here s good (hears asked number item) =
    heard_ends config here s asked number (told_at here asked item) (good asked item)
met_ends config here s good breaks =
    retry_ends here (SpentCause here breaks) (FailsBy here breaks) here.place.core.attempts last.LinkLost refl (λ r h. h)
    (λ late. (refl, late, refl)) (spent_only here breaks) (drops_table here.place) s.began refl

pub ends_by_cause : (config : SessionConfig) (here : Moment) → Sane here
    → ((asked : Asked) (item : Item) → GoodTold asked (told_at here asked item)) → EndsByCause config here
ends_by_cause config here s good end =
    let x = met_ends config here s good here.met end in (
      λ h. met_cause here end here.met refl (x.0 (has_ends (done_at config here) end h)),
      λ h. ends_has (done_at config here) end (x.1 (cause_met here end h)),
    )
