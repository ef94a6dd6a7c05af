-- What a session makes of what comes on a link, item by item.
use Rattle.std.proofs.Common.{◌≡◌, ◌≢◌, ◌⊎◌, inl, inr, ℕ, ◌+◌, ◌-◌, ◌<◌, ◌^◌, min, Bool, true, false, List, [], ◌∷◌, ◌++◌, length, drop}
use Rattle.std.proofs.Common.{refl, sym, ap}
use Rattle.std.proofs.Common.{◌∙◌, subst, arith, append_assoc, append-nil, length-append}
use Rattle.std.specs.Prelude.{Option, Some, None}
use Rattle.ncc_stream.specs.Stream.{IsLawful, behind, further, going, still}
use Rattle.ncc_stream.proofs.Going.{going_none, going_some, behind_twice}
use Rattle.ncc_driver.specs.declared.config.SessionConfig.{SessionConfig}
use Rattle.ncc_driver.specs.declared.standing.Core.{Core}
use Rattle.ncc_driver.specs.declared.standing.Asked.{Asked}
use Rattle.ncc_driver.specs.declared.standing.Asked.TheVariants as a
use Rattle.ncc_driver.specs.declared.standing.Stage.{Stage}
use Rattle.ncc_driver.specs.declared.standing.Stage.TheVariants as stage
use Rattle.ncc_driver.specs.declared.action.Action.{Action}
use Rattle.ncc_driver.specs.declared.action.Action.TheVariants.{Receive}
use Rattle.ncc_driver.specs.declared.action.Input.TheVariants as i
use Rattle.ncc_driver.specs.declared.answers.Told.{Told}
use Rattle.ncc_driver.specs.declared.answers.Told.TheVariants as m
use Rattle.ncc_driver.specs.declared.link.Item.{Item}
use Rattle.ncc_driver.specs.declared.link.Item.TheVariants.{Shaken, Message, TooLong}
use Rattle.ncc_driver.specs.declared.work.WorkStep.{WorkStep}
use Rattle.ncc_driver.specs.Line.{Line}
use Rattle.ncc_driver.specs.Work.{Row, Job, job_by}
use Rattle.ncc_driver.specs.State.{SessionState, Turned, BehindAt, MakesWith}
use Rattle.ncc_driver.specs.Attempts.{behind as turn_behind}
use Rattle.ncc_driver.specs.Session.{Listening, Standing, told_by, answered, takes, takes_by, items_of, Ran, on, on_input, or_more, heard}
use Rattle.ncc_driver.specs.Talk.{Keeps, KeepsAt}
use Rattle.ncc_driver.specs.Hearing.{FeedsLine, KeepsBehind, TakesItem, awaits_more, hearing, listening_of, IsStill, Hears, Moves, state_of}
use Rattle.ncc_driver.proofs.Following.{Rows}

-- ---- the machine is lawful

-- what a move owes, where it is made by these items with more behind
record Owes (next : List Item → List (Unit {0}) → Option Standing) (xs : List Item) (fs : List (Unit {0})) (t : Standing) : Type 0 where
  shrinks : length t.items + length t.facts < length xs + length fs
  extends : (ys : List Item) (gs : List (Unit {0})) → next ys gs ≡ Some (further ys gs t)

abbrev made : Turned → ℕ → List Item → List (Unit {0}) → Standing
made u n xs fs = record { core = record { place = u.place; taken = n }; items = xs; facts = fs; written = u.actions }

same_some : (x y : Standing) → Some x ≡ Some y → x ≡ y
same_some x y e = cc

by_owes : (config : SessionConfig) (job : Job) (now : ℕ) (l : Listening) (s : Stage) (x : Item) (xs : List Item) (fs : List (Unit {0}))
    (t : Standing) → takes_by config job now l s x xs fs ≡ Some t
    → Owes (λ ys gs. takes_by config job now l s x (xs ++ ys) (fs ++ gs)) (x ∷ xs) fs t
by_owes config job now l (stage.Awaits asked) x xs fs t e =
    let u = made (answered config job now l asked x) (l.taken + 1) xs fs in
    let is : u ≡ t = same_some u t e in
    let owed : Owes (λ ys gs. takes_by config job now l (stage.Awaits asked) x (xs ++ ys) (fs ++ gs)) (x ∷ xs) fs u =
    record { shrinks = omega arith; extends = λ ys gs. refl } in
    subst (Owes (λ ys gs. takes_by config job now l (stage.Awaits asked) x (xs ++ ys) (fs ++ gs)) (x ∷ xs) fs) is owed
by_owes config job now l stage.Rests x xs fs t e = absurd (cc)
by_owes config job now l stage.Begun x xs fs t e = absurd (cc)
by_owes config job now l (stage.Joins leg) x xs fs t e = absurd (cc)
by_owes config job now l stage.Sleeps x xs fs t e = absurd (cc)

takes_owes : (config : SessionConfig) (job : Job) (now : ℕ) (l : Listening) (xs : List Item) (fs : List (Unit {0})) (t : Standing)
    → takes config job now l xs fs ≡ Some t → Owes (λ ys gs. takes config job now l (xs ++ ys) (fs ++ gs)) xs fs t
unfolding takes
takes_owes config job now l [] fs t e = absurd (cc)
takes_owes config job now l (x ∷ xs) fs t e = by_owes config job now l l.place.core.stage x xs fs t e

lawful : (config : SessionConfig) (job : Job) (now : ℕ) → IsLawful (takes config job now)
lawful config job now = record {
  shrinks = λ l xs fs t e. (takes_owes config job now l xs fs t e).shrinks;
  extends = λ l xs fs t ys gs e. (takes_owes config job now l xs fs t e).extends ys gs;
}

-- ---- one move, and none

awaited : (config : SessionConfig) (job : Job) (now : ℕ) (l : Listening) (asked : Asked) (x : Item) (xs : List Item)
    → l.place.core.stage ≡ stage.Awaits asked
    → takes config job now l (x ∷ xs) [] ≡ Some (made (answered config job now l asked x) (l.taken + 1) xs [])
unfolding takes
awaited config job now l asked x xs at = ap (λ (s : Stage). takes_by config job now l s x xs []) at

hears_item : (config : SessionConfig) (job : Job) (now : ℕ) (l : Listening) (asked : Asked) (x : Item) (came : List ℕ)
    → l.place.core.stage ≡ stage.Awaits asked → drop l.taken (items_of came) ≡ x ∷ drop (l.taken + 1) (items_of came)
    → let t = answered config job now l asked x in
    hearing config job now l came ≡ behind t.actions (hearing config job now (record { place = t.place; taken = l.taken + 1 }) came)
hears_item config job now l asked x came at e =
    let rest = drop (l.taken + 1) (items_of came) in
    ap (λ (is : List Item). going (takes config job now) l is []) e
    ∙ going_some (takes config job now) (lawful config job now) l (x ∷ rest) []
    (made (answered config job now l asked x) (l.taken + 1) rest []) (awaited config job now l asked x rest at)

none_by : (config : SessionConfig) (job : Job) (now : ℕ) (l : Listening) (s : Stage) (x : Item) (xs : List Item) → awaits_more s ≡ false
    → takes_by config job now l s x xs [] ≡ None
none_by config job now l (stage.Awaits asked) x xs q = let f : true ≡ false = q in absurd (cc)
none_by config job now l stage.Rests x xs q = refl
none_by config job now l stage.Begun x xs q = refl
none_by config job now l (stage.Joins leg) x xs q = refl
none_by config job now l stage.Sleeps x xs q = refl

no_move : (config : SessionConfig) (job : Job) (now : ℕ) (l : Listening) (xs : List Item)
    → (awaits_more l.place.core.stage ≡ false) ⊎ (xs ≡ []) → takes config job now l xs [] ≡ None
unfolding takes
no_move config job now l [] h = refl
no_move config job now l (x ∷ xs) (inl q) = none_by config job now l l.place.core.stage x xs q
no_move config job now l (x ∷ xs) (inr e) = absurd (cc)

hears_rest : (config : SessionConfig) (job : Job) (now : ℕ) (l : Listening) (came : List ℕ)
    → IsStill l.place.core.stage (drop l.taken (items_of came))
    → hearing config job now l came ≡ still l (drop l.taken (items_of came)) []
hears_rest config job now l came h =
    going_none (takes config job now) (lawful config job now) l (drop l.taken (items_of came)) []
    (no_move config job now l (drop l.taken (items_of came)) h)

-- ---- what is kept of a link

keeps_any : (s : Stage) (line : Line) (came : List ℕ) (taken : ℕ) → Keeps line came taken → KeepsAt s line came taken
keeps_any (stage.Awaits asked) line came taken k = k
keeps_any stage.Rests line came taken k = tt
keeps_any stage.Begun line came taken k = tt
keeps_any (stage.Joins leg) line came taken k = tt
keeps_any stage.Sleeps line came taken k = tt

pub keeps_quiet : (s : Stage) (line : Line) (came : List ℕ) (taken : ℕ) → awaits_more s ≡ false → KeepsAt s line came taken
keeps_quiet (stage.Awaits asked) line came taken q = let f : true ≡ false = q in absurd (cc)
keeps_quiet stage.Rests line came taken q = tt
keeps_quiet stage.Begun line came taken q = tt
keeps_quiet (stage.Joins leg) line came taken q = tt
keeps_quiet stage.Sleeps line came taken q = tt

-- a message that is too long is no answer
long_bad : (asked : Asked) (now : ℕ) (rows : List Row) → told_by asked now rows TooLong ≡ m.Bad
long_bad (a.Shake leg) now rows = refl
long_bad (a.Hello leg) now rows = refl
long_bad a.Route now rows = refl
long_bad a.Begin now rows = refl
long_bad a.Run now rows = refl
long_bad a.Pull now rows = refl
long_bad a.Commit now rows = refl

bad_rests : (config : SessionConfig) (job : Job) (now : ℕ) (p : SessionState) (asked : Asked) (number : ℕ) (told : Told) → told ≡ m.Bad
    → (turn_behind config job now p asked number told).place.core.stage ≡ stage.Rests
bad_rests config job now p asked number told e =
    subst (λ (t : Told). (turn_behind config job now p asked number t).place.core.stage ≡ stage.Rests) (sym e) refl

keeps_behind : (config : SessionConfig) (job : Job) (now : ℕ) (p : SessionState) (asked : Asked) (number : ℕ) (rows : List Row) (x : Item)
    (new : Core) (line : Line) (came : List ℕ) (taken : ℕ) → (turn_behind config job now p asked number
    (told_by asked now rows x)).place.core ≡ new
    → KeepsBehind x line came taken → KeepsAt new.stage line came taken
keeps_behind config job now p asked number rows (Shaken b) new line came taken e k = keeps_any new.stage line came taken k
keeps_behind config job now p asked number rows (Message b) new line came taken e k = keeps_any new.stage line came taken k
keeps_behind config job now p asked number rows TooLong new line came taken e k =
    let rests : new.stage ≡ stage.Rests =
    sym (ap (λ (c : Core). c.stage) e) ∙ bad_rests config job now p asked number (told_by asked now rows TooLong)
    (long_bad asked now rows) in
    subst (λ (s : Stage). KeepsAt s line came taken) (sym rests) tt

-- ---- one item after another

true_is_not : true ≡ false → ⊥
true_is_not e = cc

pub hears_not : (config : SessionConfig) (job : Job) (now : ℕ) (stands : Rows → Type 0) (core : Core) (line : Line) (q : List Action)
    → Hears config job now stands stands core line q core line q true
hears_not config job now stands core line q told came taken b k = record {
  told = told;
  taken = taken;
  written = [];
  stands_behind = b;
  keeps = k;
  same = refl;
  out_is = sym (append-nil q);
  still = λ e. absurd (cc);
}

number_is : (number counted taken : ℕ) → number ≡ counted - 1 → counted ≡ min taken (2 ^ 64 - 1) → number ≡ min taken (2 ^ 64 - 1) - 1
number_is number counted taken e f = e ∙ ap (λ (n : ℕ). n - 1) f

pub hears_one : (config : SessionConfig) (job : Job) (now : ℕ) (asked : Asked) (number : ℕ) (item : Item) (found : Option Item)
    (stood stands : Rows → Type 0) (core new : Core) (line new_line : Line) (before after : List Action) → core.stage ≡ stage.Awaits asked
    → number ≡ line.taken - 1 → found ≡ Some item → TakesItem line found new_line
    → MakesWith stood stands (λ p. turn_behind config job now p asked number (told_by asked now core.rows item)) core new before after
    → Hears config job now stood stands core line before new new_line after true
hears_one config job now asked number item found stood stands core new line new_line before after at n f takes_it makes told
    came taken b k =
    let kept : Keeps line came taken = subst (λ (s : Stage). KeepsAt s line came taken) at k in
    let item_is = (subst (λ (o : Option Item). TakesItem line o new_line) f takes_it) came taken kept in
    let p : SessionState = record { core = core; told = told } in
    let l : Listening = listening_of core told taken in
    let t = turn_behind config job now p asked number (told_by asked now core.rows item) in
    let r = makes told b in
    let same_number : answered config job now l asked item ≡ t =
    ap (λ (x : ℕ). turn_behind config job now p asked x (told_by asked now core.rows item))
    (sym (number_is number line.taken taken n kept.taken_is)) in
    let there : record { core = t.place.core; told = t.place.told } ≡ record { core = new; told = t.place.told } =
    ap (λ (c : Core). record { core = c; told = t.place.told }) r.0 in
    record {
      told = t.place.told;
      taken = taken + 1;
      written = t.actions;
      stands_behind = r.2;
      keeps = keeps_behind config job now p asked number core.rows item new new_line came (taken + 1) r.0 item_is.1;
      same = hears_item config job now l asked item came at item_is.0
          ∙ ap (λ (u : Turned). behind u.actions (hearing config job now (record { place = u.place; taken = taken + 1 }) came)) same_number
          ∙ ap (λ (x : SessionState). behind t.actions (hearing config job now (record { place = x; taken = taken + 1 }) came)) there;
      out_is = r.1;
      still = λ e. absurd (true_is_not e);
    }

pub hears_on : (config : SessionConfig) (job : Job) (now : ℕ) (one two three : Rows → Type 0) (c d e : Core) (lc ld le : Line)
    (qc qd qe : List Action) (last : Bool) → Hears config job now one two c lc qc d ld qd true
    → Hears config job now two three d ld qd e le qe last → Hears config job now one three c lc qc e le qe last
hears_on config job now one two three c d e lc ld le qc qd qe last f g told came taken b k =
    let x = f told came taken b k in
    let y = g x.told came x.taken x.stands_behind x.keeps in
    record {
      told = y.told;
      taken = y.taken;
      written = x.written ++ y.written;
      stands_behind = y.stands_behind;
      keeps = y.keeps;
      same = x.same ∙ ap (behind x.written) y.same
          ∙ behind_twice x.written y.written (hearing config job now (listening_of e y.told y.taken) came);
      out_is = y.out_is ∙ ap (λ (q : List Action). q ++ y.written) x.out_is ∙ append_assoc qc x.written y.written;
      still = y.still;
    }

pub hears_still : (config : SessionConfig) (job : Job) (now : ℕ) (one two : Rows → Type 0) (c d : Core) (lc ld : Line) (qc qd : List Action)
    → Hears config job now one two c lc qc d ld qd true → awaits_more d.stage ≡ false → Hears config job now one two c lc qc d ld qd false
hears_still config job now one two c d lc ld qc qd f q told came taken b k =
    let x = f told came taken b k in
    record {
      told = x.told;
      taken = x.taken;
      written = x.written;
      stands_behind = x.stands_behind;
      keeps = x.keeps;
      same = x.same;
      out_is = x.out_is;
      still = λ _. inl q;
    }

pub not_awaits : (s : Stage) → ((asked : Asked) → s ≢ stage.Awaits asked) → awaits_more s ≡ false
not_awaits (stage.Awaits asked) n = absurd (n asked refl)
not_awaits stage.Rests n = refl
not_awaits stage.Begun n = refl
not_awaits (stage.Joins leg) n = refl
not_awaits stage.Sleeps n = refl

-- of a work whose job is the same
pub same_job : (config : SessionConfig) (w v : Bool) (s t : Rows → WorkStep) (now : ℕ) (one two : Rows → Type 0) (c d : Core) (lc ld : Line)
    (qc qd : List Action) (more last : Bool) → w ≡ v → s ≡ t → more ≡ last → Hears config (job_by w s) now one two c lc qc d ld qd more
    → Hears config (job_by v t) now one two c lc qc d ld qd last
same_job config w v s t now one two c d lc ld qc qd more last e f g h =
    let a = subst (λ (x : Bool). Hears config (job_by x s) now one two c lc qc d ld qd more) e h in
    let b = subst (λ (x : Rows → WorkStep). Hears config (job_by v x) now one two c lc qc d ld qd more) f a in
    subst (λ (x : Bool). Hears config (job_by v t) now one two c lc qc d ld qd x) g b

-- ---- bytes that came

awaits_is : (s : Stage) → awaits_more s ≡ true → (asked : Asked) × (s ≡ stage.Awaits asked)
awaits_is (stage.Awaits asked) e = (asked, refl)
awaits_is stage.Rests e = let f : false ≡ true = e in absurd (cc)
awaits_is stage.Begun e = let f : false ≡ true = e in absurd (cc)
awaits_is (stage.Joins leg) e = let f : false ≡ true = e in absurd (cc)
awaits_is stage.Sleeps e = let f : false ≡ true = e in absurd (cc)

-- what was put behind the actions, where nothing was written
abbrev pub OrMore : List Action → List Action → List Action → Type 0
OrMore held written after = (length written ≡ length held → after ≡ written ++ Receive ∷ []) ×
    ((length written ≡ length held → ⊥) → after ≡ written)

pub or_more_none : (held written after : List Action) → length written ≡ length held → after ≡ written ++ Receive ∷ []
    → OrMore held written after
or_more_none held written after e h = (λ _. h, λ n. absurd (n e))

pub or_more_some : (held written : List Action) → (length written ≡ length held → ⊥) → OrMore held written written
or_more_some held written n = (λ e. absurd (n e), λ _. refl)

more_is : (held w written after : List Action) → written ≡ held ++ w → OrMore held written after → after ≡ held ++ or_more w
more_is held [] written after e h =
    let same : written ≡ held = e ∙ append-nil held in
    h.0 (ap length same) ∙ ap (λ (q : List Action). q ++ Receive ∷ []) same
more_is held (x ∷ w) written after e h =
    h.1 (λ l. (let f : length (held ++ x ∷ w) ≡ length held = sym (ap length e)
    ∙ l in absurd (omega (arith, length-append held (x ∷ w))))) ∙ e

pub bytes_move : (config : SessionConfig) (job : Job) (now : ℕ) (piece : List ℕ) (stood stands : Rows → Type 0) (core new : Core)
    (line mid new_line : Line) (before written after : List Action) → awaits_more core.stage ≡ true → FeedsLine line piece mid
    → Hears config job now stood stands core mid before new new_line written false → OrMore before written after
    → Moves config job now (i.Bytes piece) stood stands core line before new new_line after
unfolding on
bytes_move config job now piece stood stands core new line mid new_line before written after at feeds h more told came taken b k =
    let x = awaits_is core.stage at in
    let kept : Keeps line came taken = subst (λ (s : Stage). KeepsAt s line came taken) x.1 k in
    let whole = came ++ piece in
    let fed : KeepsAt core.stage mid whole taken = keeps_any core.stage mid whole taken (feeds came taken kept) in
    let g = h told whole taken b fed in
    let there : Listening = listening_of new g.told g.taken in
    let end : hearing config job now (listening_of core told taken) whole
    ≡ behind g.written (still there (drop g.taken (items_of whole)) []) =
    g.same ∙ ap (behind g.written) (hears_rest config job now there whole (g.still refl)) in
    let ran : on config job now (state_of core told came taken) (i.Bytes piece) ≡ record {
      state = record { place = record { core = new; told = g.told }; came = whole; taken = g.taken };
      actions = or_more (g.written ++ []);
    } =
    ap (λ (s : Stage). on_input config job now (state_of core told came taken) s (i.Bytes piece)) x.1
    ∙ ap (λ (r : Standing). heard (state_of core told came taken) whole r) end in
    let out : after ≡ before ++ or_more (g.written ++ []) =
    more_is before g.written written after g.out_is more ∙ ap (λ (w : List Action). before ++ or_more w) (sym (append-nil g.written)) in
    subst (λ (r : Ran). (r.state.place.core ≡ new) × (after ≡ before ++ r.actions) × KeepsAt new.stage new_line r.state.came r.state.taken
    × BehindAt new.stage stands r.state.place.told) (sym ran) (refl, out, g.keeps, g.stands_behind)
