-- A session asks its questions in turn.
use Rattle.std.proofs.Common.{◌≡◌, ◌≢◌, ◌⊎◌, inl, inr, ℕ, zero, suc, ◌+◌, Bool, true, false, Option, Some, None, List, [], ◌∷◌, ◌++◌, length, refl, sym, ap, ◌∙◌, subst, append-nil, arith}
use Rattle.std.specs.Prelude.{if◌then◌else◌}
use Rattle.ncc_stream.specs.Stream.{behind, still, run, going}
use Rattle.ncc_stream.proofs.Going.{at_none, at_some}
use Rattle.ncc_chunk.specs.declared.handshake.Shake.{Shake}
use Rattle.ncc_chunk.specs.declared.handshake.Shake.TheVariants.{More, Chosen, BadMagic, NoVersion}
use Rattle.ncc_chunk.specs.Handshake.{answer_to, handshake_of}
use Rattle.ncc_session.specs.declared.config.ConnConfig.{ConnConfig}
use Rattle.ncc_session.specs.declared.state.ConnState.{ConnState}
use Rattle.ncc_session.specs.declared.state.ConnState.TheVariants.{Ended}
use Rattle.ncc_session.specs.declared.ask.Fact.{Fact}
use Rattle.ncc_session.specs.Question.{Question, Output, wrote, asked, questions_of, fits}
use Rattle.ncc_session.specs.Core.{Next, Doing, idle, opened, asks, Situation}
use Rattle.ncc_session.specs.Turns.{Turned, freed, heard}
use Rattle.ncc_session.specs.Session.{Input, Standing, inputs_of, stream_of, move, session, asked_at, question_in, is_ended}
use Rattle.ncc_session.specs.Session.{on_input, reads, hears, acts, goes_by}
use Rattle.ncc_session.specs.Asking.{waiting, WentOn, AsksOnBytes, AsksOnFacts}
use Rattle.ncc_session.proofs.Asks.{Asks, heard_asks, live_asks}
use Rattle.ncc_session.proofs.Inputs.{goes_further}
use Rattle.ncc_session.proofs.Shaken.{chosen_inputs, refused_same, more_none}
use Rattle.ncc_session.proofs.Talks.{session_on, session_told}

-- ---- one move

same_some : (a b : Standing) → Some a ≡ Some b → a ≡ b
same_some a b e = cc

abbrev made : Turned → List Input → List Fact → Standing
made u xs fs = record { core = u.place; items = xs; facts = fs; written = u.written }

ended_none : (b : Bool) (o : Option Question) → b ≡ true → [] ≡ waiting (if b then None else o)
ended_none true o e = refl
ended_none false o e = absurd (cc)

input_asks : (config : ConnConfig) (p : Situation) (s : ConnState) (x : Input) → p.state ≡ s → question_in p.doing ≡ None ⊎ (is_ended s ≡ true)
    → Asks (on_input config p s x)
input_asks config p (Ended stop) x e h = ended_none (is_ended p.state) _ (ap is_ended e)
input_asks config p _ x e (inl h) = live_asks config p x (ap is_ended e) h
input_asks config p _ x e (inr h) = absurd (cc)

reads_ask : (config : ConnConfig) (p : Situation) (xs : List Input) (fs : List Fact) (t : Standing) → question_in p.doing ≡ None ⊎ (is_ended p.state ≡ true)
    → reads config p xs fs ≡ Some t → (questions_of t.written ≡ waiting (asked_at t.core)) × (t.facts ≡ fs)
reads_ask config p [] fs t h e = absurd (cc)
reads_ask config p (x ∷ xs) fs t h e =
    let u = made (on_input config p p.state x) xs fs in
    let is : u ≡ t = same_some u t e in
    subst (λ (v : Standing). (questions_of v.written ≡ waiting (asked_at v.core)) × (v.facts ≡ fs)) is
    (input_asks config p p.state x refl h, refl)

-- where a question waits, a move takes the next fact
hears_one : (b : Bool) (u t : Standing) → (if b then Some u else None) ≡ Some t → u ≡ t
hears_one true u t e = same_some u t e
hears_one false u t e = absurd (cc)

hears_ask : (config : ConnConfig) (p : Situation) (q : Question) (n : Next) (xs : List Input) (f : Fact) (fs : List Fact) (t : Standing)
    → is_ended p.state ≡ false → hears config p q n xs (f ∷ fs) ≡ Some t
    → (questions_of t.written ≡ waiting (asked_at t.core)) × (t.facts ≡ fs)
hears_ask config p q n xs f fs t live e =
    let u = made (heard config (freed p) q n f) xs fs in
    subst (λ (v : Standing). (questions_of v.written ≡ waiting (asked_at v.core)) × (v.facts ≡ fs)) (hears_one (fits q f) u t e)
    (heard_asks config (freed p) q n f live, refl)

-- no fact is there, and none waits: it reads
idle_acts : (config : ConnConfig) (p : Situation) (d : Doing) (xs : List Input) (fs : List Fact) (t : Standing) → p.doing ≡ d → question_in d ≡ None
    → acts config p d xs fs ≡ Some t → (questions_of t.written ≡ waiting (asked_at t.core)) × (t.facts ≡ fs)
idle_acts config p (asks q n) xs fs t is e h = absurd (cc)
idle_acts config p idle xs fs t is e h = reads_ask config p xs fs t (inl (ap question_in is)) h
idle_acts config p (opened tx) xs fs t is e h = reads_ask config p xs fs t (inl (ap question_in is)) h

none_in : (b : Bool) (o : Option Question) → (if b then None else o) ≡ None → b ≡ false → o ≡ None
none_in false o e l = e
none_in true o e l = absurd (cc)

goes_ask : (config : ConnConfig) (p : Situation) (s : ConnState) (xs : List Input) (fs : List Fact) (t : Standing) → p.state ≡ s → asked_at p ≡ None
    → goes_by config p s xs fs ≡ Some t → (questions_of t.written ≡ waiting (asked_at t.core)) × (t.facts ≡ fs)
goes_ask config p (Ended stop) xs fs t is none h = reads_ask config p xs fs t (inr (ap is_ended is)) h
goes_ask config p _ xs fs t is none h =
    idle_acts config p p.doing xs fs t refl (none_in (is_ended p.state) _ none (ap is_ended is)) h

move_asks : (config : ConnConfig) (p : Situation) (xs : List Input) (fs : List Fact) (t : Standing) → asked_at p ≡ None
    → move config p xs fs ≡ Some t → (questions_of t.written ≡ waiting (asked_at t.core)) × (t.facts ≡ fs)
unfolding move
move_asks config p xs fs t none h = goes_ask config p p.state xs fs t refl none h

-- ---- where a question waits

pub record Waits (p : Situation) (q : Question) : Type 0 where
  pub next : Next
  pub live : is_ended p.state ≡ false
  pub doing : p.doing ≡ asks q next

asks_by : (d : Doing) (q : Question) → question_in d ≡ Some q → (n : Next) × (d ≡ asks q n)
asks_by (asks r n) q e = let same : r ≡ q = cc in (n, ap (λ (x : Question). asks x n) same)
asks_by idle q e = absurd (cc)
asks_by (opened tx) q e = absurd (cc)

some_in : (b : Bool) (o : Option Question) (q : Question) → (if b then None else o) ≡ Some q → (b ≡ false) × (o ≡ Some q)
some_in false o q e = (refl, e)
some_in true o q e = absurd (cc)

waits : (p : Situation) (q : Question) → asked_at p ≡ Some q → Waits p q
waits p q e =
    let a = some_in (is_ended p.state) _ q e in
    let b = asks_by p.doing q a.1 in
    record { next = b.0; live = a.0; doing = b.1 }

live_goes : (config : ConnConfig) (p : Situation) (s : ConnState) (xs : List Input) (fs : List Fact) → is_ended s ≡ false
    → goes_by config p s xs fs ≡ acts config p p.doing xs fs
live_goes config p (Ended stop) xs fs e = absurd (cc)
live_goes config p _ xs fs e = refl

waiting_move : (config : ConnConfig) (p : Situation) (q : Question) (xs : List Input) (fs : List Fact) → (w : Waits p q)
    → move config p xs fs ≡ hears config p q w.next xs fs
unfolding move
waiting_move config p q xs fs w =
    live_goes config p p.state xs fs w.live ∙ ap (λ (d : Doing). acts config p d xs fs) w.doing

stuck : (config : ConnConfig) (p : Situation) (q : Question) (xs : List Input) → asked_at p ≡ Some q → move config p xs [] ≡ None
stuck config p q xs e = waiting_move config p q xs [] (waits p q e)

-- ---- many moves without a fact

pub record Quiet (r : Standing) : Type 0 where
  pub asks : questions_of r.written ≡ waiting (asked_at r.core)
  pub facts : r.facts ≡ []

questions_join : (a b : List Output) → questions_of (a ++ b) ≡ questions_of a ++ questions_of b
questions_join [] b = refl
questions_join (wrote bytes ∷ a) b = questions_join a b
questions_join (asked q ∷ a) b = ap (λ (qs : List Question). q ∷ qs) (questions_join a b)

still_quiet : (p : Situation) (xs : List Input) → asked_at p ≡ None → Quiet (still p xs [])
still_quiet p xs e = record { asks = ap waiting (sym e); facts = refl }

-- behind a move: where a question waits nothing moves any more
behind_move : (config : ConnConfig) (n : ℕ) (t : Standing) (o : Option Question) → asked_at t.core ≡ o → t.facts ≡ []
    → questions_of t.written ≡ waiting (asked_at t.core)
    → ((p : Situation) (xs : List Input) → asked_at p ≡ None → Quiet (run (move config) n p xs []))
    → Quiet (behind t.written (run (move config) n t.core t.items t.facts))
behind_move config n t (Some q) e f a ih =
    let none : move config t.core t.items t.facts ≡ None =
    ap (λ (fs : List Fact). move config t.core t.items fs) f ∙ stuck config t.core q t.items e in
    let stays = at_none (move config) n t.core t.items t.facts none in
    subst (λ (r : Standing). Quiet (behind t.written r)) (sym stays)
    (record { asks = ap questions_of (append-nil t.written) ∙ a; facts = f })
behind_move config n t None e f a ih =
    let r = run (move config) n t.core t.items [] in
    let k = ih t.core t.items e in
    let first : questions_of t.written ≡ [] = a ∙ ap waiting e in
    subst (λ (fs : List Fact). Quiet (behind t.written (run (move config) n t.core t.items fs))) (sym f)
    (record { asks = questions_join t.written r.written ∙ ap (λ (qs : List Question). qs ++ questions_of r.written) first ∙ k.asks; facts = k.facts })

runs_step : (config : ConnConfig) (n : ℕ) (p : Situation) (xs : List Input) (o : Option Standing) → move config p xs [] ≡ o → asked_at p ≡ None
    → ((q : Situation) (ys : List Input) → asked_at q ≡ None → Quiet (run (move config) n q ys [])) → Quiet (run (move config) (suc n) p xs [])
runs_step config n p xs None h e ih = subst Quiet (sym (at_none (move config) (suc n) p xs [] h)) (still_quiet p xs e)
runs_step config n p xs (Some t) h e ih =
    let m = move_asks config p xs [] t e h in
    subst Quiet (sym (at_some (move config) n p xs [] t h)) (behind_move config n t (asked_at t.core) refl m.1 m.0 ih)

runs_on : (config : ConnConfig) (n : ℕ) (p : Situation) (xs : List Input) → asked_at p ≡ None → Quiet (run (move config) n p xs [])
unfolding run
runs_on config zero p xs e = still_quiet p xs e
runs_on config (suc n) p xs e = runs_step config n p xs (move config p xs []) refl e (λ q ys k. runs_on config n q ys k)

pub goes_quiet : (config : ConnConfig) (p : Situation) (xs : List Input) → asked_at p ≡ None → Quiet (going (move config) p xs [])
unfolding going
goes_quiet config p xs e = runs_on config _ p xs e

-- ---- one fact

some_hears : (config : ConnConfig) (p : Situation) (q : Question) (n : Next) (xs : List Input) (f : Fact) → fits q f ≡ true
    → hears config p q n xs (f ∷ []) ≡ Some (made (heard config (freed p) q n f) xs [])
some_hears config p q n xs f e = ap (λ b. if b then Some (made (heard config (freed p) q n f) xs []) else None) e

fuel : (m : ℕ) → m + 1 ≡ suc m
fuel m = omega arith

pub goes_told : (config : ConnConfig) (p : Situation) (q : Question) (xs : List Input) (f : Fact) → asked_at p ≡ Some q → fits q f ≡ true
    → Quiet (going (move config) p xs (f ∷ []))
unfolding going
goes_told config p q xs f e k =
    let w = waits p q e in
    let t = made (heard config (freed p) q w.next f) xs [] in
    let h : move config p xs (f ∷ []) ≡ Some t = waiting_move config p q xs (f ∷ []) w ∙ some_hears config p q w.next xs f k in
    let a = heard_asks config (freed p) q w.next f w.live in
    subst (λ m. Quiet (run (move config) m p xs (f ∷ []))) (sym (fuel (length xs)))
    (subst Quiet (sym (at_some (move config) (length xs) p xs (f ∷ []) t h))
    (behind_move config (length xs) t (asked_at t.core) refl refl a (λ r ys i. runs_on config (length xs) r ys i)))

-- ---- sessions

inputs_grow_by : (s x : List ℕ) (a : Shake) → answer_to (handshake_of s) ≡ a → (later : List Input) × (inputs_of (s ++ x) ≡ inputs_of s ++ later)
inputs_grow_by s x More e = let m = more_none s e in (inputs_of (s ++ x), ap (λ (is : List Input). is ++ inputs_of (s ++ x)) (sym m.1))
inputs_grow_by s x Chosen e = let g = goes_further (stream_of s) x in (g.0, chosen_inputs s x g.0 e g.1)
inputs_grow_by s x BadMagic e =
    let m : answer_to (handshake_of s) ≢ More = λ h. cc in
    let n : answer_to (handshake_of s) ≢ Chosen = λ h. cc in
    ([], (refused_same s x m n).1 ∙ sym (append-nil (inputs_of s)))
inputs_grow_by s x NoVersion e =
    let m : answer_to (handshake_of s) ≢ More = λ h. cc in
    let n : answer_to (handshake_of s) ≢ Chosen = λ h. cc in
    ([], (refused_same s x m n).1 ∙ sym (append-nil (inputs_of s)))

pub inputs_grow : (s x : List ℕ) → (later : List Input) × (inputs_of (s ++ x) ≡ inputs_of s ++ later)
inputs_grow s x = inputs_grow_by s x (answer_to (handshake_of s)) refl

parts : (r : Standing) → r.facts ≡ [] → r ≡ record { core = r.core; items = r.items; facts = []; written = r.written }
parts r e = ap (λ (fs : List Fact). record { core = r.core; items = r.items; facts = fs; written = r.written }) e

went_on : (old new r : Standing) → new ≡ behind old.written r → Quiet r → WentOn old new
went_on old new r e k = subst (WentOn old) (sym e) (record { more = r.written; written = refl; taken = k.facts; asks = k.asks })

pub asks_on_bytes : AsksOnBytes
asks_on_bytes config bytes piece facts none e =
    let s = session config bytes facts in
    let g = inputs_grow bytes piece in
    went_on s (session config (bytes ++ piece) facts) (going (move config) s.core (s.items ++ g.0) [])
    (session_on config bytes piece facts g.0 s.items s.core s.written g.1 (parts s none)) (goes_quiet config s.core (s.items ++ g.0) e)

pub asks_on_facts : AsksOnFacts
asks_on_facts config bytes facts question fact none e k =
    let s = session config bytes facts in
    went_on s (session config bytes (facts ++ fact ∷ [])) (going (move config) s.core s.items (fact ∷ []))
    (session_told config bytes facts fact s.items s.core s.written (parts s none)) (goes_told config s.core question s.items fact e k)
