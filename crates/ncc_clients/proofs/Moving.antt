-- The moves of a session one by one, and what all of them keep.
use Rattle.std.proofs.Common.{◌≡◌, ℕ, zero, suc, ◌+◌, Bool, true, false, Option, Some, None, List, [], ◌∷◌, ◌++◌, length, refl, sym, ap}
use Rattle.std.proofs.Common.{subst}
use Rattle.std.proofs.Common.{◌∙◌, append_assoc, append-nil}
use Rattle.std.specs.Prelude.{if◌then◌else◌}
use Rattle.ncc_stream.specs.Stream.{Stand, Move, behind, still, run, going}
use Rattle.ncc_stream.proofs.Going.{at_none, at_some, going_none, going_some}
use Rattle.ncc_chunk.specs.declared.handshake.Shake.TheVariants.{Chosen}
use Rattle.ncc_session.specs.declared.config.ConnConfig.{ConnConfig}
use Rattle.ncc_session.specs.declared.state.ConnState.{ConnState}
use Rattle.ncc_session.specs.declared.state.ConnState.TheVariants.{Connected, Ended}
use Rattle.ncc_session.specs.declared.ask.Fact.{Fact}
use Rattle.ncc_session.specs.Question.{Question, wrote, fits}
use Rattle.ncc_session.specs.Core.{Next, Doing, idle, opened, asks, Situation}
use Rattle.ncc_session.specs.Turns.{Turned, freed, goes, heard}
use Rattle.ncc_session.specs.Session.{Input, shaken, Standing, on_live, on_input, reads, hears, acts, goes_by, move, start}
use Rattle.ncc_session.specs.Session.{is_ended}
use Rattle.ncc_session.specs.Session.{question_in}
use Rattle.ncc_session.proofs.Lawful.{lawful}

-- ---- what each move keeps, all of them keep

module _ {C E F W : Type 0} (move : Move C E F W) (Q : C → List E → List F → List W → Type 0)
    (each : (c : C) (xs : List E) (fs : List F) (w : List W) (t : Stand C E F W) → move c xs fs ≡ Some t → Q c xs fs w
    → Q t.core t.items t.facts (w ++ t.written)) where
  abbrev Keeps : List W → Stand C E F W → Type 0
  Keeps w r = Q r.core r.items r.facts (w ++ r.written)

  kept_at : (n : ℕ) (c : C) (xs : List E) (fs : List F) (w : List W) (o : Option (Stand C E F W)) → move c xs fs ≡ o
      → ((d : C) (ys : List E) (gs : List F) (v : List W) → Q d ys gs v → Keeps v (run move n d ys gs)) → Q c xs fs w
      → Keeps w (run move (suc n) c xs fs)
  kept_at n c xs fs w None e ih h =
      subst (Keeps w) (sym (at_none move (suc n) c xs fs e)) (subst (Q c xs fs) (sym (append-nil w)) h)
  kept_at n c xs fs w (Some t) e ih h =
      let r = run move n t.core t.items t.facts in
      subst (Keeps w) (sym (at_some move n c xs fs t e))
      (subst (Q r.core r.items r.facts) (append_assoc w t.written r.written)
      (ih t.core t.items t.facts (w ++ t.written) (each c xs fs w t e h)))

  kept_by : (n : ℕ) (c : C) (xs : List E) (fs : List F) (w : List W) → Q c xs fs w → Keeps w (run move n c xs fs)
  unfolding run
  kept_by zero c xs fs w h = subst (Q c xs fs) (sym (append-nil w)) h
  kept_by (suc n) c xs fs w h = kept_at n c xs fs w (move c xs fs) refl (λ d ys gs v k. kept_by n d ys gs v k) h

  pub all_keep : (c : C) (xs : List E) (fs : List F) → Q c xs fs []
      → let r = going move c xs fs in Q r.core r.items r.facts r.written
  unfolding going
  all_keep c xs fs h = kept_by (length xs + length fs) c xs fs [] h

-- ---- the moves of a session

abbrev pub stand : Turned → List Input → List Fact → Standing
stand turn inputs facts = record { core = turn.place; items = inputs; facts = facts; written = turn.written }

pub data Moved (config : ConnConfig) (p : Situation) : List Input → List Fact → Standing → Type 0 where
  -- after the end what comes is dropped
  drops : (i : Input) (is : List Input) (fs : List Fact) → is_ended p.state ≡ true
      → Moved config p (i ∷ is) fs (stand (goes p p.state p.doing []) is fs)
  -- what comes is taken
  takes : (i : Input) (is : List Input) (fs : List Fact) → is_ended p.state ≡ false → question_in p.doing ≡ None
      → Moved config p (i ∷ is) fs (stand (on_live config p i) is fs)
  -- the question that waits is answered
  hearkens : (q : Question) (n : Next) (fact : Fact) (is : List Input) (fs : List Fact) → is_ended p.state ≡ false → p.doing ≡ asks q n
      → fits q fact ≡ true → Moved config p is (fact ∷ fs) (stand (heard config (freed p) q n fact) is fs)

same_stand : (a b : Standing) → Some a ≡ Some b → a ≡ b
same_stand a b e = cc

live_is : (config : ConnConfig) (p : Situation) (s : ConnState) (i : Input) → is_ended s ≡ false → on_input config p s i ≡ on_live config p i
live_is config p (Ended why) i e = absurd (cc)
live_is config p _ i e = refl

ended_is : (config : ConnConfig) (p : Situation) (s : ConnState) (i : Input) → is_ended s ≡ true
    → on_input config p s i ≡ goes p p.state p.doing []
ended_is config p (Ended why) i e = refl
ended_is config p _ i e = absurd (cc)

module _ (config : ConnConfig) (p : Situation) where
  read_drops : (is : List Input) (fs : List Fact) (t : Standing) → is_ended p.state ≡ true → reads config p is fs ≡ Some t
      → Moved config p is fs t
  read_drops [] fs t e h = absurd (cc)
  read_drops (i ∷ is) fs t e h =
      subst (Moved config p (i ∷ is) fs)
      (ap (λ (u : Turned). stand u is fs) (sym (ended_is config p p.state i e)) ∙ same_stand _ t h) (drops i is fs e)

  read_takes : (is : List Input) (fs : List Fact) (t : Standing) → is_ended p.state ≡ false → question_in p.doing ≡ None
      → reads config p is fs ≡ Some t → Moved config p is fs t
  read_takes [] fs t e n h = absurd (cc)
  read_takes (i ∷ is) fs t e n h =
      subst (Moved config p (i ∷ is) fs)
      (ap (λ (u : Turned). stand u is fs) (sym (live_is config p p.state i e)) ∙ same_stand _ t h) (takes i is fs e n)

  hear_by : (q : Question) (n : Next) (fact : Fact) (is : List Input) (fs : List Fact) (t : Standing) (b : Bool) → fits q fact ≡ b
      → is_ended p.state ≡ false → p.doing ≡ asks q n
      → (if b then Some (stand (heard config (freed p) q n fact) is fs) else None) ≡ Some t → Moved config p is (fact ∷ fs) t
  hear_by q n fact is fs t true f e d h =
      subst (Moved config p is (fact ∷ fs)) (same_stand _ t h) (hearkens q n fact is fs e d f)
  hear_by q n fact is fs t false f e d h = absurd (cc)

  hear_one : (q : Question) (n : Next) (is : List Input) (fs : List Fact) (t : Standing) → is_ended p.state ≡ false → p.doing ≡ asks q n
      → hears config p q n is fs ≡ Some t → Moved config p is fs t
  hear_one q n is [] t e d h = absurd (cc)
  hear_one q n is (fact ∷ fs) t e d h = hear_by q n fact is fs t (fits q fact) refl e d h

  act_one : (d : Doing) (is : List Input) (fs : List Fact) (t : Standing) → p.doing ≡ d → is_ended p.state ≡ false
      → acts config p d is fs ≡ Some t → Moved config p is fs t
  act_one (asks q n) is fs t d e h = hear_one q n is fs t e d h
  act_one idle is fs t d e h = read_takes is fs t e (ap question_in d) h
  act_one (opened tx) is fs t d e h = read_takes is fs t e (ap question_in d) h

  go_one : (s : ConnState) (is : List Input) (fs : List Fact) (t : Standing) → p.state ≡ s → goes_by config p s is fs ≡ Some t
      → Moved config p is fs t
  go_one (Ended why) is fs t e h = read_drops is fs t (ap is_ended e) h
  go_one _ is fs t e h = act_one p.doing is fs t refl (ap is_ended e) h

  pub moved : (is : List Input) (fs : List Fact) (t : Standing) → move config p is fs ≡ Some t → Moved config p is fs t
  unfolding move
  moved is fs t h = go_one p.state is fs t refl h

-- ---- the handshake

-- where a session stands behind it
abbrev pub connected : Situation
connected = record { state = Connected; number = 0; doing = idle }

abbrev pub chosen : List ℕ
chosen = 0 ∷ 0 ∷ 4 ∷ 4 ∷ []

pub starts : (config : ConnConfig) (is : List Input) (fs : List Fact)
    → going (move config) start (shaken Chosen ∷ is) fs ≡ behind (wrote chosen ∷ []) (going (move config) connected is fs)
unfolding move
starts config is fs =
    going_some (move config) (lawful config) start (shaken Chosen ∷ is) fs
    (record { core = connected; items = is; facts = fs; written = wrote chosen ∷ [] }) refl

pub rests_at_start : (config : ConnConfig) (fs : List Fact) → going (move config) start [] fs ≡ still start [] fs
unfolding move
rests_at_start config fs = going_none (move config) (lawful config) start [] fs refl
