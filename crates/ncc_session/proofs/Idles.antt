-- Whether nothing is unfinished, by what a connection keeps and by the session that it stands for.
use Rattle.std.proofs.Common.{◌≡◌, ℕ, Bool, true, false, cond, IsTrue, Some, None, List, [], ◌∷◌, take, refl, sym, ap, ◌∙◌, subst}
use Rattle.std.specs.Prelude.{◌↔◌, Option, bytes_eq}
use Rattle.ncc_chunk.specs.Handshake.{magic, handshake_of}
use Rattle.ncc_chunk.specs.Inflow.{Inflow}
use Rattle.ncc_session.specs.declared.state.ConnState.{ConnState}
use Rattle.ncc_session.specs.declared.state.ConnState.TheVariants.{Shaking, Ended}
use Rattle.ncc_session.specs.Question.{Question}
use Rattle.ncc_session.specs.Core.{Situation}
use Rattle.ncc_session.specs.Session.{Input, Standing, stream_of, question_in}
use Rattle.ncc_session.specs.Talk.{Talk, HasLeft, IdleBy, IdleAt, RestsBy, Rests, SaysIdle}

some_shake : (b : Bool) (x : ℕ) (xs : List ℕ) → cond b (take 20 (x ∷ xs)) (take 4 (x ∷ xs)) ≡ [] → ⊥
some_shake true x xs e = cc
some_shake false x xs e = cc

-- only of no bytes there is no handshake
empty_shake : (bytes : List ℕ) → handshake_of bytes ≡ [] → bytes ≡ []
empty_shake [] e = refl
empty_shake (x ∷ xs) e = absurd (some_shake (bytes_eq (take 4 (x ∷ xs)) magic) x xs e)

idle_by : (s : ConnState) (q : Option Question) (shake : List ℕ) (d : Inflow) (answer : Bool) (bytes : List ℕ) (left : List Input)
    → IdleBy s q shake d answer → shake ≡ handshake_of bytes → HasLeft s d (stream_of bytes) left → (IsTrue answer ↔ RestsBy s q bytes)
idle_by (Ended stop) q shake d answer bytes left h e l = (λ _. tt, λ _. h)
idle_by Shaking q shake d answer bytes left h e l = (λ a. empty_shake bytes (sym e ∙ h.0 a), λ n. h.1 (e ∙ ap handshake_of n))
idle_by _ (Some q) shake d answer bytes left h e l = (λ a. absurd (let f = h in cc), λ x. absurd x)
idle_by _ None shake d answer bytes left h e l = h (stream_of bytes) l.0 l.1

pub says_idle : (t : Talk) (answer : Bool) → IdleAt t answer → SaysIdle t answer
says_idle t answer h config bytes facts out k =
    subst (λ (p : Situation). IsTrue answer ↔ Rests p bytes) (ap (λ (s : Standing). s.core) (sym k.went))
    (idle_by t.place.state (question_in t.place.doing) t.shake t.inflow answer bytes k.left h k.shaken k.has_left)
