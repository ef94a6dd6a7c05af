-- A fact that does not let a transaction enter fails the request.
use Rattle.std.proofs.Common.{◌≡◌, ℕ, Bool, List, refl, ap, subst, ◌∙◌}
use Rattle.std.specs.Prelude.{Result, OnOk}
use Rattle.ncc_store.specs.declared.call.Call.{Call}
use Rattle.ncc_session.specs.declared.refusal.Refusal.{Refusal}
use Rattle.ncc_session.specs.declared.ask.Fact.{Fact}
use Rattle.ncc_session.specs.declared.ask.Fact.TheVariants as f
use Rattle.ncc_session.specs.Core.{Situation}
use Rattle.ncc_session.specs.Took.{Took}
use Rattle.ncc_session.specs.Turns.{Turned, fails, refusal_of, after_enter}

enter_fails : (place : Situation) (write : Bool) (call : Call) (fact : Fact) → ((at : ℕ) → fact ≡ f.Entered at → ⊥)
    → fails place (refusal_of fact) ≡ after_enter place write call fact
enter_fails place write call (f.Entered at) not = absurd (not at refl)
enter_fails place write call _ not = refl

pub entered_not : {X E : Type 0} (result : Result X E) (place to : Situation) (write : Bool) (call : Call) (fact : Fact)
    (refusal : Refusal) (before out : List ℕ) → ((at : ℕ) → fact ≡ f.Entered at → ⊥) → refusal ≡ refusal_of fact
    → OnOk result (Took (fails place refusal) before to out) → OnOk result (Took (after_enter place write call fact) before to out)
entered_not result place to write call fact refusal before out not is took =
    subst (λ (turn : Turned). OnOk result (Took turn before to out)) (ap (fails place) is ∙ enter_fails place write call fact not) took
