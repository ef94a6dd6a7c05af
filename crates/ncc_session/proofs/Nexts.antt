-- The next message, and why there is none.
use Rattle.std.proofs.Common.{◌≡◌, inl, inr, ℕ, true, false, List, [], ◌∷◌, ◌++◌, length, refl, sym, ap, ◌∙◌, subst, append-nil}
use Rattle.ncc_stream.specs.Stream.{behind}
use Rattle.ncc_chunk.specs.Chunks.{EndsAfter, IsTooLongAfter}
use Rattle.ncc_chunk.specs.Inflow.{Inflow, Stands as StandsFor, HandsOut as HandsOn}
use Rattle.ncc_session.specs.declared.config.ConnConfig.{ConnConfig}
use Rattle.ncc_session.specs.declared.state.ConnState.TheVariants.{Ended}
use Rattle.ncc_session.specs.declared.state.ConnStop.TheVariants.{MessageTooLong}
use Rattle.ncc_session.specs.Core.{idle, Situation}
use Rattle.ncc_session.specs.Took.{Took}
use Rattle.ncc_session.specs.Session.{Input, message, too_long, on_message, on_live}
use Rattle.ncc_session.specs.Talk.{inputs_behind}
use Rattle.ncc_session.specs.Steps.{may_read, Went, Nexts}
use Rattle.ncc_session.proofs.Inputs.{behind_next, behind_end, behind_long}
use Rattle.ncc_session.proofs.Moves.{went_by, went_not, stays, drops_all}

pub nexts_message : (config : ConnConfig) (p q : Situation) (d e : Inflow) (m n a b : List ℕ) → may_read p ≡ true → HandsOn d m e → n ≡ m
    → Took (on_message config p n) a q b → Nexts config p d a q e b true
nexts_message config p q d e m n a b r hands same took stream handed k =
    let next = hands stream handed k in
    let left = inputs_behind stream (length (handed ++ m ∷ [])) in
    let t : Took (on_live config p (message m)) a q b = subst (λ (n : List ℕ). Took (on_message config p n) a q b) same took in
    record {
      later = handed ++ m ∷ [];
      stands = next;
      went = subst (λ (is : List Input). Went config p is a q left b) (sym (behind_next e stream m handed next))
          (went_by config p q (message m) left a b r t);
      still = λ f. absurd (cc);
    }

pub nexts_again : (config : ConnConfig) (p : Situation) (d e : Inflow) (a : List ℕ) → e ≡ d
    → ((stream : List ℕ) (handed : List (List ℕ)) → StandsFor d stream handed → EndsAfter stream handed)
    → Nexts config p d a p e a false
nexts_again config p d e a same ends stream handed k = record {
  later = handed;
  stands = subst (λ (i : Inflow). StandsFor i stream handed) (sym same) k;
  went = went_not config p (inputs_behind stream (length handed)) a;
  still = λ f. inr (behind_end stream handed (ends stream handed k));
}

-- where the connection stands behind a message that is too long
abbrev pub stopped : Situation → Situation
stopped p = record { state = Ended (MessageTooLong p.number); number = p.number; doing = idle }

long_took : (config : ConnConfig) (p : Situation) (a : List ℕ) → Took (on_live config p too_long) a (stopped p) a
long_took config p a = record { place_is = refl; out_is = sym (append-nil a) }

long_went : (config : ConnConfig) (p : Situation) (a : List ℕ) → may_read p ≡ true
    → Went config p (too_long ∷ []) a (stopped p) (too_long ∷ []) a
long_went config p a r =
    let w = went_by config p (stopped p) too_long [] a a r (long_took config p a) in
    record {
      written = w.written;
      same = w.same ∙ ap (behind w.written) (stays config (stopped p) ∙ sym (drops_all config (stopped p) (too_long ∷ []) refl));
      out_is = w.out_is;
    }

pub nexts_long : (config : ConnConfig) (p : Situation) (d e : Inflow) (a : List ℕ) → may_read p ≡ true → e ≡ d
    → ((stream : List ℕ) (handed : List (List ℕ)) → StandsFor d stream handed → IsTooLongAfter stream handed)
    → Nexts config p d a (stopped p) e a false
nexts_long config p d e a r same long stream handed k = record {
  later = handed;
  stands = subst (λ (i : Inflow). StandsFor i stream handed) (sym same) k;
  went = subst (λ (is : List Input). Went config p is a (stopped p) is a) (sym (behind_long stream handed (long stream handed k)))
      (long_went config p a r);
  still = λ f. inl refl;
}
