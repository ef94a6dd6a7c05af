-- How a connection ends where its bytes do.
use Rattle.std.proofs.Common.{◌≡◌, inl, inr, ℕ, Bool, true, false, IsTrue, Option, Some, None, List, refl, sym, ap, subst}
use Rattle.std.specs.Prelude.{if◌then◌else◌}
use Rattle.ncc_chunk.specs.Chunks.{IsBetweenMessages}
use Rattle.ncc_session.specs.declared.config.ConnConfig.{ConnConfig}
use Rattle.ncc_session.specs.declared.state.ConnState.{ConnState}
use Rattle.ncc_session.specs.declared.state.ConnState.TheVariants.{Shaking, Ended}
use Rattle.ncc_session.specs.declared.ask.Fact.{Fact}
use Rattle.ncc_session.specs.Question.{Question}
use Rattle.ncc_session.specs.Core.{Situation}
use Rattle.ncc_session.specs.Session.{Standing, session, stream_of, is_ended, question_in}
use Rattle.ncc_session.specs.Talk.{Talk, Stands, SaysIdle, Rests, RestsBy, asked}
use Rattle.ncc_server.specs.declared.end.ConnEnd.TheVariants as end
use Rattle.ncc_server.specs.Serving.{IsBetween}
use Rattle.ncc_server.specs.Live.{OverAs}

rests_is : (s : ConnState) (q : Option Question) (bytes : List ℕ) → (s ≡ Shaking → ⊥) → is_ended s ≡ false → q ≡ None
    → (RestsBy s q bytes → IsBetweenMessages (stream_of bytes)) × (IsBetweenMessages (stream_of bytes) → RestsBy s q bytes)
rests_is (Ended why) q bytes n live e = absurd (cc)
rests_is Shaking q bytes n live e = absurd (n refl)
rests_is _ (Some q) bytes n live e = absurd (cc)
rests_is _ None bytes n live e = (λ h. h, λ h. h)

none_of : (b c : Bool) (o : Option Question) → (if b then None else (if c then None else o)) ≡ None → b ≡ false → c ≡ false → o ≡ None
none_of false false o e f g = e
none_of true c o e f g = absurd (cc)
none_of false true o e f g = absurd (cc)

module _ (talk : Talk) (shaken : talk.place.state ≡ Shaking → ⊥) (live : is_ended talk.place.state ≡ false) (none : asked talk ≡ None)
    (config : ConnConfig) (bytes : List ℕ) (facts : List Fact) (out : List ℕ) (k : Stands talk config bytes facts out) where
  here : (Rests talk.place bytes → IsBetweenMessages (stream_of bytes)) × (IsBetweenMessages (stream_of bytes) → Rests talk.place bytes)
  here = rests_is talk.place.state (question_in talk.place.doing) bytes shaken live
      (none_of talk.spent (is_ended talk.place.state) (question_in talk.place.doing) none k.fine live)

  core : (session config bytes facts).core ≡ talk.place
  core = ap (λ (s : Standing). s.core) k.went

  pub is_between : Rests (session config bytes facts).core bytes → IsBetween talk.place.state bytes
  is_between h = record { shaken = shaken; between = here.0 (subst (λ (p : Situation). Rests p bytes) core h) }

  pub is_resting : IsBetween talk.place.state bytes → Rests (session config bytes facts).core bytes
  is_resting b = subst (λ (p : Situation). Rests p bytes) (sym core) (here.1 b.between)

pub over_idle : (talk : Talk) (answer : Bool) → SaysIdle talk answer → answer ≡ true → (talk.place.state ≡ Shaking → ⊥)
    → is_ended talk.place.state ≡ false → asked talk ≡ None → OverAs talk end.Closed
over_idle talk answer says e shaken live none config bytes facts out k =
    inl (refl, is_between talk shaken live none config bytes facts out k ((says config bytes facts out k).0 e))

false_not : (b : Bool) → b ≡ false → IsTrue b → ⊥
false_not b e h = cc

pub over_busy : (talk : Talk) (answer : Bool) → SaysIdle talk answer → answer ≡ false → (talk.place.state ≡ Shaking → ⊥)
    → is_ended talk.place.state ≡ false → asked talk ≡ None → OverAs talk end.Truncated
over_busy talk answer says e shaken live none config bytes facts out k =
    inr (refl, λ b. false_not answer e ((says config bytes facts out k).1 (is_resting talk shaken live none config bytes facts out k b)))
