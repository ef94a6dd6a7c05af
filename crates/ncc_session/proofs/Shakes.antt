-- What a connection stands for behind a piece of its handshake, and behind pieces that change nothing.
use Rattle.std.proofs.Common.{◌≡◌, ◌≢◌, ℕ, zero, suc, false, None, Some, List, [], ◌++◌, length, drop, refl, sym}
use Rattle.std.proofs.Common.{ap, ◌∙◌, subst, append-nil, append_assoc}
use Rattle.ncc_stream.specs.Stream.{behind, going}
use Rattle.ncc_stream.proofs.Going.{going_none, going_some}
use Rattle.ncc_chunk.specs.declared.handshake.Shake.{Shake}
use Rattle.ncc_chunk.specs.declared.handshake.Shake.TheVariants.{More, Chosen, BadMagic, NoVersion}
use Rattle.ncc_chunk.specs.Handshake.{answer_to, handshake_of}
use Rattle.ncc_chunk.specs.Inflow.{Inflow, Stands as StandsFor}
use Rattle.ncc_session.specs.declared.config.ConnConfig.{ConnConfig}
use Rattle.ncc_session.specs.declared.state.ConnState.{ConnState}
use Rattle.ncc_session.specs.declared.state.ConnState.TheVariants.{Ended}
use Rattle.ncc_session.specs.declared.ask.Fact.{Fact}
use Rattle.ncc_session.specs.Question.{Output, bytes_of}
use Rattle.ncc_session.specs.Core.{Situation}
use Rattle.ncc_session.specs.Took.{Took}
use Rattle.ncc_session.specs.Session.{Input, Standing, shaken_as, on_shake, inputs_of, stream_of, stream_inputs, move, start, session}
use Rattle.ncc_session.specs.Talk.{talk_of, HasLeft, Stands}
use Rattle.ncc_session.proofs.Inputs.{none_of_none}
use Rattle.ncc_session.proofs.Lawful.{lawful}
use Rattle.ncc_session.proofs.Moves.{stays}
use Rattle.ncc_session.proofs.Shaken.{Shook, more_none, refused_same, same_shake}

pub start_waits : (config : ConnConfig) (facts : List Fact) → move config start [] facts ≡ None
unfolding move
start_waits config facts = refl

-- with no input the session is at its start, and took no fact
pub record AtStart (facts : List Fact) (p : Situation) (left : List Input) (w : List Output) : Type 0 where
  pub place : p ≡ start
  pub none : left ≡ []
  pub untold : facts ≡ []
  pub quiet : w ≡ []

pub at_start : (config : ConnConfig) (bytes : List ℕ) (facts : List Fact) (p : Situation) (left : List Input) (w : List Output)
    → inputs_of bytes ≡ [] → session config bytes facts ≡ record { core = p; items = left; facts = []; written = w }
    → AtStart facts p left w
unfolding session
at_start config bytes facts p left w e s =
    let x : Standing = record { core = p; items = left; facts = []; written = w } in
    let y : Standing = record { core = start; items = []; facts = facts; written = [] } in
    let here : x ≡ y =
    sym s ∙ ap (λ (is : List Input). going (move config) start is facts) e
    ∙ going_none (move config) (lawful config) start [] facts (start_waits config facts) in
    record {
      place = ap (λ (x : Standing). x.core) here;
      none = ap (λ (x : Standing). x.items) here;
      untold = sym (ap (λ (x : Standing). x.facts) here);
      quiet = ap (λ (x : Standing). x.written) here;
    }

pub shake_moves : (config : ConnConfig) (a : Shake) → a ≢ More
    → move config start (shaken_as a) [] ≡ Some
    (record { core = (on_shake start a).place; items = []; facts = []; written = (on_shake start a).written })
unfolding move
shake_moves config More n = absurd (n refl)
shake_moves config Chosen n = refl
shake_moves config BadMagic n = refl
shake_moves config NoVersion n = refl

shake_runs : (config : ConnConfig) (a : Shake) → a ≢ More
    → going (move config) start (shaken_as a) [] ≡ record {
      core = (on_shake start a).place;
      items = [];
      facts = [];
      written =
          (on_shake start a).written;
    }
shake_runs config a n =
    let p = (on_shake start a).place in
    let w = (on_shake start a).written in
    let t : Standing = record { core = p; items = []; facts = []; written = w } in
    going_some (move config) (lawful config) start (shaken_as a) [] t (shake_moves config a n)
    ∙ ap (behind w) (stays config p)
    ∙ ap (λ (x : List Output). record { core = p; items = []; facts = []; written = x }) (append-nil w)

-- what a handshake settles to, or that it isn't whole
shake_goes : (config : ConnConfig) (a : Shake)
    → going (move config) start (shaken_as a) [] ≡ record {
      core = (on_shake start a).place;
      items = [];
      facts = [];
      written =
          (on_shake start a).written;
    }
shake_goes config More = stays config start
shake_goes config Chosen = shake_runs config Chosen (λ e. cc)
shake_goes config BadMagic = shake_runs config BadMagic (λ e. cc)
shake_goes config NoVersion = shake_runs config NoVersion (λ e. cc)

of_none : (k : ℕ) → drop {A = Input} k [] ≡ []
of_none zero = refl
of_none (suc k) = refl

pub drop_none : (n : ℕ) → drop n (stream_inputs []) ≡ []
drop_none n = ap (drop n) none_of_none ∙ of_none n

-- none is left where no stream has come
none_left : (s : ConnState) (d : Inflow) (handed : List (List ℕ)) → StandsFor d [] handed → HasLeft s d [] []
none_left (Ended stop) d handed k = refl
none_left _ d handed k = (handed, k, sym (drop_none (length handed)))

shaking_holds : (p : Situation) (d : Inflow) (stream : List ℕ) (left : List Input) → p ≡ start → stream ≡ [] → HasLeft p.state d stream left
    → (handed : List (List ℕ)) × StandsFor d [] handed
shaking_holds p d stream left e s h =
    let k : HasLeft start.state d stream left = subst (λ (x : Situation). HasLeft x.state d stream left) e h in
    (k.0, subst (λ (x : List ℕ). StandsFor d x k.0) s k.1)

pub shake_stands : (config : ConnConfig) (bytes taken new : List ℕ) (facts : List Fact) (out : List ℕ) (p q : Situation) (d : Inflow)
    (a b : List ℕ)
    → answer_to (handshake_of bytes) ≡ More → Shook bytes taken → new ≡ bytes ++ taken
    → Took (on_shake p (answer_to new)) a q b
    → Stands (talk_of false config p (handshake_of bytes) d a) config bytes facts out
    → Stands (talk_of false config q new d b) config (bytes ++ taken) facts out
unfolding session
shake_stands config bytes taken new facts out p q d a b e h n t k =
    let none = more_none bytes e in
    let at = at_start config bytes facts p k.left k.written none.1 k.went in
    let answer = answer_to new in
    let turn = on_shake start answer in
    let place : q ≡ turn.place = t.place_is ∙ ap (λ (x : Situation). (on_shake x answer).place) at.place in
    let wrote : b ≡ a ++ bytes_of turn.written = t.out_is ∙ ap (λ (x : Situation). a ++ bytes_of (on_shake x answer).written) at.place in
    let held = shaking_holds p d (stream_of bytes) k.left at.place none.0 k.has_left in
    let nothing : [] ≡ out ++ a = ap bytes_of (sym at.quiet) ∙ k.out_is in
    record {
      fine = refl;
      same = refl;
      shaken = n ∙ sym h.shake;
      left = [];
      written = turn.written;
      has_left = subst (λ (x : List ℕ). HasLeft q.state d x []) (sym h.stream) (none_left q.state d held.0 held.1);
      went = ap (λ (is : List Input). going (move config) start is facts) (h.inputs ∙ ap (λ (v : List ℕ). shaken_as (answer_to v)) (sym n))
          ∙ ap (λ (fs : List Fact). going (move config) start (shaken_as answer) fs) at.untold
          ∙ shake_goes config answer
          ∙ ap (λ (x : Situation). record { core = x; items = []; facts = []; written = turn.written }) (sym place);
      out_is = ap (λ (v : List ℕ). v ++ bytes_of turn.written) nothing ∙ append_assoc out a (bytes_of turn.written)
          ∙ ap (λ (v : List ℕ). out ++ v) (sym wrote);
    }

-- behind a handshake that chose none, and behind the end, more bytes change nothing
pub refused_stands : (config : ConnConfig) (bytes more shake : List ℕ) (facts : List Fact) (out : List ℕ) (p : Situation) (d : Inflow)
    (a : List ℕ)
    → answer_to shake ≢ More → answer_to shake ≢ Chosen
    → Stands (talk_of false config p shake d a) config bytes facts out
    → Stands (talk_of false config p shake d a) config (bytes ++ more) facts out
unfolding session
refused_stands config bytes more shake facts out p d a n m k =
    let x : answer_to (handshake_of bytes) ≢ More = λ e. n (ap answer_to k.shaken ∙ e) in
    let y : answer_to (handshake_of bytes) ≢ Chosen = λ e. m (ap answer_to k.shaken ∙ e) in
    let same = refused_same bytes more x y in
    record {
      fine = refl;
      same = refl;
      shaken = k.shaken ∙ sym (same_shake bytes more x);
      left = k.left;
      written = k.written;
      has_left = subst (λ (v : List ℕ). HasLeft p.state d v k.left) (sym same.0) k.has_left;
      went = ap (λ (is : List Input). going (move config) start is facts) same.1 ∙ k.went;
      out_is = k.out_is;
    }
