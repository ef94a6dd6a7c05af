-- What a connection stands for behind a piece of the stream of messages, and behind a fact.
use Rattle.std.proofs.Common.{◌≡◌, ◌≢◌, ℕ, true, false, Some, List, [], ◌∷◌, ◌++◌, length, refl, sym, ap, ◌∙◌, subst, append-nil}
use Rattle.ncc_stream.specs.Stream.{behind, going}
use Rattle.ncc_stream.proofs.Going.{going_some}
use Rattle.ncc_chunk.specs.declared.handshake.Shake.TheVariants.{More, Chosen}
use Rattle.ncc_chunk.specs.Handshake.{answer_to, handshake_of}
use Rattle.ncc_chunk.specs.Inflow.{Inflow, Stands as StandsFor, Feeds as FeedsFlow}
use Rattle.ncc_session.specs.declared.config.ConnConfig.{ConnConfig}
use Rattle.ncc_session.specs.declared.state.ConnState.{ConnState}
use Rattle.ncc_session.specs.declared.state.ConnState.TheVariants.{Ended}
use Rattle.ncc_session.specs.declared.ask.Fact.{Fact}
use Rattle.ncc_session.specs.Question.{Question, Output, fits}
use Rattle.ncc_session.specs.Core.{Next, asks, Situation}
use Rattle.ncc_session.specs.Turns.{freed, heard}
use Rattle.ncc_session.specs.Session.{Input, Standing, stream_of, move, session, is_ended, goes_by}
use Rattle.ncc_session.specs.Talk.{talk_of, inputs_behind, HasLeft, Stands, Broke}
use Rattle.ncc_session.specs.Steps.{Begun, Settles, SettleBreaks}
use Rattle.ncc_session.proofs.Inputs.{goes_further, behind_further}
use Rattle.ncc_session.proofs.Lawful.{lawful}
use Rattle.ncc_session.proofs.Moves.{drops_all}
use Rattle.ncc_session.proofs.Shaken.{chosen_stream, chosen_inputs, same_shake}
use Rattle.ncc_session.proofs.Talks.{session_on, session_told, stands_by, broke_by, written_nil}

pub chosen_is : (shake bytes : List ℕ) → shake ≡ handshake_of bytes → answer_to shake ≡ Chosen → answer_to (handshake_of bytes) ≡ Chosen
chosen_is shake bytes e c = ap answer_to (sym e) ∙ c

not_more : (shake bytes : List ℕ) → answer_to (handshake_of bytes) ≡ Chosen → answer_to (handshake_of bytes) ≢ More
not_more shake bytes c m = let e : Chosen ≡ More = sym c ∙ m in cc

ended_none : (s : ConnState) (d : Inflow) (stream : List ℕ) → is_ended s ≡ true → HasLeft s d stream []
ended_none (Ended stop) d stream e = refl
ended_none _ d stream e = absurd (cc)

-- after the end more bytes are dropped
pub ended_stands : (config : ConnConfig) (bytes more shake : List ℕ) (facts : List Fact) (out : List ℕ) (p : Situation) (d : Inflow)
    (a : List ℕ)
    → is_ended p.state ≡ true → answer_to shake ≡ Chosen
    → Stands (talk_of false config p shake d a) config bytes facts out
    → Stands (talk_of false config p shake d a) config (bytes ++ more) facts out
ended_stands config bytes more shake facts out p d a e c k =
    let chosen = chosen_is shake bytes k.shaken c in
    let further = goes_further (stream_of bytes) more in
    let inputs = chosen_inputs bytes more further.0 chosen further.1 in
    let on = session_on config bytes more facts further.0 k.left p k.written inputs k.went in
    record {
      fine = refl;
      same = refl;
      shaken = k.shaken ∙ sym (same_shake bytes more (not_more shake bytes chosen));
      left = [];
      written = k.written;
      has_left = ended_none p.state d (stream_of (bytes ++ more)) e;
      went = on ∙ ap (behind k.written) (drops_all config p (k.left ++ further.0) e) ∙ written_nil p [] k.written;
      out_is = k.out_is;
    }

-- what a live connection has left
live_left : (s : ConnState) (d : Inflow) (stream : List ℕ) (left : List Input) → is_ended s ≡ false → HasLeft s d stream left
    → (handed : List (List ℕ)) × StandsFor d stream handed × (left ≡ inputs_behind stream (length handed))
live_left (Ended stop) d stream left e h = absurd (cc)
live_left _ d stream left e h = h

-- the session of a piece more, as far as it has inputs behind what the dechunker handed out
pub record Further (config : ConnConfig) (bytes piece : List ℕ) (facts : List Fact) (p : Situation) (d : Inflow)
    (w : List Output) : Type 0 where
  pub handed : List (List ℕ)
  pub stands : StandsFor d (stream_of (bytes ++ piece)) handed
  pub went : session config (bytes ++ piece) facts ≡ behind w
      (going (move config) p (inputs_behind (stream_of (bytes ++ piece)) (length handed)) [])

pub further_by : (config : ConnConfig) (bytes piece shake : List ℕ) (facts : List Fact) (out : List ℕ) (p : Situation) (d e : Inflow)
    (a : List ℕ)
    → is_ended p.state ≡ false → answer_to shake ≡ Chosen → FeedsFlow d piece e
    → (k : Stands (talk_of false config p shake d a) config bytes facts out) → Further config bytes piece facts p e k.written
further_by config bytes piece shake facts out p d e a live c feeds k =
    let chosen = chosen_is shake bytes k.shaken c in
    let stream = stream_of bytes in
    let more : stream_of (bytes ++ piece) ≡ stream ++ piece = chosen_stream bytes piece chosen in
    let h = live_left p.state d stream k.left live k.has_left in
    let further = goes_further stream piece in
    let inputs = chosen_inputs bytes piece further.0 chosen further.1 in
    let left : k.left ++ further.0 ≡ inputs_behind (stream_of (bytes ++ piece)) (length h.0) =
    ap (λ (is : List Input). is ++ further.0) h.2 ∙ sym (behind_further d stream piece h.0 further.0 h.1 further.1)
    ∙ ap (λ (s : List ℕ). inputs_behind s (length h.0)) (sym more) in
    record {
      handed = h.0;
      stands = subst (λ (s : List ℕ). StandsFor e s h.0) (sym more) (feeds stream h.0 h.1);
      went = session_on config bytes piece facts further.0 k.left p k.written inputs k.went
          ∙ ap (λ (is : List Input). behind k.written (going (move config) p is [])) left;
    }

-- a piece of the stream, fed and handled
pub fed_stands : (config : ConnConfig) (bytes piece shake : List ℕ) (facts : List Fact) (out : List ℕ) (p q : Situation) (d e f : Inflow)
    (a b : List ℕ) → is_ended p.state ≡ false → answer_to shake ≡ Chosen → FeedsFlow d piece e → Settles config p e a q f b
    → Stands (talk_of false config p shake d a) config bytes facts out
    → Stands (talk_of false config q shake f b) config (bytes ++ piece) facts out
fed_stands config bytes piece shake facts out p q d e f a b live c feeds settles k =
    let chosen = chosen_is shake bytes k.shaken c in
    let x = further_by config bytes piece shake facts out p d e a live c feeds k in
    stands_by config p q shake f (bytes ++ piece) out a b facts x.handed k.written
    (k.shaken ∙ sym (same_shake bytes piece (not_more shake bytes chosen))) k.out_is
    (settles (stream_of (bytes ++ piece)) x.handed x.stands) x.went

pub fed_broke : (config : ConnConfig) (bytes piece shake : List ℕ) (facts : List Fact) (out : List ℕ) (p q : Situation) (d e f : Inflow)
    (a b : List ℕ) → is_ended p.state ≡ false → answer_to shake ≡ Chosen → FeedsFlow d piece e → SettleBreaks config p e a b
    → Stands (talk_of false config p shake d a) config bytes facts out
    → Broke (talk_of true config q shake f b) config (bytes ++ piece) facts out
fed_broke config bytes piece shake facts out p q d e f a b live c feeds breaks k =
    let x = further_by config bytes piece shake facts out p d e a live c feeds k in
    broke_by config p q shake f (bytes ++ piece) out a b facts (inputs_behind (stream_of (bytes ++ piece)) (length x.handed)) k.written
    k.out_is (breaks (stream_of (bytes ++ piece)) x.handed x.stands) x.went

-- nothing more was written than before
pub still_begun : (config : ConnConfig) (p : Situation) (is : List Input) (a : List ℕ) → Begun config p is a a
still_begun config p is a =
    record { front = []; rest = (going (move config) p is []).written; begins = refl; out_is = sym (append-nil a) }

-- ---- a fact

hears_live : (config : ConnConfig) (p : Situation) (s : ConnState) (q : Question) (n : Next) (is : List Input) (fact : Fact)
    → is_ended s ≡ false → p.doing ≡ asks q n → fits q fact ≡ true
    → goes_by config p s is (fact ∷ []) ≡ Some (record {
      core = (heard config (freed p) q n fact).place;
      items = is;
      facts = [];
      written = (heard config (freed p) q n fact).written;
    })
hears_live config p (Ended stop) q n is fact e d f = absurd (cc)
hears_live config p _ q n is fact e d f = rw (d, f) refl

-- the session with one fact more, as far as it has inputs behind what the dechunker handed out
pub told_goes : (config : ConnConfig) (bytes shake : List ℕ) (facts : List Fact) (out : List ℕ) (p : Situation) (q : Question) (n : Next)
    (fact : Fact)
    (d : Inflow) (a : List ℕ) → is_ended p.state ≡ false → p.doing ≡ asks q n → fits q fact ≡ true
    → (k : Stands (talk_of false config p shake d a) config bytes facts out)
    → (handed : List (List ℕ)) × StandsFor d (stream_of bytes) handed
    × (session config bytes (facts ++ fact ∷ []) ≡ behind k.written (behind (heard config (freed p) q n fact).written
    (going (move config) (heard config (freed p) q n fact).place (inputs_behind (stream_of bytes) (length handed)) [])))
unfolding move
told_goes config bytes shake facts out p q n fact d a live doing fit k =
    let h = live_left p.state d (stream_of bytes) k.left live k.has_left in
    let u = heard config (freed p) q n fact in
    let t : Standing = record { core = u.place; items = k.left; facts = []; written = u.written } in
    let one : going (move config) p k.left (fact ∷ []) ≡ behind u.written (going (move config) u.place k.left []) =
    going_some (move config) (lawful config) p k.left (fact ∷ []) t (hears_live config p p.state q n k.left fact live doing fit) in (
      h.0,
      h.1,
      session_told config bytes facts fact k.left p k.written k.went ∙ ap (behind k.written) one
          ∙ ap (λ (is : List Input). behind k.written (behind u.written (going (move config) u.place is []))) h.2,
    )
