-- What the calls make of the session that a connection stands for.
use Rattle.std.proofs.Common.{◌≡◌, ℕ, true, false, List, [], ◌∷◌, ◌++◌, length, refl, sym, ap, ◌∙◌}
use Rattle.std.proofs.Common.{append_assoc, append-nil}
use Rattle.ncc_stream.specs.Stream.{behind, still, going, going_on}
use Rattle.ncc_stream.proofs.Going.{behind_twice, goes_on}
use Rattle.ncc_chunk.specs.Handshake.{handshake_of}
use Rattle.ncc_chunk.specs.Inflow.{Inflow, Stands as StandsFor}
use Rattle.ncc_session.specs.declared.config.ConnConfig.{ConnConfig}
use Rattle.ncc_session.specs.declared.state.ConnState.{ConnState}
use Rattle.ncc_session.specs.declared.state.ConnState.TheVariants.{Ended}
use Rattle.ncc_session.specs.declared.ask.Fact.{Fact}
use Rattle.ncc_session.specs.Question.{Output, bytes_of}
use Rattle.ncc_session.specs.Core.{Situation}
use Rattle.ncc_session.specs.Session.{Input, Standing, inputs_of, stream_of, move, start, session, is_ended}
use Rattle.ncc_session.specs.Talk.{talk_of, inputs_behind, HasLeft, Stands, Broke}
use Rattle.ncc_session.specs.Steps.{Gone, Begun}
use Rattle.ncc_session.proofs.Lawful.{lawful}
use Rattle.ncc_session.proofs.Moves.{rests_at, bytes_join}

-- the session of more bytes goes on from where it stood
pub session_on : (config : ConnConfig) (bytes more : List ℕ) (facts : List Fact) (later left : List Input) (p : Situation) (w : List Output)
    → inputs_of (bytes ++ more) ≡ inputs_of bytes ++ later
    → session config bytes facts ≡ record { core = p; items = left; facts = []; written = w }
    → session config (bytes ++ more) facts ≡ behind w (going (move config) p (left ++ later) [])
unfolding session
session_on config bytes more facts later left p w e s =
    ap (λ (is : List Input). going (move config) start is facts) e
    ∙ ap (λ (fs : List Fact). going (move config) start (inputs_of bytes ++ later) fs) (sym (append-nil facts))
    ∙ goes_on (move config) (lawful config) start (inputs_of bytes) later facts []
    ∙ ap (λ (r : Standing). going_on (move config) r later []) s

-- and of one more fact
pub session_told : (config : ConnConfig) (bytes : List ℕ) (facts : List Fact) (fact : Fact) (left : List Input) (p : Situation)
    (w : List Output)
    → session config bytes facts ≡ record { core = p; items = left; facts = []; written = w }
    → session config bytes (facts ++ fact ∷ []) ≡ behind w (going (move config) p left (fact ∷ []))
unfolding session
session_told config bytes facts fact left p w s =
    ap (λ (is : List Input). going (move config) start is (facts ++ fact ∷ [])) (sym (append-nil (inputs_of bytes)))
    ∙ goes_on (move config) (lawful config) start (inputs_of bytes) [] facts (fact ∷ [])
    ∙ ap (λ (r : Standing). going_on (move config) r [] (fact ∷ [])) s
    ∙ ap (λ (is : List Input). behind w (going (move config) p is (fact ∷ []))) (append-nil left)

has_left_by : (s : ConnState) (d : Inflow) (stream : List ℕ) (later : List (List ℕ)) (kept : List Input) → StandsFor d stream later
    → (is_ended s ≡ true → kept ≡ []) → (is_ended s ≡ false → kept ≡ inputs_behind stream (length later)) → HasLeft s d stream kept
has_left_by (Ended stop) d stream later kept k none all = none refl
has_left_by _ d stream later kept k none all = (later, k, all refl)

pub written_nil : (p : Situation) (kept : List Input) (w : List Output)
    → behind w (still {C = Situation} {E = Input} {F = Fact} {W = Output} p kept [])
    ≡ record { core = p; items = kept; facts = []; written = w }
written_nil p kept w = ap (λ (x : List Output). record { core = p; items = kept; facts = []; written = x }) (append-nil w)

-- what a connection stands for behind some steps
pub stands_by : (config : ConnConfig) (p q : Situation) (shake : List ℕ) (d : Inflow) (bytes out a b : List ℕ) (facts : List Fact)
    (handed : List (List ℕ)) (w : List Output) → shake ≡ handshake_of bytes
    → bytes_of w ≡ out ++ a
    → (g : Gone config p a q d b (stream_of bytes) handed false)
    → session config bytes facts ≡ behind w (going (move config) p (inputs_behind (stream_of bytes) (length handed)) [])
    → Stands (talk_of false config q shake d b) config bytes facts out
stands_by config p q shake d bytes out a b facts handed w shaken o g s =
    let left = inputs_behind (stream_of bytes) (length g.later) in
    let r = rests_at config q left (is_ended q.state) refl (g.still refl) in
    record {
      fine = refl;
      same = refl;
      shaken = shaken;
      left = r.0;
      written = w ++ g.went.written;
      has_left = has_left_by q.state d (stream_of bytes) g.later r.0 g.stands r.1.none r.1.all;
      went = s ∙ ap (behind w) g.went.same ∙ behind_twice w g.went.written (going (move config) q left [])
          ∙ ap (behind (w ++ g.went.written)) r.1.same ∙ written_nil q r.0 (w ++ g.went.written);
      out_is = bytes_join w g.went.written ∙ ap (λ (x : List ℕ). x ++ bytes_of g.went.written) o
          ∙ append_assoc out a (bytes_of g.went.written) ∙ ap (λ (x : List ℕ). out ++ x) (sym g.went.out_is);
    }

-- what a connection that found no memory has written
pub broke_by : (config : ConnConfig) (p q : Situation) (shake : List ℕ) (d : Inflow) (bytes out a b : List ℕ) (facts : List Fact)
    (is : List Input) (w : List Output) → bytes_of w ≡ out ++ a → Begun config p is a b
    → session config bytes facts ≡ behind w (going (move config) p is [])
    → Broke (talk_of true config q shake d b) config bytes facts out
broke_by config p q shake d bytes out a b facts is w o g s = record {
  spent = refl;
  front = w ++ g.front;
  rest = g.rest;
  begins = ap (λ (x : Standing). x.written) s ∙ ap (λ (x : List Output). w ++ x) g.begins ∙ sym (append_assoc w g.front g.rest);
  out_is = bytes_join w g.front ∙ ap (λ (x : List ℕ). x ++ bytes_of g.front) o ∙ append_assoc out a (bytes_of g.front)
      ∙ ap (λ (x : List ℕ). out ++ x) (sym g.out_is);
}
