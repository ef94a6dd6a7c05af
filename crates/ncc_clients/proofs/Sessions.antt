-- What the layers below prove of sessions and of rows.
use Rattle.std.proofs.Common.{◌≡◌, ℕ, true, Some, List, [], ◌++◌, refl, ap, ◌∙◌, append-nil}
use Rattle.ncc_stream.specs.Stream.{behind, still, going}
use Rattle.ncc_stream.proofs.Going.{going_none}
use Rattle.ncc_session.specs.declared.config.ConnConfig.{ConnConfig}
use Rattle.ncc_session.specs.declared.ask.Fact.{Fact}
use Rattle.ncc_session.specs.Question.{Question}
use Rattle.ncc_session.specs.Session.{Input, Standing, move, start, session, asked_at, is_ended}
use Rattle.ncc_session.proofs.Lawful.{lawful}
use Rattle.ncc_session.proofs.Moves.{stays, drops_all}
use Rattle.ncc_session.proofs.Shaken.{more_none}
use Rattle.ncc_session.proofs.Talks.{session_on}
use Rattle.ncc_session.proofs.Asking_by.{inputs_grow, asks_on_bytes, asks_on_facts}
use Rattle.ncc_session.proofs.Holding.{are_transactions}
use Rattle.ncc_clients.proofs.Known.{Known, StandsStill, Fresh}
use Rattle.ncc_clients.proofs.Waiting.{waits_for_fact}
use Rattle.ncc_clients.proofs.Placed.{rows_are_kept}

parts : (r : Standing) → r.facts ≡ [] → r ≡ record { core = r.core; items = r.items; facts = []; written = r.written }
parts r e = ap (λ (fs : List Fact). record { core = r.core; items = r.items; facts = fs; written = r.written }) e

stands_still : (config : ConnConfig) (bytes piece : List ℕ) (facts : List Fact) (q : Question) → (session config bytes facts).facts ≡ []
    → asked_at (session config bytes facts).core ≡ Some q → StandsStill (session config bytes facts) (session config (bytes ++ piece) facts)
stands_still config bytes piece facts q taken asks =
    let s = session config bytes facts in
    let g = inputs_grow bytes piece in
    let none = waits_for_fact config s.core q (s.items ++ g.0) asks in
    let is : session config (bytes ++ piece) facts ≡ behind s.written (still s.core (s.items ++ g.0) []) =
    session_on config bytes piece facts g.0 s.items s.core s.written g.1 (parts s taken)
    ∙ ap (behind s.written) (going_none (move config) (lawful config) s.core (s.items ++ g.0) [] none) in
    record {
      core = ap (λ (x : Standing). x.core) is;
      written = ap (λ (x : Standing). x.written) is ∙ append-nil s.written;
      taken = ap (λ (x : Standing). x.facts) is;
    }

ended : (config : ConnConfig) (bytes piece : List ℕ) (facts : List Fact) → (session config bytes facts).facts ≡ []
    → is_ended (session config bytes facts).core.state ≡ true → is_ended (session config (bytes ++ piece) facts).core.state ≡ true
ended config bytes piece facts taken over =
    let s = session config bytes facts in
    let g = inputs_grow bytes piece in
    let is : session config (bytes ++ piece) facts ≡ behind s.written (still s.core [] []) =
    session_on config bytes piece facts g.0 s.items s.core s.written g.1 (parts s taken)
    ∙ ap (behind s.written) (drops_all config s.core (s.items ++ g.0) over) in
    ap (λ (x : Standing). is_ended x.core.state) is ∙ over

fresh : (config : ConnConfig) → Fresh (session config [] [])
unfolding session
fresh config =
    let is : session config [] [] ≡ still start [] [] =
    ap (λ (xs : List Input). going (move config) start xs []) (more_none [] refl).1 ∙ stays config start in
    record {
      asks = ap (λ (x : Standing). asked_at x.core) is;
      written = ap (λ (x : Standing). x.written) is;
      taken = ap (λ (x : Standing). x.facts) is;
    }

pub known : Known
known = record {
  on_bytes = asks_on_bytes;
  on_facts = asks_on_facts;
  in_turn = are_transactions;
  fresh = fresh;
  stands_still = stands_still;
  ended = ended;
  rows = rows_are_kept;
}
