-- What the calls of a connection that handle nothing owe.
use Rattle.std.proofs.Common.{◌≡◌, ℕ, true, false, None, List, [], ◌++◌, refl, sym, ap, ◌∙◌, subst, append-nil}
use Rattle.std.specs.Prelude.{if◌then◌else◌}
use Rattle.ncc_stream.specs.Stream.{going}
use Rattle.ncc_chunk.specs.Inflow.{Inflow, Stands as StandsFor}
use Rattle.ncc_session.specs.declared.config.ConnConfig.{ConnConfig}
use Rattle.ncc_session.specs.declared.ask.Fact.{Fact}
use Rattle.ncc_session.specs.Core.{Situation}
use Rattle.ncc_session.specs.Session.{Input, Standing, move, start, session, asked_at}
use Rattle.ncc_session.specs.Talk.{Talk, talk_of, Stands, FeedBreaks, TellBreaks, HandsOut, Shows, asked}
use Rattle.ncc_session.proofs.Moves.{stays}
use Rattle.ncc_session.proofs.Shaken.{more_none}
use Rattle.ncc_session.proofs.Shakes.{drop_none}

-- a new connection
new_stands : (config : ConnConfig) (d : Inflow) → StandsFor d [] [] → Stands (talk_of false config start [] d []) config [] [] []
unfolding session
new_stands config d k = record {
  fine = refl;
  same = refl;
  shaken = refl;
  left = [];
  written = [];
  has_left = ([], k, sym (drop_none 0));
  went = ap (λ (is : List Input). going (move config) start is []) (more_none [] refl).1 ∙ stays config start;
  out_is = refl;
}

pub new_by : (config : ConnConfig) (d : Inflow) (shake out : List ℕ) → shake ≡ [] → out ≡ [] → StandsFor d [] []
    → Stands (talk_of false config start shake d out) config [] [] []
new_by config d shake out e f k =
    subst (λ (s : List ℕ). Stands (talk_of false config start s d out) config [] [] []) (sym e)
    (subst (λ (o : List ℕ). Stands (talk_of false config start [] d o) config [] [] []) (sym f) (new_stands config d k))

-- what is handed out is no longer held
pub hands_out : (t : Talk) → HandsOut t t.out (record t { out = [] })
hands_out t config bytes facts out k = record {
  fine = k.fine;
  same = k.same;
  shaken = k.shaken;
  left = k.left;
  written = k.written;
  has_left = k.has_left;
  went = k.went;
  out_is = k.out_is ∙ sym (append-nil (out ++ t.out));
}

-- the question and the state are the session's
pub shows_asked : (t : Talk) → Shows asked_at t (asked t)
shows_asked t config bytes facts out k =
    ap (λ b. if b then None else asked_at t.place) k.fine ∙ ap (λ (s : Standing). asked_at s.core) (sym k.went)

pub shows_state : (t : Talk) → Shows (λ (p : Situation). p.state) t t.place.state
shows_state t config bytes facts out k = ap (λ (s : Standing). s.core.state) (sym k.went)

-- a spent connection stands for nothing
pub spent_feed : (t u : Talk) (piece : List ℕ) → t.spent ≡ true → FeedBreaks t piece u
spent_feed t u piece e config bytes facts out k = absurd (let f = k.fine in cc)

pub spent_tell : (t u : Talk) (fact : Fact) → t.spent ≡ true → TellBreaks t fact u
spent_tell t u fact e config bytes facts out k = absurd (let f = k.fine in cc)
