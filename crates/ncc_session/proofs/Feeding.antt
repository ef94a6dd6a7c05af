-- What the parts of a connection owe for a piece and for a fact.
use Rattle.std.proofs.Common.{◌≡◌, ◌≢◌, ℕ, Bool, true, false, None, List, [], ◌∷◌, ◌++◌, length, take, drop, refl, sym, ap}
use Rattle.std.proofs.Common.{◌∙◌, subst, append_assoc, append-nil, take-append-drop}
use Rattle.std.specs.Prelude.{Option, if◌then◌else◌}
use Rattle.ncc_stream.specs.Stream.{behind, going}
use Rattle.ncc_stream.proofs.Going.{behind_twice}
use Rattle.ncc_chunk.specs.declared.handshake.Shake.{Shake}
use Rattle.ncc_chunk.specs.declared.handshake.Shake.TheVariants.{More, Chosen}
use Rattle.ncc_chunk.specs.Handshake.{answer_to, handshake_of}
use Rattle.ncc_chunk.specs.Inflow.{Inflow, Feeds as FeedsFlow}
use Rattle.ncc_chunk.proofs.Shaking.{whole_where_more}
use Rattle.ncc_session.specs.declared.config.ConnConfig.{ConnConfig}
use Rattle.ncc_session.specs.declared.ask.Fact.{Fact}
use Rattle.ncc_session.specs.Question.{Question, Output, bytes_of, fits}
use Rattle.ncc_session.specs.Core.{Next, Doing, asks, Situation}
use Rattle.ncc_session.specs.Turns.{freed, heard}
use Rattle.ncc_session.specs.Took.{Took}
use Rattle.ncc_session.specs.Session.{Input, Standing, on_shake, stream_of, move, session, is_ended, question_in, asked_at}
use Rattle.ncc_session.specs.Talk.{Talk, talk_of, inputs_behind, Stands, Broke, Feeds, FeedBreaks, Tells, TellBreaks, fits_at}
use Rattle.ncc_session.specs.Steps.{Settles, SettleBreaks}
use Rattle.ncc_session.proofs.Inputs.{goes_further}
use Rattle.ncc_session.proofs.Moves.{bytes_join}
use Rattle.ncc_session.proofs.Shaken.{chosen_inputs, more_none, shook}
use Rattle.ncc_session.proofs.Shakes.{at_start, shake_stands, refused_stands}
use Rattle.ncc_session.proofs.Talks.{session_on, session_told, stands_by, broke_by}
use Rattle.ncc_session.proofs.Flows.{chosen_is, ended_stands, fed_stands, fed_broke, told_goes}

-- a connection stands only for sessions of its own configuration
by_config : (t : Talk) (P : ConnConfig → List ℕ → List Fact → List ℕ → Type 0)
    → ((bytes : List ℕ) (facts : List Fact) (out : List ℕ) → Stands t t.config bytes facts out → P t.config bytes facts out)
    → (config : ConnConfig) (bytes : List ℕ) (facts : List Fact) (out : List ℕ) → Stands t config bytes facts out
    → P config bytes facts out
by_config t P f config bytes facts out k =
    subst (λ (c : ConnConfig). P c bytes facts out) k.same
    (f bytes facts out (subst (λ (c : ConnConfig). Stands t c bytes facts out) (sym k.same) k))

-- ---- pieces, one after another

pub feeds_twice : (t u w : Talk) (x y : List ℕ) → Feeds t x u → Feeds u y w → Feeds t (x ++ y) w
feeds_twice t u w x y f g config bytes facts out k =
    subst (λ (b : List ℕ). Stands w config b facts out) (append_assoc bytes x y)
    (g config (bytes ++ x) facts out (f config bytes facts out k))

pub feeds_broke : (t u w : Talk) (x y : List ℕ) → Feeds t x u → FeedBreaks u y w → FeedBreaks t (x ++ y) w
feeds_broke t u w x y f g config bytes facts out k =
    subst (λ (b : List ℕ). Broke w config b facts out) (append_assoc bytes x y)
    (g config (bytes ++ x) facts out (f config bytes facts out k))

pub feeds_none : (t : Talk) → Feeds t [] t
feeds_none t config bytes facts out k = subst (λ (b : List ℕ). Stands t config b facts out) (sym (append-nil bytes)) k

-- a piece in two parts
pub feeds_parts : (t u w : Talk) (n : ℕ) (piece rest : List ℕ) → rest ≡ drop n piece → Feeds t (take n piece) u → Feeds u rest w
    → Feeds t piece w
feeds_parts t u w n piece rest e f g =
    subst (λ (x : List ℕ). Feeds t x w) (ap (λ (v : List ℕ). take n piece ++ v) e ∙ take-append-drop n piece)
    (feeds_twice t u w (take n piece) rest f g)

pub breaks_parts : (t u w : Talk) (n : ℕ) (piece rest : List ℕ) → rest ≡ drop n piece → Feeds t (take n piece) u → FeedBreaks u rest w
    → FeedBreaks t piece w
breaks_parts t u w n piece rest e f g =
    subst (λ (x : List ℕ). FeedBreaks t x w) (ap (λ (v : List ℕ). take n piece ++ v) e ∙ take-append-drop n piece)
    (feeds_broke t u w (take n piece) rest f g)

-- ---- the handshake

pub shake_feeds : (config : ConnConfig) (p q : Situation) (d : Inflow) (shake new piece taken a b : List ℕ) (answer : Shake)
    → answer_to shake ≡ More
    → new ≡ shake ++ taken → ((stream : List ℕ) → shake ≡ handshake_of stream → new ≡ handshake_of (stream ++ piece))
    → answer ≡ answer_to new → Took (on_shake p answer) a q b
    → Feeds (talk_of false config p shake d a) taken (talk_of false config q new d b)
shake_feeds config p q d shake new piece taken a b answer more is hand same took =
    let t : Took (on_shake p (answer_to new)) a q b = subst (λ (s : Shake). Took (on_shake p s) a q b) same took in
    by_config (talk_of false config p shake d a)
    (λ (c : ConnConfig) (bytes : List ℕ) (facts : List Fact) (out : List ℕ).
    Stands (talk_of false config q new d b) c (bytes ++ taken) facts out)
    (λ bytes facts out k. (
    let e : shake ≡ handshake_of bytes = k.shaken in
    let m : answer_to (handshake_of bytes) ≡ More = ap answer_to (sym e) ∙ more in
    let i : new ≡ handshake_of bytes ++ taken = is ∙ ap (λ (s : List ℕ). s ++ taken) e in
    let n : new ≡ bytes ++ taken = i ∙ ap (λ (s : List ℕ). s ++ taken) (whole_where_more bytes m) in
    shake_stands config bytes taken new facts out p q d a b m (shook bytes piece taken new m i (hand bytes e)) n t
    (subst (λ (s : List ℕ). Stands (talk_of false config p s d a) config bytes facts out) e k)))

-- before the handshake is whole nothing was written
pub shake_breaks : (config : ConnConfig) (p q : Situation) (d e : Inflow) (shake new piece a b : List ℕ) → answer_to shake ≡ More
    → b ≡ a → FeedBreaks (talk_of false config p shake d a) piece (talk_of true config q new e b)
shake_breaks config p q d e shake new piece a b more same other bytes facts out k =
    let m : answer_to (handshake_of bytes) ≡ More = ap answer_to (sym k.shaken) ∙ more in
    let at = at_start other bytes facts p k.left k.written (more_none bytes m).1 k.went in
    record {
      spent = refl;
      front = [];
      rest = (session other (bytes ++ piece) facts).written;
      begins = refl;
      out_is = ap bytes_of (sym at.quiet) ∙ k.out_is ∙ ap (λ (v : List ℕ). out ++ v) (sym same);
    }

-- behind a handshake that chose none more bytes change nothing
pub refused_feeds : (config : ConnConfig) (p : Situation) (d : Inflow) (shake new piece a : List ℕ) → new ≡ shake → answer_to shake ≢ More
    → answer_to shake ≢ Chosen → Feeds (talk_of false config p shake d a) piece (talk_of false config p new d a)
refused_feeds config p d shake new piece a same n m =
    subst (λ (s : List ℕ). Feeds (talk_of false config p shake d a) piece (talk_of false config p s d a)) (sym same)
    (by_config (talk_of false config p shake d a)
    (λ (c : ConnConfig) (bytes : List ℕ) (facts : List Fact) (out : List ℕ).
    Stands (talk_of false config p shake d a) c (bytes ++ piece) facts out)
    (λ bytes facts out k. refused_stands config bytes piece shake facts out p d a n m k))

-- ---- the stream of messages

pub ended_feeds : (config : ConnConfig) (p : Situation) (d : Inflow) (shake piece a : List ℕ) → is_ended p.state ≡ true
    → answer_to shake ≡ Chosen → Feeds (talk_of false config p shake d a) piece (talk_of false config p shake d a)
ended_feeds config p d shake piece a e c =
    by_config (talk_of false config p shake d a)
    (λ (o : ConnConfig) (bytes : List ℕ) (facts : List Fact) (out : List ℕ).
    Stands (talk_of false config p shake d a) o (bytes ++ piece) facts out)
    (λ bytes facts out k. ended_stands config bytes piece shake facts out p d a e c k)

pub settle_feeds : (config : ConnConfig) (p q : Situation) (d e f : Inflow) (shake piece a b : List ℕ) → is_ended p.state ≡ false
    → answer_to shake ≡ Chosen → FeedsFlow d piece e → Settles config p e a q f b
    → Feeds (talk_of false config p shake d a) piece (talk_of false config q shake f b)
settle_feeds config p q d e f shake piece a b live c feeds settles =
    by_config (talk_of false config p shake d a)
    (λ (o : ConnConfig) (bytes : List ℕ) (facts : List Fact) (out : List ℕ).
    Stands (talk_of false config q shake f b) o (bytes ++ piece) facts out)
    (λ bytes facts out k. fed_stands config bytes piece shake facts out p q d e f a b live c feeds settles k)

pub settle_breaks : (config : ConnConfig) (p q : Situation) (d e f : Inflow) (shake piece a b : List ℕ) → is_ended p.state ≡ false
    → answer_to shake ≡ Chosen → FeedsFlow d piece e → SettleBreaks config p e a b
    → FeedBreaks (talk_of false config p shake d a) piece (talk_of true config q shake f b)
settle_breaks config p q d e f shake piece a b live c feeds breaks =
    by_config (talk_of false config p shake d a)
    (λ (o : ConnConfig) (bytes : List ℕ) (facts : List Fact) (out : List ℕ).
    Broke (talk_of true config q shake f b) o (bytes ++ piece) facts out)
    (λ bytes facts out k. fed_broke config bytes piece shake facts out p q d e f a b live c feeds breaks k)

-- nothing of the piece was kept
none_broke : (config : ConnConfig) (bytes piece shake : List ℕ) (facts : List Fact) (out : List ℕ) (p q : Situation) (d f : Inflow)
    (a : List ℕ) → answer_to shake ≡ Chosen → Stands (talk_of false config p shake d a) config bytes facts out
    → Broke (talk_of true config q shake f a) config (bytes ++ piece) facts out
none_broke config bytes piece shake facts out p q d f a c k =
    let further = goes_further (stream_of bytes) piece in
    let inputs = chosen_inputs bytes piece further.0 (chosen_is shake bytes k.shaken c) further.1 in
    let on = session_on config bytes piece facts further.0 k.left p k.written inputs k.went in
    record {
      spent = refl;
      front = k.written;
      rest = (going (move config) p (k.left ++ further.0) []).written;
      begins = ap (λ (s : Standing). s.written) on;
      out_is = k.out_is;
    }

pub none_breaks : (config : ConnConfig) (p q : Situation) (d f : Inflow) (shake piece a : List ℕ) → answer_to shake ≡ Chosen
    → FeedBreaks (talk_of false config p shake d a) piece (talk_of true config q shake f a)
none_breaks config p q d f shake piece a c =
    by_config (talk_of false config p shake d a)
    (λ (o : ConnConfig) (bytes : List ℕ) (facts : List Fact) (out : List ℕ).
    Broke (talk_of true config q shake f a) o (bytes ++ piece) facts out)
    (λ bytes facts out k. none_broke config bytes piece shake facts out p q d f a c k)

-- ---- a fact

-- where a fact answers the question, the session has not ended
live_fits : (ended : Bool) (o : Option Question) (fact : Fact) → fits_at (if ended then None else o) fact ≡ true
    → (ended ≡ false) × (fits_at o fact ≡ true)
live_fits true o fact e = absurd (let f : false ≡ true = e in cc)
live_fits false o fact e = (refl, e)

pub may_tell : (p : Situation) (q : Question) (n : Next) (fact : Fact) → p.doing ≡ asks q n → fits_at (asked_at p) fact ≡ true
    → (is_ended p.state ≡ false) × (fits q fact ≡ true)
may_tell p q n fact e h =
    let l = live_fits (is_ended p.state) (question_in p.doing) fact h in
    (l.0, subst (λ (d : Doing). fits_at (question_in d) fact ≡ true) e l.1)

told_out : (v w : List Output) (out a b : List ℕ) → bytes_of v ≡ out ++ a → b ≡ a ++ bytes_of w → bytes_of (v ++ w) ≡ out ++ b
told_out v w out a b e h =
    bytes_join v w ∙ ap (λ (x : List ℕ). x ++ bytes_of w) e ∙ append_assoc out a (bytes_of w)
    ∙ ap (λ (x : List ℕ). out ++ x) (sym h)

told_went : (config : ConnConfig) (s : Standing) (v w : List Output) (p r : Situation) (left : List Input) → r ≡ p
    → s ≡ behind v (behind w (going (move config) p left [])) → s ≡ behind (v ++ w) (going (move config) r left [])
told_went config s v w p r left e h =
    h ∙ behind_twice v w (going (move config) p left [])
    ∙ ap (λ (x : Situation). behind (v ++ w) (going (move config) x left [])) (sym e)

-- the fact was taken, and what came behind was handled
told_stands : (config : ConnConfig) (bytes shake : List ℕ) (facts : List Fact) (out : List ℕ) (p r s : Situation) (q : Question) (n : Next)
    (fact : Fact) (d f : Inflow) (a b c : List ℕ) → is_ended p.state ≡ false → p.doing ≡ asks q n → fits q fact ≡ true
    → Took (heard config (freed p) q n fact) a r b → Settles config r d b s f c
    → Stands (talk_of false config p shake d a) config bytes facts out
    → Stands (talk_of false config s shake f c) config bytes (facts ++ fact ∷ []) out
told_stands config bytes shake facts out p r s q n fact d f a b c live doing fit took settles k =
    let x = told_goes config bytes shake facts out p q n fact d a live doing fit k in
    let u = heard config (freed p) q n fact in
    let left = inputs_behind (stream_of bytes) (length x.0) in
    stands_by config r s shake f bytes out b c (facts ++ fact ∷ []) x.0 (k.written ++ u.written) k.shaken
    (told_out k.written u.written out a b k.out_is took.out_is)
    (settles (stream_of bytes) x.0 x.1)
    (told_went config (session config bytes (facts ++ fact ∷ [])) k.written u.written u.place r left took.place_is x.2)

told_broke : (config : ConnConfig) (bytes shake : List ℕ) (facts : List Fact) (out : List ℕ) (p r s : Situation) (q : Question) (n : Next)
    (fact : Fact) (d f : Inflow) (a b c : List ℕ) → is_ended p.state ≡ false → p.doing ≡ asks q n → fits q fact ≡ true
    → Took (heard config (freed p) q n fact) a r b → SettleBreaks config r d b c
    → Stands (talk_of false config p shake d a) config bytes facts out
    → Broke (talk_of true config s shake f c) config bytes (facts ++ fact ∷ []) out
told_broke config bytes shake facts out p r s q n fact d f a b c live doing fit took breaks k =
    let x = told_goes config bytes shake facts out p q n fact d a live doing fit k in
    let u = heard config (freed p) q n fact in
    let left = inputs_behind (stream_of bytes) (length x.0) in
    broke_by config r s shake f bytes out b c (facts ++ fact ∷ []) left (k.written ++ u.written)
    (told_out k.written u.written out a b k.out_is took.out_is)
    (breaks (stream_of bytes) x.0 x.1)
    (told_went config (session config bytes (facts ++ fact ∷ [])) k.written u.written u.place r left took.place_is x.2)

-- the fact was not taken
untold_broke : (config : ConnConfig) (bytes shake : List ℕ) (facts : List Fact) (out : List ℕ) (p s : Situation) (fact : Fact) (d f : Inflow)
    (a : List ℕ) → Stands (talk_of false config p shake d a) config bytes facts out
    → Broke (talk_of true config s shake f a) config bytes (facts ++ fact ∷ []) out
untold_broke config bytes shake facts out p s fact d f a k = record {
  spent = refl;
  front = k.written;
  rest = (going (move config) p k.left (fact ∷ [])).written;
  begins = ap (λ (s : Standing). s.written) (session_told config bytes facts fact k.left p k.written k.went);
  out_is = k.out_is;
}

pub tells_by : (config : ConnConfig) (p r s : Situation) (q : Question) (n : Next) (fact : Fact) (d f : Inflow) (shake a b c : List ℕ)
    → p.doing ≡ asks q n → fits_at (asked_at p) fact ≡ true → Took (heard config (freed p) q n fact) a r b → Settles config r d b s f c
    → Tells (talk_of false config p shake d a) fact (talk_of false config s shake f c)
tells_by config p r s q n fact d f shake a b c doing fit took settles =
    let m = may_tell p q n fact doing fit in
    by_config (talk_of false config p shake d a)
    (λ (o : ConnConfig) (bytes : List ℕ) (facts : List Fact) (out : List ℕ).
    Stands (talk_of false config s shake f c) o bytes (facts ++ fact ∷ []) out)
    (λ bytes facts out k. told_stands config bytes shake facts out p r s q n fact d f a b c m.0 doing m.1 took settles k)

pub tells_broke : (config : ConnConfig) (p r s : Situation) (q : Question) (n : Next) (fact : Fact) (d f : Inflow) (shake a b c : List ℕ)
    → p.doing ≡ asks q n → fits_at (asked_at p) fact ≡ true → Took (heard config (freed p) q n fact) a r b
    → SettleBreaks config r d b c → TellBreaks (talk_of false config p shake d a) fact (talk_of true config s shake f c)
tells_broke config p r s q n fact d f shake a b c doing fit took breaks =
    let m = may_tell p q n fact doing fit in
    by_config (talk_of false config p shake d a)
    (λ (o : ConnConfig) (bytes : List ℕ) (facts : List Fact) (out : List ℕ).
    Broke (talk_of true config s shake f c) o bytes (facts ++ fact ∷ []) out)
    (λ bytes facts out k. told_broke config bytes shake facts out p r s q n fact d f a b c m.0 doing m.1 took breaks k)

pub untold_breaks : (config : ConnConfig) (p s : Situation) (fact : Fact) (d f : Inflow) (shake a b : List ℕ) → b ≡ a
    → TellBreaks (talk_of false config p shake d a) fact (talk_of true config s shake f b)
untold_breaks config p s fact d f shake a b same =
    subst (λ (o : List ℕ). TellBreaks (talk_of false config p shake d a) fact (talk_of true config s shake f o)) (sym same)
    (by_config (talk_of false config p shake d a)
    (λ (o : ConnConfig) (bytes : List ℕ) (facts : List Fact) (out : List ℕ).
    Broke (talk_of true config s shake f a) o bytes (facts ++ fact ∷ []) out)
    (λ bytes facts out k. untold_broke config bytes shake facts out p s fact d f a k))
