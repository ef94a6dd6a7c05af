-- Turns of a served connection, and its ends.
use Rattle.std.proofs.Common.{◌≡◌, ◌⊎◌, inl, inr, ℕ, ◌+◌, ◌<◌, ◌≤◌, false, Option, Some, None, List, [], ◌++◌, length, refl, sym, ap}
use Rattle.std.proofs.Common.{◌∙◌, subst, append-nil, length-append, arith}
use Rattle.std.specs.Io.KnownBytes.{Consumes}
use Rattle.ncc_session.specs.declared.config.ConnConfig.{ConnConfig}
use Rattle.ncc_session.specs.declared.state.ConnState.{ConnState}
use Rattle.ncc_session.specs.declared.state.ConnState.TheVariants.{Ended}
use Rattle.ncc_session.specs.declared.state.ConnStop.{ConnStop}
use Rattle.ncc_session.specs.declared.state.ConnStop.TheVariants as stop
use Rattle.ncc_session.specs.declared.ask.Fact.{Fact}
use Rattle.ncc_session.specs.Session.{Standing, session, asked_at, is_ended}
use Rattle.ncc_session.specs.Talk.{Talk, Stands, asked}
use Rattle.ncc_session.specs.Question.{bytes_of, questions_of}
use Rattle.ncc_session.specs.Session.{Input, start, move}
use Rattle.ncc_session.specs.Asking.{waiting}
use Rattle.ncc_stream.specs.Stream.{still, going}
use Rattle.ncc_session.proofs.Conns.{shows_asked}
use Rattle.ncc_session.proofs.Moves.{stays}
use Rattle.ncc_session.proofs.Shaken.{more_none}
use Rattle.ncc_session.proofs.Never.{NeverMemory, never_memory}
use Rattle.ncc_server.specs.declared.end.ConnEnd.{ConnEnd}
use Rattle.ncc_server.specs.declared.end.ConnEnd.TheVariants as end
use Rattle.ncc_server.specs.declared.serving.Broken.{Broken}
use Rattle.ncc_server.specs.declared.serving.Broken.TheVariants as broken
use Rattle.ncc_server.specs.Answered.{Answer, facts_of}
use Rattle.ncc_server.specs.Serving.{Told, IsWhole, IsAtRest, IsBetween, EndsAs, GoesOn, IsOwnEnd, ReadLast, Served, worn}
use Rattle.ncc_server.specs.Live.{Live, IsLive, Rests, Finished, GivenUp, Unsettled, GoesTurn, EndsTurn, OverAs, IsEndOf, end_by_stop}
use Rattle.ncc_server.specs.Live.{end_of}
use Rattle.ncc_server.proofs.Given.{told_so_far}

-- ---- where a connection rests

state_at : (talk : Talk) (config : ConnConfig) (bytes : List ℕ) (facts : List Fact) (out : List ℕ) → Stands talk config bytes facts out
    → (session config bytes facts).core.state ≡ talk.place.state
state_at talk config bytes facts out k = ap (λ (s : Standing). s.core.state) k.went

asked_none : (talk : Talk) (config : ConnConfig) (bytes : List ℕ) (facts : List Fact) (out : List ℕ) → Stands talk config bytes facts out
    → asked talk ≡ None → asked_at (session config bytes facts).core ≡ None
asked_none talk config bytes facts out k e = sym (shows_asked talk config bytes facts out k) ∙ e

goes_at : (talk : Talk) (config : ConnConfig) (bytes : List ℕ) (facts : List Fact) (out : List ℕ) → Stands talk config bytes facts out
    → GoesOn talk.place.state bytes → GoesOn (session config bytes facts).core.state bytes
goes_at talk config bytes facts out k g = subst (λ (s : ConnState). GoesOn s bytes) (sym (state_at talk config bytes facts out k)) g

-- the next read is the last
last_here : (config : ConnConfig) (wait : ℕ) (read wrote piece : List ℕ) (answers later : List Answer) (moments : List ℕ) (talk : Talk)
    → Rests config wait read wrote answers moments talk → ReadLast config (read ++ piece) (answers ++ later)
last_here config wait read wrote piece answers later moments talk k = record {
  before = read;
  piece = piece;
  earlier = answers;
  later = later;
  read_is = refl;
  answers_are = refl;
  went_on = goes_at talk config read (facts_of answers) wrote k.live.stands k.goes_on;
  rested = asked_none talk config read (facts_of answers) wrote k.live.stands k.none;
}

-- all was handed out
told_whole : (config : ConnConfig) (wait : ℕ) (read wrote : List ℕ) (answers : List Answer) (moments : List ℕ) (talk : Talk) (e : ConnEnd)
    → talk.out ≡ [] → Live config wait read wrote answers moments talk → Told config wait e read wrote answers moments
told_whole config wait read wrote answers moments talk e none k =
    told_so_far config wait read wrote answers moments talk e wrote [] (ap (λ (x : List ℕ). wrote ++ x) none) (λ h. refl) k

-- ---- nothing was read

-- the same with nothing behind
padded : (config : ConnConfig) (wait : ℕ) (over : Type 0) (e : ConnEnd) (read wrote : List ℕ) (answers : List Answer) (moments : List ℕ)
    → Finished config wait over e read wrote answers moments
    → Finished config wait over e (read ++ []) (wrote ++ []) (answers ++ []) (moments ++ [])
padded config wait over e read wrote answers moments k =
    subst (λ (x : List ℕ). Finished config wait over e x (wrote ++ []) (answers ++ []) (moments ++ [])) (sym (append-nil read))
    (subst (λ (x : List ℕ). Finished config wait over e read x (answers ++ []) (moments ++ [])) (sym (append-nil wrote))
    (subst (λ (x : List Answer). Finished config wait over e read wrote x (moments ++ [])) (sym (append-nil answers))
    (subst (λ (x : List ℕ). Finished config wait over e read wrote answers x) (sym (append-nil moments)) k)))

last_none : (config : ConnConfig) (wait : ℕ) (read wrote : List ℕ) (answers : List Answer) (moments : List ℕ) (talk : Talk)
    → Rests config wait read wrote answers moments talk → ReadLast config read answers
last_none config wait read wrote answers moments talk k =
    subst (λ (x : List ℕ). ReadLast config x answers) (append-nil read)
    (subst (λ (x : List Answer). ReadLast config (read ++ []) x) (append-nil answers) (last_here config wait read wrote [] answers []
    moments talk k))

pub finished_here : (config : ConnConfig) (wait : ℕ) (over : Type 0) (e : ConnEnd) (read wrote : List ℕ) (answers : List Answer)
    (moments : List ℕ)
    (talk : Talk) → (k : Rests config wait read wrote answers moments talk)
    → EndsAs e (session config read (facts_of answers)).core.state over read
    → Finished config wait over e (read ++ []) (wrote ++ []) (answers ++ []) (moments ++ [])
finished_here config wait over e read wrote answers moments talk k ends =
    padded config wait over e read wrote answers moments (record {
      is_told = told_whole config wait read wrote answers moments talk e k.handed k.live;
      rests = λ h. asked_none talk config read (facts_of answers) wrote k.live.stands k.none;
      ends = ends;
      last = last_none config wait read wrote answers moments talk k;
    })

-- a read failed
pub fault_ends : (config : ConnConfig) (wait : ℕ) (over : Type 0) (read wrote : List ℕ) (answers : List Answer) (moments : List ℕ)
    (talk : Talk) → (k : Rests config wait read wrote answers moments talk)
    → Finished config wait over end.ReadFault (read ++ []) (wrote ++ []) (answers ++ []) (moments ++ [])
fault_ends config wait over read wrote answers moments talk k =
    finished_here config wait over end.ReadFault read wrote answers moments talk k
    (goes_at talk config read (facts_of answers) wrote k.live.stands k.goes_on)

-- nothing was left to read
over_by : (state : ConnState) (over : Type 0) (read : List ℕ) (e : ConnEnd) → over → GoesOn state read
    → ((e ≡ end.Closed) × IsBetween state read) ⊎ ((e ≡ end.Truncated) × (IsBetween state read → ⊥)) → EndsAs e state over read
over_by state over read e h g (inl b) = subst (λ (x : ConnEnd). EndsAs x state over read) (sym b.0) (inr (g, h, b.1))
over_by state over read e h g (inr b) = subst (λ (x : ConnEnd). EndsAs x state over read) (sym b.0) (g, h, b.1)

pub over_ends : (config : ConnConfig) (wait : ℕ) (over : Type 0) (e : ConnEnd) (read wrote : List ℕ) (answers : List Answer) (moments :
    List ℕ)
    (talk : Talk) → over → OverAs talk e → (k : Rests config wait read wrote answers moments talk)
    → Finished config wait over e (read ++ []) (wrote ++ []) (answers ++ []) (moments ++ [])
over_ends config wait over e read wrote answers moments talk h o k =
    finished_here config wait over e read wrote answers moments talk k
    (subst (λ (x : ConnState). EndsAs e x over read) (sym (state_at talk config read (facts_of answers) wrote k.live.stands))
    (over_by talk.place.state over read e h k.goes_on (o config read (facts_of answers) wrote k.live.stands)))

-- ---- a piece was read, and the connection given up

given_ends : (b : Broken) (state : ConnState) (over : Type 0) (read : List ℕ) → (b ≡ broken.Backend → is_ended state ≡ false)
    → EndsAs (end_of b) state over read
given_ends broken.Write state over read h = tt
given_ends broken.Memory state over read h = tt
given_ends broken.Backend state over read h = h refl

no_rest : (b : Broken) → IsAtRest (end_of b) → ⊥
no_rest broken.Write h = h
no_rest broken.Memory h = h
no_rest broken.Backend h = h

pub given_up_ends : (config : ConnConfig) (wait : ℕ) (over : Type 0) (read wrote piece bytes : List ℕ) (answers more : List Answer)
    (moments later : List ℕ) (talk : Talk) (b : Broken) → Rests config wait read wrote answers moments talk
    → (g : GivenUp config wait (read ++ piece) (wrote ++ bytes) (answers ++ more) (moments ++ later) b)
    → Finished config wait over (end_of b) (read ++ piece) (wrote ++ bytes) (answers ++ more) (moments ++ later)
given_up_ends config wait over read wrote piece bytes answers more moments later talk b k g = record {
  is_told = g.told;
  rests = λ h. absurd (no_rest b h);
  ends = given_ends b _ over (read ++ piece) g.goes_on;
  last = last_here config wait read wrote piece answers more moments talk k;
}

-- ---- the loop

-- what was done so far, between two moments of the objects
pub record Sofar (config : ConnConfig) (wait : ℕ) (gave took : List ℕ → Type 0) (told : List Answer → Type 0) (ticked : List ℕ → Type 0)
    (flushed : Type 0) (talk : Talk) (taken : ℕ) : Type 0 where
  pub read : List ℕ
  pub wrote : List ℕ
  pub answers : List Answer
  pub moments : List ℕ
  pub gave_it : gave read
  pub took_it : took wrote
  pub told_it : told answers
  pub ticked_it : ticked moments
  pub live : Live config wait read wrote answers moments talk
  pub handed : talk.out ≡ []
  pub none : asked talk ≡ None
  pub last : ReadLast config read answers
  pub length_is : taken ≡ length read
  pub is_flushed : (wrote ≡ []) ⊎ flushed

both_none : (x y : List ℕ) → x ≡ [] → y ≡ [] → x ++ y ≡ []
both_none x y e f = ap (λ (z : List ℕ). z ++ y) e ∙ f

flushed_on : (wrote bytes : List ℕ) (same old new : Type 0) → (same → old → new) → (wrote ≡ []) ⊎ old → ((bytes ≡ []) × same) ⊎ new
    → (wrote ++ bytes ≡ []) ⊎ new
flushed_on wrote bytes same old new carry a (inr h) = inr h
flushed_on wrote bytes same old new carry (inl e) (inl h) = inl (both_none wrote bytes e h.0)
flushed_on wrote bytes same old new carry (inr o) (inl h) = inr (carry h.1 o)

rests_of : (config : ConnConfig) (wait : ℕ) (read wrote : List ℕ) (answers : List Answer) (moments : List ℕ) (talk : Talk)
    → Live config wait read wrote answers moments talk → talk.out ≡ [] → asked talk ≡ None → is_ended talk.place.state ≡ false
    → length read ≤ worn
    → Rests config wait read wrote answers moments talk
rests_of config wait read wrote answers moments talk k h n l f =
    record { live = k; handed = h; none = n; goes_on = record { live = l; few = f } }

few_of : (n m : ℕ) → n ≡ m → n ≤ worn → m ≤ worn
few_of n m e h = subst (λ x. x ≤ worn) e h

module _ (config : ConnConfig) (wait : ℕ) (gave gave1 gave2 took took1 took2 : List ℕ → Type 0) (told told1 told2 : List Answer → Type 0)
    (ticked ticked1 ticked2 : List ℕ → Type 0) (flushed same flushed2 : Type 0) where
  -- a turn was made
  pub turned : (old new : Talk) (taken count : ℕ) → Sofar config wait gave took told ticked flushed old taken
      → is_ended old.place.state ≡ false → taken ≤ worn
      → GoesTurn wait gave1 took1 told1 ticked1 same flushed2 count old new
      → ((x y : List ℕ) → gave x → gave1 y → gave2 (x ++ y)) → ((x y : List ℕ) → took x → took1 y → took2 (x ++ y))
      → ((x y : List Answer) → told x → told1 y → told2 (x ++ y)) → ((x y : List ℕ) → ticked x → ticked1 y → ticked2 (x ++ y))
      → (same → flushed → flushed2)
      → Sofar config wait gave2 took2 told2 ticked2 flushed2 new (taken + count)
  turned old new taken count s live few g a b c d carry =
      let r = rests_of config wait s.read s.wrote s.answers s.moments old s.live s.handed s.none live (few_of taken (length s.read)
      s.length_is few) in
      record {
        read = s.read ++ g.piece;
        wrote = s.wrote ++ g.settled.going.went.bytes;
        answers = s.answers ++ g.settled.going.went.answers;
        moments = s.moments ++ g.settled.going.went.moments;
        gave_it = a s.read g.piece s.gave_it g.gave_it;
        took_it = b s.wrote g.settled.going.went.bytes s.took_it g.settled.going.went.took_it;
        told_it = c s.answers g.settled.going.went.answers s.told_it g.settled.going.went.told_it;
        ticked_it = d s.moments g.settled.going.went.moments s.ticked_it g.settled.going.went.ticked_it;
        live = g.settled.going.live config s.read s.wrote s.answers s.moments s.live;
        handed = g.settled.handed;
        none = g.settled.none;
        last = last_here config wait s.read s.wrote g.piece s.answers g.settled.going.went.answers s.moments old r;
        length_is = let l = length-append s.read g.piece in let e = s.length_is in let f = g.length_is in omega arith;
        is_flushed = flushed_on s.wrote g.settled.going.went.bytes same flushed flushed2 carry s.is_flushed g.settled.going.is_flushed;
      }

  whole_flushed : (e : ConnEnd) (wrote bytes : List ℕ) → (same → flushed → flushed2) → (wrote ≡ []) ⊎ flushed
      → (IsWhole e → ((bytes ≡ []) × same) ⊎ flushed2) → IsWhole e → (wrote ++ bytes ≡ []) ⊎ flushed2
  whole_flushed e wrote bytes carry a h w = flushed_on wrote bytes same flushed flushed2 carry a (h w)

  -- a turn was the last
  pub turn_ends : (over : Type 0) (e : ConnEnd) (old : Talk) (taken : ℕ) → Sofar config wait gave took told ticked flushed old taken
      → is_ended old.place.state ≡ false → taken ≤ worn
      → EndsTurn wait gave1 took1 told1 ticked1 over same flushed2 old e
      → ((x y : List ℕ) → gave x → gave1 y → gave2 (x ++ y)) → ((x y : List ℕ) → took x → took1 y → took2 (x ++ y))
      → ((x y : List Answer) → told x → told1 y → told2 (x ++ y)) → ((x y : List ℕ) → ticked x → ticked1 y → ticked2 (x ++ y))
      → (same → flushed → flushed2)
      → Served config wait gave2 took2 told2 ticked2 over flushed2 e
  turn_ends over e old taken s live few g a b c d carry =
      let r = rests_of config wait s.read s.wrote s.answers s.moments old s.live s.handed s.none live (few_of taken (length s.read)
      s.length_is few) in
      let f = g.finished config s.read s.wrote s.answers s.moments r in
      record {
        read = s.read ++ g.piece;
        wrote = s.wrote ++ g.went.bytes;
        answers = s.answers ++ g.went.answers;
        moments = s.moments ++ g.went.moments;
        gave_it = a s.read g.piece s.gave_it g.gave_it;
        took_it = b s.wrote g.went.bytes s.took_it g.went.took_it;
        told_it = c s.answers g.went.answers s.told_it g.went.told_it;
        ticked_it = d s.moments g.went.moments s.ticked_it g.went.ticked_it;
        is_told = f.is_told;
        is_flushed = whole_flushed e s.wrote g.went.bytes carry s.is_flushed g.is_flushed;
        rests = f.rests;
        ends = f.ends;
        last = f.last;
      }

-- the connection ends behind what was done so far
ends_here : (config : ConnConfig) (wait : ℕ) (gave took : List ℕ → Type 0) (told : List Answer → Type 0) (ticked : List ℕ → Type 0)
    (over flushed : Type 0) (e : ConnEnd) (talk : Talk) (taken : ℕ) → (s : Sofar config wait gave took told ticked flushed talk taken)
    → EndsAs e talk.place.state over s.read → Served config wait gave took told ticked over flushed e
ends_here config wait gave took told ticked over flushed e talk taken s h = record {
  read = s.read;
  wrote = s.wrote;
  answers = s.answers;
  moments = s.moments;
  gave_it = s.gave_it;
  took_it = s.took_it;
  told_it = s.told_it;
  ticked_it = s.ticked_it;
  is_told = told_whole config wait s.read s.wrote s.answers s.moments talk e s.handed s.live;
  is_flushed = λ w. s.is_flushed;
  rests = λ w. asked_none talk config s.read (facts_of s.answers) s.wrote s.live.stands s.none;
  ends = subst (λ (x : ConnState). EndsAs e x over s.read) (sym (state_at talk config s.read (facts_of s.answers) s.wrote s.live.stands)) h;
  last = s.last;
}

-- the session ended
ends_by_stop : (why : ConnStop) (state : ConnState) (over : Type 0) (read : List ℕ) → state ≡ Ended why → NeverMemory why
    → EndsAs (end_by_stop why) state over read
ends_by_stop stop.Goodbye state over read e n = inl e
ends_by_stop stop.Refused state over read e n = e
ends_by_stop stop.BadMagic state over read e n = e
ends_by_stop stop.NoVersion state over read e n = e
ends_by_stop (stop.Malformed message at cause) state over read e n = (e, n)
ends_by_stop (stop.MessageTooLong message) state over read e n = e

pub session_ends : (config : ConnConfig) (wait : ℕ) (gave took : List ℕ → Type 0) (told : List Answer → Type 0) (ticked : List ℕ → Type 0)
    (over flushed : Type 0) (e : ConnEnd) (talk : Talk) (taken : ℕ) → IsEndOf talk.place.state e
    → Sofar config wait gave took told ticked flushed talk taken → Served config wait gave took told ticked over flushed e
session_ends config wait gave took told ticked over flushed e talk taken h s =
    let w : (session config s.read (facts_of s.answers)).core.state ≡ Ended h.why =
    state_at talk config s.read (facts_of s.answers) s.wrote s.live.stands ∙ h.state_is in
    subst (λ (x : ConnEnd). Served config wait gave took told ticked over flushed x) (sym h.end_is)
    (ends_here config wait gave took told ticked over flushed (end_by_stop h.why) talk taken s
    (ends_by_stop h.why talk.place.state over s.read h.state_is (never_memory config s.read (facts_of s.answers) h.why w)))

pub worn_ends : (config : ConnConfig) (wait : ℕ) (gave took : List ℕ → Type 0) (told : List Answer → Type 0) (ticked : List ℕ → Type 0)
    (over flushed : Type 0) (talk : Talk) (taken : ℕ) → is_ended talk.place.state ≡ false → worn < taken
    → Sofar config wait gave took told ticked flushed talk taken → Served config wait gave took told ticked over flushed end.Worn
worn_ends config wait gave took told ticked over flushed talk taken live long s =
    ends_here config wait gave took told ticked over flushed end.Worn talk taken s (live, subst (λ x. worn < x) s.length_is long)

begins_session : (config : ConnConfig) → session config [] [] ≡ still start [] []
unfolding session
begins_session config = ap (λ (is : List Input). going (move config) start is []) (more_none [] refl).1 ∙ stays config start

last_begun : (config : ConnConfig) → ReadLast config [] []
last_begun config =
    let s = begins_session config in record {
      before = [];
      piece = [];
      earlier = [];
      later = [];
      read_is = refl;
      answers_are = refl;
      went_on = subst (λ (t : Standing). GoesOn t.core.state []) (sym s) (record { live = refl; few = omega arith });
      rested = ap (λ (t : Standing). asked_at t.core) s;
    }

-- there was no memory for the connection
pub never_begun : (config : ConnConfig) (wait : ℕ) (gave took : List ℕ → Type 0) (told : List Answer → Type 0) (ticked : List ℕ → Type 0)
    (over flushed : Type 0) → gave [] → took [] → told [] → ticked [] → Served config wait gave took told ticked over flushed end.Memory
never_begun config wait gave took told ticked over flushed a b c d =
    let s = begins_session config in record {
      read = [];
      wrote = [];
      answers = [];
      moments = [];
      gave_it = a;
      took_it = b;
      told_it = c;
      ticked_it = d;
      is_told = record {
        taken = ap (λ (t : Standing). t.facts) s;
        unwritten = [];
        written = ap (λ (t : Standing). bytes_of t.written) s;
        whole = λ h. refl;
        unanswered = [];
        asked = ap (λ (t : Standing). questions_of t.written) s;
        waits = λ h. absurd h;
        late = [];
        deadlines = refl;
        one_late = omega arith;
      };
      is_flushed = λ h. absurd h;
      rests = λ h. absurd h;
      ends = tt;
      last = last_begun config;
    }

-- a new connection
pub begun : (config : ConnConfig) (wait : ℕ) (gave took : List ℕ → Type 0) (told : List Answer → Type 0) (ticked : List ℕ → Type 0)
    (flushed : Type 0) (talk : Talk) → Stands talk config [] [] [] → talk.out ≡ [] → asked talk ≡ None → gave [] → took [] → told []
    → ticked []
    → Sofar config wait gave took told ticked flushed talk 0
begun config wait gave took told ticked flushed talk k h n a b c d =
    let s = begins_session config in record {
      read = [];
      wrote = [];
      answers = [];
      moments = [];
      gave_it = a;
      took_it = b;
      told_it = c;
      ticked_it = d;
      live = record {
        stands = k;
        in_turn = ap (λ (t : Standing). questions_of t.written) s ∙ ap waiting (sym n);
        timed = refl;
      };
      handed = h;
      none = n;
      last = last_begun config;
      length_is = refl;
      is_flushed = inl refl;
    }

-- ---- a turn that ends

module _ (wait : ℕ) (gave took : List ℕ → Type 0) (told : List Answer → Type 0) (ticked : List ℕ
    → Type 0) (over same flushed : Type 0) (old : Talk) where
  -- a read failed
  pub ends_unread : gave [] → took [] → told [] → ticked [] → same → EndsTurn wait gave took told ticked over same flushed old end.ReadFault
  ends_unread a b c d s = record {
    piece = [];
    gave_it = a;
    went = record { bytes = []; answers = []; moments = []; took_it = b; told_it = c; ticked_it = d };
    finished = λ config read wrote answers moments k. fault_ends config wait over read wrote answers moments old k;
    is_flushed = λ w. inl (refl, s);
  }

  -- nothing was left to read
  pub ends_over : (e : ConnEnd) → gave [] → took [] → told [] → ticked [] → same → over → OverAs old e
      → EndsTurn wait gave took told ticked over same flushed old e
  ends_over e a b c d s h o = record {
    piece = [];
    gave_it = a;
    went = record { bytes = []; answers = []; moments = []; took_it = b; told_it = c; ticked_it = d };
    finished = λ config read wrote answers moments k. over_ends config wait over e read wrote answers moments old h o k;
    is_flushed = λ w. inl (refl, s);
  }

  flushed_by : (b : Broken) (A : Type 0) → (b ≡ broken.Backend → A) → IsWhole (end_of b) → A
  flushed_by broken.Write A h w = absurd w
  flushed_by broken.Memory A h w = absurd w
  flushed_by broken.Backend A h w = h refl

  -- it was given up
  pub ends_given : (e : ConnEnd) (b : Broken) (piece : List ℕ) → e ≡ end_of b → gave piece
      → Unsettled wait took told ticked same flushed piece old b
      → EndsTurn wait gave took told ticked over same flushed old e
  ends_given e b piece i a u =
      subst (λ (x : ConnEnd). EndsTurn wait gave took told ticked over same flushed old x) (sym i)
      (record {
        piece = piece;
        gave_it = a;
        went = u.went;
        finished = λ config read wrote answers moments k.
            given_up_ends config wait over read wrote piece u.went.bytes answers u.went.answers moments u.went.moments old b k
            (u.given_up config read wrote answers moments k.live);
        is_flushed = λ w. flushed_by b _ u.is_flushed w;
      })

-- ---- a new connection, by what it stands for

new_out : (talk : Talk) (config : ConnConfig) → Stands talk config [] [] [] → talk.out ≡ []
new_out talk config k = sym k.out_is ∙ ap (λ (t : Standing). bytes_of t.written) (sym k.went ∙ begins_session config)

new_none : (talk : Talk) (config : ConnConfig) → Stands talk config [] [] [] → asked talk ≡ None
new_none talk config k = shows_asked talk config [] [] [] k ∙ ap (λ (t : Standing). asked_at t.core) (begins_session config)

pub new_live : (talk : Talk) (config : ConnConfig) → Stands talk config [] [] [] → is_ended talk.place.state ≡ false
new_live talk config k =
    ap (λ (s : ConnState). is_ended s) (sym (state_at talk config [] [] [] k) ∙ ap (λ (t : Standing). t.core.state) (begins_session config))

pub begun_here : (config : ConnConfig) (wait : ℕ) (gave took : List ℕ → Type 0) (told : List Answer → Type 0) (ticked : List ℕ → Type 0)
    (flushed : Type 0) (talk : Talk) → Stands talk config [] [] [] → gave [] → took [] → told [] → ticked []
    → Sofar config wait gave took told ticked flushed talk 0
begun_here config wait gave took told ticked flushed talk k a b c d =
    begun config wait gave took told ticked flushed talk k (new_out talk config k) (new_none talk config k) a b c d

pub is_live_here : (config : ConnConfig) (wait : ℕ) (gave took : List ℕ → Type 0) (told : List Answer → Type 0) (ticked : List ℕ → Type 0)
    (flushed : Type 0) (talk : Talk) (taken : ℕ) → Sofar config wait gave took told ticked flushed talk taken → IsLive talk
is_live_here config wait gave took told ticked flushed talk taken s =
    record { config = config; bytes = s.read; facts = facts_of s.answers; out = s.wrote; stands = s.live.stands }

-- ---- a connection comes to an end of its own

pub consumed_few : (a b : Option (List ℕ)) (bytes all : List ℕ) → a ≡ Some all → Consumes a b bytes → length bytes ≤ length all
consumed_few None b bytes all e h = absurd (cc)
consumed_few (Some xs) None bytes all e h = absurd h
consumed_few (Some xs) (Some ys) bytes all e h =
    let same : xs ≡ all = cc in
    let l : length xs ≡ length bytes + length ys = ap length h ∙ length-append bytes ys in
    let m : length xs ≡ length all = ap length same in
    omega arith

pub own_end : (config : ConnConfig) (wait : ℕ) (gave took : List ℕ → Type 0) (told : List Answer → Type 0) (ticked : List ℕ → Type 0)
    (over flushed : Type 0) (e : ConnEnd) → Served config wait gave took told ticked over flushed e
    → ((bytes : List ℕ) → gave bytes → length bytes ≤ worn) → (e ≡ end.ReadFault → ⊥) → (e ≡ end.WriteFault → ⊥) → (e ≡ end.BackendFault
    → ⊥)
    → IsOwnEnd e
own_end config wait gave took told ticked over flushed end.ReadFault s few r w b = r refl
own_end config wait gave took told ticked over flushed end.WriteFault s few r w b = w refl
own_end config wait gave took told ticked over flushed end.BackendFault s few r w b = b refl
own_end config wait gave took told ticked over flushed end.Worn s few r w b =
    let f = few s.read s.gave_it in let l = s.ends.1 in absurd (omega arith)
own_end config wait gave took told ticked over flushed end.Closed s few r w b = tt
own_end config wait gave took told ticked over flushed end.Refused s few r w b = tt
own_end config wait gave took told ticked over flushed end.BadMagic s few r w b = tt
own_end config wait gave took told ticked over flushed end.NoVersion s few r w b = tt
own_end config wait gave took told ticked over flushed (end.Malformed message at cause) s few r w b = tt
own_end config wait gave took told ticked over flushed (end.MessageTooLong message) s few r w b = tt
own_end config wait gave took told ticked over flushed end.Truncated s few r w b = tt
own_end config wait gave took told ticked over flushed end.Memory s few r w b = tt
