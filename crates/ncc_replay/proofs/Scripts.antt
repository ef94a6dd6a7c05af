-- A script as it is read: its lines, and what those so far make.
use Rattle.std.proofs.Common.{◌≡◌, ◌≢◌, ℕ, zero, suc, ◌+◌, ◌-◌, ◌<◌, ◌≤◌, ◌==◌, List, [], ◌∷◌, ◌++◌, length, take, drop, get_or}
use Rattle.std.proofs.Common.{Option}
use Rattle.std.proofs.Common.{None, Some, Bool, true, false, cond, Err, IsErrOf, IsTrue, refl, ap, sym, ◌∙◌, arith, subst}
use Rattle.std.proofs.Common.{append_assoc, eqb-true, ltb-false, ltb-true, nat_lt}
use Rattle.std.specs.Prelude.{position}
use Rattle.std.specs.List.{onto_first, enumerate_from, position_or_len, join_with_byte}
use Rattle.std.proofs.lemmas.Bool.{false≢true, eq-eqb, lt-ltb}
use Rattle.std.proofs.lemmas.List.{take_rest}
use Rattle.std.proofs.Math.ListN.{drop_of_length-le}
use Rattle.std.proofs.lemmas.List.Sums.{fails_before_first}
use Rattle.std.proofs.lemmas.List.Quantifiers.{position-Some}
use Rattle.ncc_world.specs.declared.setup.Setup.{Setup}
use Rattle.ncc_world.specs.declared.event.Event.{Event}
use Rattle.ncc_world.specs.declared.event.Event.TheVariants.{Time, Put, Get, Apply, Timeout, Beat, Deliver, Pull, Crash, Open, Bytes, Close}
use Rattle.ncc_world.specs.declared.event.Event.TheVariants.{Session, Work, Up, Down, Pump, Cut}
use Rattle.ncc_world.specs.declared.error.WorldError.{WorldError}
use Rattle.ncc_world.specs.declared.error.WorldError.TheVariants as w
use Rattle.ncc_world.specs.declared.error.Which.{Which}
use Rattle.ncc_world.specs.declared.error.Which.TheVariants.{Line as LineLimit, Events as EventsLimit}
use Rattle.ncc_world.specs.Events.{MayHappen, CountsSome}
use Rattle.ncc_world.specs.Happening.{WorldRun, start_of, refusal, Happens}
use Rattle.ncc_world.specs.World.{Kept, Stands, alive, past, is_refusal}
use Rattle.ncc_replay.specs.Line.{Says, SaysNone, SaysCluster, FitsLimit, words_of, header, is_skipped}
use Rattle.ncc_replay.specs.Script.{Script, whole, refused, limited, Lines, lines_of, Counts, Accepted, EventLines}
use Rattle.ncc_replay.specs.Script.{ClusterLines}
use Rattle.ncc_replay.specs.Script.{ScriptLines, IsNoCluster, is_long, max_events, cause_of}
use Rattle.std.proofs.Common.{length-append}
use Rattle.std.proofs.lemmas.List.{length-map}
use Rattle.ncc_bookmark.specs.Spelling.{text_of}
use Rattle.ncc_replay.specs.Progress.{Reached, GoesOn, EndsAt, EndsSo, IsRunOf}
use Rattle.ncc_replay.specs.declared.script.Progress.{Progress}
use Rattle.ncc_replay.specs.declared.script.Progress.TheVariants.{Header, Cluster, Events}
use Rattle.ncc_replay.specs.declared.script.ScriptError.{ScriptError}
use Rattle.ncc_replay.specs.declared.script.ScriptError.TheVariants.{Bad, Limit, Memory}
use Rattle.ncc_replay.specs.declared.status.Cause.{Cause}
use Rattle.ncc_replay.specs.declared.status.Cause.TheVariants.{NoHeader}

position_none : {X : Type 0} (p : X → Bool) (xs : List X) → position p xs ≡ None → length xs ≤ position_or_len p xs
position_none p xs e = go (nat_lt (position_or_len p xs) (length xs)) refl e where
  go : (b : Bool) → nat_lt (position_or_len p xs) (length xs) ≡ b → cond b (Some (position_or_len p xs)) None ≡ None →
      length xs ≤ position_or_len p xs
  go true h e = absurd (cc)
  go false h e = ltb-false (position_or_len p xs) (length xs) h

first_line : (i : ℕ) (text : List ℕ) → i < length text → get_or text i 0 ≡ 10 → ((k : ℕ) → k < i → get_or text k 0 ≡ 10 → ⊥) →
    lines_of text ≡ take i text ∷ lines_of (drop (suc i) text)
unfolding lines_of
first_line i [] h e f = absurd (omega arith)
first_line zero (b ∷ bs) h e f = ap (λ t. cond t ([] ∷ lines_of bs) (onto_first b (lines_of bs))) (eq-eqb b 10 e)
first_line (suc i) (b ∷ bs) h e f = go (b == 10) refl (first_line i bs (omega arith) e (λ k g. f (suc k) (omega arith))) where
  go : (t : Bool) → (b == 10) ≡ t → lines_of bs ≡ take i bs ∷ lines_of (drop (suc i) bs) →
      cond t ([] ∷ lines_of bs) (onto_first b (lines_of bs)) ≡ (b ∷ take i bs) ∷ lines_of (drop (suc i) bs)
  go true g again = absurd (f zero (omega arith) (eqb-true b 10 g))
  go false g again = ap (onto_first b) again

only_line : (text : List ℕ) → 0 < length text → ((k : ℕ) → k < length text → get_or text k 0 ≡ 10 → ⊥) → lines_of text ≡ text ∷ []
unfolding lines_of
only_line [] h f = absurd (omega arith)
only_line (b ∷ bs) h f = go (b == 10) refl bs (λ g. only_line bs g (λ k l. f (suc k) (omega arith))) where
  go : (t : Bool) → (b == 10) ≡ t → (cs : List ℕ) → (0 < length cs → lines_of cs ≡ cs ∷ []) →
      cond t ([] ∷ lines_of cs) (onto_first b (lines_of cs)) ≡ (b ∷ cs) ∷ []
  go true g cs again = absurd (f zero (omega arith) (eqb-true b 10 g))
  go false g [] again = refl
  go false g (c ∷ cs) again = ap (onto_first b) (again (omega arith))

-- the first line of a text, by the place of the first LF
pub line_at : (text : List ℕ) (i : ℕ) → position (λ b. b == 10) text ≡ Some i → lines_of text ≡ take i text ∷ lines_of (drop (suc i) text)
line_at text i e =
    let p : ℕ → Bool = λ b. b == 10 in
    let found = position-Some p text i 0 e in
    first_line i text found.0 (eqb-true (get_or text i 0) 10 found.1) (λ k h g. false≢true (sym (found.2 k h)
    ∙ eq-eqb (get_or text k 0) 10 g))

-- a text without LF is its one line
pub line_alone : (text : List ℕ) → 0 < length text → position (λ b. b == 10) text ≡ None → lines_of text ≡ text ∷ []
line_alone text h e =
    let p : ℕ → Bool = λ b. b == 10 in
    let past : length text ≤ position_or_len p text = position_none p text e in
    only_line text h (λ k l g. false≢true (sym (fails_before_first p text k 0 (omega (arith, past, l))) ∙ eq-eqb (get_or text k 0) 10 g))

pub lines_end : lines_of [] ≡ []
unfolding lines_of
lines_end = refl

-- the lines of a text, with their numbers
pub numbered_line : (n : ℕ) (text line behind : List ℕ) → lines_of text ≡ line ∷ lines_of behind
    → enumerate_from n (lines_of text) ≡ (n, line) ∷ enumerate_from (n + 1) (lines_of behind)
numbered_line n text line behind e = ap (enumerate_from n) e

pub numbered_end : (n : ℕ) (text : List ℕ) → text ≡ [] → enumerate_from n (lines_of text) ≡ []
numbered_end n text e = ap (λ t. enumerate_from n (lines_of t)) e ∙ ap (enumerate_from n) lines_end

-- ---- one line more

-- at a line that is too long
pub long_ends : (all rest : Lines) (number : ℕ) (line : List ℕ) (p : Progress) → is_long line ≡ true
    → GoesOn all ((number, line) ∷ rest) p → EndsAt all (limited LineLimit)
long_ends all rest number line Header h g =
    let none : Script = record { setup = None; events = [] } in
    (none, None, g none None (limited LineLimit) (ScriptLines.long number line rest h))
long_ends all rest number line Cluster h g =
    let none : Script = record { setup = None; events = [] } in
    (none, None, g none None (limited LineLimit) (ClusterLines.long number line rest h))
long_ends all rest number line (Events count world) h g =
    let says : Script = record { setup = Some g.setup; events = g.done ++ [] } in
    (says, Some g.run, g.goes_on [] g.run (limited LineLimit) (EventLines.long count g.run number line rest h))

-- at a line that is skipped
pub skip_goes : (all rest : Lines) (number : ℕ) (line : List ℕ) (p : Progress) → is_long line ≡ false → is_skipped line ≡ true
    → GoesOn all ((number, line) ∷ rest) p → GoesOn all rest p
skip_goes all rest number line Header f h g =
    λ says t end more. g says t end (ScriptLines.skipped number line rest says t end f h more)
skip_goes all rest number line Cluster f h g =
    λ says t end more. g says t end (ClusterLines.skipped number line rest says t end f h more)
skip_goes all rest number line (Events count world) f h g =
    record {
      setup = g.setup;
      run = g.run;
      done = g.done;
      setup_is = g.setup_is;
      stands = g.stands;
      goes_on = λ es t end more. g.goes_on es t end (EventLines.skipped count g.run number line rest es t end f h more);
    }

-- at the header
pub header_goes : (all rest : Lines) (number : ℕ) (line : List ℕ) → Counts line → line ≡ header
    → GoesOn all ((number, line) ∷ rest) Header → GoesOn all rest Cluster
header_goes all rest number line c e g = λ says t end more. g says t end (ScriptLines.is_header number line rest says t end c e more)

pub header_ends : (all rest : Lines) (number : ℕ) (line : List ℕ) → Counts line → line ≢ header
    → GoesOn all ((number, line) ∷ rest) Header → EndsAt all (refused number NoHeader)
header_ends all rest number line c e g =
    let none : Script = record { setup = None; events = [] } in
    (none, None, g none None (refused number NoHeader) (ScriptLines.other number line rest c e))

-- at the cluster line
pub cluster_goes : (all rest : Lines) (number : ℕ) (line : List ℕ) (setup : Setup) (world : Kept) → Counts line → SaysCluster line setup
    → Stands world (start_of setup) → world.setup ≡ setup → GoesOn all ((number, line) ∷ rest) Cluster → Reached all rest 0 world
cluster_goes all rest number line setup world c says stands same g = record {
  setup = setup;
  run = start_of setup;
  done = [];
  setup_is = same;
  stands = stands;
  goes_on = λ es t end more. g (record { setup = Some setup; events = es }) (Some t) end
      (ClusterLines.says number line rest setup es t end c says more);
}

pub cluster_ends : (all rest : Lines) (number : ℕ) (line : List ℕ) (cause : Cause) → Counts line → IsNoCluster line cause
    → GoesOn all ((number, line) ∷ rest) Cluster → EndsAt all (refused number cause)
cluster_ends all rest number line cause c none g =
    let nothing : Script = record { setup = None; events = [] } in
    (nothing, None, g nothing None (refused number cause) (ClusterLines.says_none number line rest cause c none))

-- at an event
pub event_goes : (all rest : Lines) (count number : ℕ) (line : List ℕ) (world new : Kept) (event : Event) → Counts line
    → Says world.setup.cluster line event → count < max_events
    → ((r : WorldRun) → Stands world r → (t : WorldRun) × Happens world.setup number event r t × Stands new t) → new.setup ≡ world.setup
    → Reached all ((number, line) ∷ rest) count world → Reached all rest (count + 1) new
event_goes all rest count number line world new event c says few happens same g =
    let h = happens g.run g.stands in
    let happened : Happens g.setup number event g.run h.0 = subst (λ x. Happens x number event g.run h.0) g.setup_is h.1 in
    let accepted : Accepted g.setup g.run line event = record {
      counts = c;
      says = subst (λ (x : Setup). Says x.cluster line event) g.setup_is says;
      allowed = happened.allowed;
    } in
    record {
      setup = g.setup;
      run = h.0;
      done = g.done ++ ((number, event) ∷ []);
      setup_is = same ∙ g.setup_is;
      stands = h.2;
      goes_on = λ es t end more.
          subst (λ l. ScriptLines all (record { setup = Some g.setup; events = l }) (Some t) end)
          (sym (append_assoc g.done ((number, event) ∷ []) es))
          (g.goes_on ((number, event) ∷ es) t end
          (EventLines.happens count g.run h.0 number line rest event es t end accepted few happened more));
    }

-- at an event that is one too many
pub many_ends : (all rest : Lines) (count number : ℕ) (line : List ℕ) (world new : Kept) (event : Event) → Counts line
    → Says world.setup.cluster line event → max_events ≤ count
    → ((r : WorldRun) → Stands world r → (t : WorldRun) × Happens world.setup number event r t × Stands new t)
    → Reached all ((number, line) ∷ rest) count world → EndsAt all (limited EventsLimit)
many_ends all rest count number line world new event c says many happens g =
    let h = happens g.run g.stands in
    let accepted : Accepted g.setup g.run line event = record {
      counts = c;
      says = subst (λ (x : Setup). Says x.cluster line event) g.setup_is says;
      allowed = subst (λ (x : Setup). refusal x g.run event ≡ None) g.setup_is h.1.allowed;
    } in
    let said : Script = record { setup = Some g.setup; events = g.done ++ [] } in
    (said, Some g.run, g.goes_on [] g.run (limited EventsLimit) (EventLines.many count g.run number line rest event accepted many))

-- at a line that says no event
pub none_ends : (all rest : Lines) (count number : ℕ) (line : List ℕ) (world : Kept) (cause : Cause) → Counts line
    → SaysNone world.setup.cluster line cause → Reached all ((number, line) ∷ rest) count world → EndsAt all (refused number cause)
none_ends all rest count number line world cause c none g =
    let said : Script = record { setup = Some g.setup; events = g.done ++ [] } in (
      said,
      Some g.run,
      g.goes_on [] g.run (refused number cause) (EventLines.says_none count g.run number line rest cause c
          (subst (λ (x : Setup). SaysNone x.cluster line cause) g.setup_is none)),
    )

-- at an event that the world refuses
pub refused_ends : (all rest : Lines) (count number : ℕ) (line : List ℕ) (world : Kept) (event : Event) (error : WorldError) (cause : Cause)
    → Counts line → Says world.setup.cluster line event → ((r : WorldRun) → Stands world r → refusal world.setup r event ≡ Some error)
    → cause_of error ≡ Some cause → Reached all ((number, line) ∷ rest) count world → EndsAt all (refused number cause)
refused_ends all rest count number line world event error cause c says refuses why g =
    let said : Script = record { setup = Some g.setup; events = g.done ++ [] } in (
      said,
      Some g.run,
      g.goes_on [] g.run (refused number cause) (EventLines.not_allowed count g.run number line rest event cause c
          (subst (λ (x : Setup). Says x.cluster line event) g.setup_is says)
          (record {
            error = error;
            refuses = subst (λ (x : Setup). refusal x g.run event ≡ Some error) g.setup_is (refuses g.run g.stands);
            cause_is = why;
          })),
    )

-- a cause stands for a refusal
is_refused : (error : WorldError) (cause : Cause) → cause_of error ≡ Some cause → IsTrue (is_refusal error)
is_refused w.NoMember cause e = refl
is_refused w.NoConn cause e = refl
is_refused w.NoMessage cause e = refl
is_refused w.NoSession cause e = refl
is_refused w.BackInTime cause e = refl
is_refused w.WrongWorld cause e = refl
is_refused w.WrongRole cause e = refl
is_refused w.Busy cause e = refl
is_refused (w.Limit which) cause e = absurd (cc)
is_refused w.Memory cause e = absurd (cc)

not_past : (which : Which) → alive ≡ past which → ⊥
not_past which e = cc

-- at an event that the world did not make
pub error_ends : (all rest : Lines) (count number : ℕ) (line : List ℕ) (world : Kept) (event : Event) (error : WorldError)
    (result : ScriptError)
    → Counts line → Says world.setup.cluster line event
    → ((r : WorldRun) → Stands world r → IsTrue (is_refusal error) → refusal world.setup r event ≡ Some error)
    → ((which : Which) → error ≡ w.Limit which → world.standing ≡ past which)
    → ((at : ℕ) (cause : Cause) → result ≡ Bad at cause → (cause_of error ≡ Some cause) × (at ≡ number))
    → ((which : Which) → result ≡ Limit which → error ≡ w.Limit which)
    → Reached all ((number, line) ∷ rest) count world → EndsSo all result
error_ends all rest count number line world event error Memory c says refuses limit bad limits g = tt
error_ends all rest count number line world event error (Limit which) c says refuses limit bad limits g =
    absurd (not_past which (sym g.stands.goes_on ∙ limit which (limits which refl)))
error_ends all rest count number line world event error (Bad at cause) c says refuses limit bad limits g =
    let why = bad at cause refl in
    subst (λ n. EndsAt all (refused n cause)) (sym why.1)
    (refused_ends all rest count number line world event error cause c says (λ r st. refuses r st (is_refused error cause why.0)) why.0 g)

-- at a line that is none
pub line_ends : (all rest : Lines) (count number : ℕ) (line : List ℕ) (world : Kept) (result : ScriptError) → Counts line
    → ((at : ℕ) (cause : Cause) → result ≡ Bad at cause → SaysNone world.setup.cluster line cause × (at ≡ number))
    → ((which : Which) → result ≡ Limit which → ⊥) → Reached all ((number, line) ∷ rest) count world → EndsSo all result
line_ends all rest count number line world Memory c bad limits g = tt
line_ends all rest count number line world (Limit which) c bad limits g = absurd (limits which refl)
line_ends all rest count number line world (Bad at cause) c bad limits g =
    let why = bad at cause refl in
    subst (λ n. EndsAt all (refused n cause)) (sym why.1) (none_ends all rest count number line world cause c why.0 g)

-- ---- no line is left

pub all_read : (all : Lines) (count : ℕ) (world : Kept) → Reached all [] count world
    → (says : Script) × (t : Option WorldRun) × ScriptLines all says t whole × IsRunOf (Some world) says t
all_read all count world g =
    let said : Script = record { setup = Some g.setup; events = g.done ++ [] } in (
      said,
      Some g.run,
      g.goes_on [] g.run whole (EventLines.none_left count g.run),
      (g.run, ap Some (sym g.setup_is), refl, g.stands),
    )

pub no_cluster_read : (all : Lines) → GoesOn all [] Cluster
    → (says : Script) × (t : Option WorldRun) × ScriptLines all says t whole × IsRunOf None says t
no_cluster_read all g =
    let none : Script = record { setup = None; events = [] } in (none, None, g none None whole ClusterLines.none_left, (refl, refl))

pub no_header_read : (all : Lines) → GoesOn all [] Header
    → (says : Script) × (t : Option WorldRun) × ScriptLines all says t whole × IsRunOf None says t
no_header_read all g =
    let none : Script = record { setup = None; events = [] } in (none, None, g none None whole ScriptLines.none_left, (refl, refl))

-- ---- what a line of a script says may happen: it has no room for more bookmarks

join_len : (ws : List (List ℕ)) → length ws ≤ length (join_with_byte 32 ws) + 1
join_len [] = omega arith
join_len (w ∷ []) = omega arith
join_len (w ∷ v ∷ vs) = omega (arith, join_len (v ∷ vs), length-append w (32 ∷ join_with_byte 32 (v ∷ vs)))

some_requests : (requests : Option ℕ) → FitsLimit requests → CountsSome requests
some_requests None h = tt
some_requests (Some n) h = h.0

pub may_happen : (cluster : ℕ) (line : List ℕ) (event : Event) → Says cluster line event → is_long line ≡ false → MayHappen cluster event
may_happen cluster line (Time to) h f = tt
may_happen cluster line (Put member key value bs) h f = (
  h.0.1,
  h.0.2,
  h.0.3,
  omega (arith, ltb-false 2_200_000 (length line) f, ap length h.1, join_len (words_of (Put member key value bs)), length-map bs text_of),
)
may_happen cluster line (Get member key bs) h f = (
  h.0.1,
  h.0.2,
  omega (arith, ltb-false 2_200_000 (length line) f, ap length h.1, join_len (words_of (Get member key bs)), length-map bs text_of),
)
may_happen cluster line (Apply member count) h f = h.0.1
may_happen cluster line (Timeout member) h f = tt
may_happen cluster line (Beat member) h f = tt
may_happen cluster line (Deliver message) h f = tt
may_happen cluster line (Pull replica core) h f = tt
may_happen cluster line (Crash member) h f = tt
may_happen cluster line (Open member) h f = tt
may_happen cluster line (Bytes conn bytes) h f = (h.0.1, h.0.2)
may_happen cluster line (Close conn) h f = tt
may_happen cluster line (Session seed) h f = tt
may_happen cluster line (Work session job) h f = h.0.1
may_happen cluster line (Up session count) h f = tt
may_happen cluster line (Down session count) h f = tt
may_happen cluster line (Pump session requests) h f = some_requests requests h.0.1
may_happen cluster line (Cut session) h f = tt

-- nothing stands behind the whole
pub no_more : (text : List ℕ) → take (length text - length text) (drop (length text) text) ≡ []
no_more text = take_rest text (length text) ∙ drop_of_length-le text (omega arith)

-- the error of an answer
pub error_is : {T E : Type 0} (a b : E) → IsErrOf {T = T} (Err a) b → a ≡ b
error_is a b h = cc

pub empty_is : (text : List ℕ) → (length text == 0) ≡ true → text ≡ []
empty_is [] e = refl
empty_is (b ∷ bs) e = absurd (omega (arith, eqb-true (length (b ∷ bs)) 0 e))

-- ---- whether a line is too long

pub is_too_long : (line : List ℕ) → 2_200_000 < length line → is_long line ≡ true
is_too_long line h = lt-ltb 2_200_000 (length line) h

pub is_not_long : (line : List ℕ) → length line ≤ 2_200_000 → is_long line ≡ false
is_not_long line h = go (is_long line) refl where
  go : (b : Bool) → is_long line ≡ b → b ≡ false
  go false e = refl
  go true e = absurd (omega (arith, ltb-true 2_200_000 (length line) e, h))
