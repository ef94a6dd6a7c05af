-- A connection that is given up.
use Rattle.std.proofs.Common.{◌≡◌, ℕ, ◌+◌, Bool, true, false, Option, Some, None, List, [], ◌∷◌, ◌++◌, take, drop, refl, sym, ap, ◌∙◌}
use Rattle.std.proofs.Common.{subst, append_assoc, append-nil, arith, take-append-drop}
use Rattle.std.specs.Prelude.{if◌then◌else◌}
use Rattle.ncc_session.specs.declared.config.ConnConfig.{ConnConfig}
use Rattle.ncc_session.specs.declared.ask.Fact.{Fact}
use Rattle.ncc_session.specs.Question.{Question, bytes_of, questions_of}
use Rattle.ncc_session.specs.Session.{Standing, session, asked_at, is_ended}
use Rattle.ncc_session.specs.Asking.{waiting}
use Rattle.ncc_session.specs.Talk.{Talk, Stands, FeedBreaks, Broke, asked}
use Rattle.ncc_session.proofs.Conns.{shows_asked}
use Rattle.ncc_server.specs.declared.end.ConnEnd.{ConnEnd}
use Rattle.ncc_server.specs.declared.end.ConnEnd.TheVariants as end
use Rattle.ncc_server.specs.declared.serving.Broken.{Broken}
use Rattle.ncc_server.specs.declared.serving.Broken.TheVariants as broken
use Rattle.ncc_server.specs.Answered.{Answer, facts_of, questions_in, deadlines_in}
use Rattle.ncc_server.specs.Serving.{Told, IsWhole, OneLate}
use Rattle.ncc_server.specs.Live.{Live, GivenUp, HandedSome, NoAnswer, NotTaken, end_of}
use Rattle.ncc_server.proofs.Lists.{moments_more, bytes_join}
use Rattle.ncc_server.proofs.Alive.{none_left, told_on, questions_told, timed_told, fed_on, questions_fed}

-- the bytes of a session, where this was written of them
wrote_some : (talk : Talk) (config : ConnConfig) (bytes : List ℕ) (facts : List Fact) (out : List ℕ)
    → (k : Stands talk config bytes facts out)
    → bytes_of (session config bytes facts).written ≡ out ++ talk.out
wrote_some talk config bytes facts out k = ap (λ (s : Standing). bytes_of s.written) k.went ∙ k.out_is

-- the questions of a session that is served
in_turn_at : (config : ConnConfig) (wait : ℕ) (read wrote : List ℕ) (answers : List Answer) (moments : List ℕ) (talk : Talk)
    → (k : Live config wait read wrote answers moments talk)
    → questions_of (session config read (facts_of answers)).written
    ≡ questions_in answers ++ waiting (asked_at (session config read (facts_of answers)).core)
in_turn_at config wait read wrote answers moments talk k =
    k.in_turn ∙ ap (λ o. questions_in answers ++ waiting o) (shows_asked talk config read (facts_of answers) wrote k.stands)

none_late : (e : ConnEnd) → OneLate e []
none_late end.BackendFault = omega arith
none_late end.Memory = omega arith
none_late end.Closed = refl
none_late end.Refused = refl
none_late end.BadMagic = refl
none_late end.NoVersion = refl
none_late (end.Malformed message at cause) = refl
none_late (end.MessageTooLong message) = refl
none_late end.Truncated = refl
none_late end.ReadFault = refl
none_late end.WriteFault = refl
none_late end.Worn = refl

-- so far: all that was written but what is still held
pub told_so_far : (config : ConnConfig) (wait : ℕ) (read wrote : List ℕ) (answers : List Answer) (moments : List ℕ) (talk : Talk) (e :
    ConnEnd)
    (out unwritten : List ℕ) → wrote ++ talk.out ≡ out ++ unwritten → (IsWhole e → unwritten ≡ [])
    → Live config wait read wrote answers moments talk
    → Told config wait e read out answers moments
told_so_far config wait read wrote answers moments talk e out unwritten w all k = record {
  taken = none_left talk config read (facts_of answers) wrote k.stands;
  unwritten = unwritten;
  written = wrote_some talk config read (facts_of answers) wrote k.stands ∙ w;
  whole = all;
  unanswered = waiting (asked_at (session config read (facts_of answers)).core);
  asked = in_turn_at config wait read wrote answers moments talk k;
  waits = λ h. refl;
  late = [];
  deadlines = k.timed ∙ sym (append-nil (deadlines_in answers));
  one_late = none_late e;
}

-- memory ran out elsewhere
pub unfinished : (config : ConnConfig) (wait : ℕ) (read wrote : List ℕ) (answers : List Answer) (moments : List ℕ) (talk : Talk)
    → Live config wait read wrote answers moments talk → GivenUp config wait read wrote answers moments broken.Memory
unfinished config wait read wrote answers moments talk k = record {
  told = told_so_far config wait read wrote answers moments talk end.Memory wrote talk.out refl (λ h. absurd h) k;
  goes_on = λ e. absurd (cc);
}

not_whole : (b : Broken) → (b ≡ broken.Backend → ⊥) → IsWhole (end_of b) → ⊥
not_whole broken.Write n h = h
not_whole broken.Memory n h = h
not_whole broken.Backend n h = n refl

-- a write failed, or had no memory
pub given_handed : (config : ConnConfig) (wait : ℕ) (read wrote : List ℕ) (answers : List Answer) (moments : List ℕ) (took : List ℕ
    → Type 0)
    (old : Talk) (b : Broken) → (h : HandedSome took old b) → Live config wait read wrote answers moments old
    → GivenUp config wait read (wrote ++ take h.count old.out) answers moments b
given_handed config wait read wrote answers moments took old b h k = record {
  told = told_so_far config wait read wrote answers moments old (end_of b) (wrote ++ take h.count old.out) (drop h.count old.out)
      (ap (λ (x : List ℕ). wrote ++ x) (sym (take-append-drop h.count old.out)) ∙ sym (append_assoc wrote (take h.count old.out) (drop
      h.count old.out)))
      (λ w. absurd (not_whole b h.no_answer w)) k;
  goes_on = λ e. absurd (h.no_answer e);
}

live_waits : (b : Bool) (o : Option Question) (q : Question) → (if b then None else o) ≡ Some q → b ≡ false
live_waits false o q e = refl
live_waits true o q e = absurd (cc)

one_late_by : (b : Broken) (x : ℕ) → (b ≡ broken.Write → ⊥) → OneLate (end_of b) (x ∷ [])
one_late_by broken.Write x n = absurd (n refl)
one_late_by broken.Backend x n = omega arith
one_late_by broken.Memory x n = omega arith

-- the question got no answer
pub given_none : (config : ConnConfig) (wait : ℕ) (read wrote : List ℕ) (answers : List Answer) (moments : List ℕ) (told : List Answer
    → Type 0)
    (ticked : List ℕ → Type 0) (old : Talk) (b : Broken) → old.out ≡ [] → (n : NoAnswer told ticked old b)
    → Live config wait read wrote answers moments old
    → GivenUp config wait read wrote answers (moments ++ n.now ∷ []) b
given_none config wait read wrote answers moments told ticked old b none n k =
    let fs = facts_of answers in
    let t = told_so_far config wait read wrote answers moments old (end_of b) wrote [] (ap (λ (x : List ℕ). wrote ++ x) none) (λ h.
    refl) k in
    record {
      told = record {
        taken = t.taken;
        unwritten = t.unwritten;
        written = t.written;
        whole = t.whole;
        unanswered = t.unanswered;
        asked = t.asked;
        waits = t.waits;
        late = (n.now + wait) ∷ [];
        deadlines = moments_more wait moments (n.now ∷ []) ∙ ap (λ (x : List ℕ). x ++ (n.now + wait) ∷ []) k.timed;
        one_late = one_late_by b (n.now + wait) n.not_written;
      };
      goes_on = λ e. live_waits (is_ended (session config read fs).core.state) _ n.question (sym (shows_asked old config read fs wrote
          k.stands) ∙ n.waited);
    }

-- memory ran out in a session
broke_some : (talk : Talk) (config : ConnConfig) (bytes : List ℕ) (facts : List Fact) (out : List ℕ)
    → (k : Broke talk config bytes facts out)
    → bytes_of (session config bytes facts).written ≡ out ++ (talk.out ++ bytes_of k.rest)
broke_some talk config bytes facts out k =
    ap bytes_of k.begins ∙ bytes_join k.front k.rest ∙ ap (λ (x : List ℕ). x ++ bytes_of k.rest) k.out_is ∙ append_assoc out talk.out
    (bytes_of k.rest)

pub given_not_taken : (config : ConnConfig) (wait : ℕ) (read wrote : List ℕ) (answers : List Answer) (moments : List ℕ) (told : List
    Answer → Type 0)
    (ticked : List ℕ → Type 0) (old new : Talk) (b : Broken) → (n : NotTaken wait told ticked old new b)
    → Live config wait read wrote answers moments old
    → GivenUp config wait read wrote (answers ++ n.answer ∷ []) (moments ++ n.now ∷ []) b
given_not_taken config wait read wrote answers moments told ticked old new b n k =
    let all = answers ++ n.answer ∷ [] in
    let w = told_on config wait read wrote answers moments old n.answer k n.waited n.it_fits in
    let broke = n.breaks config read (facts_of answers) wrote k.stands in
    subst (GivenUp config wait read wrote all (moments ++ n.now ∷ [])) (sym n.memory)
    (record {
      told = record {
        taken = w.taken;
        unwritten = new.out ++ bytes_of broke.rest;
        written = ap (λ (gs : List Fact). bytes_of (session config read gs).written) (Rattle.ncc_server.proofs.Lists.facts_join answers
            (n.answer ∷ []))
            ∙ broke_some new config read (facts_of answers ++ n.answer.fact ∷ []) wrote broke;
        whole = λ h. absurd h;
        unanswered = waiting (asked_at (session config read (facts_of all)).core);
        asked = questions_told config wait read wrote answers moments old n.answer k n.waited n.it_fits;
        waits = λ h. refl;
        late = [];
        deadlines = timed_told wait answers moments n.answer n.now k.timed n.deadline_is ∙ sym (append-nil (deadlines_in all));
        one_late = omega arith;
      };
      goes_on = λ e. absurd (cc);
    })

pub given_fed : (config : ConnConfig) (wait : ℕ) (read wrote piece : List ℕ) (answers : List Answer) (moments : List ℕ) (old new : Talk)
    → FeedBreaks old piece new → asked old ≡ None → Live config wait read wrote answers moments old
    → GivenUp config wait (read ++ piece) wrote answers moments broken.Memory
given_fed config wait read wrote piece answers moments old new breaks e k =
    let fs = facts_of answers in
    let w = fed_on config wait read wrote piece answers moments old k e in
    let broke = breaks config read fs wrote k.stands in
    record {
      told = record {
        taken = w.taken;
        unwritten = new.out ++ bytes_of broke.rest;
        written = broke_some new config (read ++ piece) fs wrote broke;
        whole = λ h. absurd h;
        unanswered = waiting (asked_at (session config (read ++ piece) fs).core);
        asked = questions_fed config wait read wrote piece answers moments old k e;
        waits = λ h. refl;
        late = [];
        deadlines = k.timed ∙ sym (append-nil (deadlines_in answers));
        one_late = omega arith;
      };
      goes_on = λ e. absurd (cc);
    }
