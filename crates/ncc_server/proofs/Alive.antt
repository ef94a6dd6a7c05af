-- A connection that is served goes on.
use Rattle.std.proofs.Common.{◌≡◌, ℕ, ◌+◌, Some, None, List, [], ◌∷◌, ◌++◌, map, refl, sym, ap, ◌∙◌, subst, append-nil}
use Rattle.std.specs.Prelude.{IsTrue}
use Rattle.ncc_session.specs.declared.config.ConnConfig.{ConnConfig}
use Rattle.ncc_session.specs.declared.ask.Fact.{Fact}
use Rattle.ncc_session.specs.Question.{Question, questions_of, fits}
use Rattle.ncc_session.specs.Session.{Standing, session, asked_at}
use Rattle.ncc_session.specs.Asking.{waiting, WentOn}
use Rattle.ncc_session.specs.Talk.{Talk, Stands, Feeds, Tells, asked}
use Rattle.ncc_session.proofs.Conns.{hands_out, shows_asked}
use Rattle.ncc_session.proofs.Asking_by.{asks_on_bytes, asks_on_facts}
use Rattle.ncc_server.specs.Answered.{Answer, facts_of, questions_in, deadlines_in}
use Rattle.ncc_server.specs.Live.{IsLive, Live, AnsweredOne}
use Rattle.ncc_server.proofs.Lists.{facts_join, questions_more, deadlines_more, moments_more, questions_join}

-- no fact is left
pub none_left : (talk : Talk) (config : ConnConfig) (bytes : List ℕ) (facts : List Fact) (out : List ℕ) → Stands talk config bytes facts out
    → (session config bytes facts).facts ≡ []
none_left talk config bytes facts out k = ap (λ (s : Standing). s.facts) k.went

-- ---- what was written was handed out

pub live_handed : (config : ConnConfig) (wait : ℕ) (read wrote : List ℕ) (answers : List Answer) (moments : List ℕ) (old new : Talk)
    → new ≡ record old { out = [] } → Live config wait read wrote answers moments old
    → Live config wait read (wrote ++ old.out) answers moments new
live_handed config wait read wrote answers moments old new e k =
    subst (Live config wait read (wrote ++ old.out) answers moments) (sym e)
    (record { stands = hands_out old config read (facts_of answers) wrote k.stands; in_turn = k.in_turn; timed = k.timed })

-- ---- what was asked before and now

asked_more : (qs : List Question) (old new : Standing) (before now : List Question) → questions_of old.written ≡ qs ++ before
    → (w : WentOn old new) → waiting (asked_at new.core) ≡ now → questions_of new.written ≡ (qs ++ before) ++ now
asked_more qs old new before now e w n =
    ap questions_of w.written ∙ questions_join old.written w.more
    ∙ ap (λ (x : List Question). x ++ questions_of w.more) e ∙ ap (λ (x : List Question). (qs ++ before) ++ x) (w.asks ∙ n)

pub told_on : (config : ConnConfig) (wait : ℕ) (read wrote : List ℕ) (answers : List Answer) (moments : List ℕ) (old : Talk) (answer :
    Answer)
    → Live config wait read wrote answers moments old → asked old ≡ Some answer.question → IsTrue (fits answer.question answer.fact)
    → WentOn (session config read (facts_of answers)) (session config read (facts_of (answers ++ answer ∷ [])))
told_on config wait read wrote answers moments old answer k e f =
    let fs = facts_of answers in
    let q : asked_at (session config read fs).core ≡ Some answer.question = sym (shows_asked old config read fs wrote k.stands) ∙ e in
    subst (λ (gs : List Fact). WentOn (session config read fs) (session config read gs)) (sym (facts_join answers (answer ∷ [])))
    (asks_on_facts config read fs answer.question answer.fact (none_left old config read fs wrote k.stands) q f)

pub questions_told : (config : ConnConfig) (wait : ℕ) (read wrote : List ℕ) (answers : List Answer) (moments : List ℕ) (old : Talk)
    (answer : Answer)
    → (k : Live config wait read wrote answers moments old) → asked old ≡ Some answer.question → IsTrue (fits answer.question answer.fact)
    → questions_of (session config read (facts_of (answers ++ answer ∷ []))).written
    ≡ questions_in (answers ++ answer ∷ []) ++ waiting (asked_at (session config read (facts_of (answers ++ answer ∷ []))).core)
questions_told config wait read wrote answers moments old answer k e f =
    asked_more (questions_in answers) (session config read (facts_of answers)) (session config read (facts_of (answers ++ answer ∷ [])))
    (answer.question ∷ []) _ (k.in_turn ∙ ap (λ o. questions_in answers ++ waiting o) e)
    (told_on config wait read wrote answers moments old answer k e f) refl
    ∙ ap (λ (x : List Question). x ++ waiting (asked_at (session config read (facts_of (answers ++ answer ∷ []))).core))
    (sym (questions_more answers (answer ∷ [])))

pub timed_told : (wait : ℕ) (answers : List Answer) (moments : List ℕ) (answer : Answer) (now : ℕ)
    → map (λ n. n + wait) moments ≡ deadlines_in answers
    → answer.deadline ≡ now + wait → map (λ n. n + wait) (moments ++ now ∷ []) ≡ deadlines_in (answers ++ answer ∷ [])
timed_told wait answers moments answer now t d =
    moments_more wait moments (now ∷ []) ∙ ap (λ (x : List ℕ). x ++ (now + wait) ∷ []) t
    ∙ ap (λ x. deadlines_in answers ++ x ∷ []) (sym d) ∙ sym (deadlines_more answers (answer ∷ []))

-- ---- a question was answered

pub live_answered : (config : ConnConfig) (wait : ℕ) (read wrote : List ℕ) (answers : List Answer) (moments : List ℕ)
    (told : List Answer → Type 0) (ticked : List ℕ → Type 0) (old new : Talk) → (a : AnsweredOne wait told ticked old new)
    → Live config wait read wrote answers moments old
    → Live config wait read wrote (answers ++ a.answer ∷ []) (moments ++ a.now ∷ []) new
live_answered config wait read wrote answers moments told ticked old new a k =
    let s : Stands new config read (facts_of (answers ++ a.answer ∷ [])) wrote =
    subst (λ (gs : List Fact). Stands new config read gs wrote) (sym (facts_join answers (a.answer ∷ [])))
    (a.tells config read (facts_of answers) wrote k.stands) in
    record {
      stands = s;
      in_turn = questions_told config wait read wrote answers moments old a.answer k a.waited a.it_fits
          ∙ ap (λ o. questions_in (answers ++ a.answer ∷ []) ++ waiting o) (sym (shows_asked new config read _ wrote s));
      timed = timed_told wait answers moments a.answer a.now k.timed a.deadline_is;
    }

-- ---- a piece was fed

pub fed_on : (config : ConnConfig) (wait : ℕ) (read wrote piece : List ℕ) (answers : List Answer) (moments : List ℕ) (old : Talk)
    → Live config wait read wrote answers moments old → asked old ≡ None
    → WentOn (session config read (facts_of answers)) (session config (read ++ piece) (facts_of answers))
fed_on config wait read wrote piece answers moments old k e =
    let fs = facts_of answers in
    asks_on_bytes config read piece fs (none_left old config read fs wrote k.stands) (sym (shows_asked old config read fs wrote
    k.stands) ∙ e)

pub questions_fed : (config : ConnConfig) (wait : ℕ) (read wrote piece : List ℕ) (answers : List Answer) (moments : List ℕ) (old : Talk)
    → (k : Live config wait read wrote answers moments old) → asked old ≡ None
    → questions_of (session config (read ++ piece) (facts_of answers)).written
    ≡ questions_in answers ++ waiting (asked_at (session config (read ++ piece) (facts_of answers)).core)
questions_fed config wait read wrote piece answers moments old k e =
    let qs = questions_in answers in
    asked_more qs (session config read (facts_of answers)) (session config (read ++ piece) (facts_of answers)) [] _
    (k.in_turn ∙ ap (λ o. qs ++ waiting o) e) (fed_on config wait read wrote piece answers moments old k e) refl
    ∙ ap (λ (x : List Question). x ++ waiting (asked_at (session config (read ++ piece) (facts_of answers)).core)) (append-nil qs)

pub live_fed : (config : ConnConfig) (wait : ℕ) (read wrote piece : List ℕ) (answers : List Answer) (moments : List ℕ) (old new : Talk)
    → Feeds old piece new → asked old ≡ None → Live config wait read wrote answers moments old
    → Live config wait (read ++ piece) wrote answers moments new
live_fed config wait read wrote piece answers moments old new feeds e k =
    let s = feeds config read (facts_of answers) wrote k.stands in
    record {
      stands = s;
      in_turn = questions_fed config wait read wrote piece answers moments old k e
          ∙ ap (λ o. questions_in answers ++ waiting o) (sym (shows_asked new config (read ++ piece) (facts_of answers) wrote s));
      timed = k.timed;
    }

-- ---- what stands for a session goes on standing for one

pub is_live_handed : (old new : Talk) → new ≡ record old { out = [] } → IsLive old → IsLive new
is_live_handed old new e k =
    subst IsLive (sym e)
    (record {
      config = k.config;
      bytes = k.bytes;
      facts = k.facts;
      out = k.out ++ old.out;
      stands = hands_out old k.config k.bytes
          k.facts k.out k.stands;
    })

pub is_live_told : (old new : Talk) (fact : Fact) → Tells old fact new → IsLive old → IsLive new
is_live_told old new fact t k =
    record {
      config = k.config;
      bytes = k.bytes;
      facts = k.facts ++ fact ∷ [];
      out = k.out;
      stands = t k.config k.bytes k.facts k.out
          k.stands;
    }

pub is_live_fed : (old new : Talk) (piece : List ℕ) → Feeds old piece new → IsLive old → IsLive new
is_live_fed old new piece t k =
    record { config = k.config; bytes = k.bytes ++ piece; facts = k.facts; out = k.out; stands = t k.config k.bytes k.facts k.out k.stands }
