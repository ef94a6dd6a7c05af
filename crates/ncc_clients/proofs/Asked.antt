-- What a session has asked: the questions that were answered, and the one that waits.
use Rattle.std.proofs.Common.{◌≡◌, ℕ, ◌≤◌, List, [], ◌∷◌, ◌++◌, length, Option, None, Some, refl, ap, sym, ◌∙◌, arith, subst}
use Rattle.std.proofs.Common.{length-append, append-nil}
use Rattle.ncc_store.specs.declared.call.Call.{Call}
use Rattle.ncc_session.specs.declared.ask.Fact.{Fact}
use Rattle.ncc_session.specs.Question.{Question, enter, run, leave, leave_noop, route, Row, Output, wrote, asked, questions_of}
use Rattle.ncc_session.specs.Session.{Standing, asked_at}
use Rattle.ncc_session.specs.Asking.{waiting, WentOn}
use Rattle.ncc_session.specs.Transactions.{Held, entered, after, Follows, AreTransactions}
use Rattle.ncc_clients.specs.Lawful.{needed}
use Rattle.ncc_clients.proofs.Known.{StandsStill, Fresh}

-- what is known of the open transaction behind these questions and their answers
abbrev pub holds : Option Held → List Question → List Fact → Option Held
holds held [] facts = held
holds held (q ∷ qs) [] = held
holds held (q ∷ qs) (fact ∷ facts) = holds (after held q fact) qs facts

pub holds_push : (held : Option Held) (qs : List Question) (facts : List Fact) (q : Question) (fact : Fact) → length qs ≡ length facts
    → holds held (qs ++ (q ∷ [])) (facts ++ (fact ∷ [])) ≡ after (holds held qs facts) q fact
holds_push held [] [] q fact e = refl
holds_push held [] (x ∷ facts) q fact e = absurd (omega (arith, e))
holds_push held (p ∷ qs) [] q fact e = absurd (omega (arith, e))
holds_push held (p ∷ qs) (x ∷ facts) q fact e = holds_push (after held p x) qs facts q fact (omega (arith, e))

-- the question that waits follows what was answered
pub follows : (held : Option Held) (qs : List Question) (facts : List Fact) (q : Question) → length qs ≡ length facts
    → AreTransactions held (qs ++ (q ∷ [])) facts → Follows (holds held qs facts) q
follows held [] [] q e t = t.0
follows held [] (x ∷ facts) q e t = absurd (omega (arith, e))
follows held (p ∷ qs) [] q e t = absurd (omega (arith, e))
follows held (p ∷ qs) (x ∷ facts) q e t = follows (after held p x) qs facts q (omega (arith, e)) t.1

-- a question that follows only in an open transaction
abbrev pub FollowsOpen : Question → Type 0
FollowsOpen q = (held : Option Held) → Follows held q → (h : Held) × (held ≡ Some h)

pub open_run : (calls : List Call) → FollowsOpen (run calls)
open_run calls None h = absurd h
open_run calls (Some x) h = (x, refl)

pub open_leave : (calls : List Call) (told : List (List Row)) → FollowsOpen (leave calls told)
open_leave calls told None h = absurd h
open_leave calls told (Some x) h = (x, refl)

pub open_noop : FollowsOpen leave_noop
open_noop None h = absurd h
open_noop (Some x) h = absurd h

pub open_by : (q : Question) → FollowsOpen q → (held : Option Held) → Follows held q → (h : Held) × (held ≡ Some h)
open_by q f = f

pub needed_push : (n : ℕ) (qs : List Question) (q : Question) → needed n (qs ++ (q ∷ [])) ≡ needed (needed n qs) (q ∷ [])
needed_push n [] q = refl
needed_push n (enter later ∷ qs) q = needed_push later qs q
needed_push n (run calls ∷ qs) q = needed_push n qs q
needed_push n (leave calls told ∷ qs) q = needed_push n qs q
needed_push n (leave_noop ∷ qs) q = needed_push n qs q
needed_push n (route ∷ qs) q = needed_push n qs q

pub questions_join : (a b : List Output) → questions_of (a ++ b) ≡ questions_of a ++ questions_of b
questions_join [] b = refl
questions_join (wrote bytes ∷ a) b = questions_join a b
questions_join (asked q ∷ a) b = ap (λ (qs : List Question). q ∷ qs) (questions_join a b)

-- what a session asked: so many questions as facts were answered, and at most one waits
pub record Asks (t : Standing) (facts : List Fact) : Type 0 where
  pub answered : List Question
  pub split : questions_of t.written ≡ answered ++ waiting (asked_at t.core)
  pub counted : length answered ≡ length facts

unfoldable pub asks_fresh : (t : Standing) → Fresh t → Asks t []
asks_fresh t k = record { answered = []; split = ap questions_of k.written ∙ ap waiting (sym k.asks); counted = refl }

unfoldable pub asks_still : (old new : Standing) (facts : List Fact) → StandsStill old new → Asks old facts → Asks new facts
asks_still old new facts k a = record {
  answered = a.answered;
  split = ap questions_of k.written ∙ a.split ∙ ap (λ p. a.answered ++ waiting (asked_at p)) (sym k.core);
  counted = a.counted;
}

-- behind more bytes, where no question waited
unfoldable pub asks_bytes : (old new : Standing) (facts : List Fact) → WentOn old new → asked_at old.core ≡ None → Asks old facts
    → Asks new facts
asks_bytes old new facts k none a = record {
  answered = a.answered;
  split = ap questions_of k.written ∙ questions_join old.written k.more
      ∙ ap (λ qs. qs ++ questions_of k.more) (a.split ∙ ap (λ o. a.answered ++ waiting o) none ∙ append-nil a.answered)
      ∙ ap (λ qs. a.answered ++ qs) k.asks;
  counted = a.counted;
}

-- behind a fact, which answers the question that waited
unfoldable pub asks_fact : (old new : Standing) (facts : List Fact) (q : Question) (fact : Fact) → WentOn old new
    → asked_at old.core ≡ Some q
    → Asks old facts → Asks new (facts ++ (fact ∷ []))
asks_fact old new facts q fact k some a = record {
  answered = a.answered ++ (q ∷ []);
  split = ap questions_of k.written ∙ questions_join old.written k.more
      ∙ ap (λ qs. qs ++ questions_of k.more) (a.split ∙ ap (λ o. a.answered ++ waiting o) some)
      ∙ ap (λ qs. (a.answered ++ (q ∷ [])) ++ qs) k.asks;
  counted = omega (arith, a.counted, length-append a.answered (q ∷ []), length-append facts (fact ∷ []));
}

-- what is needed by the transaction that is open has been reached
abbrev pub Reached : List Question → List Fact → ℕ → Type 0
Reached answered facts at = (h : Held) → holds None answered facts ≡ Some h → needed 0 answered ≤ at

-- a fact that begins a transaction comes only where its place is reached
abbrev pub Enters : Question → Fact → ℕ → Type 0
Enters (enter need) fact at = (h : Held) → entered fact ≡ Some h → need ≤ at
Enters _ fact at = Unit {0}

step_open : (held : Option Held) (calls : List Call) (fact : Fact) (h : Held) → after held (run calls) fact ≡ Some h
    → (g : Held) × (held ≡ Some g)
step_open None calls fact h e = absurd (cc)
step_open (Some g) calls fact h e = (g, refl)

leave_over : (held : Option Held) (calls : List Call) (told : List (List Row)) (fact : Fact) (h : Held)
    → after held (leave calls told) fact ≡ Some h → ⊥
leave_over None calls told fact h e = cc
leave_over (Some g) calls told fact h e = cc

noop_over : (held : Option Held) (fact : Fact) (h : Held) → after held leave_noop fact ≡ Some h → ⊥
noop_over None fact h e = cc
noop_over (Some g) fact h e = cc

route_over : (held : Option Held) (fact : Fact) (h : Held) → after held route fact ≡ Some h → ⊥
route_over None fact h e = cc
route_over (Some g) fact h e = cc

reached_by : (n at : ℕ) (held : Option Held) (q : Question) (fact : Fact) (h : Held) → ((g : Held) → held ≡ Some g → n ≤ at)
    → Enters q fact at
    → after held q fact ≡ Some h → needed n (q ∷ []) ≤ at
reached_by n at None (enter need) fact h was enters e = enters h e
reached_by n at (Some g) (enter need) fact h was enters e = enters h e
reached_by n at held (run calls) fact h was enters e = let g = step_open held calls fact h e in was g.0 g.1
reached_by n at held (leave calls told) fact h was enters e = absurd (leave_over held calls told fact h e)
reached_by n at held leave_noop fact h was enters e = absurd (noop_over held fact h e)
reached_by n at held route fact h was enters e = absurd (route_over held fact h e)

pub reached_fact : (answered : List Question) (facts : List Fact) (at : ℕ) (q : Question) (fact : Fact) → length answered ≡ length facts
    → Reached answered facts at → Enters q fact at → Reached (answered ++ (q ∷ [])) (facts ++ (fact ∷ [])) at
reached_fact answered facts at q fact counted was enters h e =
    let after_is : after (holds None answered facts) q fact ≡ Some h = sym (holds_push None answered facts q fact counted) ∙ e in
    let less = reached_by (needed 0 answered) at (holds None answered facts) q fact h was enters after_is in
    omega (arith, needed_push 0 answered q, less)

-- what the open transaction needs is reached where its question waits
pub need_reached : (t : Standing) (facts : List Fact) (at : ℕ) (q : Question) → FollowsOpen q → ((n : ℕ) → needed n (q ∷ []) ≡ n)
    → (a : Asks t facts) → asked_at t.core ≡ Some q → AreTransactions None (questions_of t.written) facts → Reached a.answered facts at
    → needed 0 (questions_of t.written) ≤ at
need_reached t facts at q open_ same a waits turn was =
    let split : questions_of t.written ≡ a.answered ++ (q ∷ []) = a.split ∙ ap (λ o. a.answered ++ waiting o) waits in
    let f = follows None a.answered facts q a.counted (subst (λ qs. AreTransactions None qs facts) split turn) in
    let h = open_by q open_ (holds None a.answered facts) f in
    omega (arith, was h.0 h.1, ap (needed 0) split, needed_push 0 a.answered q, same (needed 0 a.answered))
