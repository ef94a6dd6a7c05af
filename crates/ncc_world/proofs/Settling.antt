-- Turns of whatever cluster: each is made of small things, there is one turn to make, and one way to go on.
use Rattle.std.proofs.Common.{◌≡◌, ℕ, Bool, true, false, cond, List, map, Option, Some, None, refl, ap, sym, ◌∙◌, subst}
use Rattle.std.specs.Prelude.{slice_get}
use Rattle.ncc_store.specs.declared.step.Step.{Step}
use Rattle.ncc_store.specs.Exec.{call_of}
use Rattle.ncc_tx.specs.declared.entry.Entry.{Entry}
use Rattle.ncc_tx.specs.declared.entry.Entry.TheVariants.{Noop, Tx}
use Rattle.ncc_session.specs.declared.ask.Fact.{Fact}
use Rattle.ncc_session.specs.Core.{leave_of}
use Rattle.ncc_session.specs.Question.{Question}
use Rattle.ncc_session.specs.Session.{asked_at}
use Rattle.ncc_clients.specs.Members.{Cluster}
use Rattle.ncc_clients.specs.Run.{Run, Client, Reply, waits, tells, proposes, talk_of, question_of, reply, reply_by, proposed}
use Rattle.ncc_clients.specs.Turn.{Turn, Turns, Here as Ends, Then as Turning, AtRest, Does}
use Rattle.ncc_clients.specs.Moment.{Small, Tells, Offers, Path, Here, Then, IsOpen}
use Rattle.ncc_clients.specs.Laws.{TurnsAreSmall, OneWay}

-- ---- paths

pub path_through : {S : Type 0} (C : Cluster S) (r s t : Run S) → Path C r s → Path C s t → Path C r t
path_through C r s t (Here _) q = q
path_through C r s t (Then _ m _ first rest) q = Then r m t first (path_through C m s t rest q)

pub path_of : {S : Type 0} (C : Cluster S) (r s : Run S) → Small C r s → Path C r s
path_of C r s h = Then r s s h (Here s)

turns_through : {S : Type 0} (C : Cluster S) (line : ℕ) (r s t : Run S) → Turns C line r s → Turns C line s t → Turns C line r t
turns_through C line r s t (Ends _) q = q
turns_through C line r s t (Turning _ m _ first rest) q = Turning r m t first (turns_through C line m s t rest q)

pub turns_more : {S : Type 0} (C : Cluster S) (line : ℕ) (r s t : Run S) → Turns C line r s → Turn C line s t → Turns C line r t
turns_more C line r s t p h = turns_through C line r s t p (Turning s t t h (Ends t))

-- ---- one turn

-- steps of the same calls are the same
abbrev pub SameSteps : Type 0
SameSteps = (xs ys : List Step) → map call_of xs ≡ map call_of ys → xs ≡ ys

same_entry : SameSteps → (x y : Entry) → leave_of x ≡ leave_of y → x ≡ y
same_entry same Noop Noop e = refl
same_entry same Noop (Tx steps told) e = absurd (cc)
same_entry same (Tx steps told) Noop e = absurd (cc)
same_entry same (Tx steps told) (Tx others said) e =
    let calls : map call_of steps ≡ map call_of others = cc in
    let rows : told ≡ said = cc in
    let all : steps ≡ others = same steps others calls in
    cc

one_does : {S : Type 0} → SameSteps → (C : Cluster S) (line : ℕ) (r : Run S) (i : ℕ) (c : Client) (p : Reply) (t u : Run S)
    → Does C line r i c p t → Does C line r i c p u → t ≡ u
one_does same C line r i c waits t u h g = absurd h
one_does same C line r i c (tells fact) t u h g = h ∙ sym g
one_does same C line r i c proposes t u h g =
    let both : Some (leave_of h.0) ≡ Some (leave_of g.0) = sym h.1 ∙ g.1 in
    let asked : leave_of h.0 ≡ leave_of g.0 = cc in
    let entry : h.0 ≡ g.0 = same_entry same h.0 g.0 asked in
    h.2 ∙ (ap (λ x. proposed C line r i c (C.propose r.members c.member x)) entry ∙ sym g.2)

pub one_turn : {S : Type 0} → SameSteps → (C : Cluster S) (line : ℕ) (r t u : Run S) → Turn C line r t → Turn C line r u → t ≡ u
one_turn same C line r t u h g =
    let first : Some g.index ≡ Some h.index = sym g.first ∙ h.first in
    let index : g.index ≡ h.index = cc in
    let at : Some g.client ≡ Some h.client = sym g.there ∙ (ap (λ i. slice_get r.clients i) index ∙ h.there) in
    let client : g.client ≡ h.client = cc in
    let moved : Does C line r h.index g.client (reply C r g.client) u =
    subst (λ i. Does C line r i g.client (reply C r g.client) u) index g.does in
    let same_does : Does C line r h.index h.client (reply C r h.client) u =
    subst (λ c. Does C line r h.index c (reply C r c) u) client moved in
    one_does same C line r h.index h.client (reply C r h.client) t u h.does same_does

-- who is at rest takes no turn
rest_stays : {S : Type 0} (C : Cluster S) (line : ℕ) (r t : Run S) → AtRest C r → Turn C line r t → ⊥
rest_stays C line r t a h = let both : Some h.index ≡ None = sym h.first ∙ a in absurd (cc)

-- from each moment on the way turns go on to the end
pub turns_on : {S : Type 0} → SameSteps → (C : Cluster S) (line : ℕ) (r m t : Run S) → Turns C line r m → Turns C line r t → AtRest C t
    → Turns C line m t
turns_on same C line r m t (Ends _) q a = q
turns_on same C line r m t (Turning _ n _ h more) (Ends _) a = absurd (rest_stays C line r n a h)
turns_on same C line r m t (Turning _ n _ h more) (Turning _ o _ g rest) a =
    let here : o ≡ n = one_turn same C line r o n g h in
    turns_on same C line n m t more (subst (λ x. Turns C line x t) here rest) a

-- from who is at rest turns lead nowhere else
rest_ends : {S : Type 0} (C : Cluster S) (line : ℕ) (r t : Run S) → AtRest C r → Turns C line r t → r ≡ t
rest_ends C line r t a (Ends _) = refl
rest_ends C line r t a (Turning _ n _ first rest) = absurd (rest_stays C line r n a first)

-- there is one way to go on
pub one_way : {S : Type 0} → SameSteps → (C : Cluster S) → OneWay C
one_way same C line r s t h g = rest_ends C line s t h.rests (turns_on same C line r s t h.turns g.turns g.rests)

-- ---- turns are small things

-- a connection that is answered asks, and is open
pub record Asking {S : Type 0} (C : Cluster S) (r : Run S) (i : ℕ) (c : Client) : Type 0 where
  pub there : IsOpen r i c
  pub question : Question
  pub asks : question_of C c ≡ Some question

pub asking : {S : Type 0} (C : Cluster S) (r : Run S) (i : ℕ) (c : Client) → slice_get r.clients i ≡ Some c
    → (reply C r c ≡ waits → ⊥) → Asking C r i c
unfolding reply
asking C r i c e f = go (question_of C c) refl where
  open_by : (b : Bool) (question : Question) → cond b None (asked_at (talk_of C c).core) ≡ Some question → b ≡ false
  open_by true question g = absurd (cc)
  open_by false question g = refl

  go : (o : Option Question) → question_of C c ≡ o → Asking C r i c
  go None g = absurd (f (ap (reply_by C r c) g))
  go (Some question) g = record {
    there = record { there = e; live = open_by c.closed question g };
    question = question;
    asks = g;
  }

-- a reply that is an answer is no waiting
pub told_waits : (p : Reply) (fact : Fact) → p ≡ tells fact → p ≡ waits → ⊥
told_waits p fact e g = let both : tells fact ≡ waits = sym e ∙ g in absurd (cc)

pub proposed_waits : (p : Reply) → p ≡ proposes → p ≡ waits → ⊥
proposed_waits p e g = let both : proposes ≡ waits = sym e ∙ g in absurd (cc)

small_by : {S : Type 0} (C : Cluster S) (line : ℕ) (r s : Run S) (i : ℕ) (c : Client) (p : Reply) → slice_get r.clients i ≡ Some c
    → reply C r c ≡ p → Does C line r i c p s → Small C r s
small_by C line r s i c waits e f d = absurd d
small_by C line r s i c (tells fact) e f d =
    let a : Asking C r i c = asking C r i c e (told_waits (reply C r c) fact f) in
    subst (λ x. Small C r x) (sym d) (Tells line r i c fact (record { there = a.there; replies = f }))
small_by C line r s i c proposes e f d =
    let a : Asking C r i c = asking C r i c e (proposed_waits (reply C r c) f) in
    subst (λ x. Small C r x) (sym d.2) (Offers line r i c d.0 (record { there = a.there; replies = f; entry_is = d.1 }))

pub turn_is_small : {S : Type 0} (C : Cluster S) (line : ℕ) (r s : Run S) → Turn C line r s → Small C r s
turn_is_small C line r s h = small_by C line r s h.index h.client (reply C r h.client) h.there refl h.does

pub turns_are_small : {S : Type 0} (C : Cluster S) → TurnsAreSmall C
turns_are_small C line r s (Ends _) = Here r
turns_are_small C line r s (Turning _ m _ first rest) = Then r m s (turn_is_small C line r m first) (turns_are_small C line m s rest)
