-- In every fleet, logs, lists and messages have entries that a log may have, since no other is proposed.
use Rattle.std.proofs.Common.{ℕ, ◌+◌, Bool, true, false, ◌&&◌, nat_eq, nat_lt, if◌then◌else◌, List, [], ◌∷◌, length, map, take, drop, Option, Some, None, sym, subst}
use Rattle.std.specs.List.{All, AllByRecursion}
use Rattle.std.proofs.lemmas.List.Elements.{All-append, All-cons, All-drop, All-nil, All-take, All-from_recursion, recursion_from_All}
use Rattle.ncc_tx.specs.declared.entry.Entry.TheVariants.{Noop}
use Rattle.ncc_tx.specs.declared.entry.Item.{Item}
use Rattle.ncc_tx.specs.Kept.{AllAllowed}
use Rattle.ncc_tx.proofs.Entries.{noop_is}
use Rattle.ncc_raft.specs.declared.message.Envelope.{Envelope}
use Rattle.ncc_raft.specs.declared.message.Body.{Body}
use Rattle.ncc_raft.specs.declared.message.Body.TheVariants.{VoteAsk, VoteReply, Append, AppendReply, Pull, Batch}
use Rattle.ncc_raft.specs.declared.message.Note.TheVariants.{Nothing}
use Rattle.ncc_raft.specs.Member.{Seat, Member, Event, Timeout, Beat, Receive, Propose, Outcome, cores_of, is_leader, is_candidate}
use Rattle.ncc_raft.specs.Logs.{Conflict, merged, accepted, allowed_front}
use Rattle.ncc_raft.specs.Elections.{raised, is_spent, timed_out, ask_to, may_vote, counted, is_elected, noop_of, won}
use Rattle.ncc_raft.specs.Appending.{added, append_to, appends, others, applied, contradicted, follows, has_prev}
use Rattle.ncc_raft.specs.Step.{may_add, on_body, term_in, lifted, heard, settled, step, took_or_not, unless, answered}
use Rattle.ncc_safety.specs.Cluster.{new_member}
use Rattle.ncc_safety.specs.Fleet.{Shape, seat_at}
use Rattle.ncc_safety.specs.FleetLaws.{OnlyAllowed}
use Rattle.ncc_safety.proofs.Lasting.{IsAllowed, Meets, Lasts, IsSoSeen, always_so}
use Rattle.ncc_safety.proofs.Reach.{front_take}

-- the entries of its items are
abbrev BodyAllowed : Body → Type 0
BodyAllowed (Append t prev prev_term commit items) = AllAllowed items
BodyAllowed (Batch first items) = AllAllowed items
BodyAllowed _ = Unit {0}

abbrev HasAllowed : Envelope → Type 0
HasAllowed e = BodyAllowed e.body

abbrev LogAllowed : ℕ → Member → Type 0
LogAllowed i m = AllAllowed m.log

abbrev Both : Outcome → Type 0
Both o = AllAllowed o.member.log × All (λ e. HasAllowed e) o.sent

-- ---- pieces

if_both : (b : Bool) (x y : Outcome) → Both x → Both y → Both (if b then x else y)
if_both true x y p q = p
if_both false x y p q = q

none : All (λ e. HasAllowed e) []
none = All-nil (λ (e : Envelope). HasAllowed e)

one : (e : Envelope) → HasAllowed e → All (λ x. HasAllowed x) (e ∷ [])
one e a = All-cons (λ (x : Envelope). HasAllowed x) e [] a none

each : (f : ℕ → Envelope) (js : List ℕ) → ((j : ℕ) → HasAllowed (f j)) → All (λ e. HasAllowed e) (map f js)
each f [] h = none
each f (j ∷ js) h = All-cons (λ (x : Envelope). HasAllowed x) (f j) (map f js) (h j) (each f js h)

front_allowed : (n : ℕ) (xs : List Item) → AllAllowed xs → AllAllowed (allowed_front (drop n xs))
front_allowed n xs a = subst (λ z. AllAllowed z) (sym (front_take (drop n xs)))
    (All-take (λ (i : Item). IsAllowed i) _ (drop n xs) (All-drop (λ (i : Item). IsAllowed i) n xs a))

appends_allowed : (seat : Seat) (m : Member) → AllAllowed m.log → All (λ e. HasAllowed e) (appends seat m)
appends_allowed seat m a = each (append_to seat m) (others seat) (λ j. front_allowed _ m.log a)

ask_allowed : (seat : Seat) (m : Member) (j : ℕ) → HasAllowed (ask_to seat m j)
ask_allowed seat m j = go (nat_eq j seat.id) (VoteReply m.term true) _ tt tt
  where
    go : (b : Bool) (x y : Body) → BodyAllowed x → BodyAllowed y → BodyAllowed (if b then x else y)
    go true x y p q = p
    go false x y p q = q

merged_allowed : (old new : List Item) → AllByRecursion (λ i. IsAllowed i) old → AllByRecursion (λ i. IsAllowed i) new →
    AllByRecursion (λ i. IsAllowed i) (merged old new)
unfolding merged
merged_allowed old [] a b = a
merged_allowed [] (x ∷ xs) a b = b
merged_allowed (o ∷ os) (x ∷ xs) a b = go (nat_eq o.term x.term) (merged_allowed os xs a.1 b.1)
  where
    go : (c : Bool) → AllByRecursion (λ i. IsAllowed i) (merged os xs) →
        AllByRecursion (λ i. IsAllowed i) (if c then o ∷ merged os xs else x ∷ xs)
    go true r = (a.0, r)
    go false r = b

accepted_allowed : (log : List Item) (prev : ℕ) (items : List Item) → AllAllowed log → AllAllowed items →
    AllAllowed (accepted log prev items)
unfolding accepted
accepted_allowed log prev items a b =
    let rest = merged_allowed (drop prev log) items
    (recursion_from_All (λ (i : Item). IsAllowed i) (drop prev log) (All-drop (λ (i : Item). IsAllowed i) prev log a))
    (recursion_from_All (λ (i : Item). IsAllowed i) items b) in
    All-append (λ (i : Item). IsAllowed i) (take prev log) (merged (drop prev log) items)
    (All-take (λ (i : Item). IsAllowed i) prev log a) (All-from_recursion (λ (i : Item). IsAllowed i) (merged (drop prev log) items) rest)

noop_allowed : (seat : Seat) (m : Member) → AllAllowed (noop_of seat m)
noop_allowed seat m = go (nat_lt (length m.log) seat.limit)
  where
    go : (b : Bool) → AllAllowed (if b then record { term = m.term; entry = Noop } ∷ [] else [])
    go true = All-cons (λ (i : Item). IsAllowed i) (record { term = m.term; entry = Noop }) [] noop_is (All-nil (λ (i : Item). IsAllowed i))
    go false = All-nil (λ (i : Item). IsAllowed i)

-- ---- the rules

settled_both : (seat : Seat) (o : Outcome) → Both o → Both (settled seat o)
settled_both seat o p = if_both (is_leader o.member.role) _ o p p

elected_both : (seat : Seat) (m : Member) → AllAllowed m.log → Both (record {
  member = won seat m;
  sent = appends seat (won seat m);
  note = Nothing;
})
elected_both seat m a =
    let log : AllAllowed (won seat m).log = All-append (λ (i : Item). IsAllowed i) m.log (noop_of seat m) a (noop_allowed seat m) in
    (log, appends_allowed seat (won seat m) log)

offered_both : (seat : Seat) (m : Member) (from prev prev_term commit : ℕ) (items : List Item) (x : Option Conflict) → AllAllowed m.log →
    AllAllowed items → Both (unless x (follows m from) (took_or_not seat (follows m from) from prev prev_term commit items))
offered_both seat m from prev prev_term commit items (Some x) a b = (a, none)
offered_both seat m from prev prev_term commit items None a b =
    if_both (has_prev (follows m from) prev prev_term) _ _ (accepted_allowed m.log prev items a b, one _ tt) (a, one _ tt)

body_both : (seat : Seat) (m : Member) (from : ℕ) (b : Body) → AllAllowed m.log → BodyAllowed b → Both (on_body seat m from b)
body_both seat m from (VoteAsk t place last) a c = if_both (may_vote m from t place last) _ _ (a, one _ tt) (a, one _ tt)
body_both seat m from (VoteReply t granted) a c =
    if_both (is_candidate m.role && nat_eq m.term t && granted) _ _
    (if_both (is_elected seat (counted m from)) _ _ (elected_both seat (counted m from) a) (a, none)) (a, none)
body_both seat m from (Append t prev prev_term commit items) a c =
    if_both (nat_lt t m.term) _ _ (a, one _ tt)
    (if_both (is_leader m.role) _ _ (a, none)
    (if_both (nat_lt seat.limit (prev + length items)) _ _ (a, none)
    (offered_both seat m from prev prev_term commit items (contradicted (follows m from) prev prev_term items) a c)))
body_both seat m from (AppendReply t has place) a c = if_both (is_leader m.role && nat_eq m.term t) _ _ (told has) (a, none)
  where
    told : (b : Bool) → Both (answered seat m from b place)
    told true = (a, none)
    told false = (a, one _ (front_allowed _ m.log a))
body_both seat m from (Pull have) a c = (a, one _ (front_allowed have (applied m) (All-take (λ (i : Item). IsAllowed i) m.commit m.log a)))
body_both seat m from (Batch first items) a c = (a, none)

lifted_log : (m : Member) (b : Body) → AllAllowed m.log → AllAllowed (lifted m b).log
lifted_log m b a = go (nat_lt m.term (term_in b))
  where
    go : (l : Bool) → AllAllowed (if l then raised m (term_in b) else m).log
    go true = a
    go false = a

step_both : (seat : Seat) (m : Member) (event : Event) → AllAllowed m.log → Meets (λ e. HasAllowed e) event → Both (step seat m event)
unfolding step
step_both seat m Timeout a c = settled_both seat _
    (if_both (is_leader m.role) _ _ (a, none)
    (if_both (is_spent m) _ _ (a, none)
    (a, each (ask_to seat (timed_out seat m)) (cores_of seat.cores) (ask_allowed seat (timed_out seat m)))))
step_both seat m Beat a c = settled_both seat _ (if_both (is_leader m.role) _ _ (a, appends_allowed seat m a) (a, none))
step_both seat m (Propose entry) a c =
    let item : Item = record { term = m.term; entry = entry } in
    let log : AllAllowed (added m entry).log = All-append (λ (i : Item). IsAllowed i) m.log (item ∷ []) a
    (All-cons (λ (i : Item). IsAllowed i) item [] c (All-nil (λ (i : Item). IsAllowed i))) in
    settled_both seat _ (if_both (may_add seat m) _ _ (log, appends_allowed seat (added m entry) log) (a, none))
step_both seat m (Receive e) a c =
    if_both (heard seat e) _ _ (settled_both seat _ (body_both seat (lifted m e.body) e.from e.body (lifted_log m e.body a) c)) (a, none)

-- ---- over time

new_allowed : (cores : ℕ) → AllAllowed (new_member cores).log
unfolding new_member
new_allowed cores = All-nil (λ (i : Item). IsAllowed i)

allowed_lasts : (shape : Shape) → Lasts shape (λ i m. LogAllowed i m) (λ e. HasAllowed e)
allowed_lasts shape = record {
  new = λ i b. new_allowed shape.cores;
  steps = λ i m event b a c. step_both (seat_at shape i) m event a c;
  again = λ i m a. a;
  asks = λ j i have d b l. tt;
  logs = λ i m a. a;
  batches = λ from j first items a. a;
}

pub only_allowed : OnlyAllowed
only_allowed shape x r =
    let s : IsSoSeen shape (λ i m. LogAllowed i m) (λ e. HasAllowed e) (allowed_lasts shape) x =
    always_so shape (λ i m. LogAllowed i m) (λ e. HasAllowed e) (allowed_lasts shape) x r in
    record { history = s.history; logs = λ i b. s.fleet.cores i b; lists = s.lists }
