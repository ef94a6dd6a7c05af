-- By no step does a core's commit fall.
use Rattle.std.proofs.Common.{◌≡◌, ℕ, ◌+◌, ◌≤◌, Bool, true, false, ◌&&◌, nat_eq, nat_lt, if◌then◌else◌, List, length, Option, Some, None, refl, arith}
use Rattle.ncc_tx.specs.declared.entry.Item.{Item}
use Rattle.ncc_raft.specs.declared.message.Body.{Body}
use Rattle.ncc_raft.specs.declared.message.Body.TheVariants.{VoteAsk, VoteReply, Append, AppendReply, Pull, Batch}
use Rattle.ncc_raft.specs.Member.{Seat, Member, Event, Outcome, Timeout, Beat, Receive, Propose, is_leader, is_candidate}
use Rattle.ncc_raft.specs.Logs.{Conflict}
use Rattle.ncc_raft.specs.Elections.{raised, is_spent, may_vote, counted, is_elected}
use Rattle.ncc_raft.specs.Appending.{contradicted, follows, has_prev}
use Rattle.ncc_raft.specs.Step.{may_add, on_body, term_in, lifted, heard, settled, step, took_or_not, unless, answered}

-- at least as much is committed behind it
abbrev Keeps : Member → Outcome → Type 0
Keeps m o = m.commit ≤ o.member.commit

if_keeps : (m : Member) (b : Bool) (x y : Outcome) → Keeps m x → Keeps m y → Keeps m (if b then x else y)
if_keeps m true x y p q = p
if_keeps m false x y p q = q

settled_keeps : (seat : Seat) (m : Member) (o : Outcome) → Keeps m o → Keeps m (settled seat o)
settled_keeps seat m o l = if_keeps m (is_leader o.member.role) _ o (omega arith) l

offer_keeps : (seat : Seat) (m : Member) (from prev prev_term commit : ℕ) (items : List Item) (x : Option Conflict) →
    Keeps m (unless x (follows m from) (took_or_not seat (follows m from) from prev prev_term commit items))
offer_keeps seat m from prev prev_term commit items (Some x) = omega arith
offer_keeps seat m from prev prev_term commit items None =
    if_keeps m (has_prev (follows m from) prev prev_term) _ _ (omega arith) (omega arith)

body_keeps : (seat : Seat) (m : Member) (from : ℕ) (b : Body) → Keeps m (on_body seat m from b)
body_keeps seat m from (VoteAsk t place last) = if_keeps m (may_vote m from t place last) _ _ (omega arith) (omega arith)
body_keeps seat m from (VoteReply t granted) =
    if_keeps m (is_candidate m.role && nat_eq m.term t && granted) _ _
    (if_keeps m (is_elected seat (counted m from)) _ _ (omega arith) (omega arith)) (omega arith)
body_keeps seat m from (Append t prev prev_term commit items) =
    if_keeps m (nat_lt t m.term) _ _ (omega arith)
    (if_keeps m (is_leader m.role) _ _ (omega arith)
    (if_keeps m (nat_lt seat.limit (prev + length items)) _ _ (omega arith)
    (offer_keeps seat m from prev prev_term commit items (contradicted (follows m from) prev prev_term items))))
body_keeps seat m from (AppendReply t has place) = if_keeps m (is_leader m.role && nat_eq m.term t) _ _ (told has) (omega arith)
  where
    told : (b : Bool) → Keeps m (answered seat m from b place)
    told true = omega arith
    told false = omega arith
body_keeps seat m from (Pull have) = omega arith
body_keeps seat m from (Batch first items) = omega arith

lifted_commit : (m : Member) (b : Body) → (lifted m b).commit ≡ m.commit
lifted_commit m b = go (nat_lt m.term (term_in b))
  where
    go : (l : Bool) → (if l then raised m (term_in b) else m).commit ≡ m.commit
    go true = refl
    go false = refl

pub step_keeps : (seat : Seat) (m : Member) (event : Event) → m.commit ≤ (step seat m event).member.commit
unfolding step
step_keeps seat m Timeout =
    settled_keeps seat m _ (if_keeps m (is_leader m.role) _ _ (omega arith) (if_keeps m (is_spent m) _ _ (omega arith) (omega arith)))
step_keeps seat m Beat = settled_keeps seat m _ (if_keeps m (is_leader m.role) _ _ (omega arith) (omega arith))
step_keeps seat m (Propose entry) = settled_keeps seat m _ (if_keeps m (may_add seat m) _ _ (omega arith) (omega arith))
step_keeps seat m (Receive e) =
    let l = lifted_commit m e.body in
    let k = body_keeps seat (lifted m e.body) e.from e.body in
    if_keeps m (heard seat e) _ _ (settled_keeps seat m (on_body seat (lifted m e.body) e.from e.body) (omega arith)) (omega arith)
