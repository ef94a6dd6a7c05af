-- What differs in records alone stays so.
use Rattle.std.proofs.Common.{◌≡◌, ℕ, zero, suc, Bool, true, false, ◌&&◌, nat_le, if◌then◌else◌, List, [], ◌∷◌, length, Option, Some, None, refl, sym, ap, subst}
use Rattle.ncc_raft.specs.declared.message.Envelope.{Envelope}
use Rattle.ncc_raft.specs.declared.message.Body.{Body}
use Rattle.ncc_raft.specs.declared.message.Body.TheVariants.{VoteAsk, VoteReply, Append, AppendReply, Pull, Batch}
use Rattle.ncc_raft.specs.Member.{is_core, is_leader}
use Rattle.ncc_raft.specs.Member as core
use Rattle.ncc_raft.specs.Pulled.{Taken, Grown, Gap, Stale, Contradicted, taken}
use Rattle.ncc_safety.specs.Cluster.{Records, Cluster, is_replica, looked}
use Rattle.ncc_safety.specs.Laws.{with_records, SameButRecords, RecordsBeside}
use Rattle.ncc_safety.specs.Run.{Act, Timeout, Beat, Propose, Deliver, Event, Acts, Pulls, Crash, Interrupt, Send, Serve, recorded, outcome, steps_at, steps_where, extended, takes, message, arrives, acts, doer, crashes, moves, happens, run}

same : (c : Cluster) (g : Records) → SameButRecords c (with_records c g)
same c g = (g, refl)

if_same : (b : Bool) (x y u v : Cluster) → SameButRecords x u → SameButRecords y v →
    SameButRecords (if b then x else y) (if b then u else v)
if_same true x y u v p q = p
if_same false x y u v p q = q

step_same : (c : Cluster) (g : Records) (i : ℕ) (event : core.Event) →
    SameButRecords (steps_at c i event) (steps_at (with_records c g) i event)
step_same c g i event = (recorded g i (c.at i) event (outcome c i event), refl)

where_same : (c : Cluster) (g : Records) (i : ℕ) (event : core.Event) →
    SameButRecords (steps_where c i event) (steps_where (with_records c g) i event)
where_same c g i event = if_same (is_core c.cores i) _ c _ (with_records c g) (step_same c g i event) (same c g)

extended_same : (c : Cluster) (g : Records) (j : ℕ) (x : Taken) → SameButRecords (extended c j x) (extended (with_records c g) j x)
extended_same c g j (Grown log) = (g, refl)
extended_same c g j (Gap have first) = same c g
extended_same c g j (Stale have last) = same c g
extended_same c g j (Contradicted x) = same c g

takes_same : (c : Cluster) (g : Records) (j : ℕ) (b : Body) → SameButRecords (takes c j b) (takes (with_records c g) j b)
takes_same c g j (VoteAsk t place last) = same c g
takes_same c g j (VoteReply t granted) = same c g
takes_same c g j (Append t prev pterm commit items) = same c g
takes_same c g j (AppendReply t has place) = same c g
takes_same c g j (Pull have) = same c g
takes_same c g j (Batch first items) = extended_same c g j (taken (c.lists j) first items)

arrives_same : (c : Cluster) (g : Records) (o : Option Envelope) → SameButRecords (arrives c o) (arrives (with_records c g) o)
arrives_same c g None = same c g
arrives_same c g (Some e) =
    if_same (is_core c.cores e.to) _ _ _ _ (step_same c g e.to (core.Receive e))
    (if_same (is_replica c e.to) _ c _ (with_records c g) (takes_same c g e.to e.body) (same c g))

message_same : (c : Cluster) (g : Records) (n : ℕ) → message (with_records c g) n ≡ message c n
message_same c g zero = refl
message_same c g (suc k) = refl

acts_same : (c : Cluster) (g : Records) (act : Act) → SameButRecords (acts c act) (acts (with_records c g) act)
acts_same c g (Timeout i) = where_same c g i core.Timeout
acts_same c g (Beat i) = where_same c g i core.Beat
acts_same c g (Propose i entry) = where_same c g i (core.Propose entry)
acts_same c g (Deliver n) = arrives_same c g (message c n)

crashes_same : (c : Cluster) (g : Records) (i commit : ℕ) → SameButRecords (crashes c i commit) (crashes (with_records c g) i commit)
crashes_same c g i commit = if_same (is_core c.cores i) _ _ _ _ (g, refl)
    (if_same (is_replica c i) _ c _ (with_records c g) (g, refl) (same c g))

interrupt_same : (c d : Cluster) (i commit : ℕ) → SameButRecords c d → SameButRecords (crashes c i commit) (crashes d i commit)
interrupt_same c d i commit s =
    subst (λ z. SameButRecords (crashes c i commit) (crashes z i commit)) (sym s.1) (crashes_same c s.0 i commit)

moves_same : (c : Cluster) (g : Records) (e : Event) → SameButRecords (moves c e) (moves (with_records c g) e)
moves_same c g (Acts act) = acts_same c g act
moves_same c g (Interrupt act commit) = interrupt_same (acts c act) (acts (with_records c g) act) (doer c act) commit (acts_same c g act)
moves_same c g (Crash i commit) = crashes_same c g i commit
moves_same c g (Pulls j i) = if_same (is_replica c j && is_core c.cores i) _ c _ (with_records c g) (g, refl) (same c g)
moves_same c g (Send i to prev count commit) =
    if_same ((is_core c.cores i && is_core c.cores to) && (is_leader (c.at i).role && nat_le prev (length (c.at i).log))) _ c _
    (with_records c g) (g, refl) (same c g)
moves_same c g (Serve i to before count) = if_same (is_core c.cores i && is_replica c to) _ c _ (with_records c g) (g, refl) (same c g)

happens_same : (c : Cluster) (g : Records) (e : Event) → SameButRecords (happens c e) (happens (with_records c g) e)
unfolding happens
happens_same c g e = let s = moves_same c g e in (s.0, ap (λ z. looked z) s.1)

run_same : (es : List Event) (c : Cluster) (g : Records) → SameButRecords (run es c) (run es (with_records c g))
run_same [] c g = same c g
run_same (e ∷ es) c g =
    let s = happens_same c g e in
    let r = run_same es (happens c e) s.0 in
    subst (λ z. SameButRecords (run es (happens c e)) (run es z)) (sym s.1) r

pub records_beside : RecordsBeside
records_beside c d es s = subst (λ z. SameButRecords (run es c) (run es z)) (sym s.1) (run_same es c s.0)
