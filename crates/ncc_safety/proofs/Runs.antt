-- Each event of a run is some small steps.
use Rattle.std.proofs.Common.{◌≡◌, ℕ, zero, suc, min, ◌&&◌, nat_le, List, [], ◌∷◌, ◌++◌, length, take, drop, Option, Some, None, refl, arith}
use Rattle.std.proofs.lemmas.Bool.{leb-true, and_parts}
use Rattle.ncc_tx.specs.declared.entry.Item.{Item}
use Rattle.ncc_raft.specs.declared.message.Envelope.{Envelope}
use Rattle.ncc_raft.specs.declared.message.Body.{Body}
use Rattle.ncc_raft.specs.declared.message.Body.TheVariants.{VoteAsk, VoteReply, Append, AppendReply, Pull, Batch}
use Rattle.ncc_raft.specs.Member.{letter, is_core, is_leader}
use Rattle.ncc_raft.specs.Member as core
use Rattle.ncc_raft.specs.Appending.{applied}
use Rattle.ncc_raft.specs.Pulled.{Taken, Grown, Gap, Stale, Contradicted, taken}
use Rattle.ncc_safety.specs.Cluster.{Cluster, is_replica, start}
use Rattle.ncc_safety.specs.Run.{Act, Timeout, Beat, Propose, Deliver, Event, Acts, Pulls, Crash, Interrupt, Send, Serve, steps_where, extended, takes, message, arrives, acts, doer, crashes, moves, happens, run}
use Rattle.ncc_safety.specs.Steps.{Sent, Sends, Restarts, Pulled, Serves, Extends, Forgets, Looks, Steps, Still, Then}
use Rattle.ncc_safety.proofs.Reach.{one_step, joined, if_steps, leader_from}
use Rattle.ncc_safety.proofs.Whole.{core_not_zero, CanCome, whole_step}
use Rattle.ncc_safety.proofs.Sane.{Sane, sane_steps, sane_start}

where_steps : (c : Cluster) (i : ℕ) (event : core.Event) → Sane c → CanCome c event → Steps c (steps_where c i event)
where_steps c i event k s = if_steps c (is_core c.cores i) _ c (λ b. whole_step c i event (core_not_zero c.cores i b) k.good k.logs s)
    (λ b. Still)

extended_steps : (c : Cluster) (j from first : ℕ) (items : List Item) → Sent c (letter from j (Batch first items)) → (x : Taken) →
    taken (c.lists j) first items ≡ x → Steps c (extended c j x)
extended_steps c j from first items s (Grown log) e = one_step c _ (Extends j from first items log s e)
extended_steps c j from first items s (Gap have first') e = Still
extended_steps c j from first items s (Stale have last) e = Still
extended_steps c j from first items s (Contradicted x) e = Still

takes_steps : (c : Cluster) (j from : ℕ) (b : Body) → Sent c (letter from j b) → Steps c (takes c j b)
takes_steps c j from (VoteAsk t place last) s = Still
takes_steps c j from (VoteReply t granted) s = Still
takes_steps c j from (Append t prev pterm commit items) s = Still
takes_steps c j from (AppendReply t has place) s = Still
takes_steps c j from (Pull have) s = Still
takes_steps c j from (Batch first items) s = extended_steps c j from first items s (taken (c.lists j) first items) refl

arrives_steps : (c : Cluster) (o : Option Envelope) → Sane c → ((e : Envelope) → o ≡ Some e → Sent c e) → Steps c (arrives c o)
arrives_steps c None k s = Still
arrives_steps c (Some e) k s =
    if_steps c (is_core c.cores e.to) _ _
    (λ b. whole_step c e.to (core.Receive e) (core_not_zero c.cores e.to b) k.good k.logs (s e refl)) (λ b.
    if_steps c (is_replica c e.to) _ c (λ b1. takes_steps c e.to e.from e.body (s e refl)) (λ b1. Still))

pub message_sent : (c : Cluster) (n : ℕ) (e : Envelope) → message c n ≡ Some e → Sent c e
message_sent c zero e q = absurd (cc)
message_sent c (suc n) e q = (n, q)

acts_steps : (c : Cluster) (act : Act) → Sane c → Steps c (acts c act)
acts_steps c (Timeout i) k = where_steps c i core.Timeout k tt
acts_steps c (Beat i) k = where_steps c i core.Beat k tt
acts_steps c (Propose i entry) k = where_steps c i (core.Propose entry) k tt
acts_steps c (Deliver n) k = arrives_steps c (message c n) k (λ e q. message_sent c n e q)

crashes_steps : (c : Cluster) (i commit : ℕ) → Steps c (crashes c i commit)
crashes_steps c i commit =
    if_steps c (is_core c.cores i) _ _ (λ b. one_step c _ (Restarts i commit)) (λ b.
    if_steps c (is_replica c i) _ c (λ b1. one_step c _ (Forgets i)) (λ b1. Still))

moves_steps : (c : Cluster) (e : Event) → Sane c → Steps c (moves c e)
moves_steps c (Acts act) k = acts_steps c act k
moves_steps c (Interrupt act commit) k = joined c (acts c act) _ (acts_steps c act k) (crashes_steps (acts c act) (doer c act) commit)
moves_steps c (Crash i commit) k = crashes_steps c i commit
moves_steps c (Pulls j i) k = if_steps c (is_replica c j && is_core c.cores i) _ c (λ b. one_step c _ (Pulled j i (length (c.lists j))))
    (λ b. Still)
moves_steps c (Send i to prev count commit) k =
    if_steps c ((is_core c.cores i && is_core c.cores to) && (is_leader (c.at i).role && nat_le prev (length (c.at i).log))) _ c
    (λ b.
    let p = and_parts (is_core c.cores i && is_core c.cores to) (is_leader (c.at i).role && nat_le prev (length (c.at i).log)) b in
    let q = and_parts (is_leader (c.at i).role) (nat_le prev (length (c.at i).log)) p.1 in
    one_step c _ (Sends i to prev count (min commit (c.at i).commit) (take count (drop prev (c.at i).log)) (leader_from (c.at i).role q.0)
    (leb-true prev (length (c.at i).log) q.1) (omega arith) refl))
    (λ b. Still)
moves_steps c (Serve i to before count) k =
    if_steps c (is_core c.cores i && is_replica c to) _ c
    (λ b. one_step c _ (Serves i to before count (take count (drop before (applied (c.at i)))) refl)) (λ b. Still)

pub happens_steps : (c : Cluster) (e : Event) → Sane c → Steps c (happens c e)
unfolding happens
happens_steps c e k = Then (moves_steps c e k) Looks

pub run_steps : (es : List Event) (c : Cluster) → Sane c → Steps c (run es c)
run_steps [] c k = Still
run_steps (e ∷ es) c k =
    let s = happens_steps c e k in
    joined c (happens c e) _ s (run_steps es (happens c e) (sane_steps c (happens c e) s k))

pub run_more : (early late : List Event) (c : Cluster) → run (early ++ late) c ≡ run late (run early c)
run_more [] late c = refl
run_more (e ∷ early) late c = run_more early late (happens c e)

pub sane_run : (es : List Event) (cores replicas limit : ℕ) → Sane (run es (start cores replicas limit))
sane_run es n r limit = sane_steps (start n r limit) (run es (start n r limit)) (run_steps es (start n r limit) (sane_start n r limit))
    (sane_start n r limit)
