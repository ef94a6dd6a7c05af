-- What a world does to its members, lists, history and messages: small steps lead on to a state for which it stands.
use Rattle.std.proofs.Common.{◌≡◌, ℕ, zero, suc, ◌+◌, ◌<◌, ◌≤◌, true, nat_lt, nat_le, List, [], ◌∷◌, ◌++◌, length, map, take, drop, slice_get, Some, ◌⊎◌, refl, sym, ap, ◌∙◌, subst, inl, inr, arith}
use Rattle.std.specs.List.{range_with_len}
use Rattle.std.proofs.lemmas.Bool.{cases_eq, and_from, lt-ltb, le-leb}
use Rattle.ncc_tx.specs.declared.entry.Item.{Item}
use Rattle.ncc_tx.specs.Kept.{term_at}
use Rattle.ncc_raft.specs.declared.message.Envelope.{Envelope}
use Rattle.ncc_raft.specs.declared.message.Body.TheVariants.{Append, Pull, Batch}
use Rattle.ncc_raft.specs.declared.message.RaftRole.TheVariants.{Leader}
use Rattle.ncc_raft.specs.Member.{Member, Outcome, letter, is_core, cores_of, restarted}
use Rattle.ncc_raft.specs.Member as core
use Rattle.ncc_raft.specs.Appending.{applied}
use Rattle.ncc_raft.specs.Step.{step}
use Rattle.ncc_raft.specs.Pulled.{Grown, taken}
use Rattle.ncc_safety.specs.Cluster.{Records, Cluster, put, stepped, said, listed, all_applied, grown, looked}
use Rattle.ncc_safety.specs.Plain.{Plain, plain_seat, plain_replica, Agrees, Follows, with_core, with_list, with_sent, looked_at}
use Rattle.ncc_safety.specs.Run.{recorded, outcome}
use Rattle.ncc_safety.specs.Steps.{Sent, Step, Sends, Restarts, Pulled, Serves, Extends, Forgets, Looks, Steps, Still}
use Rattle.ncc_safety.proofs.Puts.{put_at, put_other}
use Rattle.ncc_safety.proofs.Reach.{one_step, joined, get_first, Reach, reach_quiet}
use Rattle.ncc_safety.proofs.Whole.{core_not_zero, CanCome, whole_step}
use Rattle.ncc_safety.proofs.Sane.{Sane}

get_past : (xs ys : List Envelope) (k : ℕ) → slice_get (xs ++ ys) (length xs + k) ≡ slice_get ys k
get_past [] ys k = let e : 0 + k ≡ k = omega arith in rw e
get_past (x ∷ xs) ys k = let e : suc (length xs) + k ≡ suc (length xs + k) = omega arith in rw e (get_past xs ys k)

pub get_either : (xs ys : List Envelope) (k : ℕ) (e : Envelope) → slice_get (xs ++ ys) k ≡ Some e →
    ((p : ℕ) × (slice_get xs p ≡ Some e)) ⊎ ((p : ℕ) × (slice_get ys p ≡ Some e))
get_either [] ys k e q = inr (k, q)
get_either (x ∷ xs) ys zero e q = inl (zero, q)
get_either (x ∷ xs) ys (suc k) e q = go (get_either xs ys k e q)
  where
    go : ((p : ℕ) × (slice_get xs p ≡ Some e)) ⊎ ((p : ℕ) × (slice_get ys p ≡ Some e)) →
        ((p : ℕ) × (slice_get (x ∷ xs) p ≡ Some e)) ⊎ ((p : ℕ) × (slice_get ys p ≡ Some e))
    go (inl r) = inl (suc r.0, r.1)
    go (inr r) = inr r

-- all that stands in the world's list was sent here
abbrev pub AllSent : Cluster → List Envelope → Type 0
AllSent c es = (k : ℕ) (e : Envelope) → slice_get es k ≡ Some e → Sent c e

-- a change of one core; of what the core sends, all or nothing may come to the world's list
abbrev pub InSent : List Envelope → List Envelope → List Envelope → Type 0
InSent all old new = (k : ℕ) (e : Envelope) → slice_get all k ≡ Some e →
    ((p : ℕ) × (slice_get old p ≡ Some e)) ⊎ ((p : ℕ) × (slice_get new p ≡ Some e))

core_agrees : (w : Plain) (c : Cluster) (i : ℕ) (m : Member) (new all : List Envelope) (h : Records) → Agrees w c →
    InSent all w.sent new → Agrees (with_core w i m all) (stepped c i m new h)
core_agrees w c i m new all h a s = record {
  cores = a.cores;
  replicas = a.replicas;
  limit = a.limit;
  at = λ j b. at j b (cases_eq j i);
  lists = a.lists;
  sent = λ k e q. sent e (s k e q);
  history = a.history;
}
  where
    at : (j : ℕ) → is_core w.cores j ≡ true → (j ≡ i) ⊎ (j ≡ i → ⊥) → put c.at i m j ≡ put w.at i m j
    at j b (inl e) = put_at c.at i j m e ∙ sym (put_at w.at i j m e)
    at j b (inr n) = put_other c.at i j m n ∙ a.at j b ∙ sym (put_other w.at i j m n)

    sent : (e : Envelope) → ((p : ℕ) × (slice_get w.sent p ≡ Some e)) ⊎ ((p : ℕ) × (slice_get new p ≡ Some e)) →
        (k : ℕ) × (slice_get (c.sent ++ new) k ≡ Some e)
    sent e (inl p) = let q = a.sent p.0 e p.1 in (q.0, get_first c.sent new q.0 e q.1)
    sent e (inr p) = (length c.sent + p.0, get_past c.sent new p.0 ∙ p.1)

core_follows : (w : Plain) (c : Cluster) (i : ℕ) (m : Member) (new all : List Envelope) (h : Records) → Agrees w c →
    InSent all w.sent new → Reach c i m new h → Follows (with_core w i m all) c
core_follows w c i m new all h a s r = record { to = stepped c i m new h; steps = r; agrees = core_agrees w c i m new all h a s }

-- ---- a step of a core

abbrev pub plain_outcome : Plain → ℕ → core.Event → Outcome
plain_outcome w i event = step (plain_seat w i) (w.at i) event

-- an event that can come to a world's core: a message of its list, or no message
abbrev pub PlainCanCome : Plain → core.Event → Type 0
PlainCanCome w (core.Receive e) = (k : ℕ) × (slice_get w.sent k ≡ Some e)
PlainCanCome w _ = Unit {0}

can_come : (w : Plain) (c : Cluster) (event : core.Event) → Agrees w c → PlainCanCome w event → CanCome c event
can_come w c core.Timeout a s = tt
can_come w c core.Beat a s = tt
can_come w c (core.Propose entry) a s = tt
can_come w c (core.Receive e) a s = a.sent s.0 e s.1

pub same_outcome : (w : Plain) (c : Cluster) (i : ℕ) (event : core.Event) → Agrees w c → is_core w.cores i ≡ true →
    outcome c i event ≡ plain_outcome w i event
same_outcome w c i event a b =
    ap (λ n. step (record { id = i; cores = n; limit = c.limit }) (c.at i) event) a.cores
    ∙ ap (λ l. step (record { id = i; cores = w.cores; limit = l }) (c.at i) event) a.limit
    ∙ ap (λ m. step (plain_seat w i) m event) (a.at i b)

step_follows : (w : Plain) (c : Cluster) (i : ℕ) (event : core.Event) (all : List Envelope) → Agrees w c → Sane c →
    is_core w.cores i ≡ true → PlainCanCome w event → InSent all w.sent (plain_outcome w i event).sent →
    Follows (with_core w i (plain_outcome w i event).member all) c
step_follows w c i event all a k b s into =
    let o = outcome c i event in
    let e = same_outcome w c i event a b in
    let r = whole_step c i event (core_not_zero w.cores i b) k.good k.logs (can_come w c event a s) in
    subst (λ (z : Outcome). InSent all w.sent z.sent → Follows (with_core w i z.member all) c) e
    (λ q. core_follows w c i o.member o.sent all (recorded c.records i (c.at i) event o) a q r) into

-- whole, with all that it sends
pub world_steps : (w : Plain) (c : Cluster) (i : ℕ) (event : core.Event) → Agrees w c → Sane c → is_core w.cores i ≡ true →
    PlainCanCome w event → Follows (with_core w i (plain_outcome w i event).member (w.sent ++ (plain_outcome w i event).sent)) c
world_steps w c i event a k b s =
    step_follows w c i event (w.sent ++ (plain_outcome w i event).sent) a k b s (get_either w.sent (plain_outcome w i event).sent)

-- its messages are lost
pub world_loses : (w : Plain) (c : Cluster) (i : ℕ) (event : core.Event) → Agrees w c → Sane c → is_core w.cores i ≡ true →
    PlainCanCome w event → Follows (with_core w i (plain_outcome w i event).member w.sent) c
world_loses w c i event a k b s = step_follows w c i event w.sent a k b s (λ p e q. inl (p, q))

-- it crashes, and starts with any commit up to its own. So does one whose step did not stand
pub world_crashes : (w : Plain) (c : Cluster) (i commit : ℕ) → Agrees w c → is_core w.cores i ≡ true →
    Follows (with_core w i (restarted w.cores commit (w.at i)) w.sent) c
world_crashes w c i commit a b =
    let e : restarted c.cores commit (c.at i) ≡ restarted w.cores commit (w.at i) =
    ap (λ n. restarted n commit (c.at i)) a.cores ∙ ap (λ m. restarted w.cores commit m) (a.at i b) in
    subst (λ m. Follows (with_core w i m w.sent) c) e
    (core_follows w c i (restarted c.cores commit (c.at i)) [] w.sent c.records a (λ p x q. inl (p, q))
    (reach_quiet c i (restarted c.cores commit (c.at i)) (Restarts i commit)))

-- ---- what else happens

pub world_follows : (w : Plain) (c : Cluster) → Agrees w c → Follows w c
world_follows w c a = record { to = c; steps = Still; agrees = a }

-- one after the other, as where a step stands and the core crashes in it
pub world_then : (w v : Plain) (c : Cluster) → Follows w c → ((d : Cluster) → Steps c d → Agrees w d → Follows v d) → Follows v c
world_then w v c f g =
    let h = g f.to f.steps f.agrees in
    record { to = h.to; steps = joined c f.to h.to f.steps h.steps; agrees = h.agrees }

list_agrees : (w : Plain) (c : Cluster) (j : ℕ) (list : List Item) → Agrees w c → Agrees (with_list w j list) (listed c j list)
list_agrees w c j list a = record {
  cores = a.cores;
  replicas = a.replicas;
  limit = a.limit;
  at = a.at;
  lists = λ i b. lists i b (cases_eq i j);
  sent = a.sent;
  history = a.history;
}
  where
    lists : (i : ℕ) → plain_replica w i ≡ true → (i ≡ j) ⊎ (i ≡ j → ⊥) → put c.lists j list i ≡ put w.lists j list i
    lists i b (inl e) = put_at c.lists j i list e ∙ sym (put_at w.lists j i list e)
    lists i b (inr n) = put_other c.lists j i list n ∙ a.lists i b ∙ sym (put_other w.lists j i list n)

-- a replica takes a Batch
pub world_takes : (w : Plain) (c : Cluster) (k j from first : ℕ) (items log : List Item) → Agrees w c → plain_replica w j ≡ true →
    slice_get w.sent k ≡ Some (letter from j (Batch first items)) → taken (w.lists j) first items ≡ Grown log →
    Follows (with_list w j log) c
world_takes w c k j from first items log a b s e =
    let s' = a.sent k (letter from j (Batch first items)) s in
    let e' : taken (c.lists j) first items ≡ Grown log = ap (λ l. taken l first items) (a.lists j b) ∙ e in
    record {
      to = listed c j log;
      steps = one_step c (listed c j log) (Extends j from first items log s' e');
      agrees = list_agrees w c j log a;
    }

-- a replica crashes
pub world_forgets : (w : Plain) (c : Cluster) (j : ℕ) → Agrees w c → Follows (with_list w j []) c
world_forgets w c j a = record { to = listed c j []; steps = one_step c (listed c j []) (Forgets j); agrees = list_agrees w c j [] a }

-- something is sent
says_follows : (w : Plain) (c : Cluster) (new : List Envelope) → Agrees w c → Step c (said c new) → Follows (with_sent w (w.sent ++ new)) c
says_follows w c new a s = record {
  to = said c new;
  steps = one_step c (said c new) s;
  agrees = record {
    cores = a.cores;
    replicas = a.replicas;
    limit = a.limit;
    at = a.at;
    lists = a.lists;
    sent = λ k e q. sent e (get_either w.sent new k e q);
    history = a.history;
  };
}
  where
    sent : (e : Envelope) → ((p : ℕ) × (slice_get w.sent p ≡ Some e)) ⊎ ((p : ℕ) × (slice_get new p ≡ Some e)) →
        (k : ℕ) × (slice_get (c.sent ++ new) k ≡ Some e)
    sent e (inl p) = let q = a.sent p.0 e p.1 in (q.0, get_first c.sent new q.0 e q.1)
    sent e (inr p) = (length c.sent + p.0, get_past c.sent new p.0 ∙ p.1)

-- a replica asks
pub world_pulls : (w : Plain) (c : Cluster) (j i have : ℕ) → Agrees w c → Follows (with_sent w (w.sent ++ letter j i (Pull have) ∷ [])) c
world_pulls w c j i have a = says_follows w c (letter j i (Pull have) ∷ []) a (Pulled j i have)

-- a leader sends any cut of its log, with any commit up to its own
pub world_sends : (w : Plain) (c : Cluster) (i to prev count commit : ℕ) (items : List Item) → Agrees w c → is_core w.cores i ≡ true
    → (w.at i).role ≡ Leader → prev ≤ length (w.at i).log → commit ≤ (w.at i).commit → items ≡ take count (drop prev (w.at i).log)
    → Follows (with_sent w (w.sent ++ letter i to (Append (w.at i).term prev (term_at (w.at i).log prev) commit items) ∷ [])) c
world_sends w c i to prev count commit items a b r l le e =
    let P : Member → Type 0 = λ z. z.role ≡ Leader → prev ≤ length z.log → commit ≤ z.commit → items ≡ take count (drop prev z.log) →
    Step c (said c (letter i to (Append z.term prev (term_at z.log prev) commit items) ∷ [])) in
    let s : P (c.at i) = λ rr ll cc' ee. Sends i to prev count commit items rr ll cc' ee in
    says_follows w c (letter i to (Append (w.at i).term prev (term_at (w.at i).log prev) commit items) ∷ []) a
    (subst P (a.at i b) s r l le e)

-- a core hands on any part of what it has applied
pub world_serves : (w : Plain) (c : Cluster) (i to before count : ℕ) (items : List Item) → Agrees w c → is_core w.cores i ≡ true
    → items ≡ take count (drop before (applied (w.at i))) → Follows (with_sent w (w.sent ++ letter i to (Batch (before + 1) items) ∷ [])) c
world_serves w c i to before count items a b e =
    let e' : items ≡ take count (drop before (applied (c.at i))) = e ∙ ap (λ m. take count (drop before (applied m))) (sym (a.at i b)) in
    says_follows w c (letter i to (Batch (before + 1) items) ∷ []) a (Serves i to before count items e')

-- ---- the history

map_same : (f g : ℕ → List Item) (a n : ℕ) → ((i : ℕ) → a ≤ i → i < a + n → f i ≡ g i) →
    map f (range_with_len a n) ≡ map g (range_with_len a n)
map_same f g a zero h = refl
map_same f g a (suc n) h =
    let x = h a (omega arith) (omega arith) in
    let r = map_same f g (a + 1) n (λ i lo hi. h i (omega arith) (omega arith)) in
    ap (λ z. z ∷ map f (range_with_len (a + 1) n)) x ∙ ap (λ z. g a ∷ z) r

pub core_in : (n i : ℕ) → 1 ≤ i → i < 1 + n → is_core n i ≡ true
unfolding is_core
core_in n i lo hi = and_from (nat_lt 0 i) (nat_le i n) (lt-ltb 0 i (omega arith)) (le-leb i n (omega arith))

replica_in : (w : Plain) (j : ℕ) → w.cores + 1 ≤ j → j < w.cores + 1 + w.replicas → plain_replica w j ≡ true
replica_in w j lo hi = and_from (nat_lt w.cores j) (nat_le j (w.cores + w.replicas)) (lt-ltb w.cores j (omega arith))
    (le-leb j (w.cores + w.replicas) (omega arith))

pub all_same : (w : Plain) (c : Cluster) → Agrees w c →
    all_applied c.cores c.replicas c.at c.lists ≡ all_applied w.cores w.replicas w.at w.lists
all_same w c a =
    let x = map_same (λ i. applied (c.at i)) (λ i. applied (w.at i)) 1 w.cores
    (λ i lo hi. ap (λ m. applied m) (a.at i (core_in w.cores i lo hi))) in
    let y = map_same c.lists w.lists (w.cores + 1) w.replicas (λ j lo hi. a.lists j (replica_in w j lo hi)) in
    ap (λ n. all_applied n c.replicas c.at c.lists) a.cores
    ∙ ap (λ n. all_applied w.cores n c.at c.lists) a.replicas
    ∙ ap (λ z. z ++ map c.lists (range_with_len (w.cores + 1) w.replicas)) x
    ∙ ap (λ z. map (λ i. applied (w.at i)) (cores_of w.cores) ++ z) y

pub looks_agree : (w : Plain) (c : Cluster) → Agrees w c → Agrees (looked_at w) (looked c)
looks_agree w c a = record {
  cores = a.cores;
  replicas = a.replicas;
  limit = a.limit;
  at = a.at;
  lists = a.lists;
  sent = a.sent;
  history = ap (λ h. grown h (all_applied c.cores c.replicas c.at c.lists)) a.history ∙ ap (λ z. grown w.history z) (all_same w c a);
}

-- the history is looked at
pub world_looks : (w : Plain) (c : Cluster) → Agrees w c → Follows (looked_at w) c
world_looks w c a = record { to = looked c; steps = one_step c (looked c) Looks; agrees = looks_agree w c a }
