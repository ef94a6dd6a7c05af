-- A fleet stands for a state of a run: what happens to it, small steps make there.
use Rattle.std.proofs.Common.{◌≡◌, ℕ, zero, suc, ◌+◌, ◌-◌, ◌<◌, ◌≤◌, true, nat_lt, nat_le, List, [], ◌++◌, length, map, replicate, slice_get, slice_index_or, Some, ◌⊎◌, refl, sym, ap, ◌∙◌, subst, inl, inr, arith}
use Rattle.std.specs.List.{range_with_len}
use Rattle.std.proofs.lemmas.Bool.{cases_eq, and_parts, ltb-true, leb-true}
use Rattle.std.proofs.lemmas.List.{get_or-map, get_or-set_same, get_or-set_other, length-map, length-set, length-replicate}
use Rattle.std.proofs.lemmas.Option.{slice_get_within, get_or_from_slice_get}
use Rattle.ncc_tx.specs.declared.entry.Entry.{Entry}
use Rattle.ncc_tx.specs.declared.entry.Item.{Item}
use Rattle.ncc_raft.specs.declared.message.Envelope.{Envelope}
use Rattle.ncc_raft.specs.Member.{Member, Event, Timeout, Beat, Receive, Propose, is_core, cores_of, restarted}
use Rattle.ncc_raft.specs.Appending.{applied}
use Rattle.ncc_safety.specs.Cluster.{Cluster, put, all_applied, grown, looked, new_member, start}
use Rattle.ncc_safety.specs.Plain.{Plain, Agrees, Follows, with_core, with_list}
use Rattle.ncc_safety.specs.Steps.{Looks, Steps, Still}
use Rattle.ncc_safety.specs.Fleet.{Shape, Fleet, HasShape, is_replica, core_at, list_at, applied_lists, core_becomes, list_becomes, also_sends}
use Rattle.ncc_safety.specs.Fleet.{outcome_at, steps_to, loses_to, starts_again, MayHappen}
use Rattle.ncc_safety.specs.Fleet.{Moves, TimesOut, Beats, Hears, Asks, Takes, Rests, Restarts, Again, Amid, Empties}
use Rattle.ncc_safety.specs.Fleet.{Places, Seen, seen_next, seen_start, Goes, ByMove, ByProposal, ByRestart, Path, Here, Then, Reached}
use Rattle.ncc_safety.proofs.Puts.{put_at, put_other}
use Rattle.ncc_safety.proofs.Slots.{map_range, slot_alike}
use Rattle.ncc_safety.proofs.Reach.{one_step, joined}
use Rattle.ncc_safety.proofs.Sane.{Sane, sane_start, sane_steps}
use Rattle.ncc_safety.proofs.History.{NoLonger, grown_longest}
use Rattle.ncc_safety.proofs.Worlds.{PlainCanCome, world_steps, world_loses, world_crashes, world_follows, world_then, world_takes, world_forgets, world_pulls, looks_agree}
use Rattle.ncc_safety.proofs.Offers.{offered}

-- without records, and with its history
abbrev pub plain_of : Shape → Fleet → List Item → Plain
plain_of shape f history = record {
  cores = shape.cores;
  replicas = shape.replicas;
  limit = shape.limit;
  at = λ i. core_at shape f i;
  lists = λ j. list_at shape f j;
  sent = f.sent;
  history = history;
}

pub core_within : (n i : ℕ) → is_core n i ≡ true → (1 ≤ i) × (i ≤ n)
unfolding is_core
core_within n i b =
    let p = and_parts (nat_lt 0 i) (nat_le i n) b in
    let l = ltb-true 0 i p.0 in
    (omega arith, leb-true i n p.1)

pub replica_within : (shape : Shape) (j : ℕ) → is_replica shape j ≡ true → (shape.cores < j) × (j ≤ shape.cores + shape.replicas)
replica_within shape j b =
    let p = and_parts (nat_lt shape.cores j) (nat_le j (shape.cores + shape.replicas)) b in
    (ltb-true shape.cores j p.0, leb-true j (shape.cores + shape.replicas) p.1)

-- ---- what is read behind a change

pub core_same : (shape : Shape) (f : Fleet) (i : ℕ) (m : Member) (sent : List Envelope) → HasShape shape f → is_core shape.cores i ≡ true →
    core_at shape (core_becomes f i m sent) i ≡ m
core_same shape f i m sent s b =
    let w = core_within shape.cores i b in
    let l = s.cores in
    get_or-set_same f.cores (i - 1) m (new_member shape.cores) (omega arith)

pub core_other : (shape : Shape) (f : Fleet) (i j : ℕ) (m : Member) (sent : List Envelope) → is_core shape.cores i ≡ true →
    is_core shape.cores j ≡ true → (j ≡ i → ⊥) → core_at shape (core_becomes f i m sent) j ≡ core_at shape f j
core_other shape f i j m sent b d n =
    let v = core_within shape.cores i b in
    let w = core_within shape.cores j d in
    get_or-set_other f.cores (i - 1) (j - 1) m (new_member shape.cores) (λ e. n (omega arith))

pub list_same : (shape : Shape) (f : Fleet) (j : ℕ) (list : List Item) → HasShape shape f → is_replica shape j ≡ true →
    list_at shape (list_becomes shape f j list) j ≡ list
list_same shape f j list s b =
    let w = replica_within shape j b in
    let l = s.lists in
    get_or-set_same f.lists (j - shape.cores - 1) list [] (omega arith)

pub list_other : (shape : Shape) (f : Fleet) (j k : ℕ) (list : List Item) → is_replica shape j ≡ true → is_replica shape k ≡ true →
    (k ≡ j → ⊥) → list_at shape (list_becomes shape f j list) k ≡ list_at shape f k
list_other shape f j k list b d n =
    let v = replica_within shape j b in
    let w = replica_within shape k d in
    get_or-set_other f.lists (j - shape.cores - 1) (k - shape.cores - 1) list [] (λ e. n (omega arith))

pub core_shape : (shape : Shape) (f : Fleet) (i : ℕ) (m : Member) (sent : List Envelope) → HasShape shape f →
    HasShape shape (core_becomes f i m sent)
core_shape shape f i m sent s = record { cores = length-set f.cores (i - 1) m ∙ s.cores; lists = s.lists }

pub list_shape : (shape : Shape) (f : Fleet) (j : ℕ) (list : List Item) → HasShape shape f → HasShape shape (list_becomes shape f j list)
list_shape shape f j list s = record { cores = s.cores; lists = length-set f.lists (j - shape.cores - 1) list ∙ s.lists }

said_shape : (shape : Shape) (f : Fleet) (new : List Envelope) → HasShape shape f → HasShape shape (also_sends f new)
said_shape shape f new s = record { cores = s.cores; lists = s.lists }

-- ---- small steps that lead to a fleet

-- small steps lead on to a state for which the fleet stands
pub record Led (shape : Shape) (g : Fleet) (history : List Item) (c : Cluster) : Type 0 where
  pub has : HasShape shape g
  pub follows : Follows (plain_of shape g history) c

core_leads : (shape : Shape) (f : Fleet) (h : List Item) (i : ℕ) (m : Member) (sent : List Envelope) (c : Cluster) → HasShape shape f →
    is_core shape.cores i ≡ true → Follows (with_core (plain_of shape f h) i m sent) c → Led shape (core_becomes f i m sent) h c
core_leads shape f h i m sent c s b x =
    let a = x.agrees in
    record {
      has = core_shape shape f i m sent s;
      follows = record {
        to = x.to;
        steps = x.steps;
        agrees = record {
          cores = a.cores;
          replicas = a.replicas;
          limit = a.limit;
          at = λ j d. a.at j d ∙ same j d (cases_eq j i);
          lists = a.lists;
          sent = a.sent;
          history = a.history;
        };
      };
    }
  where
    same : (j : ℕ) → is_core shape.cores j ≡ true → (j ≡ i) ⊎ (j ≡ i → ⊥) →
        put (λ k. core_at shape f k) i m j ≡ core_at shape (core_becomes f i m sent) j
    same j d (inl e) = put_at (λ k. core_at shape f k) i j m e ∙ sym (core_same shape f i m sent s b)
        ∙ ap (λ k. core_at shape (core_becomes f i m sent) k) (sym e)
    same j d (inr n) = put_other (λ k. core_at shape f k) i j m n ∙ sym (core_other shape f i j m sent b d n)

list_leads : (shape : Shape) (f : Fleet) (h : List Item) (j : ℕ) (list : List Item) (c : Cluster) → HasShape shape f →
    is_replica shape j ≡ true → Follows (with_list (plain_of shape f h) j list) c → Led shape (list_becomes shape f j list) h c
list_leads shape f h j list c s b x =
    let a = x.agrees in
    record {
      has = list_shape shape f j list s;
      follows = record {
        to = x.to;
        steps = x.steps;
        agrees = record {
          cores = a.cores;
          replicas = a.replicas;
          limit = a.limit;
          at = a.at;
          lists = λ k d. a.lists k d ∙ same k d (cases_eq k j);
          sent = a.sent;
          history = a.history;
        };
      };
    }
  where
    same : (k : ℕ) → is_replica shape k ≡ true → (k ≡ j) ⊎ (k ≡ j → ⊥) →
        put (λ i. list_at shape f i) j list k ≡ list_at shape (list_becomes shape f j list) k
    same k d (inl e) = put_at (λ i. list_at shape f i) j k list e ∙ sym (list_same shape f j list s b)
        ∙ ap (λ i. list_at shape (list_becomes shape f j list) i) (sym e)
    same k d (inr n) = put_other (λ i. list_at shape f i) j k list n ∙ sym (list_other shape f j k list b d n)

-- ---- what happens

may_come : (shape : Shape) (f : Fleet) (h : List Item) (event : Event) → MayHappen f event → PlainCanCome (plain_of shape f h) event
may_come shape f h Timeout s = tt
may_come shape f h Beat s = tt
may_come shape f h (Propose entry) s = tt
may_come shape f h (Receive e) s = s

module _ (shape : Shape) (f : Fleet) (h : List Item) (c : Cluster) (s : HasShape shape f) (a : Agrees (plain_of shape f h) c) (k : Sane c)
  where
    step_leads : (i : ℕ) (event : Event) → is_core shape.cores i ≡ true → MayHappen f event → Led shape (steps_to shape f i event) h c
    step_leads i event b m = core_leads shape f h i (outcome_at shape f i event).member (f.sent ++ (outcome_at shape f i event).sent) c s b
        (world_steps (plain_of shape f h) c i event a k b (may_come shape f h event m))

    loss_leads : (i : ℕ) (event : Event) → is_core shape.cores i ≡ true → MayHappen f event → Led shape (loses_to shape f i event) h c
    loss_leads i event b m = core_leads shape f h i (outcome_at shape f i event).member f.sent c s b
        (world_loses (plain_of shape f h) c i event a k b (may_come shape f h event m))

    pub move_leads : (g : Fleet) → Moves shape f g → Led shape g h c
    move_leads g (TimesOut i b) = step_leads i Timeout b tt
    move_leads g (Beats i b) = step_leads i Beat b tt
    move_leads g (Hears e b w) = step_leads e.to (Receive e) b w
    move_leads g (Asks j i d b) =
        record { has = said_shape shape f _ s; follows = world_pulls (plain_of shape f h) c j i (length (list_at shape f j)) a }
    move_leads g (Takes j from first items list b w e) =
        list_leads shape f h j list c s b (world_takes (plain_of shape f h) c w.0 j from first items list a b w.1 e)
    move_leads g Rests = record { has = s; follows = world_follows (plain_of shape f h) c a }

    pub place_leads : (i : ℕ) (entry : Entry) (place term : ℕ) (g : Fleet) → Places shape f i entry place term g → Led shape g h c
    place_leads i entry place term g p =
        let o = offered shape f i entry place term g p in
        subst (λ z. Led shape z h c) (sym o.after) (step_leads i (Propose entry) o.core p.allowed)

again_leads : (shape : Shape) (f : Fleet) (h : List Item) (c : Cluster) → HasShape shape f → Agrees (plain_of shape f h) c → (i : ℕ) →
    is_core shape.cores i ≡ true → Led shape (starts_again shape f i) h c
again_leads shape f h c s a i b = core_leads shape f h i (restarted shape.cores 0 (core_at shape f i)) f.sent c s b
    (world_crashes (plain_of shape f h) c i 0 a b)

pub restart_leads : (shape : Shape) (f : Fleet) (h : List Item) (c : Cluster) → HasShape shape f → Agrees (plain_of shape f h) c → Sane c →
    (i : ℕ) (g : Fleet) → Restarts shape i f g → Led shape g h c
restart_leads shape f h c s a k i g (Again b) = again_leads shape f h c s a i b
restart_leads shape f h c s a k i g (Amid event b m) =
    let l = loss_leads shape f h c s a k i event b m in
    record {
      has = core_shape shape (loses_to shape f i event) i _ f.sent l.has;
      follows = world_then (plain_of shape (loses_to shape f i event) h) (plain_of shape g h) c l.follows
          (λ d st ad. (again_leads shape (loses_to shape f i event) h d l.has ad i b).follows);
    }
restart_leads shape f h c s a k i g (Empties b) = list_leads shape f h i [] c s b (world_forgets (plain_of shape f h) c i a)

-- ---- what all members have applied

pub applied_read : (shape : Shape) (f : Fleet) (k : ℕ) (x : List Item) → slice_get (map applied f.cores) k ≡ Some x →
    applied (core_at shape f (1 + k)) ≡ x
applied_read shape f k x q =
    let w = slice_get_within (map applied f.cores) k x q in
    let n = length-map f.cores applied in
    let e : 1 + k - 1 ≡ k = omega arith in
    ap (λ i. applied (slice_index_or f.cores i (new_member shape.cores))) e
    ∙ sym (get_or-map applied f.cores k (new_member shape.cores) [] (omega arith))
    ∙ get_or_from_slice_get (map applied f.cores) k x [] q

pub list_read : (shape : Shape) (f : Fleet) (k : ℕ) (x : List Item) → slice_get f.lists k ≡ Some x →
    list_at shape f (shape.cores + 1 + k) ≡ x
list_read shape f k x q =
    let e : shape.cores + 1 + k - shape.cores - 1 ≡ k = omega arith in
    ap (λ i. slice_index_or f.lists i []) e ∙ get_or_from_slice_get f.lists k x [] q

pub all_lists : (shape : Shape) (f : Fleet) → HasShape shape f →
    all_applied shape.cores shape.replicas (λ i. core_at shape f i) (λ j. list_at shape f j) ≡ applied_lists f
all_lists shape f s =
    let n : shape.cores ≡ length (map applied f.cores) = sym s.cores ∙ sym (length-map f.cores applied) in
    let x : map (λ i. applied (core_at shape f i)) (cores_of shape.cores) ≡ map applied f.cores =
    ap (λ z. map (λ i. applied (core_at shape f i)) (range_with_len 1 z)) n
    ∙ map_range (λ i. applied (core_at shape f i)) 1 (map applied f.cores) (applied_read shape f) in
    let y : map (λ j. list_at shape f j) (range_with_len (shape.cores + 1) shape.replicas) ≡ f.lists =
    ap (λ z. map (λ j. list_at shape f j) (range_with_len (shape.cores + 1) z)) (sym s.lists)
    ∙ map_range (λ j. list_at shape f j) (shape.cores + 1) f.lists (list_read shape f) in
    ap (λ z. z ++ map (λ j. list_at shape f j) (range_with_len (shape.cores + 1) shape.replicas)) x ∙ ap (λ z. map applied f.cores ++ z) y

-- ---- over time

-- a fleet that is looked at stands for a state of a run, and no member has applied more than its history
pub record Stands (shape : Shape) (x : Seen) (c : Cluster) : Type 0 where
  pub has : HasShape shape x.fleet
  pub agrees : Agrees (plain_of shape x.fleet x.history) c
  pub sane : Sane c
  pub covered : NoLonger x.history (applied_lists x.fleet)

-- small steps lead on to a state for which it stands
pub record Comes (shape : Shape) (y : Seen) (c : Cluster) : Type 0 where
  pub to : Cluster
  pub steps : Steps c to
  pub stands : Stands shape y to

looks : (shape : Shape) (x : Seen) (g : Fleet) (c : Cluster) → Sane c → Led shape g x.history c → Comes shape (seen_next x g) c
looks shape x g c k l =
    let a = looks_agree (plain_of shape g x.history) l.follows.to l.follows.agrees in
    let steps = joined c l.follows.to (looked l.follows.to) l.follows.steps (one_step l.follows.to (looked l.follows.to) Looks) in
    record {
      to = looked l.follows.to;
      steps = steps;
      stands = record {
        has = l.has;
        agrees = record {
          cores = a.cores;
          replicas = a.replicas;
          limit = a.limit;
          at = a.at;
          lists = a.lists;
          sent = a.sent;
          history = a.history ∙ ap (λ z. grown x.history z) (all_lists shape g l.has);
        };
        sane = sane_steps c (looked l.follows.to) steps k;
        covered = grown_longest x.history (applied_lists g);
      };
    }

pub goes_on : (shape : Shape) (x y : Seen) (c : Cluster) → Stands shape x c → Goes shape x y → Comes shape y c
goes_on shape x y c k (ByMove g m) = looks shape x g c k.sane (move_leads shape x.fleet x.history c k.has k.agrees k.sane g m)
goes_on shape x y c k (ByProposal i entry place term g p) =
    looks shape x g c k.sane (place_leads shape x.fleet x.history c k.has k.agrees k.sane i entry place term g p)
goes_on shape x y c k (ByRestart i g r) =
    looks shape x g c k.sane (restart_leads shape x.fleet x.history c k.has k.agrees k.sane i g r)

pub path_on : (shape : Shape) (x y : Seen) (c : Cluster) → Stands shape x c → Path shape x y → Comes shape y c
path_on shape x y c k (Here w) = record { to = c; steps = Still; stands = k }
path_on shape x z c k (Then w y v g p) =
    let a = goes_on shape x y c k g in
    let b = path_on shape y z a.to a.stands p in
    record { to = b.to; steps = joined c a.to b.to a.steps b.steps; stands = b.stands }

none_longer : (n r : ℕ) (m : Member) → applied m ≡ [] → NoLonger [] (map applied (replicate n m) ++ replicate r [])
none_longer zero zero m e = tt
none_longer zero (suc r) m e = (omega arith, none_longer zero r m e)
none_longer (suc n) r m e = let l : length (applied m) ≡ 0 = ap length e in (omega arith, none_longer n r m e)

pub start_stands : (shape : Shape) → Stands shape (seen_start shape) (start shape.cores shape.replicas shape.limit)
unfolding new_member
start_stands shape = record {
  has = record {
    cores = length-replicate shape.cores (new_member shape.cores);
    lists = length-replicate shape.replicas [];
  };
  agrees = record {
    cores = refl;
    replicas = refl;
    limit = refl;
    at = λ i b. sym (slot_alike shape.cores (i - 1) (new_member shape.cores));
    lists = λ j b. sym (slot_alike shape.replicas (j - shape.cores - 1) []);
    sent = λ n e q. absurd (cc);
    history = refl;
  };
  sane = sane_start shape.cores shape.replicas shape.limit;
  covered = none_longer shape.cores shape.replicas (new_member shape.cores) refl;
}

-- from the start on
pub reached : (shape : Shape) (x : Seen) → Reached shape x → Comes shape x (start shape.cores shape.replicas shape.limit)
reached shape x p = path_on shape (seen_start shape) x (start shape.cores shape.replicas shape.limit) (start_stands shape) p
