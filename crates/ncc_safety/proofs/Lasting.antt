-- What is so of each core and each message of a fleet, and of all that is sent, lasts along a path.
use Rattle.std.proofs.Common.{◌≡◌, ℕ, zero, suc, ◌+◌, ◌-◌, ◌≤◌, Bool, true, false, nat_lt, if◌then◌else◌, List, [], ◌∷◌, ◌++◌, length, map, slice_get, slice_index_or, Some, ◌⊎◌, refl, sym, ap, subst, inl, inr, arith}
use Rattle.std.specs.Prelude.{IsTrue}
use Rattle.std.specs.List.{All, AllByRecursion}
use Rattle.std.proofs.lemmas.List.{length-map}
use Rattle.std.proofs.lemmas.List.Elements.{All-append, All-cons, All-drop, All-nil, All-take}
use Rattle.std.proofs.lemmas.Option.{slice_get_within, get_or_from_slice_get}
use Rattle.ncc_tx.specs.declared.entry.Item.{Item}
use Rattle.ncc_tx.specs.Items.{entry_allowed}
use Rattle.ncc_tx.specs.Kept.{AllAllowed}
use Rattle.ncc_raft.specs.declared.message.Envelope.{Envelope}
use Rattle.ncc_raft.specs.declared.message.Body.TheVariants.{Pull, Batch}
use Rattle.ncc_raft.specs.Member.{Member, Event, Timeout, Beat, Receive, Propose, Outcome, letter, is_core, restarted}
use Rattle.ncc_raft.specs.Appending.{applied}
use Rattle.ncc_raft.specs.Step.{step}
use Rattle.ncc_safety.specs.Cluster.{Cluster, grown, new_member}
use Rattle.ncc_safety.specs.Fleet.{Shape, Fleet, HasShape, seat_at, is_replica, core_at, list_at, applied_lists, applied_at}
use Rattle.ncc_safety.specs.Fleet.{core_becomes, list_becomes, also_sends, outcome_at, steps_to, loses_to, starts_again, fleet_start, WasSent, MayHappen}
use Rattle.ncc_safety.specs.Fleet.{Moves, TimesOut, Beats, Hears, Asks, Takes, Rests, Restarts, Again, Amid, Empties}
use Rattle.ncc_safety.specs.Fleet.{Seen, seen_start, Goes, ByMove, ByProposal, ByRestart, Path, Here, Then, Reached}
use Rattle.ncc_safety.specs.FleetLaws.{IsWithin}
use Rattle.ncc_safety.proofs.Fleets.{core_within, applied_read, list_read, Stands, goes_on, start_stands}
use Rattle.ncc_safety.proofs.Fronts.{taken_so}
use Rattle.ncc_safety.proofs.Offers.{offered}
use Rattle.ncc_safety.proofs.Slots.{slot_alike, slot_cases}
use Rattle.ncc_safety.proofs.FleetLaws.{list_is, within}
use Rattle.ncc_safety.proofs.Worlds.{get_either, core_in}

-- the entry of an item is one that a log may have
abbrev pub IsAllowed : Item → Type 0
IsAllowed i = IsTrue (entry_allowed i.entry)

-- an event whose message is so
abbrev pub Meets : (Envelope → Type 0) → Event → Type 0
Meets E (Receive e) = E e
Meets E (Propose entry) = IsTrue (entry_allowed entry)
Meets E _ = Unit {0}

abbrev pub SoBehind : (ℕ → Member → Type 0) → (Envelope → Type 0) → ℕ → Outcome → Type 0
SoBehind M E i o = M i o.member × All E o.sent

-- what is so of cores, M, and of messages, E, and lasts
pub record Lasts (shape : Shape) (M : ℕ → Member → Type 0) (E : Envelope → Type 0) : Type 0 where
  pub new : (i : ℕ) → is_core shape.cores i ≡ true → M i (new_member shape.cores)
  pub steps : (i : ℕ) (m : Member) (event : Event) → is_core shape.cores i ≡ true → M i m → Meets E event →
      SoBehind M E i (step (seat_at shape i) m event)
  pub again : (i : ℕ) (m : Member) → M i m → M i (restarted shape.cores 0 m)
  pub asks : (j i have : ℕ) → is_replica shape j ≡ true → is_core shape.cores i ≡ true → have ≤ shape.limit → E (letter j i (Pull have))
  pub logs : (i : ℕ) (m : Member) → M i m → AllAllowed m.log
  pub batches : (from j first : ℕ) (items : List Item) → E (letter from j (Batch first items)) → AllAllowed items

-- it is so of a fleet
pub record IsSo (shape : Shape) (M : ℕ → Member → Type 0) (E : Envelope → Type 0) (f : Fleet) : Type 0 where
  pub cores : (i : ℕ) → is_core shape.cores i ≡ true → M i (core_at shape f i)
  pub sent : (e : Envelope) → WasSent f e → E e
  pub lists : (j : ℕ) → AllAllowed (list_at shape f j)

-- ---- lists

all_get : {A : Type 0} (P : A → Type 0) → (xs : List A) (k : ℕ) (x : A) → All P xs → slice_get xs k ≡ Some x → P x
all_get P xs k x a q = subst P (get_or_from_slice_get xs k x x q) (a k x (slice_get_within xs k x q))

all_from : {A : Type 0} (P : A → Type 0) → (xs : List A) → ((k : ℕ) (x : A) → slice_get xs k ≡ Some x → P x) → AllByRecursion P xs
all_from P [] h = tt
all_from P (x ∷ xs) h = (h 0 x refl, all_from P xs (λ k y q. h (suc k) y q))

all_join : {A : Type 0} (P : A → Type 0) → (xs ys : List A) → AllByRecursion P xs → AllByRecursion P ys → AllByRecursion P (xs ++ ys)
all_join P [] ys a b = b
all_join P (x ∷ xs) ys a b = (a.0, all_join P xs ys a.1 b)

all_at : (P : List Item → Type 0) (ls : List (List Item)) (k : ℕ) → P [] → AllByRecursion P ls → P (slice_index_or ls k [])
all_at P [] k n a = n
all_at P (l ∷ ls) zero n a = a.0
all_at P (l ∷ ls) (suc k) n a = all_at P ls k n a.1

grown_of : (P : List Item → Type 0) (h : List Item) (ls : List (List Item)) → P h → AllByRecursion P ls → P (grown h ls)
unfolding grown
grown_of P h [] p a = p
grown_of P h (l ∷ ls) p a = grown_of P (if nat_lt (length h) (length l) then l else h) ls (go (nat_lt (length h) (length l))) a.1
  where
    go : (b : Bool) → P (if b then l else h)
    go true = a.0
    go false = p

module _ (shape : Shape) (M : ℕ → Member → Type 0) (E : Envelope → Type 0) (r : Lasts shape M E) where
  -- ---- one change

  more_so : (f : Fleet) (new : List Envelope) → ((e : Envelope) → WasSent f e → E e) → All E new → (e : Envelope) →
      WasSent (also_sends f new) e → E e
  more_so f new old all e w = go (get_either f.sent new w.0 e w.1)
    where
      go : ((p : ℕ) × (slice_get f.sent p ≡ Some e)) ⊎ ((p : ℕ) × (slice_get new p ≡ Some e)) → E e
      go (inl p) = old e p
      go (inr p) = all_get E new p.0 e all p.1

  core_so : (f : Fleet) (i : ℕ) (m : Member) (sent : List Envelope) → IsSo shape M E f → is_core shape.cores i ≡ true → M i m →
      ((e : Envelope) → WasSent (core_becomes f i m sent) e → E e) → IsSo shape M E (core_becomes f i m sent)
  core_so f i m sent k b s w = record {
    cores = λ j d. go j d (slot_cases f.cores (i - 1) (j - 1) m (new_member shape.cores));
    sent = w;
    lists = k.lists;
  }
    where
      go : (j : ℕ) → is_core shape.cores j ≡ true → ((j - 1 ≡ i - 1) × (core_at shape (core_becomes f i m sent) j ≡ m)) ⊎
          (core_at shape (core_becomes f i m sent) j ≡ core_at shape f j) → M j (core_at shape (core_becomes f i m sent) j)
      go j d (inl q) =
          let v = core_within shape.cores i b in
          let u = core_within shape.cores j d in
          let q0 = q.0 in
          let e : i ≡ j = omega arith in
          subst (λ z. M j z) (sym q.1) (subst (λ n. M n m) e s)
      go j d (inr q) = subst (λ z. M j z) (sym q) (k.cores j d)

  list_so : (f : Fleet) (j : ℕ) (list : List Item) → IsSo shape M E f → AllAllowed list → IsSo shape M E (list_becomes shape f j list)
  list_so f j list k a = record {
    cores = k.cores;
    sent = k.sent;
    lists = λ i. go i (slot_cases f.lists (j - shape.cores - 1) (i - shape.cores - 1) list []);
  }
    where
      go : (i : ℕ) →
          ((i - shape.cores - 1 ≡ j - shape.cores - 1) × (list_at shape (list_becomes shape f j list) i ≡ list)) ⊎
          (list_at shape (list_becomes shape f j list) i ≡ list_at shape f i) → AllAllowed (list_at shape (list_becomes shape f j list) i)
      go i (inl q) = subst (λ z. AllAllowed z) (sym q.1) a
      go i (inr q) = subst (λ z. AllAllowed z) (sym q) (k.lists i)

  -- ---- what happens

  meets : (f : Fleet) → IsSo shape M E f → (event : Event) → MayHappen f event → Meets E event
  meets f k Timeout m = tt
  meets f k Beat m = tt
  meets f k (Propose entry) m = m
  meets f k (Receive e) m = k.sent e m

  step_so : (f : Fleet) → IsSo shape M E f → (i : ℕ) (event : Event) → is_core shape.cores i ≡ true → MayHappen f event →
      IsSo shape M E (steps_to shape f i event)
  step_so f k i event b m =
      let o : Outcome = outcome_at shape f i event in
      let s = r.steps i (core_at shape f i) event b (k.cores i b) (meets f k event m) in
      core_so f i o.member (f.sent ++ o.sent) k b s.0 (more_so f o.sent k.sent s.1)

  loss_so : (f : Fleet) → IsSo shape M E f → (i : ℕ) (event : Event) → is_core shape.cores i ≡ true → MayHappen f event →
      IsSo shape M E (loses_to shape f i event)
  loss_so f k i event b m = core_so f i (outcome_at shape f i event).member f.sent k b
      (r.steps i (core_at shape f i) event b (k.cores i b) (meets f k event m)).0 k.sent

  move_so : (f g : Fleet) → IsSo shape M E f → ((j : ℕ) → is_replica shape j ≡ true → length (list_at shape f j) ≤ shape.limit) →
      Moves shape f g → IsSo shape M E g
  move_so f g k short (TimesOut i b) = step_so f k i Timeout b tt
  move_so f g k short (Beats i b) = step_so f k i Beat b tt
  move_so f g k short (Hears e b w) = step_so f k e.to (Receive e) b w
  move_so f g k short (Asks j i d b) =
      let e : Envelope = letter j i (Pull (length (list_at shape f j))) in
      let one = All-cons E e [] (r.asks j i (length (list_at shape f j)) d b (short j d)) (All-nil E) in
      record { cores = k.cores; sent = more_so f (e ∷ []) k.sent one; lists = k.lists }
  move_so f g k short (Takes j from first items list b w e) =
      let t = taken_so (list_at shape f j) first items list e in
      let items_so = r.batches from j first items (k.sent (letter from j (Batch first items)) w) in
      let more = All-drop (λ (i : Item). IsAllowed i) (length (list_at shape f j) + 1 - first) items items_so in
      list_so f j list k (subst (λ z. AllAllowed z) (sym t.is)
      (All-append (λ (i : Item). IsAllowed i) (list_at shape f j) _ (k.lists j) more))
  move_so f g k short Rests = k

  again_so : (f : Fleet) (i : ℕ) → IsSo shape M E f → is_core shape.cores i ≡ true → IsSo shape M E (starts_again shape f i)
  again_so f i k b = core_so f i (restarted shape.cores 0 (core_at shape f i)) f.sent k b
      (r.again i (core_at shape f i) (k.cores i b)) k.sent

  restart_so : (f : Fleet) (i : ℕ) (g : Fleet) → IsSo shape M E f → Restarts shape i f g → IsSo shape M E g
  restart_so f i g k (Again b) = again_so f i k b
  restart_so f i g k (Amid event b m) = again_so (loses_to shape f i event) i (loss_so f k i event b m) b
  restart_so f i g k (Empties b) = list_so f i [] k (All-nil (λ (x : Item). IsAllowed x))

  start_so : IsSo shape M E (fleet_start shape)
  start_so = record {
    cores = λ i b. subst (λ m. M i m) (sym (slot_alike shape.cores (i - 1) (new_member shape.cores))) (r.new i b);
    sent = λ e w. let q = w.1 in absurd (cc);
    lists = λ j. subst (λ l. AllAllowed l) (sym (slot_alike shape.replicas (j - shape.cores - 1) []))
        (All-nil (λ (x : Item). IsAllowed x));
  }

  -- ---- what has been applied

  all_allowed : (f : Fleet) → HasShape shape f → IsSo shape M E f → AllByRecursion (λ l. AllAllowed l) (applied_lists f)
  all_allowed f s k = all_join (λ l. AllAllowed l) (map applied f.cores) f.lists
      (all_from (λ l. AllAllowed l) (map applied f.cores) cores) (all_from (λ l. AllAllowed l) f.lists lists)
    where
      cores : (n : ℕ) (x : List Item) → slice_get (map applied f.cores) n ≡ Some x → AllAllowed x
      cores n x q =
          let w = slice_get_within (map applied f.cores) n x q in
          let l = length-map f.cores applied in
          let c = s.cores in
          let m : Member = core_at shape f (1 + n) in
          let log = r.logs (1 + n) m (k.cores (1 + n) (core_in shape.cores (1 + n) (omega arith) (omega arith))) in
          subst (λ l. AllAllowed l) (applied_read shape f n x q) (All-take (λ (i : Item). IsAllowed i) m.commit m.log log)

      lists : (n : ℕ) (x : List Item) → slice_get f.lists n ≡ Some x → AllAllowed x
      lists n x q = subst (λ l. AllAllowed l) (list_read shape f n x q) (k.lists (shape.cores + 1 + n))

  -- ---- over time

  pub record IsSoSeen (x : Seen) : Type 0 where
    pub fleet : IsSo shape M E x.fleet
    pub history : AllAllowed x.history
    pub lists : (member : ℕ) → AllAllowed (applied_at x.fleet member)

  seen_so : (x : Seen) → HasShape shape x.fleet → IsSo shape M E x.fleet → AllAllowed x.history → IsSoSeen x
  seen_so x s k h = record {
    fleet = k;
    history = h;
    lists = λ member. all_at (λ list. AllAllowed list) (applied_lists x.fleet) (member - 1) (All-nil (λ (i : Item). IsAllowed i))
        (all_allowed x.fleet s k);
  }

  goes_so : (x y : Seen) → HasShape shape x.fleet → IsWithin shape x → IsSo shape M E x.fleet → Goes shape x y → IsSo shape M E y.fleet
  goes_so x y s w k (ByMove g m) =
      move_so x.fleet g k
      (λ j b. let l = w.lists j in let e = ap (λ (z : List Item). length z) (list_is shape x.fleet j s b) in omega arith) m
  goes_so x y s w k (ByProposal i entry place term g p) =
      let o = offered shape x.fleet i entry place term g p in
      subst (λ z. IsSo shape M E z) (sym o.after) (step_so x.fleet k i (Propose entry) o.core p.allowed)
  goes_so x y s w k (ByRestart i g m) = restart_so x.fleet i g k m

  next_history : (x y : Seen) → Goes shape x y → y.history ≡ grown x.history (applied_lists y.fleet)
  next_history x y (ByMove g m) = refl
  next_history x y (ByProposal i entry place term g p) = refl
  next_history x y (ByRestart i g m) = refl

  path_so : (x y : Seen) (c : Cluster) → Stands shape x c → IsSoSeen x → Path shape x y → IsSoSeen y
  path_so x y c s l (Here w) = l
  path_so x z c s l (Then w y v g p) =
      let a = goes_on shape x y c s g in
      let k = goes_so x y s.has (within shape x c s) l.fleet g in
      let h = grown_of (λ list. AllAllowed list) x.history (applied_lists y.fleet) l.history (all_allowed y.fleet a.stands.has k) in
      path_so y z a.to a.stands
      (seen_so y a.stands.has k (subst (λ list. AllAllowed list) (sym (next_history x y g)) h)) p

  pub always_so : (x : Seen) → Reached shape x → IsSoSeen x
  always_so x p = path_so (seen_start shape) x _ (start_stands shape)
      (seen_so (seen_start shape) (start_stands shape).has start_so (All-nil (λ (i : Item). IsAllowed i))) p
