-- How small steps of one core make a whole one: it becomes a member, has sent messages, and the records are these.
use Rattle.std.proofs.Common.{◌≡◌, ℕ, zero, suc, ◌+◌, ◌-◌, ◌≤◌, Bool, true, false, nat_le, if◌then◌else◌, List, [], ◌∷◌, ◌++◌, length, map, take, drop, slice_get, Some, refl, sym, ap, subst, arith}
use Rattle.std.proofs.lemmas.List.{append-nil, append_assoc}
use Rattle.ncc_tx.specs.declared.entry.Item.{Item}
use Rattle.ncc_raft.specs.declared.message.Envelope.{Envelope}
use Rattle.ncc_raft.specs.declared.message.RaftRole.{RaftRole}
use Rattle.ncc_raft.specs.declared.message.RaftRole.TheVariants.{Leader, Candidate, Follower}
use Rattle.ncc_raft.specs.Member.{Member, is_leader, is_candidate, next_of}
use Rattle.ncc_raft.specs.Logs.{entry_size, front_within, allowed_front}
use Rattle.ncc_raft.specs.Appending.{append_to}
use Rattle.ncc_safety.specs.Cluster.{Records, Cluster, seat_of, moved, stepped, quiet, said}
use Rattle.ncc_safety.specs.Steps.{Step, Sends, Steps, Still, Then}
use Rattle.ncc_safety.proofs.Puts.{put_put, put_self}

pub one_step : (c d : Cluster) → Step c d → Steps c d
one_step c d s = Then Still s

pub joined : (b c d : Cluster) → Steps b c → Steps c d → Steps b d
joined b c d s Still = s
joined b c e s (Then {d = d} t u) = Then (joined b c d s t) u

pub if_steps : (c : Cluster) (b : Bool) (x y : Cluster) → (b ≡ true → Steps c x) → (b ≡ false → Steps c y) → Steps c (if b then x else y)
if_steps c true x y p q = p refl
if_steps c false x y p q = q refl

-- what was sent before stands among more
pub get_first : (xs ys : List Envelope) (k : ℕ) (e : Envelope) → slice_get xs k ≡ Some e → slice_get (xs ++ ys) k ≡ Some e
get_first [] ys k e q = absurd (cc)
get_first (x ∷ xs) ys zero e q = q
get_first (x ∷ xs) ys (suc k) e q = get_first xs ys k e q

-- the members of a cluster, what was sent and the records, in place of its own
abbrev with_at : Cluster → (ℕ → Member) → List Envelope → Records → Cluster
with_at c at sent g = record {
  cores = c.cores;
  replicas = c.replicas;
  limit = c.limit;
  at = at;
  lists = c.lists;
  sent = sent;
  history = c.history;
  records = g;
}

-- core i becomes m and has sent these, and the records are h
abbrev pub Reach : Cluster → ℕ → Member → List Envelope → Records → Type 0
Reach c i m new h = Steps c (stepped c i m new h)

module _ (c : Cluster) (i : ℕ) where
  pub reach_none : Reach c i (c.at i) [] c.records
  reach_none = subst (λ s. Steps c (moved c i (c.at i) s c.records)) (sym (append-nil c.sent))
      (subst (λ f. Steps c (with_at c f c.sent c.records)) (sym (put_self c.at i)) Still)

  pub reach_quiet : (m : Member) → Step c (quiet c i m) → Reach c i m [] c.records
  reach_quiet m s = subst (λ all. Steps c (moved c i m all c.records)) (sym (append-nil c.sent)) (one_step c (quiet c i m) s)

  pub reach_said : (new : List Envelope) → Steps c (said c new) → Reach c i (c.at i) new c.records
  reach_said new s = subst (λ f. Steps c (with_at c f (c.sent ++ new) c.records)) (sym (put_self c.at i)) s

  pub reach_step : (m : Member) (new : List Envelope) (h : Records) → Step c (stepped c i m new h) → Reach c i m new h
  reach_step m new h s = one_step c (stepped c i m new h) s

  pub then_quiet : (m w : Member) (new : List Envelope) (h : Records) → Reach c i m new h →
      Step (stepped c i m new h) (quiet (stepped c i m new h) i w) → Reach c i w new h
  then_quiet m w new h r s = subst (λ f. Steps c (with_at c f (c.sent ++ new) h)) (put_put c.at i m w) (Then r s)

  pub then_said : (m : Member) (new more : List Envelope) (h : Records) → Reach c i m new h →
      Steps (stepped c i m new h) (said (stepped c i m new h) more) → Reach c i m (new ++ more) h
  then_said m new more h r s = subst (λ all. Steps c (moved c i m all h)) (append_assoc c.sent new more)
      (joined c (stepped c i m new h) _ r s)

  pub then_step : (m w : Member) (new more : List Envelope) (g h : Records) → Reach c i m new g →
      Step (stepped c i m new g) (stepped (stepped c i m new g) i w more h) → Reach c i w (new ++ more) h
  then_step m w new more g h r s =
      subst (λ all. Steps c (moved c i w all h)) (append_assoc c.sent new more)
      (subst (λ f. Steps c (with_at c f ((c.sent ++ new) ++ more) h)) (put_put c.at i m w) (Then r s))

  -- behind a first change that sends nothing
  pub after_quiet : (m w : Member) (new : List Envelope) (h : Records) → Step c (quiet c i m) → Reach (quiet c i m) i w new h →
      Reach c i w new h
  after_quiet m w new h s r = subst (λ f. Steps c (with_at c f (c.sent ++ new) h)) (put_put c.at i m w)
      (joined c (quiet c i m) _ (one_step c (quiet c i m) s) r)

-- ---- sends

front_within_take : (number bytes : ℕ) (xs : List Item) → front_within number bytes xs ≡ take (length (front_within number bytes xs)) xs
unfolding front_within
front_within_take number bytes [] = refl
front_within_take zero bytes (x ∷ xs) = refl
front_within_take (suc number) bytes (x ∷ xs) = go (nat_le (entry_size x) bytes) (front_within_take number (bytes - entry_size x) xs)
  where
    go : (b : Bool) → front_within number (bytes - entry_size x) xs ≡ take (length (front_within number (bytes - entry_size x) xs)) xs →
        (if b then x ∷ front_within number (bytes - entry_size x) xs else []) ≡ take
        (length (if b then x ∷ front_within number (bytes - entry_size x) xs else [])) (x ∷ xs)
    go true r = ap (λ w. x ∷ w) r
    go false r = refl

pub front_take : (xs : List Item) → allowed_front xs ≡ take (length (allowed_front xs)) xs
unfolding allowed_front
front_take xs = front_within_take _ _ xs

send_one : (c : Cluster) (i j : ℕ) → (c.at i).role ≡ Leader → next_of (c.at i) j ≤ length (c.at i).log + 1 →
    Step c (said c (append_to (seat_of c i) (c.at i) j ∷ []))
send_one c i j r n =
    let prev : ℕ = next_of (c.at i) j - 1 in
    let items : List Item = allowed_front (drop prev (c.at i).log) in
    Sends i j prev (length items) (c.at i).commit items r (omega arith) (omega arith) (front_take (drop prev (c.at i).log))

pub send_all : (c : Cluster) (i : ℕ) → (c.at i).role ≡ Leader → ((j : ℕ) → next_of (c.at i) j ≤ length (c.at i).log + 1) → (js : List ℕ) →
    Steps c (said c (map (append_to (seat_of c i) (c.at i)) js))
send_all c i r n [] = subst (λ all. Steps c (with_at c c.at all c.records)) (sym (append-nil c.sent)) Still
send_all c i r n (j ∷ js) =
    let x : Envelope = append_to (seat_of c i) (c.at i) j in
    let rest : List Envelope = map (append_to (seat_of c i) (c.at i)) js in
    let d : Cluster = said c (x ∷ []) in
    subst (λ all. Steps c (with_at c c.at all c.records)) (append_assoc c.sent (x ∷ []) rest)
    (joined c d (said d rest) (one_step c d (send_one c i j r (n j))) (send_all d i r n js))

-- ---- roles and tests

pub leader_from : (r : RaftRole) → is_leader r ≡ true → r ≡ Leader
leader_from Leader e = refl
leader_from Follower e = absurd (cc)
leader_from Candidate e = absurd (cc)

pub candidate_from : (r : RaftRole) → is_candidate r ≡ true → r ≡ Candidate
candidate_from Candidate e = refl
candidate_from Follower e = absurd (cc)
candidate_from Leader e = absurd (cc)
