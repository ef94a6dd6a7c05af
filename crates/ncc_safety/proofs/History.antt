-- What was chosen stays, and all that was ever applied is of one line.
use Rattle.std.proofs.Common.{◌≡◌, ℕ, zero, suc, ◌+◌, ◌<◌, ◌≤◌, min, Bool, true, false, ◌&&◌, ◌||◌, nat_eq, nat_lt, nat_le, if◌then◌else◌, List, [], ◌∷◌, ◌++◌, length, map, slice_get, ◌⊎◌, refl, sym, ap, ◌∙◌, subst, inl, inr, arith}
use Rattle.std.specs.List.{range_with_len}
use Rattle.std.proofs.lemmas.Bool.{cases_lt, ltb-true, ltb-false, leb-true, lt-ltb, eqb-true, or_cases, and_parts}
use Rattle.std.proofs.lemmas.Option.{slice_get_within}
use Rattle.ncc_tx.specs.declared.entry.Item.{Item}
use Rattle.ncc_raft.specs.declared.message.Envelope.{Envelope}
use Rattle.ncc_raft.specs.declared.message.Body.{Body}
use Rattle.ncc_raft.specs.declared.message.Body.TheVariants.{VoteAsk, VoteReply, Append, AppendReply, Pull, Batch}
use Rattle.ncc_raft.specs.Member.{is_core, cores_of}
use Rattle.ncc_raft.specs.Appending.{applied}
use Rattle.ncc_safety.specs.Lists.{Agree, Begins, OneLine}
use Rattle.ncc_safety.specs.Cluster.{Records, Cluster, is_replica, all_applied, grown, history_of, looked}
use Rattle.ncc_safety.specs.Laws.{is_yes, said_yes, Told, ChosenStays, applied_by, AllOneLine, InHistory, HistoryGrows, Applied}
use Rattle.ncc_safety.specs.Sentences.{Chosen, IsCommitted, Front}
use Rattle.ncc_safety.specs.Steps.{Step, Raises, Stands, Votes, Repeats, Refuses, Counts, Wins, Follows, Takes, Tells, Notes, Advances, Writes, Sends, Restarts, Pulled, Serves, Extends, Forgets, Looks, Steps, Still, Then}
use Rattle.ncc_safety.proofs.Agree.{take_same}
use Rattle.ncc_safety.proofs.Quorum.{majority_more}
use Rattle.ncc_safety.proofs.Logs.{BodyLog, AllLog, lead_agree}
use Rattle.ncc_safety.proofs.Commits.{still_chosen, choosable, chosen_leads}
use Rattle.ncc_safety.proofs.CommitSteps.{applied_front}
use Rattle.ncc_safety.proofs.Fronts.{front_stays, leads_agree}
use Rattle.ncc_safety.proofs.Nines.{tells_of, fronts_of}
use Rattle.ncc_safety.proofs.Owners.{leads_log, leads_owned, begins_from}
use Rattle.ncc_safety.proofs.Sane.{Sane, Later, later}

-- ---- what was chosen stays

-- who said yes to a place accepted it
yes_ack : (g : Records) (t place j from : ℕ) (b : Body) → BodyLog g from b → nat_eq from j ≡ true → is_yes t place b ≡ true →
    place ≤ g.ack t j
yes_ack g t place j from (VoteAsk u p l) k e y = absurd (cc)
yes_ack g t place j from (VoteReply u b) k e y = absurd (cc)
yes_ack g t place j from (Append u p l m is) k e y = absurd (cc)
yes_ack g t place j from (AppendReply u false p) k e y = absurd (cc)
yes_ack g t place j from (AppendReply u true p) k e y =
    let q = and_parts (nat_eq u t) (nat_le place p) y in
    let le = leb-true place p q.1 in
    let ut = eqb-true u t q.0 in
    let fj = eqb-true from j e in
    let a : p ≤ g.ack t j = rw (ut, fj) at (k refl) in
    omega arith
yes_ack g t place j from (Pull h) k e y = absurd (cc)
yes_ack g t place j from (Batch f is) k e y = absurd (cc)

yes_acks : (g : Records) (t place j : ℕ) (es : List Envelope) → AllLog g es → said_yes t place es j ≡ true → place ≤ g.ack t j
yes_acks g t place j [] k y = absurd (cc)
yes_acks g t place j (e ∷ es) k y = go (or_cases _ _ y) (λ q. yes_acks g t place j es k.1 q)
  where
    go : ((nat_eq e.from j && is_yes t place e.body) ≡ true) ⊎ (said_yes t place es j ≡ true) →
        (said_yes t place es j ≡ true → place ≤ g.ack t j) → place ≤ g.ack t j
    go (inl q) rest = let p = and_parts (nat_eq e.from j) (is_yes t place e.body) q in yes_ack g t place j e.from e.body k.0 p.0 p.1
    go (inr q) rest = rest q

pub told_chosen : (c : Cluster) (t i k : ℕ) → Sane c → Told c t i k → Chosen c.cores c.records t k
told_chosen c t i k sane told =
    let was = leads_log c t i sane.good told.leads in
    let w = slice_get_within (c.at i).log k told.item told.there in
    let mine : c.records.ack t i ≡ length (c.at i).log = rw (told.leads.1) at ((sane.logs.members i).own_ack told.leads.0) in
    record {
      item = told.item;
      there = ap (λ z. slice_get z k) was ∙ told.there;
      own = told.own;
      held = majority_more c.cores (λ j. nat_eq j i || said_yes t (suc k) c.sent j) (λ j. nat_lt k (c.records.ack t j))
          (λ j pos e. lt-ltb k (c.records.ack t j) (held j mine w (or_cases _ _ e))) told.many;
    }
  where
    held : (j : ℕ) → c.records.ack t i ≡ length (c.at i).log → k < length (c.at i).log →
        (nat_eq j i ≡ true) ⊎ (said_yes t (suc k) c.sent j ≡ true) → k < c.records.ack t j
    held j mine w (inl e) = let ji = eqb-true j i e in rw ji (omega arith)
    held j mine w (inr e) = let a = yes_acks c.records t (suc k) j c.sent sane.logs.messages e in omega arith

-- what was chosen in a term stands in the start of each later one
pub chosen_starts : (c : Cluster) (t k u : ℕ) → Sane c → Chosen c.cores c.records t k → t < u → (c.records.owner u ≡ 0 → ⊥) →
    Agree (suc k) (c.records.lead t) (c.records.start u)
chosen_starts c t k u sane ch l o = sane.safe.stays.starts t k (choosable c t k ch) u l o

module _ (c d : Cluster) (s : Steps c d) (k : Sane c) where
  after : Later c d
  after = later c d s k

  still : (t p : ℕ) → Chosen c.cores c.records t p → Chosen d.cores d.records t p
  still t p ch = subst (λ n. Chosen n d.records t p) (sym after.cores) (still_chosen c.cores c.records d.records t p after.logs ch)

  pub chosen_stays : ChosenStays c d
  chosen_stays t i p u j told le l =
      let ch = told_chosen c t i p k told in
      let was = leads_log c t i k.good told.leads in
      let now = leads_log d u j after.sane.good l in
      let a = chosen_leads d t p u after.sane.safe (still t p ch) (leads_owned d u j after.sane.good l) le in
      let w = slice_get_within (c.at i).log p told.item told.there in
      let e : length (c.records.lead t) ≡ length (c.at i).log = ap length was in
      take_same (suc p) (c.at i).log (d.at j).log (omega arith)
      (λ q z. ap (λ v. slice_get v q) (sym was) ∙ lead_agree c.records d.records after.logs t (suc p) (omega arith) q z ∙ a q z ∙ ap
      (λ v. slice_get v q) now)

-- ---- one line

fronts_agree : (c : Cluster) (xs ys : List Item) → Sane c → Front c.cores c.records xs → Front c.cores c.records ys →
    Agree (min (length xs) (length ys)) xs ys
fronts_agree c xs ys sane x y j l = go x.ok y.ok
  where
    go : IsCommitted c.cores c.records x.term (length xs) xs → IsCommitted c.cores c.records y.term (length ys) ys →
        slice_get xs j ≡ slice_get ys j
    go (inl z) b = absurd (omega arith)
    go (inr a) (inl z) = absurd (omega arith)
    go (inr a) (inr b) =
        let la = a.below in
        let lb = b.below in
        a.agree j (omega arith) ∙ leads_agree c a.term b.term a.place b.place sane.logs sane.safe a.chosen b.chosen j (omega arith)
        (omega arith) ∙ sym (b.agree j (omega arith))

-- of two lists that were chosen, the shorter begins the longer
pub fronts_begin : (c : Cluster) (xs ys : List Item) → Sane c → Front c.cores c.records xs → Front c.cores c.records ys →
    length xs ≤ length ys → Begins xs ys
fronts_begin c xs ys sane x y l = begins_from xs ys (λ j p. fronts_agree c xs ys sane x y j (omega arith))

fronts_line : (c : Cluster) (xs ys : List Item) → Sane c → Front c.cores c.records xs → Front c.cores c.records ys → OneLine xs ys
fronts_line c xs ys sane x y = go (cases_lt (length xs) (length ys))
  where
    go : (length xs < length ys) ⊎ (length ys ≤ length xs) → OneLine xs ys
    go (inl l) = inl (fronts_begin c xs ys sane x y (omega arith))
    go (inr l) = inr (fronts_begin c ys xs sane y x l)

applied_by_front : (c : Cluster) (i : ℕ) → Sane c → Front c.cores c.records (applied_by c i)
applied_by_front c i k = go (is_core c.cores i)
  where
    go : (b : Bool) → Front c.cores c.records (if b then applied (c.at i) else c.lists i)
    go true = applied_front c i k.commits
    go false = k.fronts.lists i

-- ---- the history

grown_long : (history : List Item) (lists : List (List Item)) → length history ≤ length (grown history lists)
unfolding grown
grown_long history [] = omega arith
grown_long history (x ∷ xs) = let a = grown_long (if nat_lt (length history) (length x) then x else history) xs in let b =
    go (nat_lt (length history) (length x)) refl in omega arith
  where
    go : (b : Bool) → nat_lt (length history) (length x) ≡ b → length history ≤ length (if b then x else history)
    go true e = let l = ltb-true (length history) (length x) e in omega arith
    go false e = omega arith

-- no list among them is longer
abbrev pub NoLonger : List Item → List (List Item) → Type 0
NoLonger history [] = Unit {0}
NoLonger history (x ∷ xs) = (length x ≤ length history) × NoLonger history xs

pub grown_longest : (history : List Item) (lists : List (List Item)) → NoLonger (grown history lists) lists
unfolding grown
grown_longest history [] = tt
grown_longest history (x ∷ xs) = let a = grown_long (if nat_lt (length history) (length x) then x else history) xs in let b =
    go (nat_lt (length history) (length x)) refl in
    (omega arith, grown_longest (if nat_lt (length history) (length x) then x else history) xs)
  where
    go : (b : Bool) → nat_lt (length history) (length x) ≡ b → length x ≤ length (if b then x else history)
    go true e = omega arith
    go false e = let l = ltb-false (length history) (length x) e in omega arith

no_longer_parts : (h : List Item) (xs ys : List (List Item)) → NoLonger h (xs ++ ys) → NoLonger h xs × NoLonger h ys
no_longer_parts h [] ys k = (tt, k)
no_longer_parts h (x ∷ xs) ys k = let r = no_longer_parts h xs ys k.1 in ((k.0, r.0), r.1)

no_longer_of : (h : List Item) (f : ℕ → List Item) (a n j : ℕ) → NoLonger h (map f (range_with_len a n)) → a ≤ j → j < a + n →
    length (f j) ≤ length h
no_longer_of h f a zero j k lo hi = absurd (omega arith)
no_longer_of h f a (suc n) j k lo hi = go (cases_lt a j) (λ l m. no_longer_of h f (a + 1) n j k.1 l m)
  where
    go : (a < j) ⊎ (j ≤ a) → (a + 1 ≤ j → j < a + 1 + n → length (f j) ≤ length h) → length (f j) ≤ length h
    go (inl l) rest = rest (omega arith) (omega arith)
    go (inr l) rest = let e : a ≡ j = omega arith in subst (λ v. length (f v) ≤ length h) e k.0

-- nothing that a core or a replica has applied is longer than the history
pub record Covered (c : Cluster) : Type 0 where
  pub cores : (i : ℕ) → 1 ≤ i → i ≤ c.cores → length (applied (c.at i)) ≤ length c.history
  pub lists : (j : ℕ) → c.cores < j → j ≤ c.cores + c.replicas → length (c.lists j) ≤ length c.history

pub looked_covered : (c : Cluster) → Covered (looked c)
looked_covered c =
    let all = no_longer_parts (history_of c) (map (λ i. applied (c.at i)) (cores_of c.cores))
    (map c.lists (range_with_len (c.cores + 1) c.replicas)) (grown_longest c.history (all_applied c.cores c.replicas c.at c.lists)) in
    record {
      cores = λ i lo hi. no_longer_of (history_of c) (λ j. applied (c.at j)) 1 c.cores i all.0 lo (omega arith);
      lists = λ j lo hi. no_longer_of (history_of c) c.lists (c.cores + 1) c.replicas j all.1 (omega arith) (omega arith);
    }

step_history : (c d : Cluster) → Step c d → length c.history ≤ length d.history
step_history c d (Raises i t lt) = omega arith
step_history c d (Stands i nz) = omega arith
step_history c d (Votes i from place last s none utd) = omega arith
step_history c d (Repeats i from nz e) = omega arith
step_history c d (Refuses i to t) = omega arith
step_history c d (Counts i from nz s r) = omega arith
step_history c d (Wins i r has) = omega arith
step_history c d (Follows i from) = omega arith
step_history c d (Takes i from prev pterm commit items s r hp) = omega arith
step_history c d (Tells i to t place) = omega arith
step_history c d (Notes i from place b nz s r) = omega arith
step_history c d (Advances i r) = omega arith
step_history c d (Writes i entry r room) = omega arith
step_history c d (Sends i to prev count commit items r l le e) = omega arith
step_history c d (Restarts i commit) = omega arith
step_history c d (Pulled from to have) = omega arith
step_history c d (Serves i to before count items e) = omega arith
step_history c d (Extends j from first items log s e) = omega arith
step_history c d (Forgets j) = omega arith
step_history c d Looks = grown_long c.history (all_applied c.cores c.replicas c.at c.lists)

pub history_longer : (c d : Cluster) → Steps c d → length c.history ≤ length d.history
history_longer c d Still = omega arith
history_longer c e (Then {d = d} ss s) = let a = history_longer c d ss in let b = step_history d e s in omega arith

module _ (c d : Cluster) (s : Steps c d) (k : Sane c) where
  then_on : Later c d
  then_on = later c d s k

  carry : (xs : List Item) → Front c.cores c.records xs → Front d.cores d.records xs
  carry xs x = subst (λ n. Front n d.records xs) (sym then_on.cores) (front_stays c.cores c.records d.records xs then_on.logs x)

  pub all_one_line : AllOneLine c d
  all_one_line i j = fronts_line d (applied_by c i) (applied_by d j) then_on.sane (carry (applied_by c i) (applied_by_front c i k))
      (applied_by_front d j then_on.sane)

  pub history_grows : HistoryGrows c d
  history_grows = fronts_begin d c.history d.history then_on.sane (carry c.history k.fronts.history) then_on.sane.fronts.history
      (history_longer c d s)

  pub in_history : Covered c → InHistory c d
  unfolding is_core
  in_history v i e = fronts_begin d (applied_by c i) d.history then_on.sane (carry (applied_by c i) (applied_by_front c i k))
      then_on.sane.fronts.history (let a = short (is_core c.cores i) refl in let b = history_longer c d s in omega arith)
    where
      short : (b : Bool) → is_core c.cores i ≡ b → length (if b then applied (c.at i) else c.lists i) ≤ length c.history
      short true q = let p = and_parts (nat_lt 0 i) (nat_le i c.cores) q in
          v.cores i (let l = ltb-true 0 i p.0 in omega arith) (leb-true i c.cores p.1)
      short false q = go (or_cases _ _ e)
        where
          go : (is_core c.cores i ≡ true) ⊎ (is_replica c i ≡ true) → length (c.lists i) ≤ length c.history
          go (inl z) = absurd (cc)
          go (inr z) = let p = and_parts (nat_lt c.cores i) (nat_le i (c.cores + c.replicas)) z in
              v.lists i (ltb-true c.cores i p.0) (leb-true i (c.cores + c.replicas) p.1)

pub applied_so : (c : Cluster) → Sane c → Applied c
applied_so c k = record { tells = tells_of c k; commits = k.commits.members; fronts = fronts_of c k }
