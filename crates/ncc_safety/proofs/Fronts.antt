-- What replicas and the history have was chosen.
use Rattle.std.proofs.Common.{◌≡◌, ℕ, ◌+◌, ◌-◌, ◌<◌, ◌≤◌, Bool, true, false, nat_lt, nat_le, if◌then◌else◌, List, [], ◌∷◌, ◌++◌, length, map, drop, slice_get, Option, Some, None, ◌⊎◌, refl, sym, ap, ◌∙◌, subst, inl, inr, arith, length-append, length-drop}
use Rattle.std.specs.List.{range_with_len}
use Rattle.std.proofs.lemmas.Bool.{cases_lt, ltb-false, leb-false}
use Rattle.ncc_tx.specs.declared.entry.Item.{Item}
use Rattle.ncc_tx.specs.Kept.{terms}
use Rattle.ncc_raft.specs.declared.message.Envelope.{Envelope}
use Rattle.ncc_raft.specs.declared.message.Body.TheVariants.{Batch}
use Rattle.ncc_raft.specs.Member.{Member, letter, cores_of}
use Rattle.ncc_raft.specs.Logs.{Conflict, first_conflict}
use Rattle.ncc_raft.specs.Appending.{applied}
use Rattle.ncc_raft.specs.Pulled as pulled
use Rattle.ncc_raft.specs.Pulled.{Taken, Grown, Gap, Stale, Contradicted, taken}
use Rattle.ncc_safety.specs.Cluster.{Records, Cluster, moved, beside, all_applied, grown, history_of, no_records, start}
use Rattle.ncc_safety.specs.Sentences.{Chosen, IsCommitted, Front, Placed, IsPlaced}
use Rattle.ncc_safety.specs.Steps.{Step, Raises, Stands, Votes, Repeats, Refuses, Counts, Wins, Follows, Takes, Tells, Notes, Advances, Writes, Sends, Restarts, Pulled, Serves, Extends, Forgets, Looks}
use Rattle.ncc_safety.proofs.Puts.{put_all}
use Rattle.ncc_safety.proofs.Agree.{get_some, get_left, get_right, get_drop}
use Rattle.ncc_safety.proofs.Voting.{Good}
use Rattle.ncc_safety.proofs.Logs.{Logs, LogGrows, log_grows_none}
use Rattle.ncc_safety.proofs.LogSteps.{step_log}
use Rattle.ncc_safety.proofs.Chosen.{Safe}
use Rattle.ncc_safety.proofs.Commits.{Commits, has_owner, chosen_leads, committed_stays}
use Rattle.ncc_safety.proofs.CommitSteps.{one_commit_of, applied_front}

pub record Fronts (c : Cluster) : Type 0 where
  pub lists : (j : ℕ) → Front c.cores c.records (c.lists j)
  pub history : Front c.cores c.records c.history

pub front_none : (n : ℕ) (g : Records) → Front n g []
front_none n g = record { term = 0; ok = inl refl }

pub front_stays : (n : ℕ) (g h : Records) (xs : List Item) → LogGrows g h → Front n g xs → Front n h xs
front_stays n g h xs gr k = record { term = k.term; ok = committed_stays n g h k.term (length xs) xs gr k.ok }

-- a leader's log of a later term has what was chosen in an earlier one
pub leads_agree : (c : Cluster) (t u a b : ℕ) → Logs c → Safe c → Chosen c.cores c.records t a → Chosen c.cores c.records u b → (j : ℕ) →
    j ≤ a → j ≤ b → slice_get (c.records.lead t) j ≡ slice_get (c.records.lead u) j
leads_agree c t u a b logs safe x y j la lb = go (cases_lt t u)
  where
    go : (t < u) ⊎ (u ≤ t) → slice_get (c.records.lead t) j ≡ slice_get (c.records.lead u) j
    go (inl lt) = chosen_leads c t a u safe x (has_owner c u b logs y) (omega arith) j (omega arith)
    go (inr le) = sym (chosen_leads c u b t safe y (has_owner c t a logs x) le j (omega arith))

-- ---- a replica takes a Batch

pub record TakenSo (log : List Item) (first : ℕ) (items new : List Item) : Type 0 where
  pub low : first ≤ length log + 1
  pub high : length log + 1 < first + length items
  pub is : new ≡ log ++ drop (length log + 1 - first) items

pub taken_so : (log : List Item) (first : ℕ) (items new : List Item) → taken log first items ≡ Grown new → TakenSo log first items new
unfolding taken
taken_so log first items new e =
    go (nat_lt (length log + 1) first) (nat_le (first + length items) (length log + 1))
    (first_conflict log (length log) first (terms items)) refl refl e
  where
    go : (a b : Bool) (x : Option Conflict) → nat_lt (length log + 1) first ≡ a → nat_le (first + length items) (length log + 1) ≡ b →
        (if a then Gap (length log) first else
        (if b then Stale (length log) (first + length items - 1) else pulled.grown log first items x)) ≡ Grown new →
        TakenSo log first items new
    go true b x ea eb q = absurd (cc)
    go false true x ea eb q = absurd (cc)
    go false false (Some x) ea eb q = absurd (cc)
    go false false None ea eb q =
        let lo = ltb-false (length log + 1) first ea in
        let hi = leb-false (first + length items) (length log + 1) eb in
        let same : log ++ drop (length log + 1 - first) items ≡ new = cc in
        record { low = lo; high = hi; is = sym same }

-- a list that was chosen and a Batch of what was chosen: together they are
module _ (c : Cluster) (logs : Logs c) (safe : Safe c) (xs : List Item) (before : ℕ) (items : List Item) (k : Front c.cores c.records xs)
  where
    -- up to the list's end, both are in the log of the Batch's term
    pub front_in : (p : Placed c.cores c.records before items) → (j : ℕ) → j < length xs → j < before + length items →
        slice_get xs j ≡ slice_get (c.records.lead p.term) j
    front_in p j l m = go k.ok
      where
        go : IsCommitted c.cores c.records k.term (length xs) xs → slice_get xs j ≡ slice_get (c.records.lead p.term) j
        go (inl z) = absurd (omega arith)
        go (inr x) = let a = x.below in let b = p.below in
            x.agree j l ∙ leads_agree c x.term p.term x.place p.place logs safe x.chosen p.chosen j (omega arith) (omega arith)

    extends_front : before ≤ length xs → length xs < before + length items → IsPlaced c.cores c.records before items →
        Front c.cores c.records (xs ++ drop (length xs - before) items)
    extends_front lo hi (inl z) = absurd (omega arith)
    extends_front lo hi (inr p) =
        let size : length (xs ++ drop (length xs - before) items) ≡ before + length items = let e =
        length-append xs (drop (length xs - before) items) in let f = length-drop (length xs - before) items in omega arith in
        let below = p.below in
        record {
          term = p.term;
          ok = inr (record {
            term = p.term;
            place = p.place;
            chosen = p.chosen;
            below = omega arith;
            early = omega arith;
            agree = λ j l. agree j (omega arith) (cases_lt j (length xs));
          });
        }
      where
        agree : (j : ℕ) → j < before + length items → (j < length xs) ⊎ (length xs ≤ j) →
            slice_get (xs ++ drop (length xs - before) items) j ≡ slice_get (c.records.lead p.term) j
        agree j l (inl lt) = get_left xs (drop (length xs - before) items) j lt ∙ front_in p j lt l
        agree j l (inr le) =
            let e : length xs + (j - length xs) ≡ j = omega arith in
            let f : length xs - before + (j - length xs) ≡ j - before = omega arith in
            let g : before + (j - before) ≡ j = omega arith in
            let s = get_some items (j - before) (omega arith) in
            let here : slice_get (xs ++ drop (length xs - before) items) j ≡ slice_get items (j - before) =
            rw (e, f) at (get_right xs (drop (length xs - before) items) (j - length xs) ∙ get_drop (length xs - before) items
            (j - length xs)) in
            here ∙ s.1 ∙ sym (subst (λ w. slice_get (c.records.lead p.term) w ≡ Some s.0) g (p.cut (j - before) s.0 s.1))

taken_front : (c : Cluster) (xs : List Item) (first : ℕ) (items new : List Item) → Logs c → Safe c → Front c.cores c.records xs →
    (before : ℕ) → first ≡ before + 1 → IsPlaced c.cores c.records before items → TakenSo xs first items new → Front c.cores c.records new
taken_front c xs first items new logs safe k before e p t =
    let lo = t.low in
    let hi = t.high in
    let d : length xs + 1 - first ≡ length xs - before = omega arith in
    let same : new ≡ xs ++ drop (length xs - before) items = t.is ∙ ap (λ w. xs ++ drop w items) d in
    subst (λ w. Front c.cores c.records w) (sym same) (extends_front c logs safe xs before items k (omega arith) (omega arith) p)

-- ---- the history

abbrev pub AllFronts : ℕ → Records → List (List Item) → Type 0
AllFronts n g [] = Unit {0}
AllFronts n g (x ∷ xs) = Front n g x × AllFronts n g xs

pub grown_front : (n : ℕ) (g : Records) (history : List Item) (lists : List (List Item)) → Front n g history → AllFronts n g lists →
    Front n g (grown history lists)
unfolding grown
grown_front n g history [] k a = k
grown_front n g history (x ∷ xs) k a =
    grown_front n g (if nat_lt (length history) (length x) then x else history) xs (go (nat_lt (length history) (length x))) a.1
  where
    go : (b : Bool) → Front n g (if b then x else history)
    go true = a.0
    go false = k

pub fronts_join : (n : ℕ) (g : Records) (xs ys : List (List Item)) → AllFronts n g xs → AllFronts n g ys → AllFronts n g (xs ++ ys)
fronts_join n g [] ys a b = b
fronts_join n g (x ∷ xs) ys a b = (a.0, fronts_join n g xs ys a.1 b)

fronts_of : (n : ℕ) (g : Records) (f : ℕ → List Item) (js : List ℕ) → ((j : ℕ) → Front n g (f j)) → AllFronts n g (map f js)
fronts_of n g f [] h = tt
fronts_of n g f (j ∷ js) h = (h j, fronts_of n g f js h)

pub applied_fronts : (c : Cluster) → Commits c → Fronts c → AllFronts c.cores c.records (all_applied c.cores c.replicas c.at c.lists)
applied_fronts c k f = fronts_join c.cores c.records _ _
    (fronts_of c.cores c.records (λ i. applied (c.at i)) (cores_of c.cores) (λ i. applied_front c i k))
    (fronts_of c.cores c.records c.lists (range_with_len (c.cores + 1) c.replicas) f.lists)

history_front : (c : Cluster) → Commits c → Fronts c → Front c.cores c.records (history_of c)
history_front c k f = grown_front c.cores c.records c.history _ f.history (applied_fronts c k f)

-- ---- each step

moved_fronts : (c : Cluster) (i : ℕ) (m : Member) (all : List Envelope) (h : Records) → LogGrows c.records h → Fronts c →
    Fronts (moved c i m all h)
moved_fronts c i m all h gr k =
    record {
      lists = λ j. front_stays c.cores c.records h (c.lists j) gr (k.lists j);
      history = front_stays c.cores c.records h c.history gr k.history;
    }

beside_fronts : (c : Cluster) (lists : ℕ → List Item) (sent : List Envelope) (history : List Item) →
    ((j : ℕ) → Front c.cores c.records (lists j)) → Front c.cores c.records history → Fronts (beside c lists sent history)
beside_fronts c lists sent history a b = record { lists = a; history = b }

pub step_fronts : (c d : Cluster) → Step c d → Good c → Logs c → Safe c → Commits c → Fronts c → Fronts d
step_fronts c d (Raises i t lt) good logs safe kc k = moved_fronts c i _ _ _ (log_grows_none c.records) k
step_fronts c d (Stands i nz) good logs safe kc k = moved_fronts c i _ _ _ (step_log c _ (Stands i nz) good logs).grows k
step_fronts c d (Votes i from place last s none utd) good logs safe kc k =
    moved_fronts c i _ _ _ (step_log c _ (Votes i from place last s none utd) good logs).grows k
step_fronts c d (Repeats i from nz e) good logs safe kc k = beside_fronts c c.lists _ c.history k.lists k.history
step_fronts c d (Refuses i to t) good logs safe kc k = beside_fronts c c.lists _ c.history k.lists k.history
step_fronts c d (Counts i from nz s r) good logs safe kc k = moved_fronts c i _ _ _ (log_grows_none c.records) k
step_fronts c d (Wins i r has) good logs safe kc k = moved_fronts c i _ _ _ (step_log c _ (Wins i r has) good logs).grows k
step_fronts c d (Follows i from) good logs safe kc k = moved_fronts c i _ _ _ (log_grows_none c.records) k
step_fronts c d (Takes i from prev pterm commit items s r hp) good logs safe kc k =
    moved_fronts c i _ _ _ (step_log c _ (Takes i from prev pterm commit items s r hp) good logs).grows k
step_fronts c d (Tells i to t place) good logs safe kc k = beside_fronts c c.lists _ c.history k.lists k.history
step_fronts c d (Notes i from place b nz s r) good logs safe kc k = moved_fronts c i _ _ _ (log_grows_none c.records) k
step_fronts c d (Advances i r) good logs safe kc k = moved_fronts c i _ _ _ (log_grows_none c.records) k
step_fronts c d (Writes i entry r room) good logs safe kc k =
    moved_fronts c i _ _ _ (step_log c _ (Writes i entry r room) good logs).grows k
step_fronts c d (Sends i to prev count commit items r l le e) good logs safe kc k = beside_fronts c c.lists _ c.history k.lists k.history
step_fronts c d (Restarts i commit) good logs safe kc k = moved_fronts c i _ _ _ (log_grows_none c.records) k
step_fronts c d (Pulled from to have) good logs safe kc k = beside_fronts c c.lists _ c.history k.lists k.history
step_fronts c d (Serves i to before count items e) good logs safe kc k = beside_fronts c c.lists _ c.history k.lists k.history
step_fronts c d (Extends j from first items log s e) good logs safe kc k =
    let b = one_commit_of c.cores c.records c.sent s.0 (letter from j (Batch first items)) kc.messages s.1 in
    let new = taken_front c (c.lists j) first items log logs safe (k.lists j) b.0 b.1 b.2 (taken_so (c.lists j) first items log e) in
    beside_fronts c _ c.sent c.history (put_all (λ p l. Front c.cores c.records l) c.lists j log new (λ p ne. k.lists p)) k.history
step_fronts c d (Forgets j) good logs safe kc k =
    beside_fronts c _ c.sent c.history
    (put_all (λ p l. Front c.cores c.records l) c.lists j [] (front_none c.cores c.records) (λ p ne. k.lists p)) k.history
step_fronts c d Looks good logs safe kc k = beside_fronts c c.lists c.sent _ k.lists (history_front c kc k)

pub start_fronts : (n r limit : ℕ) → Fronts (start n r limit)
start_fronts n r limit = record { lists = λ j. front_none n no_records; history = front_none n no_records }
