-- Each step keeps that what is committed was chosen.
use Rattle.std.proofs.Common.{◌≡◌, ℕ, zero, suc, ◌+◌, ◌-◌, ◌<◌, ◌≤◌, max, min, Bool, true, false, ◌==◌, nat_eq, nat_lt, nat_le, if◌then◌else◌, List, [], ◌∷◌, ◌++◌, length, map, take, drop, slice_get, Some, ◌⊎◌, refl, sym, ap, ◌∙◌, subst, inl, inr, arith, length-take, length-drop}
use Rattle.std.proofs.lemmas.Bool.{cases_lt, leb-true, lt-ltb, eqb-true, and_parts}
use Rattle.std.proofs.lemmas.Option.{slice_get_within}
use Rattle.ncc_tx.specs.declared.entry.Item.{Item}
use Rattle.ncc_tx.specs.Kept.{term_at, term_of}
use Rattle.ncc_raft.specs.declared.message.Envelope.{Envelope}
use Rattle.ncc_raft.specs.declared.message.Body.TheVariants.{VoteAsk, VoteReply, Append, AppendReply, Pull, Batch}
use Rattle.ncc_raft.specs.declared.message.RaftRole.TheVariants.{Leader}
use Rattle.ncc_raft.specs.Member.{Seat, Member, letter, cores_of, majority, match_of, restarted}
use Rattle.ncc_raft.specs.Logs.{accepted, last_term}
use Rattle.ncc_raft.specs.Elections.{raised, timed_out, ask_to, asks, voted, counted, noop_of, won}
use Rattle.ncc_raft.specs.Appending.{added, applied, noted, may_commit, greatest, advanced, follows, has_prev, took}
use Rattle.ncc_raft.specs.Step.{vote_reply, append_reply}
use Rattle.ncc_safety.specs.Lists.{Agree}
use Rattle.ncc_safety.specs.Cluster.{Records, Cluster, seat_of, said, stood, given, owned, accepts, wrote, new_member, no_records, start}
use Rattle.ncc_safety.specs.Sentences.{IsCommitted, Front, IsPlaced}
use Rattle.ncc_safety.specs.Steps.{Step, Raises, Stands, Votes, Repeats, Refuses, Counts, Wins, Follows, Takes, Tells, Notes, Advances, Writes, Sends, Restarts, Pulled, Serves, Extends, Forgets, Looks, Steps, Still, Then}
use Rattle.ncc_safety.proofs.Quorum.{majority_more}
use Rattle.ncc_safety.proofs.Agree.{get_some, get_left, get_take, get_drop, Joined, cut_fits}
use Rattle.ncc_safety.proofs.Voting.{Good}
use Rattle.ncc_safety.proofs.VoteSteps.{steps_votes}
use Rattle.ncc_safety.proofs.Logs.{BodyLog, Logs, LogGrows, log_grows_none}
use Rattle.ncc_safety.proofs.LogSteps.{one_log_of, joined_now, agree_prev, step_log, steps_log}
use Rattle.ncc_safety.proofs.Chosen.{Safe}
use Rattle.ncc_safety.proofs.ChosenSteps.{steps_chosen}
use Rattle.ncc_safety.proofs.Commits.{chosen_leads, BodyCommit, AllCommit, Commits, committed_stays, committed_like, committed_long, commit_step, quiet_commit, beside_commit, said_commit}

pub one_commit_of : (n : ℕ) (g : Records) (es : List Envelope) (which : ℕ) (e : Envelope) → AllCommit n g es →
    slice_get es which ≡ Some e → BodyCommit n g e.body
one_commit_of n g [] which e k q = absurd (cc)
one_commit_of n g (x ∷ es) zero e k q = let xe : x ≡ e = cc in subst (λ y. BodyCommit n g y.body) xe k.0
one_commit_of n g (x ∷ es) (suc which) e k q = one_commit_of n g es which e k.1 q

asks_commit : (n : ℕ) (g : Records) (seat : Seat) (m : Member) (js : List ℕ) → AllCommit n g (map (ask_to seat m) js)
asks_commit n g seat m [] = tt
asks_commit n g seat m (j ∷ js) = (go (nat_eq j seat.id), asks_commit n g seat m js)
  where
    go : (b : Bool) → BodyCommit n g (if b then VoteReply m.term true else VoteAsk m.term (length m.log) (last_term m.log))
    go true = tt
    go false = tt

-- the same log
same_log : (n : ℕ) (g h : Records) (t u commit less : ℕ) (log : List Item) → LogGrows g h → IsCommitted n g t commit log → less ≤ commit →
    t ≤ u → IsCommitted n h u less log
same_log n g h t u commit less log gr k l le =
    committed_like n h t u commit less log log (committed_stays n g h t commit log gr k) l le (λ j p. refl)

-- a longer log
longer_log : (n : ℕ) (g h : Records) (t commit : ℕ) (log more : List Item) → LogGrows g h → IsCommitted n g t commit log →
    IsCommitted n h t commit (log ++ more)
longer_log n g h t commit log more gr k =
    let l = committed_long n g t commit log k in
    committed_like n h t t commit commit log (log ++ more) (committed_stays n g h t commit log gr k) (omega arith) (omega arith)
    (λ j p. sym (get_left log more j (omega arith)))

-- the greatest number that passes does pass, or it is 0
greatest_passes : (test : ℕ → Bool) (n : ℕ) → (greatest test n ≡ 0) ⊎ ((test (greatest test n) ≡ true) × (greatest test n ≤ n))
unfolding greatest
greatest_passes test zero = inl refl
greatest_passes test (suc k) = go (test (suc k)) refl (greatest_passes test k)
  where
    go : (b : Bool) → test (suc k) ≡ b → (greatest test k ≡ 0) ⊎ ((test (greatest test k) ≡ true) × (greatest test k ≤ k)) →
        ((if b then suc k else greatest test k) ≡ 0) ⊎
        ((test (if b then suc k else greatest test k) ≡ true) × ((if b then suc k else greatest test k) ≤ suc k))
    go true e r = inr (e, omega arith)
    go false e (inl z) = inl z
    go false e (inr q) = let l = q.1 in inr (q.0, omega arith)

-- a leader advances
module _ (c : Cluster) (i : ℕ) (good : Good c) (logs : Logs c) (k : Commits c) (r : (c.at i).role ≡ Leader) where
  at_place : (p : ℕ) → may_commit (seat_of c i) (c.at i) p ≡ true → p ≤ length (c.at i).log →
      IsCommitted c.cores c.records (c.at i).term p (c.at i).log
  at_place zero e l = inl refl
  at_place (suc q) e l =
      let m : Member = c.at i in
      let t : ℕ = m.term in
      let p = and_parts (term_at m.log (suc q) == m.term)
      (majority c.cores (λ j. nat_le (suc q) (if nat_eq j i then length m.log else match_of m j))) e in
      let s = get_some m.log q (omega arith) in
      let was : c.records.lead t ≡ m.log = (good.members i).lead_log r in
      inr (record {
        term = t;
        place = q;
        chosen = record {
          item = s.0;
          there = ap (λ w. slice_get w q) was ∙ s.1;
          own = sym (ap term_of s.1) ∙ eqb-true (term_at m.log (suc q)) m.term p.0;
          held = majority_more c.cores (λ j. nat_le (suc q) (if nat_eq j i then length m.log else match_of m j))
              (λ j. nat_lt q (c.records.ack t j)) (λ j pos a. held q j pos (nat_eq j i) refl a) p.1;
        };
        below = omega arith;
        early = omega arith;
        agree = λ j z. ap (λ w. slice_get w j) (sym was);
      })
    where
      held : (q j : ℕ) → 0 < j → (b : Bool) → nat_eq j i ≡ b →
          nat_le (suc q) (if b then length (c.at i).log else match_of (c.at i) j) ≡ true → nat_lt q (c.records.ack (c.at i).term j) ≡ true
      held q j pos true e a =
          let l = leb-true (suc q) (length (c.at i).log) a in
          let o = (logs.members i).own_ack r in
          let ji : j ≡ i = eqb-true j i e in
          rw ji (lt-ltb q (c.records.ack (c.at i).term i) (omega arith))
      held q j pos false e a =
          let l = leb-true (suc q) (match_of (c.at i) j) a in
          let o = (logs.members i).matched r j pos in
          lt-ltb q (c.records.ack (c.at i).term j) (omega arith)

  advances_commit : IsCommitted c.cores c.records (c.at i).term (advanced (seat_of c i) (c.at i)).commit (c.at i).log
  advances_commit = go (greatest_passes (may_commit (seat_of c i) (c.at i)) (length (c.at i).log))
      (cases_lt (c.at i).commit (greatest (may_commit (seat_of c i) (c.at i)) (length (c.at i).log)))
    where
      g : ℕ
      g = greatest (may_commit (seat_of c i) (c.at i)) (length (c.at i).log)

      kept : (a b : ℕ) → b ≤ a → IsCommitted c.cores c.records (c.at i).term a (c.at i).log →
          IsCommitted c.cores c.records (c.at i).term (max a b) (c.at i).log
      kept a b l x = let e : max a b ≡ a = omega arith in rw e x

      other : (a b : ℕ) → a < b → IsCommitted c.cores c.records (c.at i).term b (c.at i).log →
          IsCommitted c.cores c.records (c.at i).term (max a b) (c.at i).log
      other a b l x = let e : max a b ≡ b = omega arith in rw e x

      go : (greatest (may_commit (seat_of c i) (c.at i)) (length (c.at i).log) ≡ 0) ⊎
          ((may_commit (seat_of c i) (c.at i) (greatest (may_commit (seat_of c i) (c.at i)) (length (c.at i).log)) ≡ true) ×
          (greatest (may_commit (seat_of c i) (c.at i)) (length (c.at i).log) ≤ length (c.at i).log)) →
          ((c.at i).commit < greatest (may_commit (seat_of c i) (c.at i)) (length (c.at i).log)) ⊎
          (greatest (may_commit (seat_of c i) (c.at i)) (length (c.at i).log) ≤ (c.at i).commit) →
          IsCommitted c.cores c.records (c.at i).term
          (max (c.at i).commit (greatest (may_commit (seat_of c i) (c.at i)) (length (c.at i).log))) (c.at i).log
      go x (inr l) = kept (c.at i).commit _ l (k.members i)
      go (inl z) (inl l) = absurd (omega arith)
      go (inr q) (inl l) = other (c.at i).commit _ l (at_place _ q.0 q.1)

-- a follower takes items
takes_commit : (c : Cluster) (i from prev pterm commit : ℕ) (items : List Item) → Logs c → Safe c → Commits c →
    BodyLog c.records from (Append (c.at i).term prev pterm commit items) →
    BodyCommit c.cores c.records (Append (c.at i).term prev pterm commit items) → has_prev (c.at i) prev pterm ≡ true
    → LogGrows c.records (accepts c.records (c.at i).term i (prev + length items)) →
    IsCommitted c.cores (accepts c.records (c.at i).term i (prev + length items)) (c.at i).term
    (took (c.at i) prev commit items).commit (took (c.at i) prev commit items).log
takes_commit c i from prev pterm commit items logs safe k said sent hp gr =
    let m : Member = c.at i in
    let t : ℕ = m.term in
    let et : m.term ≡ t = refl in
    let ok = logs.members i in
    let g : Records = c.records in
    let n : ℕ = prev + length items in
    let new : List Item = accepted m.log prev items in
    let p = and_parts (nat_le prev (length m.log)) (term_at m.log prev == pterm) hp in
    let low = leb-true prev (length m.log) p.0 in
    let same = eqb-true (term_at m.log prev) pterm p.1 ∙ sym said.1 in
    let before = agree_prev g m.log (g.lead t) prev ok.sound (logs.records.sound t) low said.0 same in
    let tk = joined_now g t i prev items m ok logs.records et low said.2 before in
    let fits = cut_fits (g.lead t) prev items said.0 said.2 in
    committed_stays c.cores g (accepts g t i n) m.term (max m.commit (min commit n)) new gr
    (go new n tk fits (k.members i) (cases_lt m.commit (min commit n)))
  where
    old_ok : (new : List Item) (n : ℕ) → Joined new (c.at i).log n (c.records.lead (c.at i).term) →
        n ≤ length (c.records.lead (c.at i).term) → IsCommitted c.cores c.records (c.at i).term (c.at i).commit (c.at i).log →
        IsCommitted c.cores c.records (c.at i).term (c.at i).commit new
    old_ok new n (inl h) fits x = let P : List Item → Type 0 = λ w. IsCommitted c.cores c.records (c.at i).term (c.at i).commit w in
        subst P (sym h.0) x
    old_ok new n (inr h) fits (inl z) = inl z
    old_ok new n (inr h) fits (inr x) =
        let b = h.below in
        let owned : c.records.owner (c.at i).term ≡ 0 → ⊥ = λ o. let e = ap length (logs.records.no_lead (c.at i).term o) in
        absurd (omega arith) in
        let early = x.early in
        let stands = chosen_leads c x.term x.place (c.at i).term safe x.chosen owned (omega arith) in
        let below = x.below in
        let past : (c.at i).commit ≤ h.place =
        past_it (cases_lt h.place (c.at i).commit) (λ l. h.differs (x.agree h.place l ∙ stands h.place (omega arith))) in
        committed_like c.cores c.records (c.at i).term (c.at i).term (c.at i).commit (c.at i).commit (c.at i).log new (inr x)
        (omega arith) (omega arith) (λ j l. x.agree j l ∙ stands j (omega arith) ∙ sym (h.agree j (omega arith)))
      where
        past_it : (h.place < (c.at i).commit) ⊎ ((c.at i).commit ≤ h.place) → (h.place < (c.at i).commit → ⊥) → (c.at i).commit ≤ h.place
        past_it (inl l) not = absurd (not l)
        past_it (inr l) not = l

    agreed : (new : List Item) (n : ℕ) → Joined new (c.at i).log n (c.records.lead (c.at i).term) →
        Agree n new (c.records.lead (c.at i).term)
    agreed new n (inl h) j l = rw h.0 (h.1 j l)
    agreed new n (inr h) j l = h.agree j l

    go : (new : List Item) (n : ℕ) → Joined new (c.at i).log n (c.records.lead (c.at i).term) →
        n ≤ length (c.records.lead (c.at i).term) → IsCommitted c.cores c.records (c.at i).term (c.at i).commit (c.at i).log →
        ((c.at i).commit < min commit n) ⊎ (min commit n ≤ (c.at i).commit) →
        IsCommitted c.cores c.records (c.at i).term (max (c.at i).commit (min commit n)) new
    go new n tk fits x (inr l) = let e : max (c.at i).commit (min commit n) ≡ (c.at i).commit = omega arith in rw e (old_ok new n tk fits x)
    go new n tk fits x (inl l) =
        let e : max (c.at i).commit (min commit n) ≡ min commit n = omega arith in
        let a = agreed new n tk in
        rw e (committed_like c.cores c.records (c.at i).term (c.at i).term commit (min commit n) (c.records.lead (c.at i).term) new sent
        (omega arith) (omega arith) (λ j q. sym (a j (omega arith))))

-- what a member has applied
pub applied_front : (c : Cluster) (i : ℕ) → Commits c → Front c.cores c.records (applied (c.at i))
applied_front c i k =
    let x = k.members i in
    let l = committed_long c.cores c.records (c.at i).term (c.at i).commit (c.at i).log x in
    let n = length-take (c.at i).commit (c.at i).log in
    record {
      term = (c.at i).term;
      ok = committed_like c.cores c.records (c.at i).term (c.at i).term (c.at i).commit (length (applied (c.at i))) (c.at i).log
          (applied (c.at i)) x (omega arith) (omega arith)
          (λ j p. let s = get_some (applied (c.at i)) j p in get_take (c.at i).commit (c.at i).log j s.0 s.1 ∙ sym s.1);
    }

-- a part of a front
part_placed : (n : ℕ) (g : Records) (xs : List Item) (before count : ℕ) → Front n g xs → IsPlaced n g before (take count (drop before xs))
part_placed n g xs before count k = go k.ok
  where
    size : length (take count (drop before xs)) ≡ min count (length xs - before)
    size = length-take count (drop before xs) ∙ ap (λ w. min count w) (length-drop before xs)

    go : IsCommitted n g k.term (length xs) xs → IsPlaced n g before (take count (drop before xs))
    go (inl z) = let e = size in inl (omega arith)
    go (inr x) = side (cases_lt (length xs) before)
      where
        side : (length xs < before) ⊎ (before ≤ length xs) → IsPlaced n g before (take count (drop before xs))
        side (inl l) = let e = size in inl (omega arith)
        side (inr l) =
            let e = size in
            let b = x.below in
            inr (record {
              term = x.term;
              place = x.place;
              chosen = x.chosen;
              below = omega arith;
              cut = λ p y q.
                  let here : slice_get xs (before + p) ≡ Some y = sym (get_drop before xs p) ∙ get_take count (drop before xs) p y q in
                  sym (x.agree (before + p) (slice_get_within xs (before + p) y here)) ∙ here;
            })

pub step_commit : (c d : Cluster) → Step c d → Good c → Logs c → Safe c → Commits c → Commits d
step_commit c d (Raises i t lt) good logs safe k =
    quiet_commit c i (raised (c.at i) t) k
    (same_log c.cores c.records c.records (c.at i).term t (c.at i).commit (c.at i).commit (c.at i).log (log_grows_none c.records)
    (k.members i) (omega arith) (omega arith))
step_commit c d (Stands i nz) good logs safe k =
    let gr = (step_log c _ (Stands i nz) good logs).grows in
    let w : Member = timed_out (seat_of c i) (c.at i) in
    commit_step c i w (asks (seat_of c i) w) (stood c.records ((c.at i).term + 1) i (c.at i).log) k gr
    (same_log c.cores c.records _ (c.at i).term ((c.at i).term + 1) (c.at i).commit (c.at i).commit (c.at i).log gr (k.members i)
    (omega arith) (omega arith))
    (asks_commit c.cores _ (seat_of c i) w (cores_of c.cores))
step_commit c d (Votes i from place last s none utd) good logs safe k =
    let gr = (step_log c _ (Votes i from place last s none utd) good logs).grows in
    commit_step c i (voted (c.at i) from) (vote_reply (seat_of c i) (c.at i) from true ∷ [])
    (given c.records (c.at i).term i from (c.at i).log) k gr
    (committed_stays c.cores c.records _ (c.at i).term (c.at i).commit (c.at i).log gr (k.members i)) (tt, tt)
step_commit c d (Repeats i from nz e) good logs safe k = said_commit c (vote_reply (seat_of c i) (c.at i) from true ∷ []) k (tt, tt)
step_commit c d (Refuses i to t) good logs safe k = said_commit c (letter i to (VoteReply t false) ∷ []) k (tt, tt)
step_commit c d (Counts i from nz s r) good logs safe k = quiet_commit c i (counted (c.at i) from) k (k.members i)
step_commit c d (Wins i r has) good logs safe k =
    let gr = (step_log c _ (Wins i r has) good logs).grows in
    commit_step c i (won (seat_of c i) (c.at i)) [] (owned c.records (c.at i).term i (c.at i).log (won (seat_of c i) (c.at i)).log) k gr
    (longer_log c.cores c.records _ (c.at i).term (c.at i).commit (c.at i).log (noop_of (seat_of c i) (c.at i)) gr (k.members i)) tt
step_commit c d (Follows i from) good logs safe k = quiet_commit c i (follows (c.at i) from) k (k.members i)
step_commit c d (Takes i from prev pterm commit items s r hp) good logs safe k =
    let gr = (step_log c _ (Takes i from prev pterm commit items s r hp) good logs).grows in
    let e : Envelope = letter from i (Append (c.at i).term prev pterm commit items) in
    commit_step c i (took (c.at i) prev commit items) (append_reply (seat_of c i) (c.at i) from true (prev + length items) ∷ [])
    (accepts c.records (c.at i).term i (prev + length items)) k gr
    (takes_commit c i from prev pterm commit items logs safe k (one_log_of c.records c.sent s.0 e logs.messages s.1)
    (one_commit_of c.cores c.records c.sent s.0 e k.messages s.1) hp gr) (tt, tt)
step_commit c d (Tells i to t place) good logs safe k = said_commit c (letter i to (AppendReply t false place) ∷ []) k (tt, tt)
step_commit c d (Notes i from place true nz s r) good logs safe k = quiet_commit c i (noted (c.at i) from true place) k (k.members i)
step_commit c d (Notes i from place false nz s r) good logs safe k = quiet_commit c i (noted (c.at i) from false place) k (k.members i)
step_commit c d (Advances i r) good logs safe k = quiet_commit c i (advanced (seat_of c i) (c.at i)) k (advances_commit c i good logs k r)
step_commit c d (Writes i entry r room) good logs safe k =
    let gr = (step_log c _ (Writes i entry r room) good logs).grows in
    commit_step c i (added (c.at i) entry) [] (wrote c.records (c.at i).term i (added (c.at i) entry).log) k gr
    (longer_log c.cores c.records _ (c.at i).term (c.at i).commit (c.at i).log _ gr (k.members i)) tt
step_commit c d (Sends i to prev count commit items r l le e) good logs safe k =
    let was = (good.members i).lead_log r in
    let P : List Item → Type 0 = λ w. IsCommitted c.cores c.records (c.at i).term commit w in
    let here : P (c.at i).log = same_log c.cores c.records c.records (c.at i).term (c.at i).term (c.at i).commit commit (c.at i).log
    (log_grows_none c.records) (k.members i) le (omega arith) in
    said_commit c (letter i to (Append (c.at i).term prev (term_at (c.at i).log prev) commit items) ∷ []) k (subst P (sym was) here, tt)
step_commit c d (Restarts i commit) good logs safe k =
    quiet_commit c i (restarted c.cores commit (c.at i)) k
    (same_log c.cores c.records c.records (c.at i).term (c.at i).term (c.at i).commit (min commit (c.at i).commit) (c.at i).log
    (log_grows_none c.records) (k.members i) (omega arith) (omega arith))
step_commit c d (Pulled from to have) good logs safe k = said_commit c (letter from to (Pull have) ∷ []) k (tt, tt)
step_commit c d (Serves i to before count items e) good logs safe k =
    let part = part_placed c.cores c.records (applied (c.at i)) before count (applied_front c i k) in
    said_commit c (letter i to (Batch (before + 1) items) ∷ []) k
    ((before, refl, subst (λ w. IsPlaced c.cores c.records before w) (sym e) part), tt)
step_commit c d (Extends j from first items log s e) good logs safe k = beside_commit c _ c.sent c.history k k.messages
step_commit c d (Forgets j) good logs safe k = beside_commit c _ c.sent c.history k k.messages
step_commit c d Looks good logs safe k = beside_commit c c.lists c.sent _ k k.messages

pub steps_commit : (c d : Cluster) → Steps c d → Good c → Logs c → Safe c → Commits c → Commits d
steps_commit c d Still good logs safe k = k
steps_commit c e (Then {d = d} ss s) good logs safe k =
    step_commit d e s (steps_votes c d ss good).good (steps_log c d ss good logs).good (steps_chosen c d ss good logs safe)
    (steps_commit c d ss good logs safe k)

pub start_commits : (n r limit : ℕ) → Commits (start n r limit)
unfolding new_member no_records
start_commits n r limit = record { members = λ j. inl refl; messages = tt }
