-- One step of a core, with all that it sends, is some small steps.
use Rattle.std.proofs.Common.{◌≡◌, ℕ, ◌+◌, ◌-◌, ◌<◌, ◌≤◌, min, Bool, true, false, not, ◌&&◌, ◌||◌, nat_eq, nat_lt, nat_le, if◌then◌else◌, List, [], ◌∷◌, length, map, drop, Option, Some, None, ◌⊎◌, refl, sym, ap, ◌∙◌, subst, inl, inr, arith, length-append}
use Rattle.std.proofs.lemmas.Bool.{ltb-true, ltb-false, lt-ltb, eqb-true, eq-eqb, ne_eqb, and_parts, or_cases}
use Rattle.ncc_tx.specs.declared.entry.Entry.{Entry}
use Rattle.ncc_tx.specs.declared.entry.Item.{Item}
use Rattle.ncc_raft.specs.declared.message.Envelope.{Envelope}
use Rattle.ncc_raft.specs.declared.message.Body.{Body}
use Rattle.ncc_raft.specs.declared.message.Body.TheVariants.{VoteAsk, VoteReply, Append, AppendReply, Pull, Batch}
use Rattle.ncc_raft.specs.declared.message.RaftRole.{RaftRole}
use Rattle.ncc_raft.specs.declared.message.RaftRole.TheVariants.{Leader, Candidate, Follower}
use Rattle.ncc_raft.specs.Member.{Seat, Member, Outcome, still, letter, is_core, is_leader, is_candidate, next_of}
use Rattle.ncc_raft.specs.Member as core
use Rattle.ncc_raft.specs.Logs.{Conflict, up_to_date, allowed_front}
use Rattle.ncc_raft.specs.Elections.{raised, is_spent, timed_out, may_vote, voted, counted, is_elected, won}
use Rattle.ncc_raft.specs.Appending.{added, append_to, appends, others, applied, noted, advanced, batch, follows, contradicted, has_prev, took}
use Rattle.ncc_raft.specs.Step.{on_timeout, on_beat, may_add, on_propose, vote_reply, on_vote_ask, tallied, on_vote_reply, append_reply, took_or_not, unless, offered, on_append, answered, on_append_reply, on_body, term_in, lifted, hears_from, heard, settled, step}
use Rattle.ncc_safety.specs.Cluster.{Records, Cluster, seat_of, stepped, quiet, said, given, owned, accepts, wrote}
use Rattle.ncc_safety.specs.Run.{vote_in, accepted_in, noted_of, recorded, steps_at}
use Rattle.ncc_safety.specs.Steps.{Sent, Step, Raises, Stands, Votes, Repeats, Refuses, Counts, Wins, Follows, Takes, Tells, Notes, Advances, Writes, Serves, Steps}
use Rattle.ncc_safety.proofs.Puts.{put_same}
use Rattle.ncc_safety.proofs.Voting.{Good}
use Rattle.ncc_safety.proofs.VoteSteps.{step_votes}
use Rattle.ncc_safety.proofs.Logs.{Logs}
use Rattle.ncc_safety.proofs.LogSteps.{step_log}
use Rattle.ncc_safety.proofs.Reach.{one_step, Reach, reach_none, reach_quiet, reach_said, reach_step, then_quiet, then_said, after_quiet, front_take, send_all, leader_from, candidate_from}

if_yes : {A : Type 0} → (b : Bool) (x y : A) → b ≡ true → (if b then x else y) ≡ x
if_yes true x y e = refl
if_yes false x y e = absurd (cc)

if_no : {A : Type 0} → (b : Bool) (x y : A) → b ≡ false → (if b then x else y) ≡ y
if_no false x y e = refl
if_no true x y e = absurd (cc)

-- core i comes to what an outcome says, with records that hang on it
abbrev Comes : Cluster → ℕ → (Outcome → Records) → Outcome → Type 0
Comes c i g o = Reach c i o.member o.sent (g o)

if_comes : (c : Cluster) (i : ℕ) (g : Outcome → Records) (b : Bool) (x y : Outcome) → (b ≡ true → Comes c i g x) →
    (b ≡ false → Comes c i g y) → Comes c i g (if b then x else y)
if_comes c i g true x y p q = p refl
if_comes c i g false x y p q = q refl

-- the same, where the records are known
with_records : (c : Cluster) (i : ℕ) (m : Member) (new : List Envelope) (g h : Records) → g ≡ h → Reach c i m new g → Reach c i m new h
with_records c i m new g h e r = subst (λ w. Reach c i m new w) e r

own_vote : (m : Member) → vote_in m m.term ≡ m.vote
own_vote m = if_yes (nat_eq m.term m.term) m.vote 0 (eq-eqb m.term m.term refl)

-- nothing is recorded of a core that stays as it is and says no yes
same_vote : (g : Records) (i : ℕ) (m : Member) (h : Records) → g ≡ (if nat_eq m.vote (vote_in m m.term) then g else h)
same_vote g i m h = sym (if_yes (nat_eq m.vote (vote_in m m.term)) g h (eq-eqb m.vote (vote_in m m.term) (sym (own_vote m))))

same_role : (g h : Records) (r : RaftRole) → g ≡ (if is_leader r && not (is_leader r) then h else g)
same_role g h Leader = refl
same_role g h Candidate = refl
same_role g h Follower = refl

pub core_not_zero : (n i : ℕ) → is_core n i ≡ true → i ≡ 0 → ⊥
unfolding is_core
core_not_zero n i b e = let l = ltb-true 0 i (and_parts (nat_lt 0 i) (nat_le i n) b).0 in absurd (omega arith)

-- ---- by kind of message

ask_comes : (c : Cluster) (i from t place last : ℕ) → (from ≡ 0 → ⊥) → Sent c (letter from i (VoteAsk t place last)) →
    Comes c i (noted_of c.records i (c.at i) (VoteAsk t place last)) (on_vote_ask (seat_of c i) (c.at i) from t place last)
ask_comes c i from t place last nz s =
    if_comes c i (noted_of c.records i (c.at i) (VoteAsk t place last)) (may_vote (c.at i) from t place last) _ _
    (λ b.
    let m : Member = c.at i in
    let p = and_parts (nat_eq m.term t && (nat_eq m.vote 0 || nat_eq m.vote from)) (up_to_date place last m.log) b in
    let q = and_parts (nat_eq m.term t) (nat_eq m.vote 0 || nat_eq m.vote from) p.0 in
    let s' = subst (λ u. Sent c (letter from i (VoteAsk u place last))) (sym (eqb-true m.term t q.0)) s in
    go s' p.1 (or_cases (nat_eq m.vote 0) (nat_eq m.vote from) q.1))
    (λ b.
    let m : Member = c.at i in
    let new : List Envelope = vote_reply (seat_of c i) m from false ∷ [] in
    with_records c i m new c.records _ (same_vote c.records i m _) (reach_said c i new (one_step c (said c new) (Refuses i from m.term))))
  where
    go : Sent c (letter from i (VoteAsk (c.at i).term place last)) → up_to_date place last (c.at i).log ≡ true →
        (nat_eq (c.at i).vote 0 ≡ true) ⊎ (nat_eq (c.at i).vote from ≡ true) →
        Reach c i (voted (c.at i) from) (vote_reply (seat_of c i) (c.at i) from true ∷ [])
        (if nat_eq from (vote_in (c.at i) (c.at i).term) then c.records else given c.records (c.at i).term i from (c.at i).log)
    go s' u (inl e) =
        let none = eqb-true (c.at i).vote 0 e in
        let new_one : nat_eq from (vote_in (c.at i) (c.at i).term) ≡ false =
        ne_eqb from (vote_in (c.at i) (c.at i).term) (λ z. nz (z ∙ own_vote (c.at i) ∙ none)) in
        with_records c i (voted (c.at i) from) (vote_reply (seat_of c i) (c.at i) from true ∷ [])
        (given c.records (c.at i).term i from (c.at i).log) _
        (sym (if_no (nat_eq from (vote_in (c.at i) (c.at i).term)) c.records _ new_one))
        (reach_step c i (voted (c.at i) from) _ _ (Votes i from place last s' none u))
    go s' u (inr e) =
        let is = eqb-true (c.at i).vote from e in
        let old_one : nat_eq from (vote_in (c.at i) (c.at i).term) ≡ true =
        eq-eqb from (vote_in (c.at i) (c.at i).term) (sym is ∙ sym (own_vote (c.at i))) in
        let same : c.at i ≡ voted (c.at i) from = ap (λ v. record (c.at i) { vote = v }) is in
        let new' : List Envelope = vote_reply (seat_of c i) (c.at i) from true ∷ [] in
        with_records c i (voted (c.at i) from) new' c.records _
        (sym (if_yes (nat_eq from (vote_in (c.at i) (c.at i).term)) c.records _ old_one))
        (subst (λ w. Reach c i w new' c.records) same (reach_said c i new' (one_step c (said c new') (Repeats i from nz is))))

-- where core i is known
sends_from : (c : Cluster) (i : ℕ) (w : Member) → c.at i ≡ w → w.role ≡ Leader → ((j : ℕ) → next_of w j ≤ length w.log + 1) →
    (js : List ℕ) → Steps c (said c (map (append_to (seat_of c i) w) js))
sends_from c i w e r n js = subst (λ (z : Member). z.role ≡ Leader → ((j : ℕ) → next_of z j ≤ length z.log + 1) →
    Steps c (said c (map (append_to (seat_of c i) z) js))) e (λ rr nn. send_all c i rr nn js) r n

leads_next : (c : Cluster) (i : ℕ) (w : Member) → Logs c → c.at i ≡ w → w.role ≡ Leader → (j : ℕ) → next_of w j ≤ length w.log + 1
leads_next c i w k e r = subst (λ (z : Member). z.role ≡ Leader → (j : ℕ) → next_of z j ≤ length z.log + 1) e
    (λ rr. (k.members i).nexts rr) r

abbrev owned_by : Cluster → ℕ → Member → Records
owned_by c i m = owned c.records m.term i m.log (won (seat_of c i) m).log

-- a candidate with enough votes is elected, and sends to each other core
elected_comes : (c : Cluster) (i : ℕ) (m : Member) → Step c (quiet c i m) → Good c → Logs c → m.role ≡ Candidate →
    is_elected (seat_of c i) m ≡ true → Reach c i (won (seat_of c i) m) (appends (seat_of c i) (won (seat_of c i) m)) (owned_by c i m)
elected_comes c i m s good logs r has =
    let d : Cluster = quiet c i m in
    let w : Member = won (seat_of c i) m in
    let is : d.at i ≡ m = put_same c.at i m in
    let wins : Step d (stepped d i w [] (owned_by c i m)) =
    subst (λ (z : Member). z.role ≡ Candidate → is_elected (seat_of c i) z ≡ true →
    Step d (stepped d i (won (seat_of c i) z) [] (owned_by c i z))) is (λ rr hh. Wins i rr hh) r has in
    let x : Cluster = stepped d i w [] (owned_by c i m) in
    let lx = (step_log d x wins (step_votes c d s good).good (step_log c d s good logs).good).good in
    let here : x.at i ≡ w = put_same d.at i w in
    after_quiet c i m w (appends (seat_of c i) w) (owned_by c i m) s
    (then_said d i w [] (appends (seat_of c i) w) (owned_by c i m) (reach_step d i w [] (owned_by c i m) wins)
    (sends_from x i w here refl (leads_next x i w lx here refl) (others (seat_of c i))))

vote_comes : (c : Cluster) (i from t : ℕ) (granted : Bool) → (from ≡ 0 → ⊥) → Good c → Logs c →
    Sent c (letter from i (VoteReply t granted)) →
    Comes c i (noted_of c.records i (c.at i) (VoteReply t granted)) (on_vote_reply (seat_of c i) (c.at i) from t granted)
vote_comes c i from t granted nz good logs s =
    if_comes c i (noted_of c.records i (c.at i) (VoteReply t granted)) (is_candidate (c.at i).role && nat_eq (c.at i).term t && granted) _ _
    (λ b.
    let m : Member = c.at i in
    let p = and_parts (is_candidate m.role && nat_eq m.term t) granted b in
    let q = and_parts (is_candidate m.role) (nat_eq m.term t) p.0 in
    let r = candidate_from m.role q.0 in
    let s1 = subst (λ v. Sent c (letter from i (VoteReply t v))) p.1 s in
    let s2 = subst (λ u. Sent c (letter from i (VoteReply u true))) (sym (eqb-true m.term t q.1)) s1 in
    tally r (Counts i from nz s2 r))
    (λ b. with_records c i (c.at i) [] c.records _ (same_role c.records _ (c.at i).role) (reach_none c i))
  where
    now_leads : (c.at i).role ≡ Candidate → (h : Records) → h ≡ (if is_leader Leader && not (is_leader (c.at i).role) then h else c.records)
    now_leads r h = let P : RaftRole → Type 0 = λ z. h ≡ (if true && not (is_leader z) then h else c.records) in subst P (sym r) refl

    tally : (c.at i).role ≡ Candidate → Step c (quiet c i (counted (c.at i) from)) →
        Comes c i (noted_of c.records i (c.at i) (VoteReply t granted)) (tallied (seat_of c i) (counted (c.at i) from))
    tally r st =
        if_comes c i (noted_of c.records i (c.at i) (VoteReply t granted)) (is_elected (seat_of c i) (counted (c.at i) from)) _ _
        (λ b. with_records c i (won (seat_of c i) (counted (c.at i) from)) _ (owned_by c i (counted (c.at i) from)) _
        (now_leads r (owned_by c i (counted (c.at i) from))) (elected_comes c i (counted (c.at i) from) st good logs r b))
        (λ b. with_records c i (counted (c.at i) from) [] c.records _ (same_role c.records _ (c.at i).role)
        (reach_quiet c i (counted (c.at i) from) st))

-- an Append of the own term comes to who doesn't lead
offer_comes : (c : Cluster) (i from prev pterm commit : ℕ) (items : List Item) →
    Sent c (letter from i (Append (c.at i).term prev pterm commit items)) →
    Comes c i (λ o. accepted_in c.records i o.sent) (offered (seat_of c i) (follows (c.at i) from) from prev pterm commit items)
offer_comes c i from prev pterm commit items s =
    if_comes c i (λ o. accepted_in c.records i o.sent) (nat_lt c.limit (prev + length items)) _ _ (λ b. drops)
    (λ b. judge (contradicted (follows (c.at i) from) prev pterm items))
  where
    drops : Reach c i (follows (c.at i) from) [] c.records
    drops = reach_quiet c i (follows (c.at i) from) (Follows i from)

    judge : (x : Option Conflict) →
        Comes c i (λ o. accepted_in c.records i o.sent)
        (unless x (follows (c.at i) from) (took_or_not (seat_of c i) (follows (c.at i) from) from prev pterm commit items))
    judge (Some x) = drops
    judge None =
        if_comes c i (λ o. accepted_in c.records i o.sent) (has_prev (follows (c.at i) from) prev pterm) _ _
        (λ b.
        let d : Cluster = quiet c i (follows (c.at i) from) in
        let is : d.at i ≡ follows (c.at i) from = put_same c.at i (follows (c.at i) from) in
        let P : Member → Type 0 = λ z. Sent d (letter from i (Append z.term prev pterm commit items)) → z.role ≡ Follower →
        has_prev z prev pterm ≡ true → Reach d i (took z prev commit items)
        (append_reply (seat_of c i) z from true (prev + length items) ∷ []) (accepts c.records z.term i (prev + length items)) in
        let q : P (d.at i) = λ ss rr hh. reach_step d i _ _ _ (Takes i from prev pterm commit items ss rr hh) in
        after_quiet c i (follows (c.at i) from) _ _ _ (Follows i from) (subst P is q s refl b))
        (λ b.
        let m : Member = follows (c.at i) from in
        let new : List Envelope = append_reply (seat_of c i) m from false (min (prev - 1) (length m.log)) ∷ [] in
        let e : Cluster = stepped c i m [] c.records in
        then_said c i m [] new c.records drops (one_step e (said e new) (Tells i from m.term (min (prev - 1) (length m.log)))))

append_comes : (c : Cluster) (i from t prev pterm commit : ℕ) (items : List Item) →
    Sent c (letter from i (Append t prev pterm commit items)) → (nat_lt t (c.at i).term ≡ false → (c.at i).term ≡ t) →
    Comes c i (noted_of c.records i (c.at i) (Append t prev pterm commit items))
    (on_append (seat_of c i) (c.at i) from t prev pterm commit items)
append_comes c i from t prev pterm commit items s same =
    if_comes c i (λ o. accepted_in c.records i o.sent) (nat_lt t (c.at i).term) _ _
    (λ b.
    let new : List Envelope = append_reply (seat_of c i) (c.at i) from false 0 ∷ [] in
    reach_said c i new (one_step c (said c new) (Tells i from (c.at i).term 0)))
    (λ b.
    if_comes c i (λ o. accepted_in c.records i o.sent) (is_leader (c.at i).role) _ _
    (λ b1. reach_none c i)
    (λ b1. offer_comes c i from prev pterm commit items
    (subst (λ u. Sent c (letter from i (Append u prev pterm commit items))) (sym (same b)) s)))

answer_comes : (c : Cluster) (i from t : ℕ) (has : Bool) (place : ℕ) → (from ≡ 0 → ⊥) → Good c → Logs c →
    Sent c (letter from i (AppendReply t has place)) →
    Comes c i (noted_of c.records i (c.at i) (AppendReply t has place)) (on_append_reply (seat_of c i) (c.at i) from t has place)
answer_comes c i from t has place nz good logs s =
    if_comes c i (λ o. c.records) (is_leader (c.at i).role && nat_eq (c.at i).term t) _ _
    (λ b.
    let q = and_parts (is_leader (c.at i).role) (nat_eq (c.at i).term t) b in
    let r = leader_from (c.at i).role q.0 in
    let s' = subst (λ u. Sent c (letter from i (AppendReply u has place))) (sym (eqb-true (c.at i).term t q.1)) s in
    go has r (Notes i from place has nz s' r))
    (λ b. reach_none c i)
  where
    go : (b : Bool) → (c.at i).role ≡ Leader → Step c (quiet c i (noted (c.at i) from b place)) →
        Comes c i (λ o. c.records) (answered (seat_of c i) (c.at i) from b place)
    go true r st = reach_quiet c i (noted (c.at i) from true place) st
    go false r st =
        let w : Member = noted (c.at i) from false place in
        let d : Cluster = quiet c i w in
        let here : d.at i ≡ w = put_same c.at i w in
        let ld = (step_log c d st good logs).good in
        let new : List Envelope = append_to (seat_of c i) w from ∷ [] in
        after_quiet c i w w new c.records st
        (subst (λ z. Reach d i z new c.records) here
        (reach_said d i new (sends_from d i w here r (leads_next d i w ld here r) (from ∷ []))))

pull_comes : (c : Cluster) (i from have : ℕ) → Reach c i (c.at i) (batch (seat_of c i) (c.at i) from have ∷ []) c.records
pull_comes c i from have =
    let new : List Envelope = batch (seat_of c i) (c.at i) from have ∷ [] in
    let items : List Item = allowed_front (drop have (applied (c.at i))) in
    reach_said c i new (one_step c (said c new) (Serves i from have (length items) items (front_take (drop have (applied (c.at i))))))

body_comes : (c : Cluster) (i from : ℕ) (b : Body) → (hears_from (seat_of c i) from b ≡ true) → Good c → Logs c →
    Sent c (letter from i b) → (nat_lt (c.at i).term (term_in b) ≡ false) →
    Comes c i (noted_of c.records i (c.at i) b) (on_body (seat_of c i) (c.at i) from b)
body_comes c i from (VoteAsk t place last) h good logs s low =
    ask_comes c i from t place last (core_not_zero c.cores from (and_parts (is_core c.cores from) (not (nat_eq from i)) h).0) s
body_comes c i from (VoteReply t granted) h good logs s low = vote_comes c i from t granted (core_not_zero c.cores from h) good logs s
body_comes c i from (Append t prev pterm commit items) h good logs s low =
    append_comes c i from t prev pterm commit items s
    (λ b. let x = ltb-false t (c.at i).term b in let y = ltb-false (c.at i).term t low in omega arith)
body_comes c i from (AppendReply t has place) h good logs s low =
    answer_comes c i from t has place (core_not_zero c.cores from (and_parts (is_core c.cores from) (not (nat_eq from i)) h).0) good logs s
body_comes c i from (Pull have) h good logs s low = pull_comes c i from have
body_comes c i from (Batch first items) h good logs s low = reach_none c i

-- ---- a later term, and what comes behind each event

not_below : (n : ℕ) → nat_lt n n ≡ false
not_below n = go (nat_lt n n) refl
  where
    go : (b : Bool) → nat_lt n n ≡ b → b ≡ false
    go true e = let l = ltb-true n n e in absurd (omega arith)
    go false e = refl

-- a core that was raised had no vote in the new term, and has none
raised_vote : (m : Member) (t : ℕ) → m.term < t → vote_in (raised m t) t ≡ vote_in m t
raised_vote m t lt = if_yes (nat_eq t t) 0 0 (eq-eqb t t refl) ∙ sym
    (if_no (nat_eq m.term t) m.vote 0 (ne_eqb m.term t (λ e. absurd (omega arith))))

raised_records : (g : Records) (seat : Seat) (i from : ℕ) (m : Member) (b : Body) → m.term < term_in b →
    noted_of g i (raised m (term_in b)) b (on_body seat (raised m (term_in b)) from b) ≡ noted_of g i m b
    (on_body seat (raised m (term_in b)) from b)
raised_records g seat i from m (VoteAsk t place last) lt = go (may_vote (raised m t) from t place last)
  where
    go : (b : Bool) → noted_of g i (raised m t) (VoteAsk t place last)
        (if b then core.sends (voted (raised m t) from) (vote_reply seat (raised m t) from true ∷ []) else core.sends (raised m t)
        (vote_reply seat (raised m t) from false ∷ []))
        ≡ noted_of g i m (VoteAsk t place last)
        (if b then core.sends (voted (raised m t) from) (vote_reply seat (raised m t) from true ∷ []) else core.sends (raised m t)
        (vote_reply seat (raised m t) from false ∷ []))
    go true = ap (λ v. if nat_eq from v then g else given g t i from m.log) (raised_vote m t lt)
    go false = ap (λ v. if nat_eq 0 v then g else given g t i 0 m.log) (raised_vote m t lt)
raised_records g seat i from m (VoteReply t granted) lt = refl
raised_records g seat i from m (Append t prev pterm commit items) lt = refl
raised_records g seat i from m (AppendReply t has place) lt = refl
raised_records g seat i from m (Pull have) lt = refl
raised_records g seat i from m (Batch first items) lt = refl

-- first the later term, and then by kind of message
lifted_comes : (c : Cluster) (i from : ℕ) (b : Body) → hears_from (seat_of c i) from b ≡ true → Good c → Logs c →
    Sent c (letter from i b) → Comes c i (noted_of c.records i (c.at i) b) (on_body (seat_of c i) (lifted (c.at i) b) from b)
lifted_comes c i from b h good logs s = go (nat_lt (c.at i).term (term_in b)) refl
  where
    go : (l : Bool) → nat_lt (c.at i).term (term_in b) ≡ l →
        Comes c i (noted_of c.records i (c.at i) b) (on_body (seat_of c i) (if l then raised (c.at i) (term_in b) else c.at i) from b)
    go false e = body_comes c i from b h good logs s e
    go true e =
        let lt = ltb-true (c.at i).term (term_in b) e in
        let m : Member = raised (c.at i) (term_in b) in
        let d : Cluster = quiet c i m in
        let st : Step c d = Raises i (term_in b) lt in
        let is : d.at i ≡ m = put_same c.at i m in
        let P : Member → Type 0 = λ z. nat_lt z.term (term_in b) ≡ false →
        Comes d i (noted_of c.records i z b) (on_body (seat_of c i) z from b) in
        let there : P (d.at i) = λ low. body_comes d i from b h (step_votes c d st good).good (step_log c d st good logs).good s low in
        let r = subst P is there (not_below (term_in b)) in
        with_records c i _ _ _ _ (raised_records c.records (seat_of c i) i from (c.at i) b lt) (after_quiet c i m _ _ _ st r)

-- a leader's commit advances behind an event: nothing is recorded of that
settled_records : (g : Records) (i : ℕ) (m : Member) (event : core.Event) (seat : Seat) (o : Outcome) →
    recorded g i m event o ≡ recorded g i m event (record o { member = advanced seat o.member })
settled_records g i m core.Timeout seat o = refl
settled_records g i m core.Beat seat o = refl
settled_records g i m (core.Propose entry) seat o = refl
settled_records g i m (core.Receive e) seat o = go e.body
  where
    go : (b : Body) → noted_of g i m b o ≡ noted_of g i m b (record o { member = advanced seat o.member })
    go (VoteAsk t place last) = refl
    go (VoteReply t granted) = refl
    go (Append t prev pterm commit items) = refl
    go (AppendReply t has place) = refl
    go (Pull have) = refl
    go (Batch first items) = refl

settles : (c : Cluster) (i : ℕ) (event : core.Event) (o : Outcome) → Comes c i (recorded c.records i (c.at i) event) o →
    Comes c i (recorded c.records i (c.at i) event) (settled (seat_of c i) o)
settles c i event o r = go (is_leader o.member.role) refl
  where
    go : (b : Bool) → is_leader o.member.role ≡ b →
        Comes c i (recorded c.records i (c.at i) event) (if b then record o { member = advanced (seat_of c i) o.member } else o)
    go false e = r
    go true e =
        let h : Records = recorded c.records i (c.at i) event o in
        let d : Cluster = stepped c i o.member o.sent h in
        let is : d.at i ≡ o.member = put_same c.at i o.member in
        let adv : Step d (quiet d i (advanced (seat_of c i) o.member)) =
        subst (λ (z : Member). z.role ≡ Leader → Step d (quiet d i (advanced (seat_of c i) z))) is (λ rr. Advances i rr)
        (leader_from o.member.role e) in
        with_records c i _ _ h _ (settled_records c.records i (c.at i) event (seat_of c i) o)
        (then_quiet c i o.member (advanced (seat_of c i) o.member) o.sent h r adv)

-- ---- the events

abbrev pub CanCome : Cluster → core.Event → Type 0
CanCome c (core.Receive e) = Sent c e
CanCome c _ = Unit {0}

timeout_comes : (c : Cluster) (i : ℕ) → (i ≡ 0 → ⊥) →
    Comes c i (recorded c.records i (c.at i) core.Timeout) (on_timeout (seat_of c i) (c.at i))
timeout_comes c i nz =
    if_comes c i (recorded c.records i (c.at i) core.Timeout) (is_leader (c.at i).role) _ _ (λ b. stays)
    (λ b.
    if_comes c i (recorded c.records i (c.at i) core.Timeout) (is_spent (c.at i)) _ _ (λ b1. stays)
    (λ b1. with_records c i (timed_out (seat_of c i) (c.at i)) _ _ _
    (sym (if_yes (nat_lt (c.at i).term ((c.at i).term + 1)) _ c.records (lt-ltb (c.at i).term ((c.at i).term + 1) (omega arith))))
    (reach_step c i _ _ _ (Stands i nz))))
  where
    stays : Reach c i (c.at i) [] (recorded c.records i (c.at i) core.Timeout (still (c.at i)))
    stays = with_records c i (c.at i) [] c.records _
        (sym (if_no (nat_lt (c.at i).term (c.at i).term) _ c.records (not_below (c.at i).term))) (reach_none c i)

beat_comes : (c : Cluster) (i : ℕ) → Logs c → Comes c i (recorded c.records i (c.at i) core.Beat) (on_beat (seat_of c i) (c.at i))
beat_comes c i logs =
    if_comes c i (recorded c.records i (c.at i) core.Beat) (is_leader (c.at i).role) _ _
    (λ b. let r = leader_from (c.at i).role b in
    reach_said c i (appends (seat_of c i) (c.at i)) (send_all c i r ((logs.members i).nexts r) (others (seat_of c i))))
    (λ b. reach_none c i)

propose_comes : (c : Cluster) (i : ℕ) (entry : Entry) → Good c → Logs c →
    Comes c i (recorded c.records i (c.at i) (core.Propose entry)) (on_propose (seat_of c i) (c.at i) entry)
propose_comes c i entry good logs =
    if_comes c i (recorded c.records i (c.at i) (core.Propose entry)) (may_add (seat_of c i) (c.at i)) _ _
    (λ b.
    let m : Member = c.at i in
    let w : Member = added m entry in
    let q = and_parts (is_leader m.role) (nat_lt (length m.log) c.limit) b in
    let r = leader_from m.role q.0 in
    let h : Records = wrote c.records m.term i w.log in
    let d : Cluster = stepped c i w [] h in
    let st : Step c d = Writes i entry r (ltb-true (length m.log) c.limit q.1) in
    let here : d.at i ≡ w = put_same c.at i w in
    let ld = (step_log c d st good logs).good in
    let more : length w.log ≡ length m.log + 1 = length-append m.log _ in
    let new : List Envelope = appends (seat_of c i) w in
    with_records c i w new h _ (sym
    (if_yes (nat_lt (length m.log) (length w.log)) h c.records (lt-ltb (length m.log) (length w.log) (omega arith))))
    (then_said c i w [] new h (reach_step c i w [] h st) (sends_from d i w here r (leads_next d i w ld here r) (others (seat_of c i)))))
    (λ b. with_records c i (c.at i) [] c.records _
    (sym (if_no (nat_lt (length (c.at i).log) (length (c.at i).log)) _ c.records (not_below (length (c.at i).log)))) (reach_none c i))

-- what isn't heard changes nothing
unheard : (c : Cluster) (i : ℕ) (b : Body) → Reach c i (c.at i) [] (noted_of c.records i (c.at i) b (still (c.at i)))
unheard c i (VoteAsk t place last) = with_records c i (c.at i) [] c.records _ (same_vote c.records i (c.at i) _) (reach_none c i)
unheard c i (VoteReply t granted) = with_records c i (c.at i) [] c.records _ (same_role c.records _ (c.at i).role) (reach_none c i)
unheard c i (Append t prev pterm commit items) = reach_none c i
unheard c i (AppendReply t has place) = reach_none c i
unheard c i (Pull have) = reach_none c i
unheard c i (Batch first items) = reach_none c i

-- one step of a core, with all that it sends
pub whole_step : (c : Cluster) (i : ℕ) (event : core.Event) → (i ≡ 0 → ⊥) → Good c → Logs c → CanCome c event → Steps c (steps_at c i event)
unfolding step
whole_step c i core.Timeout nz good logs s = settles c i core.Timeout _ (timeout_comes c i nz)
whole_step c i core.Beat nz good logs s = settles c i core.Beat _ (beat_comes c i logs)
whole_step c i (core.Propose entry) nz good logs s = settles c i (core.Propose entry) _ (propose_comes c i entry good logs)
whole_step c i (core.Receive e) nz good logs s =
    if_comes c i (recorded c.records i (c.at i) (core.Receive e)) (heard (seat_of c i) e) _ _
    (λ b.
    let p = and_parts (nat_eq e.to i) (hears_from (seat_of c i) e.from e.body) b in
    let s' : Sent c (letter e.from i e.body) = subst (λ t. Sent c (letter e.from t e.body)) (eqb-true e.to i p.0) s in
    settles c i (core.Receive e) _ (lifted_comes c i e.from e.body p.1 good logs s'))
    (λ b. unheard c i e.body)
