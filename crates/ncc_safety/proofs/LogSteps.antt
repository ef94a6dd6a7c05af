-- Each step keeps the records of logs.
use Rattle.std.proofs.Common.{◌≡◌, ℕ, zero, suc, ◌+◌, ◌-◌, ◌<◌, ◌≤◌, max, Bool, true, false, ◌==◌, nat_eq, nat_lt, nat_le, if◌then◌else◌, List, [], ◌∷◌, ◌++◌, length, map, take, drop, Some, ◌⊎◌, refl, sym, ap, ◌∙◌, subst, inl, inr, arith, slice_get, slice_set, slice_index_or, length-append}
use Rattle.std.proofs.lemmas.Bool.{cases_eq, cases_lt, leb-true, eqb-true, and_parts}
use Rattle.std.proofs.lemmas.List.{append-nil}
use Rattle.std.proofs.lemmas.Option.{slice_get_within}
use Rattle.ncc_tx.specs.declared.entry.Entry.{Entry}
use Rattle.ncc_tx.specs.declared.entry.Entry.TheVariants.{Noop}
use Rattle.ncc_tx.specs.declared.entry.Item.{Item}
use Rattle.ncc_tx.specs.Kept.{term_at, term_of}
use Rattle.ncc_raft.specs.declared.message.Envelope.{Envelope}
use Rattle.ncc_raft.specs.declared.message.Body.TheVariants.{VoteAsk, VoteReply, Append, AppendReply, Pull, Batch}
use Rattle.ncc_raft.specs.declared.message.RaftRole.TheVariants.{Leader, Candidate, Follower}
use Rattle.ncc_raft.specs.Member.{Seat, Member, letter, cores_of, next_of, match_of, restarted}
use Rattle.ncc_raft.specs.Logs.{accepted, last_term}
use Rattle.ncc_raft.specs.Elections.{raised, timed_out, ask_to, asks, voted, counted, is_elected, noop_of, won}
use Rattle.ncc_raft.specs.Appending.{added, has_up_to, back_to, noted, advanced, follows, has_prev, took}
use Rattle.ncc_raft.specs.Step.{vote_reply, append_reply}
use Rattle.ncc_safety.specs.Lists.{Agree, IsCut}
use Rattle.ncc_safety.specs.Cluster.{Records, Cluster, put, put2, seat_of, stepped, said, stood, given, owned, accepts, wrote, new_member, no_records, start}
use Rattle.ncc_safety.specs.Sentences.{Sound, Within}
use Rattle.ncc_safety.specs.Steps.{Step, Raises, Stands, Votes, Repeats, Refuses, Counts, Wins, Follows, Takes, Tells, Notes, Advances, Writes, Sends, Restarts, Pulled, Serves, Extends, Forgets, Looks, Steps, Still, Then}
use Rattle.ncc_safety.proofs.Puts.{put_same, put_at, put_other, put_all, put2_same, put2_at, put2_term, put2_member, put2_away, Away, cases2}
use Rattle.ncc_safety.proofs.Slots.{slot_cases, slot_alike, slot_bound}
use Rattle.ncc_safety.proofs.Agree.{get_some, get_left, get_right, get_take, get_drop, longer, Matching, Joined, accepted_joined, cut_fits}
use Rattle.ncc_safety.proofs.Voting.{Good}
use Rattle.ncc_safety.proofs.VoteSteps.{one_elected, elected_by, steps_votes}
use Rattle.ncc_safety.proofs.Logs.{MemberLog, BodyLog, AllLog, RecordsLog, Logs, LogGrows, LogKeeps, sound_stays, lead_longer, log_keeps_none, log_and_then, step_logs, quiet_logs, beside_logs, said_logs, sound_agree}

-- a member with the same term and log, and no role but follower
follower_log : (g : Records) (i : ℕ) (m w : Member) → MemberLog g i m → m.term ≡ w.term → m.log ≡ w.log → w.role ≡ Follower →
    MemberLog g i w
follower_log g i m w k et el er = record {
  sound = rw (← el) k.sound;
  terms = rw (← et, ← el) k.terms;
  no_ack = rw (← et) k.no_ack;
  acked = rw (← et, ← el) k.acked;
  matched = λ r. absurd (cc);
  nexts = λ r. absurd (cc);
  own_ack = λ r. absurd (cc);
  not_owner = λ r. absurd (cc);
}

-- the same term, log, role and places
like_log : (g : Records) (i : ℕ) (m w : Member) → MemberLog g i m → m.term ≡ w.term → m.log ≡ w.log → m.role ≡ w.role →
    (w.role ≡ Leader → (j : ℕ) → 0 < j → match_of w j ≤ g.ack m.term j) → (w.role ≡ Leader → (j : ℕ) → next_of w j ≤ length m.log + 1) →
    MemberLog g i w
like_log g i m w k et el er em en = record {
  sound = rw (← el) k.sound;
  terms = rw (← et, ← el) k.terms;
  no_ack = rw (← et) k.no_ack;
  acked = rw (← et, ← el) k.acked;
  matched = λ r. rw (← et) (em r);
  nexts = λ r. rw (← el) (en r);
  own_ack = λ r. rw (← et, ← el) (k.own_ack (er ∙ r));
  not_owner = λ r. rw (← et) (k.not_owner (er ∙ r));
}

raised_log : (g : Records) (i : ℕ) (m : Member) (t : ℕ) → MemberLog g i m → m.term < t → MemberLog g i (raised m t)
raised_log g i m t k lt =
    let none = k.no_ack t lt in
    record {
      sound = k.sound;
      terms = λ j x e. let l = k.terms j x e in omega arith;
      no_ack = λ u l. k.no_ack u (omega arith);
      acked = λ j l. absurd (omega arith);
      matched = λ r. absurd (cc);
      nexts = λ r. absurd (cc);
      own_ack = λ r. absurd (cc);
      not_owner = λ r. absurd (cc);
    }

asks_log : (g : Records) (seat : Seat) (m : Member) (js : List ℕ) → AllLog g (map (ask_to seat m) js)
asks_log g seat m [] = tt
asks_log g seat m (j ∷ js) = (go (nat_eq j seat.id), asks_log g seat m js)
  where
    go : (b : Bool) → BodyLog g seat.id (if b then VoteReply m.term true else VoteAsk m.term (length m.log) (last_term m.log))
    go true = tt
    go false = tt

-- a new candidate
stands_logs : (c : Cluster) (i : ℕ) → (i ≡ 0 → ⊥) → Good c → Logs c →
    LogKeeps c (stepped c i (timed_out (seat_of c i) (c.at i)) (asks (seat_of c i) (timed_out (seat_of c i) (c.at i)))
    (stood c.records ((c.at i).term + 1) i (c.at i).log))
stands_logs c i nz good k =
    let m : Member = c.at i in
    let t : ℕ = m.term + 1 in
    let ok = k.members i in
    let g : Records = c.records in
    let h : Records = stood g t i m.log in
    let w : Member = timed_out (seat_of c i) m in
    let none = ok.no_ack t (omega arith) in
    let nc = (good.members i).no_cand t (omega arith) in
    step_logs c i w (asks (seat_of c i) w) h k
    (record { leads = λ u k x e. e; starts = λ u k x e. refl; acks = λ u j. omega arith })
    (λ j ne. record { ack = λ u. refl; owner = λ u e. e })
    (record {
      sound = ok.sound;
      terms = λ j x e. let l = ok.terms j x e in omega arith;
      no_ack = λ u l. ok.no_ack u (omega arith);
      acked = λ j l. absurd (omega arith);
      matched = λ r. absurd (cc);
      nexts = λ r. absurd (cc);
      own_ack = λ r. absurd (cc);
      not_owner = λ r e. let a = (good.records.elected t i e nz).1 in absurd (cc);
    })
    (asks_log h (seat_of c i) w (cores_of c.cores))
    (record {
      sound = k.records.sound;
      terms = k.records.terms;
      no_lead = k.records.no_lead;
      start_within = k.records.start_within;
      cands = λ u j l e. cands u j l e (cases2 t i u j);
      ack_within = k.records.ack_within;
    })
  where
    cands : (u j : ℕ) (l : List Item) → put2 c.records.cand ((c.at i).term + 1) i (Some (c.at i).log) u j ≡ Some l →
        ((u ≡ (c.at i).term + 1) × (j ≡ i)) ⊎ Away ((c.at i).term + 1) i u j →
        Sound c.records l × ((k : ℕ) (x : Item) → slice_get l k ≡ Some x → x.term < u)
    cands u j l e (inl q) =
        let a = put2_at c.records.cand ((c.at i).term + 1) i u j (Some (c.at i).log) q.0 q.1 in
        let s : (c.at i).log ≡ l = cc in
        let ok = k.members i in (
          rw (← s) ok.sound,
          λ p x f. let f' : slice_get (c.at i).log p ≡ Some x = rw s f in let b = ok.terms p x f' in let z = q.0 in
              omega arith,
        )
    cands u j l e (inr q) = k.records.cands u j l (sym (put2_away c.records.cand ((c.at i).term + 1) i u j (Some (c.at i).log) q) ∙ e)

-- a list, and one more item
sound_push : (g : Records) (xs : List Item) (x : Item) → Sound g xs → length (g.start x.term) ≤ length xs → g.lead x.term ≡ xs ++ x ∷ [] →
    Sound g (xs ++ x ∷ [])
sound_push g xs x s l e k y q = go (cases_lt k (length xs))
  where
    go : (k < length xs) ⊎ (length xs ≤ k) → (length (g.start y.term) ≤ k) × Agree (suc k) (xs ++ x ∷ []) (g.lead y.term)
    go (inl lt) =
        let a = s k y (sym (get_left xs (x ∷ []) k lt) ∙ q) in
        (a.0, λ j p. get_left xs (x ∷ []) j (omega arith) ∙ a.1 j p)
    go (inr le) =
        let w = slice_get_within (xs ++ x ∷ []) k y q in
        let n = length-append xs (x ∷ []) in
        let kl : k ≡ length xs + 0 = omega arith in
        let xy : x ≡ y = let f : slice_get (xs ++ x ∷ []) (length xs + 0) ≡ Some y = rw (← kl) q in let f' = get_right xs (x ∷ []) 0 in
        cc in
        let P : Item → Type 0 = λ z. (length (g.start z.term) ≤ k) × Agree (suc k) (xs ++ x ∷ []) (g.lead z.term) in
        subst P xy (omega arith, λ j p. ap (λ l. slice_get l j) (sym e))

-- a list, and perhaps one more item
sound_noop : (g : Records) (xs : List Item) (b : Bool) (x : Item) → Sound g xs → length (g.start x.term) ≤ length xs →
    g.lead x.term ≡ xs ++ (if b then x ∷ [] else []) → Sound g (xs ++ (if b then x ∷ [] else []))
sound_noop g xs true x s l e = sound_push g xs x s l e
sound_noop g xs false x s l e = rw append-nil s

-- a message that was sent
pub one_log_of : (g : Records) (es : List Envelope) (which : ℕ) (e : Envelope) → AllLog g es → slice_get es which ≡ Some e →
    BodyLog g e.from e.body
one_log_of g [] which e k q = absurd (cc)
one_log_of g (x ∷ es) zero e k q = let xe : x ≡ e = cc in subst (λ y. BodyLog g y.from y.body) xe k.0
one_log_of g (x ∷ es) (suc which) e k q = one_log_of g es which e k.1 q

votes_logs : (c : Cluster) (i from : ℕ) → Logs c →
    LogKeeps c (stepped c i (voted (c.at i) from) (vote_reply (seat_of c i) (c.at i) from true ∷ [])
    (given c.records (c.at i).term i from (c.at i).log))
votes_logs c i from k =
    let m : Member = c.at i in
    let ok = k.members i in
    let h : Records = given c.records m.term i from m.log in
    step_logs c i (voted m from) (vote_reply (seat_of c i) m from true ∷ []) h k
    (record { leads = λ u j x e. e; starts = λ u j x e. refl; acks = λ u j. omega arith })
    (λ j ne. record { ack = λ u. refl; owner = λ u e. e })
    (record {
      sound = ok.sound;
      terms = ok.terms;
      no_ack = ok.no_ack;
      acked = ok.acked;
      matched = ok.matched;
      nexts = ok.nexts;
      own_ack = ok.own_ack;
      not_owner = ok.not_owner;
    })
    (tt, tt)
    (record {
      sound = k.records.sound;
      terms = k.records.terms;
      no_lead = k.records.no_lead;
      start_within = k.records.start_within;
      cands = k.records.cands;
      ack_within = k.records.ack_within;
    })

noted_match : (g : Records) (m : Member) (from place : ℕ) → (from ≡ 0 → ⊥) → ((j : ℕ) → 0 < j → match_of m j ≤ g.ack m.term j) →
    place ≤ g.ack m.term from → (j : ℕ) → 0 < j → match_of (noted m from true place) j ≤ g.ack m.term j
noted_match g m from place nz k l j p = go (slot_cases m.match (from - 1) (j - 1) (has_up_to m from place) 0) (cases_eq from 0)
  where
    go : ((j - 1 ≡ from - 1) × (slice_index_or (slice_set m.match (from - 1) (has_up_to m from place)) (j - 1) 0 ≡ has_up_to m from
        place)) ⊎ (slice_index_or (slice_set m.match (from - 1) (has_up_to m from place)) (j - 1) 0 ≡ slice_index_or m.match (j - 1) 0) →
        (from ≡ 0) ⊎ (from ≡ 0 → ⊥) → slice_index_or (slice_set m.match (from - 1) (has_up_to m from place)) (j - 1) 0 ≤ g.ack m.term j
    go q (inl z) = absurd (nz z)
    go (inl q) (inr z) =
        let e = q.0 in
        let f : from ≡ j = omega arith in
        let a = k from (omega arith) in
        rw (q.1, ← f) (omega arith)
    go (inr q) (inr z) = rw q (k j p)

noted_next : (m : Member) (from place : ℕ) (b : Bool) → (match_of m from ≤ length m.log) → ((j : ℕ) → next_of m j ≤ length m.log + 1) →
    (j : ℕ) → next_of (noted m from b place) j ≤ length m.log + 1
noted_next m from place true a k j = go (slot_cases m.next (from - 1) (j - 1) (has_up_to m from place + 1) 0)
  where
    go : ((j - 1 ≡ from - 1) × (slice_index_or (slice_set m.next (from - 1) (has_up_to m from place + 1)) (j - 1) 0 ≡ has_up_to m from
        place + 1)) ⊎ (slice_index_or (slice_set m.next (from - 1) (has_up_to m from place + 1)) (j - 1) 0 ≡ slice_index_or m.next (j - 1)
        0) → slice_index_or (slice_set m.next (from - 1) (has_up_to m from place + 1)) (j - 1) 0 ≤ length m.log + 1
    go (inl q) = rw q.1 (omega arith)
    go (inr q) = rw q (k j)
noted_next m from place false a k j = go (slot_cases m.next (from - 1) (j - 1) (back_to m from place + 1) 0)
  where
    go : ((j - 1 ≡ from - 1) × (slice_index_or (slice_set m.next (from - 1) (back_to m from place + 1)) (j - 1) 0 ≡ back_to m from place +
        1)) ⊎ (slice_index_or (slice_set m.next (from - 1) (back_to m from place + 1)) (j - 1) 0 ≡ slice_index_or m.next (j - 1) 0) →
        slice_index_or (slice_set m.next (from - 1) (back_to m from place + 1)) (j - 1) 0 ≤ length m.log + 1
    go (inl q) = rw q.1 (omega arith)
    go (inr q) = rw q (k j)

noted_log : (g : Records) (i : ℕ) (m : Member) (from place : ℕ) (b : Bool) → MemberLog g i m → m.role ≡ Leader → (from ≡ 0 → ⊥) →
    match_of m from ≤ length m.log → (b ≡ true → place ≤ g.ack m.term from) → MemberLog g i (noted m from b place)
noted_log g i m from place true k r nz a l =
    like_log g i m (noted m from true place) k refl refl refl (λ q. noted_match g m from place nz (k.matched r) (l refl))
    (λ q. noted_next m from place true a (k.nexts r))
noted_log g i m from place false k r nz a l =
    like_log g i m (noted m from false place) k refl refl refl (λ q. k.matched r) (λ q. noted_next m from place false a (k.nexts r))

cut_is : (xs : List Item) (prev count : ℕ) → IsCut xs prev (take count (drop prev xs))
cut_is xs prev count k x e = sym (get_drop prev xs k) ∙ get_take count (drop prev xs) k x e

-- a leader writes an item
writes_logs : (c : Cluster) (i : ℕ) (entry : Entry) → Good c → Logs c → (c.at i).role ≡ Leader →
    LogKeeps c (stepped c i (added (c.at i) entry) [] (wrote c.records (c.at i).term i (added (c.at i) entry).log))
writes_logs c i entry good k r =
    let m : Member = c.at i in
    let ok = k.members i in
    let g : Records = c.records in
    let t : ℕ = m.term in
    let x : Item = record { term = t; entry = entry } in
    let log : List Item = m.log ++ x ∷ [] in
    let h : Records = wrote g t i log in
    let own = (good.members i).leads r in
    let was : g.lead t ≡ m.log = (good.members i).lead_log r in
    let now : h.lead t ≡ log = put_same g.lead t log in
    let n = length-append m.log (x ∷ []) in
    let mine = ok.own_ack r in
    let gr : LogGrows g h = record {
      leads = λ u j y e. put_all (λ v l. slice_get (g.lead v) j ≡ Some y → slice_get l j ≡ Some y) g.lead t log
          (λ f. let f' : slice_get m.log j ≡ Some y = rw was at f in get_left m.log (x ∷ []) j (slice_get_within m.log j y f') ∙ f')
          (λ v ne f. f) u e;
      starts = λ u j y e. refl;
      acks = λ u j. acks (length log) (omega arith) u j (cases2 t i u j);
    } in
    let st = k.records.start_within t in
    let sm : length (g.start t) ≤ length m.log = rw was at st in
    let snd : Sound h log = sound_push h m.log x (sound_stays g h gr m.log ok.sound) sm now in
    let ter : Within t log = within m.log x ok.terms in
    step_logs c i (added m entry) [] h k gr
    (λ j ne. record { ack = λ u. put2_member g.ack t i u j (length log) ne; owner = λ u e. e })
    (record {
      sound = snd;
      terms = ter;
      no_ack = λ u l. put2_term g.ack t i u i (length log) (λ q. absurd (omega arith)) ∙ ok.no_ack u l;
      acked = λ j l. ap (λ z. slice_get z j) (sym now);
      matched = λ q j p. let a = ok.matched r j p in let b = gr.acks t j in omega arith;
      nexts = λ q j. let a = ok.nexts r j in omega arith;
      own_ack = λ q. put2_same g.ack t i (length log);
      not_owner = λ q. absurd (cc);
    })
    tt
    (record {
      sound = put_all (λ u l. Sound h l) g.lead t log snd (λ u ne. sound_stays g h gr (g.lead u) (k.records.sound u));
      terms = put_all (λ u l. Within u l) g.lead t log ter (λ u ne. k.records.terms u);
      no_lead = λ u e. put_all (λ v l. g.owner v ≡ 0 → l ≡ []) g.lead t log (λ f. absurd (own.1 (sym own.0 ∙ f)))
          (λ v ne f. k.records.no_lead v f) u e;
      start_within = λ u. let a = k.records.start_within u in let b = lead_longer g h gr u in omega arith;
      cands = λ u j l e. let a = k.records.cands u j l e in (sound_stays g h gr l a.0, a.1);
      ack_within = λ u j. ack_within (length log) h.lead now (lead_longer g h gr) u j (cases2 t i u j);
    })
  where
    acks : (n : ℕ) → c.records.ack (c.at i).term i ≤ n → (u j : ℕ) → ((u ≡ (c.at i).term) × (j ≡ i)) ⊎ Away (c.at i).term i u j →
        c.records.ack u j ≤ put2 c.records.ack (c.at i).term i n u j
    acks n l u j (inl q) = rw (q.0, q.1, put2_same) l
    acks n l u j (inr q) = rw (put2_away c.records.ack (c.at i).term i u j n q) (omega arith)

    within : (xs : List Item) (x : Item) → Within x.term xs → Within x.term (xs ++ x ∷ [])
    within xs x w p y e = go (cases_lt p (length xs))
      where
        go : (p < length xs) ⊎ (length xs ≤ p) → y.term ≤ x.term
        go (inl lt) = w p y (sym (get_left xs (x ∷ []) p lt) ∙ e)
        go (inr le) =
            let v = slice_get_within (xs ++ x ∷ []) p y e in
            let n = length-append xs (x ∷ []) in
            let kl : p ≡ length xs + 0 = omega arith in
            let xy : x ≡ y = let f : slice_get (xs ++ x ∷ []) (length xs + 0) ≡ Some y = rw (← kl) e in let f' =
            get_right xs (x ∷ []) 0 in cc in
            let z : y.term ≡ x.term = ap (λ (w : Item). w.term) (sym xy) in
            omega arith

    ack_within : (n : ℕ) (lead : ℕ → List Item) → lead (c.at i).term ≡ (added (c.at i) entry).log →
        ((u : ℕ) → length (c.records.lead u) ≤ length (lead u)) → (u j : ℕ) → ((u ≡ (c.at i).term) × (j ≡ i)) ⊎ Away (c.at i).term i u j →
        put2 c.records.ack (c.at i).term i (length (added (c.at i) entry).log) u j ≤ length (lead u)
    ack_within n lead now longer u j (inl q) = rw (q.0, q.1, put2_same, now) (omega arith)
    ack_within n lead now longer u j (inr q) = let a = k.records.ack_within u j in let b = longer u in
        rw (put2_away c.records.ack (c.at i).term i u j _ q) (omega arith)

within_push : (t : ℕ) (xs : List Item) (x : Item) → Within t xs → x.term ≤ t → Within t (xs ++ x ∷ [])
within_push t xs x w l p y e = go (cases_lt p (length xs))
  where
    go : (p < length xs) ⊎ (length xs ≤ p) → y.term ≤ t
    go (inl lt) = w p y (sym (get_left xs (x ∷ []) p lt) ∙ e)
    go (inr le) =
        let v = slice_get_within (xs ++ x ∷ []) p y e in
        let n = length-append xs (x ∷ []) in
        let kl : p ≡ length xs + 0 = omega arith in
        let xy : x ≡ y = let f : slice_get (xs ++ x ∷ []) (length xs + 0) ≡ Some y = rw (← kl) e in let f' = get_right xs (x ∷ []) 0 in
        cc in
        let z : y.term ≡ x.term = ap (λ (w : Item). w.term) (sym xy) in
        omega arith

within_noop : (t : ℕ) (xs : List Item) (b : Bool) (x : Item) → Within t xs → x.term ≤ t → Within t (xs ++ (if b then x ∷ [] else []))
within_noop t xs true x w l = within_push t xs x w l
within_noop t xs false x w l = rw append-nil w

-- a candidate wins
wins_logs : (c : Cluster) (i : ℕ) → Good c → Logs c → (c.at i).role ≡ Candidate → is_elected (seat_of c i) (c.at i) ≡ true →
    LogKeeps c (stepped c i (won (seat_of c i) (c.at i)) [] (owned c.records (c.at i).term i (c.at i).log (won (seat_of c i) (c.at i)).log))
wins_logs c i good k r has =
    let m : Member = c.at i in
    let ok = k.members i in
    let vo = good.members i in
    let g : Records = c.records in
    let t : ℕ = m.term in
    let b : Bool = nat_lt (length m.log) c.limit in
    let x : Item = record { term = t; entry = Noop } in
    let log : List Item = m.log ++ noop_of (seat_of c i) m in
    let h : Records = owned g t i m.log log in
    let nz = vo.stands r in
    let maj = elected_by c i good r has in
    let free : g.owner t ≡ 0 = nobody (cases_eq (g.owner t) 0) (λ z. one_elected c.cores g t i (g.owner t) good.records maj refl z)
    (ok.not_owner r) in
    let empty : g.lead t ≡ [] = k.records.no_lead t free in
    let now : h.lead t ≡ log = put_same g.lead t log in
    let started : h.start t ≡ m.log = put_same g.start t m.log in
    let n = length-append m.log (noop_of (seat_of c i) m) in
    let gr : LogGrows g h = record {
      leads = λ u j y e. put_all (λ v l. slice_get (g.lead v) j ≡ Some y → slice_get l j ≡ Some y) g.lead t log
          (λ f. absurd (nothing (g.lead t) j y empty f)) (λ v ne f. f) u e;
      starts = λ u j y e. put_all (λ v l. slice_get (g.lead v) j ≡ Some y → l ≡ g.start v) g.start t m.log
          (λ f. absurd (nothing (g.lead t) j y empty f)) (λ v ne f. refl) u e;
      acks = λ u j. acks (length log) (let a = k.records.ack_within t i in let z : length (g.lead t) ≡ 0 = ap length empty in omega arith)
          u j (cases2 t i u j);
    } in
    let snd : Sound h log = sound_noop h m.log b x (sound_stays g h gr m.log ok.sound)
    (let z : length (h.start t) ≡ length m.log = ap length started in omega arith) now in
    let ter : Within t log = within_noop t m.log b x ok.terms (omega arith) in
    step_logs c i (won (seat_of c i) m) [] h k gr
    (λ j ne. record {
      ack = λ u. put2_member g.ack t i u j (length log) ne;
      owner = λ u e. put_all (λ v o. o ≡ j → g.owner v ≡ j) g.owner t i (λ f. absurd (ne (sym f))) (λ v nv f. f) u e;
    })
    (record {
      sound = snd;
      terms = ter;
      no_ack = λ u l. put2_term g.ack t i u i (length log) (λ q. absurd (omega arith)) ∙ ok.no_ack u l;
      acked = λ j l. ap (λ z. slice_get z j) (sym now);
      matched = λ q j p. let z : match_of (won (seat_of c i) m) j ≡ 0 = slot_alike c.cores (j - 1) 0 in omega arith;
      nexts = λ q j. let z : next_of (won (seat_of c i) m) j ≤ length m.log + 1 = slot_bound c.cores (j - 1) (length m.log + 1) in
          omega arith;
      own_ack = λ q. put2_same g.ack t i (length log);
      not_owner = λ q. absurd (cc);
    })
    tt
    (record {
      sound = put_all (λ u l. Sound h l) g.lead t log snd (λ u ne. sound_stays g h gr (g.lead u) (k.records.sound u));
      terms = put_all (λ u l. Within u l) g.lead t log ter (λ u ne. k.records.terms u);
      no_lead = λ u e. no_lead nz log u e (cases_eq u t);
      start_within = λ u. start_within log n u (cases_eq u t);
      cands = λ u j l e. let a = k.records.cands u j l e in (sound_stays g h gr l a.0, a.1);
      ack_within = λ u j. ack_within h.lead now (lead_longer g h gr) u j (cases2 t i u j);
    })
  where
    nobody : (c.records.owner (c.at i).term ≡ 0) ⊎ (c.records.owner (c.at i).term ≡ 0 → ⊥) →
        ((c.records.owner (c.at i).term ≡ 0 → ⊥) → c.records.owner (c.at i).term ≡ i) → (c.records.owner (c.at i).term ≡ i → ⊥) →
        c.records.owner (c.at i).term ≡ 0
    nobody (inl e) one not = e
    nobody (inr z) one not = absurd (not (one z))

    nothing : (xs : List Item) (j : ℕ) (y : Item) → xs ≡ [] → slice_get xs j ≡ Some y → ⊥
    nothing xs j y e f = let f' : slice_get [] j ≡ Some y = rw e at f in absurd (cc)

    acks : (n : ℕ) → c.records.ack (c.at i).term i ≤ n → (u j : ℕ) → ((u ≡ (c.at i).term) × (j ≡ i)) ⊎ Away (c.at i).term i u j →
        c.records.ack u j ≤ put2 c.records.ack (c.at i).term i n u j
    acks n l u j (inl q) = rw (q.0, q.1, put2_same) l
    acks n l u j (inr q) = rw (put2_away c.records.ack (c.at i).term i u j n q) (omega arith)

    no_lead : (i ≡ 0 → ⊥) → (log : List Item) → (u : ℕ) → put c.records.owner (c.at i).term i u ≡ 0 →
        (u ≡ (c.at i).term) ⊎ (u ≡ (c.at i).term → ⊥) → put c.records.lead (c.at i).term log u ≡ []
    no_lead nz log u e (inl q) = absurd (nz (sym (put_at c.records.owner (c.at i).term u i q) ∙ e))
    no_lead nz log u e (inr q) = put_other c.records.lead (c.at i).term u log q ∙ k.records.no_lead u
        (sym (put_other c.records.owner (c.at i).term u i q) ∙ e)

    start_within : (log : List Item) → length log ≡ length (c.at i).log + length (noop_of (seat_of c i) (c.at i)) → (u : ℕ) →
        (u ≡ (c.at i).term) ⊎ (u ≡ (c.at i).term → ⊥) →
        length (put c.records.start (c.at i).term (c.at i).log u) ≤ length (put c.records.lead (c.at i).term log u)
    start_within log n u (inl q) = rw (put_at c.records.start (c.at i).term u (c.at i).log q, put_at c.records.lead (c.at i).term u log q)
        (omega arith)
    start_within log n u (inr q) = rw
        (put_other c.records.start (c.at i).term u (c.at i).log q, put_other c.records.lead (c.at i).term u log q)
        (k.records.start_within u)

    ack_within : (lead : ℕ → List Item) → lead (c.at i).term ≡ (c.at i).log ++ noop_of (seat_of c i) (c.at i) →
        ((u : ℕ) → length (c.records.lead u) ≤ length (lead u)) → (u j : ℕ) → ((u ≡ (c.at i).term) × (j ≡ i)) ⊎ Away (c.at i).term i u j →
        put2 c.records.ack (c.at i).term i (length ((c.at i).log ++ noop_of (seat_of c i) (c.at i))) u j ≤ length (lead u)
    ack_within lead now longer u j (inl q) = rw (q.0, q.1, put2_same, now) (omega arith)
    ack_within lead now longer u j (inr q) = let a = k.records.ack_within u j in let b = longer u in
        rw (put2_away c.records.ack (c.at i).term i u j _ q) (omega arith)

-- where the item before a place has one term in both, they agree up to it
pub agree_prev : (g : Records) (xs ys : List Item) (p : ℕ) → Sound g xs → Sound g ys → p ≤ length xs → p ≤ length ys →
    term_at xs p ≡ term_at ys p → Agree p xs ys
agree_prev g xs ys zero sx sy lx ly e j l = absurd (omega arith)
agree_prev g xs ys (suc k) sx sy lx ly e j l =
    let a = get_some xs k (omega arith) in
    let b = get_some ys k (omega arith) in
    let same : (a.0).term ≡ (b.0).term = ap term_of (sym a.1) ∙ e ∙ ap term_of b.1 in
    sound_agree g xs ys k a.0 b.0 sx sy a.1 b.1 same j l

-- a follower takes the items of an Append
module _ (g : Records) (t i prev : ℕ) (items : List Item) (m : Member) (ok : MemberLog g i m) (rec : RecordsLog g) (et : m.term ≡ t)
    (low : prev ≤ length m.log) (cut_of : IsCut (g.lead t) prev items) (before : Agree prev m.log (g.lead t)) where
  pub joined_now : Joined (accepted m.log prev items) m.log (prev + length items) (g.lead t)
  joined_now = accepted_joined m.log prev items (g.lead t) low before matching cut_of
    where
      matching : Matching m.log (g.lead t)
      matching k x y ex ey e =
          let a = sound_agree g m.log (g.lead t) k x y ok.sound (rec.sound t) ex ey e k (omega arith) in
          cc

  taken_sound : Joined (accepted m.log prev items) m.log (prev + length items) (g.lead t) → Sound g (accepted m.log prev items)
  taken_sound (inl h) k x e = let P : List Item → Type 0 = λ w. Sound g w in subst P (sym h.0) ok.sound k x e
  taken_sound (inr h) k x e =
      let w = slice_get_within (accepted m.log prev items) k x e in
      let z = h.size in
      let there : slice_get (g.lead t) k ≡ Some x = sym (h.agree k (omega arith)) ∙ e in
      let s = rec.sound t k x there in
      (s.0, λ j l. h.agree j (omega arith) ∙ s.1 j l)

  taken_terms : Joined (accepted m.log prev items) m.log (prev + length items) (g.lead t) → Within m.term (accepted m.log prev items)
  taken_terms (inl h) k x e = let P : List Item → Type 0 = λ w. Within m.term w in subst P (sym h.0) ok.terms k x e
  taken_terms (inr h) k x e =
      let w = slice_get_within (accepted m.log prev items) k x e in
      let z = h.size in
      let there : slice_get (g.lead t) k ≡ Some x = sym (h.agree k (omega arith)) ∙ e in
      let l = rec.terms t k x there in
      omega arith

  taken_acked : Joined (accepted m.log prev items) m.log (prev + length items) (g.lead t) →
      Agree (max (g.ack t i) (prev + length items)) (accepted m.log prev items) (g.lead t)
  taken_acked h k l = go h (cases_lt k (prev + length items))
    where
      acked : Agree (g.ack t i) m.log (g.lead t)
      acked = rw et at ok.acked

      go : Joined (accepted m.log prev items) m.log (prev + length items) (g.lead t) →
          (k < prev + length items) ⊎ (prev + length items ≤ k) → slice_get (accepted m.log prev items) k ≡ slice_get (g.lead t) k
      go (inl q) (inl lt) = rw q.0 (q.1 k lt)
      go (inr q) (inl lt) = q.agree k lt
      go (inl q) (inr le) = rw q.0 (acked k (omega arith))
      go (inr q) (inr le) = let b = q.below in absurd (q.differs (acked q.place (omega arith)))

takes_logs : (c : Cluster) (i from prev pterm commit : ℕ) (items : List Item) → Logs c →
    BodyLog c.records from (Append (c.at i).term prev pterm commit items) → (c.at i).role ≡ Follower → has_prev (c.at i) prev pterm ≡ true
    → LogKeeps c (stepped c i (took (c.at i) prev commit items) (append_reply (seat_of c i) (c.at i) from true (prev + length items) ∷ [])
    (accepts c.records (c.at i).term i (prev + length items)))
takes_logs c i from prev pterm commit items k said r hp =
    let m : Member = c.at i in
    let t : ℕ = m.term in
    let et : m.term ≡ t = refl in
    let ok = k.members i in
    let g : Records = c.records in
    let n : ℕ = prev + length items in
    let h : Records = accepts g t i n in
    let p = and_parts (nat_le prev (length m.log)) (term_at m.log prev == pterm) hp in
    let low = leb-true prev (length m.log) p.0 in
    let same = eqb-true (term_at m.log prev) pterm p.1 ∙ sym said.1 in
    let before = agree_prev g m.log (g.lead t) prev ok.sound (k.records.sound t) low said.0 same in
    let tk = joined_now g t i prev items m ok k.records et low said.2 before in
    let fits = cut_fits (g.lead t) prev items said.0 said.2 in
    let gr : LogGrows g h = record { leads = λ u j x e. e; starts = λ u j x e. refl; acks = λ u j. acks n u j (cases2 t i u j) } in
    step_logs c i (took m prev commit items) (append_reply (seat_of c i) m from true n ∷ []) h k gr
    (λ j ne. record { ack = λ u. put2_member g.ack t i u j (max (g.ack t i) n) ne; owner = λ u e. e })
    (record {
      sound = taken_sound g t i prev items m ok k.records et low said.2 before tk;
      terms = taken_terms g t i prev items m ok k.records et low said.2 before tk;
      no_ack = λ u l. put2_term g.ack t i u i (max (g.ack t i) n) (λ q. absurd (omega arith)) ∙ ok.no_ack u l;
      acked = rw put2_same (taken_acked g t i prev items m ok k.records et low said.2 before tk);
      matched = λ q. absurd (cc);
      nexts = λ q. absurd (cc);
      own_ack = λ q. absurd (cc);
      not_owner = λ q. absurd (cc);
    })
    ((λ q. rw put2_same (omega arith)), tt)
    (record {
      sound = k.records.sound;
      terms = k.records.terms;
      no_lead = k.records.no_lead;
      start_within = k.records.start_within;
      cands = k.records.cands;
      ack_within = λ u j. ack_within n fits u j (cases2 t i u j);
    })
  where
    acks : (n u j : ℕ) → ((u ≡ (c.at i).term) × (j ≡ i)) ⊎ Away (c.at i).term i u j →
        c.records.ack u j ≤ put2 c.records.ack (c.at i).term i (max (c.records.ack (c.at i).term i) n) u j
    acks n u j (inl q) = rw (q.0, q.1, put2_same) (omega arith)
    acks n u j (inr q) = rw (put2_away c.records.ack (c.at i).term i u j (max (c.records.ack (c.at i).term i) n) q) (omega arith)

    ack_within : (n : ℕ) → n ≤ length (c.records.lead (c.at i).term) → (u j : ℕ) →
        ((u ≡ (c.at i).term) × (j ≡ i)) ⊎ Away (c.at i).term i u j →
        put2 c.records.ack (c.at i).term i (max (c.records.ack (c.at i).term i) n) u j ≤ length (c.records.lead u)
    ack_within n l u j (inl q) = let a = k.records.ack_within (c.at i).term i in rw (q.0, q.1, put2_same) (omega arith)
    ack_within n l u j (inr q) = rw (put2_away c.records.ack (c.at i).term i u j (max (c.records.ack (c.at i).term i) n) q)
        (k.records.ack_within u j)

-- what a leader knows a core to have, it has itself
pub match_within : (c : Cluster) (i j : ℕ) → Good c → Logs c → (c.at i).role ≡ Leader → 0 < j → match_of (c.at i) j ≤ length (c.at i).log
match_within c i j good k r p =
    let a = (k.members i).matched r j p in
    let b = k.records.ack_within (c.at i).term j in
    let e : length (c.records.lead (c.at i).term) ≡ length (c.at i).log = ap length ((good.members i).lead_log r) in
    omega arith

pub step_log : (c d : Cluster) → Step c d → Good c → Logs c → LogKeeps c d
step_log c d (Raises i t lt) good k = quiet_logs c i (raised (c.at i) t) k (raised_log c.records i (c.at i) t (k.members i) lt)
step_log c d (Stands i nz) good k = stands_logs c i nz good k
step_log c d (Votes i from place last s none utd) good k = votes_logs c i from k
step_log c d (Repeats i from nz e) good k = said_logs c (vote_reply (seat_of c i) (c.at i) from true ∷ []) k (tt, tt)
step_log c d (Refuses i to t) good k = said_logs c (letter i to (VoteReply t false) ∷ []) k (tt, tt)
step_log c d (Counts i from nz s r) good k =
    quiet_logs c i (counted (c.at i) from) k
    (like_log c.records i (c.at i) (counted (c.at i) from) (k.members i) refl refl refl (λ q. absurd (cc)) (λ q. absurd (cc)))
step_log c d (Wins i r has) good k = wins_logs c i good k r has
step_log c d (Follows i from) good k =
    quiet_logs c i (follows (c.at i) from) k (follower_log c.records i (c.at i) (follows (c.at i) from) (k.members i) refl refl refl)
step_log c d (Takes i from prev pterm commit items s r hp) good k =
    takes_logs c i from prev pterm commit items k
    (one_log_of c.records c.sent s.0 (letter from i (Append (c.at i).term prev pterm commit items)) k.messages s.1) r hp
step_log c d (Tells i to t place) good k = said_logs c (letter i to (AppendReply t false place) ∷ []) k ((λ q. absurd (cc)), tt)
step_log c d (Notes i from place b nz s r) good k =
    let heard = one_log_of c.records c.sent s.0 (letter from i (AppendReply (c.at i).term b place)) k.messages s.1 in
    let pos : 0 < from = go (cases_eq from 0) in
    quiet_logs c i (noted (c.at i) from b place) k
    (noted_log c.records i (c.at i) from place b (k.members i) r nz (match_within c i from good k r pos) heard)
  where
    go : (from ≡ 0) ⊎ (from ≡ 0 → ⊥) → 0 < from
    go (inl z) = absurd (nz z)
    go (inr z) = omega arith
step_log c d (Advances i r) good k =
    quiet_logs c i (advanced (seat_of c i) (c.at i)) k
    (like_log c.records i (c.at i) (advanced (seat_of c i) (c.at i)) (k.members i) refl refl refl (k.members i).matched (k.members i).nexts)
step_log c d (Writes i entry r room) good k = writes_logs c i entry good k r
step_log c d (Sends i to prev count commit items r l le e) good k =
    let m : Member = c.at i in
    let P : List Item → Type 0 = λ w. (prev ≤ length w) × (term_at w prev ≡ term_at m.log prev) × IsCut w prev items in
    let cut : IsCut m.log prev items = subst (λ z. IsCut m.log prev z) (sym e) (cut_is m.log prev count) in
    let stands : P (c.records.lead m.term) = subst P (sym ((good.members i).lead_log r)) (l, refl, cut) in
    said_logs c (letter i to (Append m.term prev (term_at m.log prev) commit items) ∷ []) k (stands, tt)
step_log c d (Restarts i commit) good k =
    quiet_logs c i (restarted c.cores commit (c.at i)) k
    (follower_log c.records i (c.at i) (restarted c.cores commit (c.at i)) (k.members i) refl refl refl)
step_log c d (Pulled from to have) good k = said_logs c (letter from to (Pull have) ∷ []) k (tt, tt)
step_log c d (Serves i to before count items e) good k = said_logs c (letter i to (Batch (before + 1) items) ∷ []) k (tt, tt)
step_log c d (Extends j from first items log s e) good k = beside_logs c _ c.sent c.history k k.messages
step_log c d (Forgets j) good k = beside_logs c _ c.sent c.history k k.messages
step_log c d Looks good k = beside_logs c c.lists c.sent _ k k.messages

pub steps_log : (c d : Cluster) → Steps c d → Good c → Logs c → LogKeeps c d
steps_log c d Still good k = log_keeps_none c k
steps_log c e (Then {d = d} ss s) good k = log_and_then c d e (steps_log c d ss good k) (step_log d e s (steps_votes c d ss good).good)

pub start_logs : (n r limit : ℕ) → Logs (start n r limit)
unfolding new_member no_records
start_logs n r limit = record {
  members = λ j. record {
    sound = λ k x e. absurd (cc);
    terms = λ k x e. absurd (cc);
    no_ack = λ t l. refl;
    acked = λ p l. absurd (omega arith);
    matched = λ r. absurd (cc);
    nexts = λ r. absurd (cc);
    own_ack = λ r. absurd (cc);
    not_owner = λ r. absurd (cc);
  };
  messages = tt;
  records = record {
    sound = λ t k x e. absurd (cc);
    terms = λ t k x e. absurd (cc);
    no_lead = λ t e. refl;
    start_within = λ t. omega arith;
    cands = λ t i l e. absurd (cc);
    ack_within = λ t i. omega arith;
  };
}
