-- Each step keeps what may have been chosen.
use Rattle.std.proofs.Common.{◌≡◌, ℕ, suc, ◌+◌, ◌<◌, ◌≤◌, max, true, false, ◌==◌, nat_lt, nat_le, List, [], ◌∷◌, ◌++◌, length, slice_get, Some, ◌⊎◌, refl, sym, ap, ◌∙◌, subst, inl, inr, arith}
use Rattle.std.proofs.lemmas.Bool.{cases_eq, cases_lt, cases_order, ltb-true, leb-true, lt-ltb, le-leb, eqb-true, or_cases, or_left, or_right, and_parts}
use Rattle.std.proofs.lemmas.Option.{slice_get_within}
use Rattle.ncc_tx.specs.declared.entry.Entry.{Entry}
use Rattle.ncc_tx.specs.declared.entry.Item.{Item}
use Rattle.ncc_tx.specs.Kept.{term_at}
use Rattle.ncc_raft.specs.declared.message.Envelope.{Envelope}
use Rattle.ncc_raft.specs.declared.message.Body.TheVariants.{Append}
use Rattle.ncc_raft.specs.declared.message.RaftRole.TheVariants.{Candidate}
use Rattle.ncc_raft.specs.Member.{Member, letter, majority, restarted}
use Rattle.ncc_raft.specs.Logs.{accepted}
use Rattle.ncc_raft.specs.Elections.{raised, timed_out, voted, counted, is_elected, noop_of, won}
use Rattle.ncc_raft.specs.Appending.{added, noted, advanced, follows, has_prev, took}
use Rattle.ncc_raft.specs.Step.{append_reply}
use Rattle.ncc_safety.specs.Lists.{Agree}
use Rattle.ncc_safety.specs.Cluster.{Records, Cluster, put, put2, seat_of, moved, stepped, quiet, beside, said, stood, given, owned, accepts, wrote, new_member, no_records, start}
use Rattle.ncc_safety.specs.Sentences.{Sound, holder, Choosable}
use Rattle.ncc_safety.specs.Steps.{Step, Raises, Stands, Votes, Repeats, Refuses, Counts, Wins, Follows, Takes, Tells, Notes, Advances, Writes, Sends, Restarts, Pulled, Serves, Extends, Forgets, Looks, Steps, Still, Then}
use Rattle.ncc_safety.proofs.Puts.{put_same, put_at, put_other, put_all, put2_at, put2_member, put2_away, Away, cases2}
use Rattle.ncc_safety.proofs.Quorum.{quorum, majority_more}
use Rattle.ncc_safety.proofs.Agree.{get_left, Cutoff, Joined, cut_fits}
use Rattle.ncc_safety.proofs.Voting.{MemberOk, Good}
use Rattle.ncc_safety.proofs.VoteSteps.{elected_by, step_votes, steps_votes}
use Rattle.ncc_safety.proofs.Logs.{MemberLog, BodyLog, Logs, LogGrows, lead_agree, sound_stays}
use Rattle.ncc_safety.proofs.LogSteps.{one_log_of, joined_now, agree_prev, step_log, steps_log}
use Rattle.ncc_safety.proofs.Chosen.{Safe, elected_has}

-- what a step has to show
pub record Shows (c : Cluster) (i : ℕ) (m : Member) (h : Records) : Type 0 where
  pub term : (c.at i).term ≤ m.term
  pub acks : (t j k : ℕ) → k < h.ack t j → (k < c.records.ack t j) ⊎ ((j ≡ i) × ((c.at i).term ≡ t) × (m.term ≡ t))
  pub new_lead : (t k : ℕ) (x : Item) → slice_get (h.lead t) k ≡ Some x → length (c.records.lead t) ≤ k → (m.term ≡ t) × (m.log ≡ h.lead t)
  pub starts : (t k : ℕ) → Choosable c t k → (u : ℕ) → t < u → (h.owner u ≡ 0 → ⊥) → Agree (suc k) (c.records.lead t) (h.start u)
  pub log : (t k : ℕ) → Choosable c t k → k < h.ack t i → Agree (suc k) (c.records.lead t) m.log
  pub vlogs : (u j : ℕ) → (h.vote u j ≡ 0 → ⊥) →
      ((c.records.vote u j ≡ 0 → ⊥) × (h.vlog u j ≡ c.records.vlog u j)) ⊎ ((j ≡ i) × (h.vlog u j ≡ (c.at i).log))
  pub others : (t j : ℕ) → (j ≡ i → ⊥) → h.ack t j ≡ c.records.ack t j
  pub begins : (t : ℕ) → Agree (length (h.start t)) (h.start t) (h.lead t)
  pub vsound : (u j : ℕ) → Sound h (h.vlog u j)

module _ (c : Cluster) (i : ℕ) (m : Member) (all : List Envelope) (h : Records) (logs : Logs c) (safe : Safe c)
    (gr : LogGrows c.records h) (gd : Good (moved c i m all h)) (sh : Shows c i m h) where
  here : MemberOk h i m
  here = subst (λ w. MemberOk h i w) (put_same c.at i m) (gd.members i)

  -- a core that holds it now held it before
  held_before : (t k j : ℕ) → holder (moved c i m all h) t k j ≡ true → holder c t k j ≡ true
  held_before t k j e = go (or_cases _ _ e)
    where
      old_term : nat_le (put c.at i m j).term t ≡ true → nat_le (c.at j).term t ≡ true
      old_term = put_all (λ p w. nat_le w.term t ≡ true → nat_le (c.at p).term t ≡ true) c.at i m
          (λ q. let l = leb-true m.term t q in let s = sh.term in le-leb (c.at i).term t (omega arith)) (λ p ne q. q) j

      from_ack : (k < c.records.ack t j) ⊎ ((j ≡ i) × ((c.at i).term ≡ t) × (m.term ≡ t)) → holder c t k j ≡ true
      from_ack (inl l) = or_left _ _ (lt-ltb k (c.records.ack t j) l)
      from_ack (inr q) = or_right _ _ (let e : (c.at j).term ≡ t = rw (q.0, q.1) in le-leb (c.at j).term t (omega arith))

      go : (nat_lt k (h.ack t j) ≡ true) ⊎ (nat_le (put c.at i m j).term t ≡ true) → holder c t k j ≡ true
      go (inl a) = from_ack (sh.acks t j k (ltb-true k (h.ack t j) a))
      go (inr a) = or_right _ _ (old_term a)

  was : (t k : ℕ) → Choosable (moved c i m all h) t k → k < length (c.records.lead t) → Choosable c t k
  was t k ch l =
      record {
        item = ch.item;
        there = lead_agree c.records h gr t (suc k) l k (omega arith) ∙ ch.there;
        own = ch.own;
        held = majority_more c.cores (holder (moved c i m all h) t k) (holder c t k) (λ j p. held_before t k j) ch.held;
      }

  -- nobody but its leader has taken a new item, and nobody has voted in a later term who may take it
  new_ack : (t k j : ℕ) → length (c.records.lead t) ≤ k → k < h.ack t j → (j ≡ i) × (m.term ≡ t)
  new_ack t k j l a = go (sh.acks t j k a)
    where
      go : (k < c.records.ack t j) ⊎ ((j ≡ i) × ((c.at i).term ≡ t) × (m.term ≡ t)) → (j ≡ i) × (m.term ≡ t)
      go (inl b) = let w = logs.records.ack_within t j in absurd (omega arith)
      go (inr q) = (q.0, q.2)

  no_later_vote : (t u j : ℕ) → t < u → m.term ≡ t → j ≡ i → (h.vote u j ≡ 0 → ⊥) → ⊥
  no_later_vote t u j l e q v = v (rw q (here.later u (omega arith)))

  no_later_owner : (t k u : ℕ) → length (c.records.lead t) ≤ k → Choosable (moved c i m all h) t k → t < u → (h.owner u ≡ 0 → ⊥) → ⊥
  no_later_owner t k u l ch lt o =
      let x = quorum c.cores (λ j. h.vote u j == h.owner u) (holder (moved c i m all h) t k) (gd.records.elected u (h.owner u) refl o).0
      ch.held in
      let v = eqb-true (h.vote u x.0) (h.owner u) x.1 in
      let voted : h.vote u x.0 ≡ 0 → ⊥ = λ z. o (sym v ∙ z) in
      go x.0 voted (or_cases _ _ x.2)
    where
      go : (j : ℕ) → (h.vote u j ≡ 0 → ⊥) → (nat_lt k (h.ack t j) ≡ true) ⊎ (nat_le (put c.at i m j).term t ≡ true) → ⊥
      go j v (inl a) = let q = new_ack t k j l (ltb-true k (h.ack t j) a) in no_later_vote t u j lt q.1 q.0 v
      go j v (inr a) = let b = leb-true (put c.at i m j).term t a in v ((gd.members j).later u (omega arith))

  pub step_safe : Safe (moved c i m all h)
  step_safe = record {
    stays = record {
      starts = λ t k ch u lt o. starts t k ch u lt o (cases_lt k (length (c.records.lead t)));
      logs = λ t k ch j a. logs_of t k ch j a (cases_lt k (length (c.records.lead t)));
      vlogs = λ t k ch u j lt v a. vlogs t k ch u j lt v a (cases_lt k (length (c.records.lead t)));
    };
    begins = sh.begins;
    vsound = sh.vsound;
  }
    where
      now : (t k : ℕ) (xs : List Item) → k < length (c.records.lead t) → Agree (suc k) (c.records.lead t) xs → Agree (suc k) (h.lead t) xs
      now t k xs l a j q = sym (lead_agree c.records h gr t (suc k) l j q) ∙ a j q

      starts : (t k : ℕ) → Choosable (moved c i m all h) t k → (u : ℕ) → t < u → (h.owner u ≡ 0 → ⊥) →
          (k < length (c.records.lead t)) ⊎ (length (c.records.lead t) ≤ k) → Agree (suc k) (h.lead t) (h.start u)
      starts t k ch u lt o (inl l) = now t k (h.start u) l (sh.starts t k (was t k ch l) u lt o)
      starts t k ch u lt o (inr l) = absurd (no_later_owner t k u l ch lt o)

      logs_of : (t k : ℕ) → Choosable (moved c i m all h) t k → (j : ℕ) → k < h.ack t j →
          (k < length (c.records.lead t)) ⊎ (length (c.records.lead t) ≤ k) → Agree (suc k) (h.lead t) (put c.at i m j).log
      logs_of t k ch j a (inl l) = put_all (λ p w. k < h.ack t p → Agree (suc k) (h.lead t) w.log) c.at i m
          (λ b. now t k m.log l (sh.log t k (was t k ch l) b))
          (λ p ne b. now t k (c.at p).log l (safe.stays.logs t k (was t k ch l) p (rw (sh.others t p ne) at b)))
          j a
      logs_of t k ch j a (inr l) =
          let q = new_ack t k j l a in
          let e = (sh.new_lead t k ch.item ch.there l).1 in
          let P : Member → Type 0 = λ w. Agree (suc k) (h.lead t) w.log in
          subst P (sym (put_at c.at i j m q.0)) (λ p z. ap (λ w. slice_get w p) (sym e))

      vlogs : (t k : ℕ) → Choosable (moved c i m all h) t k → (u j : ℕ) → t < u → (h.vote u j ≡ 0 → ⊥) → k < h.ack t j →
          (k < length (c.records.lead t)) ⊎ (length (c.records.lead t) ≤ k) → Agree (suc k) (h.lead t) (h.vlog u j)
      vlogs t k ch u j lt v a (inl l) = now t k (h.vlog u j) l (go (sh.vlogs u j v) (sh.acks t j k a))
        where
          go : ((c.records.vote u j ≡ 0 → ⊥) × (h.vlog u j ≡ c.records.vlog u j)) ⊎ ((j ≡ i) × (h.vlog u j ≡ (c.at i).log)) →
              (k < c.records.ack t j) ⊎ ((j ≡ i) × ((c.at i).term ≡ t) × (m.term ≡ t)) → Agree (suc k) (c.records.lead t) (h.vlog u j)
          go (inl p) (inl b) = rw p.1 (safe.stays.vlogs t k (was t k ch l) u j lt p.0 b)
          go (inr p) (inl b) = rw p.1 (safe.stays.logs t k (was t k ch l) i (rw p.0 at b))
          go p (inr q) = absurd (no_later_vote t u j lt q.2 q.0 v)
      vlogs t k ch u j lt v a (inr l) = let q = new_ack t k j l a in absurd (no_later_vote t u j lt q.1 q.0 v)

by_step : (c : Cluster) (i : ℕ) (m : Member) (all : List Envelope) (h : Records) → Step c (moved c i m all h) → Good c → Logs c → Safe c →
    Shows c i m h → Safe (moved c i m all h)
by_step c i m all h s good logs safe sh =
    step_safe c i m all h logs safe (step_log c (moved c i m all h) s good logs).grows (step_votes c (moved c i m all h) s good).good sh

no_new : (xs : List Item) (k : ℕ) (x : Item) → slice_get xs k ≡ Some x → length xs ≤ k → ⊥
no_new xs k x e l = let w = slice_get_within xs k x e in absurd (omega arith)

-- the same records
quiet_shows : (c : Cluster) (i : ℕ) (m : Member) → Safe c → (c.at i).term ≤ m.term → (c.at i).log ≡ m.log → Shows c i m c.records
quiet_shows c i m safe le el = record {
  term = le;
  acks = λ t j k l. inl l;
  new_lead = λ t k x e l. absurd (no_new (c.records.lead t) k x e l);
  starts = safe.stays.starts;
  log = λ t k ch l. rw (← el) (safe.stays.logs t k ch i l);
  vlogs = λ u j v. inl (v, refl);
  others = λ t j ne. refl;
  begins = safe.begins;
  vsound = safe.vsound;
}

stands_shows : (c : Cluster) (i : ℕ) → Logs c → Safe c →
    Shows c i (timed_out (seat_of c i) (c.at i)) (stood c.records ((c.at i).term + 1) i (c.at i).log)
stands_shows c i logs safe = record {
  term = omega arith;
  acks = λ t j k l. inl l;
  new_lead = λ t k x e l. absurd (no_new (c.records.lead t) k x e l);
  starts = safe.stays.starts;
  log = λ t k ch l. safe.stays.logs t k ch i l;
  vlogs = λ u j v. vlogs u j v (cases2 ((c.at i).term + 1) i u j);
  others = λ t j ne. refl;
  begins = safe.begins;
  vsound = λ u j. vsound u j (cases2 ((c.at i).term + 1) i u j);
}
  where
    vlogs : (u j : ℕ) → (put2 c.records.vote ((c.at i).term + 1) i i u j ≡ 0 → ⊥) →
        ((u ≡ (c.at i).term + 1) × (j ≡ i)) ⊎ Away ((c.at i).term + 1) i u j →
        ((c.records.vote u j ≡ 0 → ⊥) × (put2 c.records.vlog ((c.at i).term + 1) i (c.at i).log u j ≡ c.records.vlog u j)) ⊎
        ((j ≡ i) × (put2 c.records.vlog ((c.at i).term + 1) i (c.at i).log u j ≡ (c.at i).log))
    vlogs u j v (inl q) = inr (q.1, put2_at c.records.vlog ((c.at i).term + 1) i u j (c.at i).log q.0 q.1)
    vlogs u j v (inr q) = inl (
      (λ z. v (put2_away c.records.vote ((c.at i).term + 1) i u j i q ∙ z)),
      put2_away c.records.vlog ((c.at i).term + 1) i u j (c.at i).log q,
    )

    vsound : (u j : ℕ) → ((u ≡ (c.at i).term + 1) × (j ≡ i)) ⊎ Away ((c.at i).term + 1) i u j →
        Sound c.records (put2 c.records.vlog ((c.at i).term + 1) i (c.at i).log u j)
    vsound u j (inl q) = rw (put2_at c.records.vlog ((c.at i).term + 1) i u j (c.at i).log q.0 q.1) (logs.members i).sound
    vsound u j (inr q) = rw (put2_away c.records.vlog ((c.at i).term + 1) i u j (c.at i).log q) (safe.vsound u j)

votes_shows : (c : Cluster) (i from : ℕ) → Logs c → Safe c →
    Shows c i (voted (c.at i) from) (given c.records (c.at i).term i from (c.at i).log)
votes_shows c i from logs safe = record {
  term = omega arith;
  acks = λ t j k l. inl l;
  new_lead = λ t k x e l. absurd (no_new (c.records.lead t) k x e l);
  starts = safe.stays.starts;
  log = λ t k ch l. safe.stays.logs t k ch i l;
  vlogs = λ u j v. vlogs u j v (cases2 (c.at i).term i u j);
  others = λ t j ne. refl;
  begins = safe.begins;
  vsound = λ u j. vsound u j (cases2 (c.at i).term i u j);
}
  where
    vlogs : (u j : ℕ) → (put2 c.records.vote (c.at i).term i from u j ≡ 0 → ⊥) →
        ((u ≡ (c.at i).term) × (j ≡ i)) ⊎ Away (c.at i).term i u j →
        ((c.records.vote u j ≡ 0 → ⊥) × (put2 c.records.vlog (c.at i).term i (c.at i).log u j ≡ c.records.vlog u j)) ⊎
        ((j ≡ i) × (put2 c.records.vlog (c.at i).term i (c.at i).log u j ≡ (c.at i).log))
    vlogs u j v (inl q) = inr (q.1, put2_at c.records.vlog (c.at i).term i u j (c.at i).log q.0 q.1)
    vlogs u j v (inr q) = inl (
      (λ z. v (put2_away c.records.vote (c.at i).term i u j from q ∙ z)),
      put2_away c.records.vlog (c.at i).term i u j (c.at i).log q,
    )

    vsound : (u j : ℕ) → ((u ≡ (c.at i).term) × (j ≡ i)) ⊎ Away (c.at i).term i u j →
        Sound c.records (put2 c.records.vlog (c.at i).term i (c.at i).log u j)
    vsound u j (inl q) = rw (put2_at c.records.vlog (c.at i).term i u j (c.at i).log q.0 q.1) (logs.members i).sound
    vsound u j (inr q) = rw (put2_away c.records.vlog (c.at i).term i u j (c.at i).log q) (safe.vsound u j)

-- a leader's log is longer, and it has all of it
own_acks : (g : Records) (s i n t j k : ℕ) → k < put2 g.ack s i n t j → ((t ≡ s) × (j ≡ i)) ⊎ Away s i t j →
    (k < g.ack t j) ⊎ ((j ≡ i) × (s ≡ t) × (s ≡ t))
own_acks g s i n t j k l (inl q) = inr (q.1, sym q.0, sym q.0)
own_acks g s i n t j k l (inr q) = inl (rw (put2_away g.ack s i t j n q) at l)

writes_shows : (c : Cluster) (i : ℕ) (entry : Entry) → Good c → Logs c → Safe c →
    LogGrows c.records (wrote c.records (c.at i).term i (added (c.at i) entry).log) →
    Shows c i (added (c.at i) entry) (wrote c.records (c.at i).term i (added (c.at i) entry).log)
writes_shows c i entry good logs safe gr =
    let m : Member = c.at i in
    let g : Records = c.records in
    let t : ℕ = m.term in
    let log : List Item = (added m entry).log in
    let h : Records = wrote g t i log in
    record {
      term = omega arith;
      acks = λ u j k l. own_acks g t i (length log) u j k l (cases2 t i u j);
      new_lead = λ u k x e l. new_lead log u k x e l (cases_eq u t);
      starts = safe.stays.starts;
      log = λ u k ch l. grown log gr u k ch (own_acks g t i (length log) u i k l (cases2 t i u i));
      vlogs = λ u j v. inl (v, refl);
      others = λ u j ne. put2_member g.ack t i u j (length log) ne;
      begins = λ u k l. let w = logs.records.start_within u in safe.begins u k l ∙ lead_agree g h gr u (length (g.start u)) w k l;
      vsound = λ u j. sound_stays g h gr (g.vlog u j) (safe.vsound u j);
    }
  where
    new_lead : (log : List Item) (u k : ℕ) (x : Item) → slice_get (put c.records.lead (c.at i).term log u) k ≡ Some x →
        length (c.records.lead u) ≤ k → (u ≡ (c.at i).term) ⊎ (u ≡ (c.at i).term → ⊥) →
        ((c.at i).term ≡ u) × (log ≡ put c.records.lead (c.at i).term log u)
    new_lead log u k x e l (inl q) = (sym q, sym (put_at c.records.lead (c.at i).term u log q))
    new_lead log u k x e l (inr q) = absurd (no_new (c.records.lead u) k x (rw (put_other c.records.lead (c.at i).term u log q) at e) l)

    grown : (log : List Item) → LogGrows c.records (wrote c.records (c.at i).term i (added (c.at i) entry).log) → (u k : ℕ) →
        Choosable c u k → (k < c.records.ack u i) ⊎ ((i ≡ i) × ((c.at i).term ≡ u) × ((c.at i).term ≡ u)) →
        Agree (suc k) (c.records.lead u) (added (c.at i) entry).log
    grown log gr u k ch (inl l) j p =
        let a = safe.stays.logs u k ch i l in
        let w = slice_get_within (c.at i).log k ch.item (sym (a k (omega arith)) ∙ ch.there) in
        a j p ∙ sym (get_left (c.at i).log _ j (omega arith))
    grown log gr u k ch (inr q) j p =
        let w = slice_get_within (c.records.lead u) k ch.item ch.there in
        let e = put_at c.records.lead (c.at i).term u (added (c.at i) entry).log (sym q.1) in
        lead_agree c.records (wrote c.records (c.at i).term i (added (c.at i) entry).log) gr u (suc k) w j p ∙ ap (λ z. slice_get z j) e

wins_shows : (c : Cluster) (i : ℕ) → Good c → Logs c → Safe c → (c.at i).role ≡ Candidate → is_elected (seat_of c i) (c.at i) ≡ true →
    LogGrows c.records (owned c.records (c.at i).term i (c.at i).log (won (seat_of c i) (c.at i)).log) →
    Shows c i (won (seat_of c i) (c.at i)) (owned c.records (c.at i).term i (c.at i).log (won (seat_of c i) (c.at i)).log)
wins_shows c i good logs safe r has gr =
    let m : Member = c.at i in
    let g : Records = c.records in
    let t : ℕ = m.term in
    let log : List Item = m.log ++ noop_of (seat_of c i) m in
    let h : Records = owned g t i m.log log in
    let maj = elected_by c i good r has in
    record {
      term = omega arith;
      acks = λ u j k l. own_acks g t i (length log) u j k l (cases2 t i u j);
      new_lead = λ u k x e l. new_lead u k x e l (cases_eq u t);
      starts = λ u k ch v lt o. starts maj u k ch v lt o (cases_eq v t);
      log = λ u k ch l. grown u k ch (own_acks g t i (length log) u i k l (cases2 t i u i));
      vlogs = λ u j v. inl (v, refl);
      others = λ u j ne. put2_member g.ack t i u j (length log) ne;
      begins = λ u. begins u (cases_eq u t);
      vsound = λ u j. sound_stays g h gr (g.vlog u j) (safe.vsound u j);
    }
  where
    lead : List Item
    lead = (c.at i).log ++ noop_of (seat_of c i) (c.at i)

    new_lead : (u k : ℕ) (x : Item) →
        slice_get (put c.records.lead (c.at i).term ((c.at i).log ++ noop_of (seat_of c i) (c.at i)) u) k ≡ Some x →
        length (c.records.lead u) ≤ k → (u ≡ (c.at i).term) ⊎ (u ≡ (c.at i).term → ⊥) →
        ((c.at i).term ≡ u) × ((c.at i).log ++ noop_of (seat_of c i) (c.at i) ≡ put c.records.lead (c.at i).term
        ((c.at i).log ++ noop_of (seat_of c i) (c.at i)) u)
    new_lead u k x e l (inl q) = (sym q, sym (put_at c.records.lead (c.at i).term u _ q))
    new_lead u k x e l (inr q) = absurd
        (no_new (c.records.lead u) k x (rw (put_other c.records.lead (c.at i).term u ((c.at i).log ++ noop_of (seat_of c i) (c.at i)) q)
        at e) l)

    starts : majority c.cores (λ j. c.records.vote (c.at i).term j == i) ≡ true → (u k : ℕ) → Choosable c u k → (v : ℕ) → u < v →
        (put c.records.owner (c.at i).term i v ≡ 0 → ⊥) → (v ≡ (c.at i).term) ⊎ (v ≡ (c.at i).term → ⊥) →
        Agree (suc k) (c.records.lead u) (put c.records.start (c.at i).term (c.at i).log v)
    starts maj u k ch v lt o (inl q) =
        rw (put_at c.records.start (c.at i).term v (c.at i).log q) (elected_has c good logs safe u k ch i r maj (omega arith))
    starts maj u k ch v lt o (inr q) =
        rw (put_other c.records.start (c.at i).term v (c.at i).log q)
        (safe.stays.starts u k ch v lt (λ z. o (put_other c.records.owner (c.at i).term v i q ∙ z)))

    grown : (u k : ℕ) → Choosable c u k → (k < c.records.ack u i) ⊎ ((i ≡ i) × ((c.at i).term ≡ u) × ((c.at i).term ≡ u)) →
        Agree (suc k) (c.records.lead u) ((c.at i).log ++ noop_of (seat_of c i) (c.at i))
    grown u k ch (inl l) j p =
        let a = safe.stays.logs u k ch i l in
        let w = slice_get_within (c.at i).log k ch.item (sym (a k (omega arith)) ∙ ch.there) in
        a j p ∙ sym (get_left (c.at i).log _ j (omega arith))
    grown u k ch (inr q) j p =
        let w = slice_get_within (c.records.lead u) k ch.item ch.there in
        let e = put_at c.records.lead (c.at i).term u ((c.at i).log ++ noop_of (seat_of c i) (c.at i)) (sym q.1) in
        lead_agree c.records (owned c.records (c.at i).term i (c.at i).log ((c.at i).log ++ noop_of (seat_of c i) (c.at i))) gr u (suc k)
        w j p ∙ ap (λ z. slice_get z j) e

    begins : (u : ℕ) → (u ≡ (c.at i).term) ⊎ (u ≡ (c.at i).term → ⊥) →
        Agree (length (put c.records.start (c.at i).term (c.at i).log u)) (put c.records.start (c.at i).term (c.at i).log u)
        (put c.records.lead (c.at i).term ((c.at i).log ++ noop_of (seat_of c i) (c.at i)) u)
    begins u (inl q) = rw (
      put_at c.records.start (c.at i).term u (c.at i).log q,
      put_at c.records.lead (c.at i).term u ((c.at i).log ++ noop_of (seat_of c i) (c.at i)) q,
    )
        (λ j l. sym (get_left (c.at i).log (noop_of (seat_of c i) (c.at i)) j l))
    begins u (inr q) = rw (
      put_other c.records.start (c.at i).term u (c.at i).log q,
      put_other c.records.lead (c.at i).term u ((c.at i).log ++ noop_of (seat_of c i) (c.at i)) q,
    ) (safe.begins u)

-- a follower takes items of its term's leader
takes_shows : (c : Cluster) (i from prev pterm commit : ℕ) (items : List Item) → Logs c → Safe c →
    BodyLog c.records from (Append (c.at i).term prev pterm commit items) → has_prev (c.at i) prev pterm ≡ true
    → MemberLog (accepts c.records (c.at i).term i (prev + length items)) i (took (c.at i) prev commit items)
    → Shows c i (took (c.at i) prev commit items) (accepts c.records (c.at i).term i (prev + length items))
takes_shows c i from prev pterm commit items logs safe said hp after =
    let m : Member = c.at i in
    let t : ℕ = m.term in
    let et : m.term ≡ t = refl in
    let ok = logs.members i in
    let g : Records = c.records in
    let n : ℕ = prev + length items in
    let p = and_parts (nat_le prev (length m.log)) (term_at m.log prev == pterm) hp in
    let low = leb-true prev (length m.log) p.0 in
    let same = eqb-true (term_at m.log prev) pterm p.1 ∙ sym said.1 in
    let before = agree_prev g m.log (g.lead t) prev ok.sound (logs.records.sound t) low said.0 same in
    let tk = joined_now g t i prev items m ok logs.records et low said.2 before in
    let fits = cut_fits (g.lead t) prev items said.0 said.2 in
    record {
      term = omega arith;
      acks = λ u j k l. acks u j k l (cases2 t i u j);
      new_lead = λ u k x e l. absurd (no_new (g.lead u) k x e l);
      starts = safe.stays.starts;
      log = λ u k ch l. log tk fits u k ch (acks u i k l (cases2 t i u i)) l (cases_order u t);
      vlogs = λ u j v. inl (v, refl);
      others = λ u j ne. put2_member g.ack t i u j (max (g.ack t i) n) ne;
      begins = safe.begins;
      vsound = safe.vsound;
    }
  where
    acks : (u j k : ℕ) → k < put2 c.records.ack (c.at i).term i (max (c.records.ack (c.at i).term i) (prev + length items)) u j →
        ((u ≡ (c.at i).term) × (j ≡ i)) ⊎ Away (c.at i).term i u j →
        (k < c.records.ack u j) ⊎ ((j ≡ i) × ((c.at i).term ≡ u) × ((c.at i).term ≡ u))
    acks u j k l (inl q) = inr (q.1, sym q.0, sym q.0)
    acks u j k l (inr q) = inl (rw (put2_away c.records.ack (c.at i).term i u j
        (max (c.records.ack (c.at i).term i) (prev + length items)) q) at l)

    -- what was chosen before stands in the leader's log, so nothing of it is cut
    older : Joined (accepted (c.at i).log prev items) (c.at i).log (prev + length items) (c.records.lead (c.at i).term) →
        Agree (suc 0) [] [] → (u k : ℕ) → prev + length items ≤ length (c.records.lead (c.at i).term) → u < (c.at i).term →
        Choosable c u k → k < c.records.ack u i → Agree (suc k) (c.records.lead u) (accepted (c.at i).log prev items)
    older (inl h) z u k fits lt ch a j p = rw h.0 (safe.stays.logs u k ch i a j p)
    older (inr h) z u k fits lt ch a j p =
        let b = h.below in
        let owned : c.records.owner (c.at i).term ≡ 0 → ⊥ = λ o. let e = ap length (logs.records.no_lead (c.at i).term o) in
        absurd (omega arith) in
        let st = safe.stays.starts u k ch (c.at i).term lt owned in
        let sw = slice_get_within (c.records.start (c.at i).term) k ch.item (sym (st k (omega arith)) ∙ ch.there) in
        let both : (q : ℕ) → q < suc k → slice_get (c.records.lead u) q ≡ slice_get (c.records.lead (c.at i).term) q =
        λ q r. st q r ∙ safe.begins (c.at i).term q (omega arith) in
        let past : k < h.place = past_it h k (cases_lt k h.place)
        (λ r. h.differs (sym (safe.stays.logs u k ch i a h.place r) ∙ both h.place r)) in
        both j p ∙ sym (h.agree j (omega arith))
      where
        past_it : (h : Cutoff (accepted (c.at i).log prev items) (c.at i).log (prev + length items) (c.records.lead (c.at i).term))
            (k : ℕ) → (k < h.place) ⊎ (h.place ≤ k) → (h.place < suc k → ⊥) → k < h.place
        past_it h k (inl l) not = l
        past_it h k (inr l) not = absurd (not (omega arith))

    log : Joined (accepted (c.at i).log prev items) (c.at i).log (prev + length items) (c.records.lead (c.at i).term) →
        prev + length items ≤ length (c.records.lead (c.at i).term) → (u k : ℕ) → Choosable c u k →
        (k < c.records.ack u i) ⊎ ((i ≡ i) × ((c.at i).term ≡ u) × ((c.at i).term ≡ u)) →
        k < put2 c.records.ack (c.at i).term i (max (c.records.ack (c.at i).term i) (prev + length items)) u i →
        (u ≡ (c.at i).term) ⊎ ((u < (c.at i).term) ⊎ ((c.at i).term < u)) →
        Agree (suc k) (c.records.lead u) (accepted (c.at i).log prev items)
    log tk fits u k ch d l (inl e) j p =
        let ut : u ≡ (c.at i).term = e in
        let l' = subst (λ w. k < put2 c.records.ack (c.at i).term i (max (c.records.ack (c.at i).term i) (prev + length items)) w i) ut l in
        let a = after.acked j (omega arith) in
        sym (a ∙ ap (λ w. slice_get (c.records.lead w) j) (sym ut))
    log tk fits u k ch (inl a) l (inr (inl lt)) j p = older tk (λ z q. refl) u k fits lt ch a j p
    log tk fits u k ch (inr q) l (inr (inl lt)) j p = let e = q.1 in absurd (omega arith)
    log tk fits u k ch (inl a) l (inr (inr gt)) j p = let z = (logs.members i).no_ack u (omega arith) in absurd (omega arith)
    log tk fits u k ch (inr q) l (inr (inr gt)) j p = let e = q.1 in absurd (omega arith)

-- no core changes
beside_safe : (c : Cluster) (lists : ℕ → List Item) (sent : List Envelope) (history : List Item) → Safe c →
    Safe (beside c lists sent history)
beside_safe c lists sent history k = record {
  stays = record {
    starts = λ t p ch. k.stays.starts t p (same t p ch);
    logs = λ t p ch. k.stays.logs t p (same t p ch);
    vlogs = λ t p ch. k.stays.vlogs t p (same t p ch);
  };
  begins = k.begins;
  vsound = k.vsound;
}
  where
    same : (t p : ℕ) → Choosable (beside c lists sent history) t p → Choosable c t p
    same t p ch = record { item = ch.item; there = ch.there; own = ch.own; held = ch.held }

said_safe : (c : Cluster) (new : List Envelope) → Safe c → Safe (said c new)
said_safe c new k = beside_safe c c.lists (c.sent ++ new) c.history k

-- the same records
still_safe : (c : Cluster) (i : ℕ) (m : Member) → Step c (quiet c i m) → Good c → Logs c → Safe c → (c.at i).term ≤ m.term →
    (c.at i).log ≡ m.log → Safe (quiet c i m)
still_safe c i m s good logs safe le el = by_step c i m c.sent c.records s good logs safe (quiet_shows c i m safe le el)

pub step_chosen : (c d : Cluster) → Step c d → Good c → Logs c → Safe c → Safe d
step_chosen c d (Raises i t lt) good logs safe = still_safe c i (raised (c.at i) t) (Raises i t lt) good logs safe (omega arith) refl
step_chosen c d (Stands i nz) good logs safe = by_step c i _ _ _ (Stands i nz) good logs safe (stands_shows c i logs safe)
step_chosen c d (Votes i from place last s none utd) good logs safe =
    by_step c i _ _ _ (Votes i from place last s none utd) good logs safe (votes_shows c i from logs safe)
step_chosen c d (Repeats i from nz e) good logs safe = said_safe c _ safe
step_chosen c d (Refuses i to t) good logs safe = said_safe c _ safe
step_chosen c d (Counts i from nz s r) good logs safe =
    still_safe c i (counted (c.at i) from) (Counts i from nz s r) good logs safe (omega arith) refl
step_chosen c d (Wins i r has) good logs safe =
    by_step c i _ _ _ (Wins i r has) good logs safe (wins_shows c i good logs safe r has (step_log c _ (Wins i r has) good logs).grows)
step_chosen c d (Follows i from) good logs safe = still_safe c i (follows (c.at i) from) (Follows i from) good logs safe (omega arith) refl
step_chosen c d (Takes i from prev pterm commit items s r hp) good logs safe =
    let m : Member = took (c.at i) prev commit items in
    let st = Takes i from prev pterm commit items s r hp in
    let h : Records = accepts c.records (c.at i).term i (prev + length items) in
    let after = (step_log c (stepped c i m (append_reply (seat_of c i) (c.at i) from true (prev + length items) ∷ []) h) st good
    logs).good.members i in
    let after' : MemberLog h i m = subst (λ w. MemberLog h i w) (put_same c.at i m) after in
    by_step c i m (c.sent ++ append_reply (seat_of c i) (c.at i) from true (prev + length items) ∷ []) h st good logs safe
    (takes_shows c i from prev pterm commit items logs safe
    (one_log_of c.records c.sent s.0 (letter from i (Append (c.at i).term prev pterm commit items)) logs.messages s.1) hp after')
step_chosen c d (Tells i to t place) good logs safe = said_safe c _ safe
step_chosen c d (Notes i from place true nz s r) good logs safe =
    still_safe c i (noted (c.at i) from true place) (Notes i from place true nz s r) good logs safe (omega arith) refl
step_chosen c d (Notes i from place false nz s r) good logs safe =
    still_safe c i (noted (c.at i) from false place) (Notes i from place false nz s r) good logs safe (omega arith) refl
step_chosen c d (Advances i r) good logs safe =
    still_safe c i (advanced (seat_of c i) (c.at i)) (Advances i r) good logs safe (omega arith) refl
step_chosen c d (Writes i entry r room) good logs safe =
    by_step c i _ _ _ (Writes i entry r room) good logs safe
    (writes_shows c i entry good logs safe (step_log c _ (Writes i entry r room) good logs).grows)
step_chosen c d (Sends i to prev count commit items r l le e) good logs safe = said_safe c _ safe
step_chosen c d (Restarts i commit) good logs safe =
    still_safe c i (restarted c.cores commit (c.at i)) (Restarts i commit) good logs safe (omega arith) refl
step_chosen c d (Pulled from to have) good logs safe = said_safe c _ safe
step_chosen c d (Serves i to before count items e) good logs safe = said_safe c _ safe
step_chosen c d (Extends j from first items log s e) good logs safe = beside_safe c _ c.sent c.history safe
step_chosen c d (Forgets j) good logs safe = beside_safe c _ c.sent c.history safe
step_chosen c d Looks good logs safe = beside_safe c c.lists c.sent _ safe

pub steps_chosen : (c d : Cluster) → Steps c d → Good c → Logs c → Safe c → Safe d
steps_chosen c d Still good logs safe = safe
steps_chosen c e (Then {d = d} ss s) good logs safe =
    step_chosen d e s (steps_votes c d ss good).good (steps_log c d ss good logs).good (steps_chosen c d ss good logs safe)

pub start_safe : (n r limit : ℕ) → Safe (start n r limit)
unfolding new_member no_records
start_safe n r limit = record {
  stays = record {
    starts = λ t k ch u lt o. absurd (o refl);
    logs = λ t k ch j l. absurd (omega arith);
    vlogs = λ t k ch u j lt v l. absurd (omega arith);
  };
  begins = λ t j l. absurd (omega arith);
  vsound = λ u j k x e. absurd (cc);
}
