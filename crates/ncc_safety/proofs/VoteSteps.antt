-- Each step keeps the records of votes.
use Rattle.std.proofs.Common.{◌≡◌, ℕ, zero, suc, ◌+◌, ◌-◌, ◌<◌, Bool, true, false, ◌==◌, nat_eq, if◌then◌else◌, List, [], ◌∷◌, length, map, Option, Some, None, ◌⊎◌, refl, sym, ap, ◌∙◌, subst, inl, inr, arith, slice_get, slice_index_or, slice_set}
use Rattle.std.proofs.lemmas.Bool.{cases_eq, eqb-true, eq-eqb, le-leb, or_right, and_from}
use Rattle.ncc_tx.specs.declared.entry.Item.{Item}
use Rattle.ncc_raft.specs.declared.message.Envelope.{Envelope}
use Rattle.ncc_raft.specs.declared.message.Body.TheVariants.{VoteAsk, VoteReply, AppendReply, Pull, Batch}
use Rattle.ncc_raft.specs.declared.message.RaftRole.TheVariants.{Leader, Candidate, Follower}
use Rattle.ncc_raft.specs.Member.{Seat, Member, letter, cores_of, majority, has_vote_of, restarted}
use Rattle.ncc_raft.specs.Logs.{last_term, up_to_date}
use Rattle.ncc_raft.specs.Elections.{raised, timed_out, ask_to, asks, voted, counted, is_elected, won}
use Rattle.ncc_raft.specs.Appending.{added, noted, advanced, follows, took}
use Rattle.ncc_raft.specs.Step.{vote_reply, append_reply}
use Rattle.ncc_safety.specs.Cluster.{Records, Cluster, put, put2, seat_of, stepped, stood, given, owned, accepts, wrote, new_member, no_records, start}
use Rattle.ncc_safety.specs.Steps.{Step, Raises, Stands, Votes, Repeats, Refuses, Counts, Wins, Follows, Takes, Tells, Notes, Advances, Writes, Sends, Restarts, Pulled, Serves, Extends, Forgets, Looks, Steps, Still, Then}
use Rattle.ncc_safety.proofs.Puts.{put_same, put_at, put_other, put2_same, put2_at, put2_term, put2_member, put2_away, Away, cases2}
use Rattle.ncc_safety.proofs.Quorum.{quorum, majority_more}
use Rattle.ncc_safety.proofs.Slots.{slot_cases, slot_alike}
use Rattle.ncc_safety.proofs.Voting.{MemberOk, BodyOk, AllOk, RecordsOk, Good, Grows, Same, Keeps, member_stays, all_stay, step_keeps, quiet_keeps, beside_keeps, said_keeps, keeps_none, and_then}

-- a follower of the same term and vote
pub follower_ok : (g : Records) (i : ℕ) (m w : Member) → MemberOk g i m → m.term ≡ w.term → m.vote ≡ w.vote → w.role ≡ Follower →
    MemberOk g i w
follower_ok g i m w k et ev er = record {
  voted = rw (← et, ← ev) k.voted;
  later = rw (← et) k.later;
  no_cand = rw (← et) k.no_cand;
  candidate = λ r. absurd (cc);
  stands = λ r. absurd (cc);
  counted = λ r. absurd (cc);
  leads = λ r. absurd (cc);
  lead_log = λ r. absurd (cc);
}

raised_ok : (g : Records) (i : ℕ) (m : Member) (t : ℕ) → MemberOk g i m → m.term < t → MemberOk g i (raised m t)
raised_ok g i m t k lt = record {
  voted = k.later t lt;
  later = λ u l. k.later u (omega arith);
  no_cand = λ u l. k.no_cand u (omega arith);
  candidate = λ r. absurd (cc);
  stands = λ r. absurd (cc);
  counted = λ r. absurd (cc);
  leads = λ r. absurd (cc);
  lead_log = λ r. absurd (cc);
}

-- a member with the same term, vote, role, log and votes
pub like_ok : (g : Records) (i : ℕ) (m w : Member) → MemberOk g i m → m.term ≡ w.term → m.vote ≡ w.vote → m.role ≡ w.role →
    m.log ≡ w.log → m.votes ≡ w.votes → MemberOk g i w
like_ok g i m w k et ev er el es = record {
  voted = rw (← et, ← ev) k.voted;
  later = rw (← et) k.later;
  no_cand = rw (← et) k.no_cand;
  candidate = λ r. rw (← et, ← el) (k.candidate (er ∙ r));
  stands = λ r. k.stands (er ∙ r);
  counted = λ r. rw (← et, ← es) (k.counted (er ∙ r));
  leads = λ r. rw (← et) (k.leads (er ∙ r));
  lead_log = λ r. rw (← et, ← el) (k.lead_log (er ∙ r));
}

noted_ok : (g : Records) (i : ℕ) (m : Member) (from place : ℕ) (b : Bool) → MemberOk g i m → MemberOk g i (noted m from b place)
noted_ok g i m from place true k = like_ok g i m (noted m from true place) k refl refl refl refl refl
noted_ok g i m from place false k = like_ok g i m (noted m from false place) k refl refl refl refl refl

-- records of votes that stay, where only what was accepted changes
accepts_keeps : (c : Cluster) (i : ℕ) (m : Member) (new : List Envelope) (t p : ℕ) → Good c → MemberOk c.records i m →
    AllOk c.records new → Keeps c (stepped c i m new (accepts c.records t i p))
accepts_keeps c i m new t p k here told =
    let h : Records = accepts c.records t i p in
    let gr : Grows c.records h = record { votes = λ t j i e n. e; cands = λ t i l e. e; owners = λ t i e n. e } in
    let sa : (j : ℕ) → Same j c.records h = λ j. record { vote = λ t. refl; cand = λ t. refl; lead = λ t e n. refl } in
    step_keeps c i m new h k gr (λ j n. sa j) (member_stays i c.records h m gr (sa i) here) (all_stay c.records h gr new told)
    (record { core = k.records.core; elected = k.records.elected; fresh = k.records.fresh })

pub elected_stays : (n : ℕ) (g h : Records) (t i : ℕ) → RecordsOk n g → Grows g h → g.owner t ≡ i → (i ≡ 0 → ⊥) → h.start t ≡ g.start t →
    (majority n (λ j. h.vote t j == i) ≡ true) × (h.cand t i ≡ Some (h.start t))
elected_stays n g h t i k gr e nz es =
    let a = k.elected t i e nz in
    let more = λ (j : ℕ). λ (p : 0 < j). λ (v : (g.vote t j == i) ≡ true). eq-eqb (h.vote t j) i
    (gr.votes t j i (eqb-true (g.vote t j) i v) nz) in
    (majority_more n (λ j. g.vote t j == i) (λ j. h.vote t j == i) more a.0, rw es (gr.cands t i (g.start t) a.1))

-- a leader writes an item
writes_keeps : (c : Cluster) (i : ℕ) (m : Member) → Good c → (c.at i).role ≡ Leader → m.term ≡ (c.at i).term → m.vote ≡ (c.at i).vote →
    m.role ≡ Leader → Keeps c (stepped c i m [] (wrote c.records (c.at i).term i m.log))
writes_keeps c i m k r et ev er =
    let log : List Item = m.log in
    let ok = k.members i in
    let h : Records = wrote c.records (c.at i).term i log in
    let gr : Grows c.records h = record { votes = λ t j i e n. e; cands = λ t i l e. e; owners = λ t i e n. e } in
    let own = (ok.leads r).0 in
    step_keeps c i m [] h k gr
    (λ j ne. record {
      vote = λ t. refl;
      cand = λ t. refl;
      lead = λ t e nz. put_other c.records.lead (c.at i).term t log (λ q. ne (sym e ∙ ap c.records.owner q ∙ own));
    })
    (record {
      voted = rw (et, ev) ok.voted;
      later = rw et ok.later;
      no_cand = rw et ok.no_cand;
      candidate = λ q. absurd (cc);
      stands = λ q. absurd (cc);
      counted = λ q. absurd (cc);
      leads = λ q. rw et (ok.leads r);
      lead_log = λ q. rw et (put_same c.records.lead (c.at i).term log);
    })
    tt
    (record { core = k.records.core; elected = k.records.elected; fresh = k.records.fresh })

as_up_to_date : (log : List Item) → up_to_date (length log) (last_term log) log ≡ true
unfolding up_to_date
as_up_to_date log = or_right _ _
    (and_from _ _ (eq-eqb (last_term log) (last_term log) refl) (le-leb (length log) (length log) (omega arith)))

none_not_some : (x : Option (List Item)) (l : List Item) → x ≡ None → x ≡ Some l → ⊥
none_not_some x l a b = cc

-- a new candidate's records
module _ (n : ℕ) (g : Records) (i t : ℕ) (log : List Item) (nz : i ≡ 0 → ⊥) (no_vote : g.vote t i ≡ 0) (no_cand : g.cand t i ≡ None) where
  stood_grows : Grows g (stood g t i log)
  stood_grows = record {
    votes = λ u j v e vz. votes u j v e vz (cases2 t i u j);
    cands = λ u j l e. cands u j l e (cases2 t i u j);
    owners = λ u o e oz. e;
  }
    where
      votes : (u j v : ℕ) → g.vote u j ≡ v → (v ≡ 0 → ⊥) → ((u ≡ t) × (j ≡ i)) ⊎ Away t i u j → put2 g.vote t i i u j ≡ v
      votes u j v e vz (inl q) = absurd (vz (sym (rw (q.0, q.1) at e) ∙ no_vote))
      votes u j v e vz (inr q) = put2_away g.vote t i u j i q ∙ e

      cands : (u j : ℕ) (l : List Item) → g.cand u j ≡ Some l → ((u ≡ t) × (j ≡ i)) ⊎ Away t i u j → put2 g.cand t i (Some log) u j ≡ Some l
      cands u j l e (inl q) = absurd (none_not_some (g.cand t i) l no_cand (rw (q.0, q.1) at e))
      cands u j l e (inr q) = put2_away g.cand t i u j (Some log) q ∙ e

  stood_same : (j : ℕ) → (j ≡ i → ⊥) → Same j g (stood g t i log)
  stood_same j ne = record {
    vote = λ u. put2_member g.vote t i u j i ne;
    cand = λ u. put2_member g.cand t i u j (Some log) ne;
    lead = λ u e z. refl;
  }

  stood_ok : RecordsOk n g → RecordsOk n (stood g t i log)
  stood_ok k = record {
    core = λ u j l e. core u j l e (cases2 t i u j);
    elected = λ u o e oz. elected_stays n g (stood g t i log) u o k stood_grows e oz refl;
    fresh = λ u j v e vz. fresh u j v e vz (cases2 t i u j);
  }
    where
      core : (u j : ℕ) (l : List Item) → put2 g.cand t i (Some log) u j ≡ Some l → ((u ≡ t) × (j ≡ i)) ⊎ Away t i u j → j ≡ 0 → ⊥
      core u j l e (inl q) z = nz (sym q.1 ∙ z)
      core u j l e (inr q) z = k.core u j l (sym (put2_away g.cand t i u j (Some log) q) ∙ e) z

      fresh : (u j v : ℕ) → put2 g.vote t i i u j ≡ v → (v ≡ 0 → ⊥) → ((u ≡ t) × (j ≡ i)) ⊎ Away t i u j →
          (l : List Item) × (put2 g.cand t i (Some log) u v ≡ Some l) ×
          (up_to_date (length l) (last_term l) (put2 g.vlog t i log u j) ≡ true)
      fresh u j v e vz (inl q) =
          let vi = sym e ∙ put2_at g.vote t i u j i q.0 q.1 in
          (log, put2_at g.cand t i u v (Some log) q.0 vi, rw (put2_at g.vlog t i u j log q.0 q.1) (as_up_to_date log))
      fresh u j v e vz (inr q) =
          let f = k.fresh u j v (sym (put2_away g.vote t i u j i q) ∙ e) vz in
          (f.0, stood_grows.cands u v f.0 f.1, rw (put2_away g.vlog t i u j log q) f.2)

asks_ok : (g : Records) (seat : Seat) (m : Member) → g.cand m.term seat.id ≡ Some m.log → g.vote m.term seat.id ≡ seat.id →
    (seat.id ≡ 0 → ⊥) → (js : List ℕ) → AllOk g (map (ask_to seat m) js)
asks_ok g seat m e v nz [] = tt
asks_ok g seat m e v nz (j ∷ js) = (go (nat_eq j seat.id) refl, asks_ok g seat m e v nz js)
  where
    go : (b : Bool) → nat_eq j seat.id ≡ b →
        BodyOk g seat.id j (if b then VoteReply m.term true else VoteAsk m.term (length m.log) (last_term m.log))
    go true q = λ z. let ji : j ≡ seat.id = eqb-true j seat.id q in (v ∙ sym ji, λ jz. nz (sym ji ∙ jz))
    go false q = (m.log, e, refl, refl)

stands_keeps : (c : Cluster) (i : ℕ) → (i ≡ 0 → ⊥) → Good c →
    Keeps c (stepped c i (timed_out (seat_of c i) (c.at i)) (asks (seat_of c i) (timed_out (seat_of c i) (c.at i)))
    (stood c.records ((c.at i).term + 1) i (c.at i).log))
stands_keeps c i nz k =
    let m : Member = c.at i in
    let t : ℕ = m.term + 1 in
    let ok = k.members i in
    let nv = ok.later t (omega arith) in
    let nc = ok.no_cand t (omega arith) in
    let h : Records = stood c.records t i m.log in
    let w : Member = timed_out (seat_of c i) m in
    step_keeps c i w (asks (seat_of c i) w) h k
    (stood_grows c.cores c.records i t m.log nz nv nc)
    (stood_same c.cores c.records i t m.log nz nv nc)
    (record {
      voted = put2_same c.records.vote t i i;
      later = λ u l. put2_term c.records.vote t i u i i (λ q. absurd (omega arith)) ∙ ok.later u (omega arith);
      no_cand = λ u l. put2_term c.records.cand t i u i (Some m.log) (λ q. absurd (omega arith)) ∙ ok.no_cand u (omega arith);
      candidate = λ r. put2_same c.records.cand t i (Some m.log);
      stands = λ r. nz;
      counted = λ r j p a. let z = slot_alike c.cores (j - 1) false in absurd (cc);
      leads = λ r. absurd (cc);
      lead_log = λ r. absurd (cc);
    })
    (asks_ok h (seat_of c i) w (put2_same c.records.cand t i (Some m.log)) (put2_same c.records.vote t i i) nz (cores_of c.cores))
    (stood_ok c.cores c.records i t m.log nz nv nc k.records)

-- the records after a vote
module _ (n : ℕ) (g : Records) (i t to : ℕ) (log l : List Item) (nz : to ≡ 0 → ⊥) (stands : g.cand t to ≡ Some l)
    (new : up_to_date (length l) (last_term l) log ≡ true) (free : g.vote t i ≡ 0) where
  given_grows : Grows g (given g t i to log)
  given_grows = record { votes = λ u j v e vz. votes u j v e vz (cases2 t i u j); cands = λ u j l e. e; owners = λ u o e oz. e }
    where
      votes : (u j v : ℕ) → g.vote u j ≡ v → (v ≡ 0 → ⊥) → ((u ≡ t) × (j ≡ i)) ⊎ Away t i u j → put2 g.vote t i to u j ≡ v
      votes u j v e vz (inl q) = absurd (vz (sym (rw (q.0, q.1) at e) ∙ free))
      votes u j v e vz (inr q) = put2_away g.vote t i u j to q ∙ e

  given_same : (j : ℕ) → (j ≡ i → ⊥) → Same j g (given g t i to log)
  given_same j ne = record {
    vote = λ u. put2_member g.vote t i u j to ne;
    cand = λ u. refl;
    lead = λ u e z. refl;
  }

  given_ok : RecordsOk n g → RecordsOk n (given g t i to log)
  given_ok k = record {
    core = k.core;
    elected = λ u o e oz. elected_stays n g (given g t i to log) u o k given_grows e oz refl;
    fresh = λ u j v e vz. fresh u j v e vz (cases2 t i u j);
  }
    where
      fresh : (u j v : ℕ) → put2 g.vote t i to u j ≡ v → (v ≡ 0 → ⊥) → ((u ≡ t) × (j ≡ i)) ⊎ Away t i u j →
          (m : List Item) × (g.cand u v ≡ Some m) × (up_to_date (length m) (last_term m) (put2 g.vlog t i log u j) ≡ true)
      fresh u j v e vz (inl q) =
          let vi = sym e ∙ put2_at g.vote t i u j to q.0 q.1 in
          (l, rw (q.0, vi) stands, rw (put2_at g.vlog t i u j log q.0 q.1) new)
      fresh u j v e vz (inr q) =
          let f = k.fresh u j v (sym (put2_away g.vote t i u j to q) ∙ e) vz in
          (f.0, f.1, rw (put2_away g.vlog t i u j log q) f.2)

votes_keeps : (c : Cluster) (i from place last : ℕ) → Good c → BodyOk c.records from i (VoteAsk (c.at i).term place last) →
    (c.at i).vote ≡ 0 → up_to_date place last (c.at i).log ≡ true
    → Keeps c (stepped c i (voted (c.at i) from) (vote_reply (seat_of c i) (c.at i) from true ∷ [])
    (given c.records (c.at i).term i from (c.at i).log))
votes_keeps c i from place last k asked none utd =
    let m : Member = c.at i in
    let t : ℕ = m.term in
    let ok = k.members i in
    let free : c.records.vote t i ≡ 0 = ok.voted ∙ none in
    let new : up_to_date (length asked.0) (last_term asked.0) m.log ≡ true = rw (asked.2, asked.3) utd in
    let nz = k.records.core t from asked.0 asked.1 in
    let h : Records = given c.records t i from m.log in
    let gr = given_grows c.cores c.records i t from m.log asked.0 nz asked.1 new free in
    step_keeps c i (voted m from) (vote_reply (seat_of c i) m from true ∷ []) h k gr
    (given_same c.cores c.records i t from m.log asked.0 nz asked.1 new free)
    (record {
      voted = put2_same c.records.vote t i from;
      later = λ u l. put2_term c.records.vote t i u i from (λ q. absurd (omega arith)) ∙ ok.later u l;
      no_cand = ok.no_cand;
      candidate = ok.candidate;
      stands = ok.stands;
      counted = λ r j p a. gr.votes m.term j i (ok.counted r j p a) (ok.stands r);
      leads = ok.leads;
      lead_log = ok.lead_log;
    })
    ((λ q. (put2_same c.records.vote t i from, nz)), tt)
    (given_ok c.cores c.records i t from m.log asked.0 nz asked.1 new free k.records)

-- two owners of one term are one
pub one_elected : (n : ℕ) (g : Records) (t i o : ℕ) → RecordsOk n g → majority n (λ j. g.vote t j == i) ≡ true → g.owner t ≡ o →
    (o ≡ 0 → ⊥) → o ≡ i
one_elected n g t i o k maj e nz =
    let x = quorum n (λ j. g.vote t j == i) (λ j. g.vote t j == o) maj (k.elected t o e nz).0 in
    sym (eqb-true (g.vote t x.0) o x.2) ∙ eqb-true (g.vote t x.0) i x.1

-- a majority voted for it
pub elected_by : (c : Cluster) (i : ℕ) → Good c → (c.at i).role ≡ Candidate → is_elected (seat_of c i) (c.at i) ≡ true →
    majority c.cores (λ j. c.records.vote (c.at i).term j == i) ≡ true
elected_by c i k r has = majority_more c.cores (has_vote_of (c.at i)) (λ j. c.records.vote (c.at i).term j == i)
    (λ j p a. eq-eqb (c.records.vote (c.at i).term j) i ((k.members i).counted r j p a)) has

wins_keeps : (c : Cluster) (i : ℕ) → Good c → (c.at i).role ≡ Candidate → is_elected (seat_of c i) (c.at i) ≡ true →
    Keeps c (stepped c i (won (seat_of c i) (c.at i)) [] (owned c.records (c.at i).term i (c.at i).log (won (seat_of c i) (c.at i)).log))
wins_keeps c i k r has =
    let m : Member = c.at i in
    let g : Records = c.records in
    let ok = k.members i in
    let nz = ok.stands r in
    let maj = elected_by c i k r has in
    let log : List Item = (won (seat_of c i) m).log in
    let h : Records = owned g m.term i m.log log in
    let one = λ (o : ℕ). λ (e : g.owner m.term ≡ o). λ (oz : o ≡ 0 → ⊥). one_elected c.cores g m.term i o k.records maj e oz in
    let gr : Grows g h = record {
      votes = λ u j v e vz. e;
      cands = λ u j l e. e;
      owners = λ u o e oz. owners one u o e oz (cases_eq u m.term);
    } in
    step_keeps c i (won (seat_of c i) m) [] h k gr
    (λ j ne. record { vote = λ u. refl; cand = λ u. refl; lead = λ u e oz. put_other g.lead m.term u log (λ q. ne (one j (rw q at e) oz)) })
    (record {
      voted = ok.voted;
      later = ok.later;
      no_cand = ok.no_cand;
      candidate = λ q. absurd (cc);
      stands = λ q. absurd (cc);
      counted = λ q. absurd (cc);
      leads = λ q. (put_same g.owner m.term i, nz);
      lead_log = λ q. put_same g.lead m.term log;
    })
    tt
    (record {
      core = k.records.core;
      elected = λ u o e oz. elected maj (ok.candidate r) u o e oz (cases_eq u m.term);
      fresh = k.records.fresh;
    })
  where
    owners : ((o : ℕ) → c.records.owner (c.at i).term ≡ o → (o ≡ 0 → ⊥) → o ≡ i) → (u o : ℕ) → c.records.owner u ≡ o → (o ≡ 0 → ⊥) →
        (u ≡ (c.at i).term) ⊎ (u ≡ (c.at i).term → ⊥) → put c.records.owner (c.at i).term i u ≡ o
    owners one u o e oz (inl q) = put_at c.records.owner (c.at i).term u i q ∙ sym (one o (rw q at e) oz)
    owners one u o e oz (inr q) = put_other c.records.owner (c.at i).term u i q ∙ e

    elected : majority c.cores (λ j. c.records.vote (c.at i).term j == i) ≡ true → c.records.cand (c.at i).term i ≡ Some (c.at i).log →
        (u o : ℕ) → put c.records.owner (c.at i).term i u ≡ o → (o ≡ 0 → ⊥) → (u ≡ (c.at i).term) ⊎ (u ≡ (c.at i).term → ⊥) →
        (majority c.cores (λ j. c.records.vote u j == o) ≡ true) ×
        (c.records.cand u o ≡ Some (put c.records.start (c.at i).term (c.at i).log u))
    elected maj e0 u o e oz (inl q) =
        let oi : o ≡ i = sym e ∙ put_at c.records.owner (c.at i).term u i q in
        rw (q, oi) (maj, e0 ∙ ap Some (sym (put_same c.records.start (c.at i).term (c.at i).log)))
    elected maj e0 u o e oz (inr q) =
        let a = k.records.elected u o (sym (put_other c.records.owner (c.at i).term u i q) ∙ e) oz in
        (a.0, a.1 ∙ ap Some (sym (put_other c.records.start (c.at i).term u (c.at i).log q)))

counted_ok : (g : Records) (i : ℕ) (m : Member) (from : ℕ) → MemberOk g i m → (from ≡ 0 → ⊥) → g.vote m.term from ≡ i →
    MemberOk g i (counted m from)
counted_ok g i m from k nz e = record {
  voted = k.voted;
  later = k.later;
  no_cand = k.no_cand;
  candidate = k.candidate;
  stands = k.stands;
  counted = λ r j p a. is_counted r j p a (slot_cases m.votes (from - 1) (j - 1) true false);
  leads = k.leads;
  lead_log = k.lead_log;
}
  where
    is_counted : m.role ≡ Candidate → (j : ℕ) → 0 < j → slice_index_or (slice_set m.votes (from - 1) true) (j - 1) false ≡ true →
        ((j - 1 ≡ from - 1) × (slice_index_or (slice_set m.votes (from - 1) true) (j - 1) false ≡ true)) ⊎
        (slice_index_or (slice_set m.votes (from - 1) true) (j - 1) false ≡ slice_index_or m.votes (j - 1) false) → g.vote m.term j ≡ i
    is_counted r j p a (inl q) = let d = q.0 in let pos = not_zero (cases_eq from 0) in let f : from ≡ j = omega arith in rw f at e
      where
        not_zero : (from ≡ 0) ⊎ (from ≡ 0 → ⊥) → 0 < from
        not_zero (inl z) = absurd (nz z)
        not_zero (inr z) = omega arith
    is_counted r j p a (inr q) = k.counted r j p (sym q ∙ a)

-- a message that was sent
pub one_of : (g : Records) (es : List Envelope) (which : ℕ) (e : Envelope) → AllOk g es → slice_get es which ≡ Some e →
    BodyOk g e.from e.to e.body
one_of g [] which e k q = absurd (cc)
one_of g (x ∷ es) zero e k q = let xe : x ≡ e = cc in subst (λ y. BodyOk g y.from y.to y.body) xe k.0
one_of g (x ∷ es) (suc which) e k q = one_of g es which e k.1 q

pub step_votes : (c d : Cluster) → Step c d → Good c → Keeps c d
step_votes c d (Raises i t lt) k = quiet_keeps c i (raised (c.at i) t) k (raised_ok c.records i (c.at i) t (k.members i) lt)
step_votes c d (Stands i nz) k = stands_keeps c i nz k
step_votes c d (Votes i from place last s none utd) k =
    votes_keeps c i from place last k (one_of c.records c.sent s.0 (letter from i (VoteAsk (c.at i).term place last)) k.messages s.1) none
    utd
step_votes c d (Repeats i from nz e) k =
    said_keeps c (vote_reply (seat_of c i) (c.at i) from true ∷ []) k ((λ q. ((k.members i).voted ∙ e, nz)), tt)
step_votes c d (Refuses i to t) k = said_keeps c (letter i to (VoteReply t false) ∷ []) k ((λ q. absurd (cc)), tt)
step_votes c d (Counts i from nz s r) k =
    let heard = one_of c.records c.sent s.0 (letter from i (VoteReply (c.at i).term true)) k.messages s.1 in
    quiet_keeps c i (counted (c.at i) from) k (counted_ok c.records i (c.at i) from (k.members i) nz (heard refl).0)
step_votes c d (Wins i r has) k = wins_keeps c i k r has
step_votes c d (Follows i from) k =
    quiet_keeps c i (follows (c.at i) from) k (follower_ok c.records i (c.at i) (follows (c.at i) from) (k.members i) refl refl refl)
step_votes c d (Takes i from prev pterm commit items s r hp) k =
    accepts_keeps c i (took (c.at i) prev commit items) (append_reply (seat_of c i) (c.at i) from true (prev + length items) ∷ [])
    (c.at i).term (prev + length items) k (follower_ok c.records i (c.at i) (took (c.at i) prev commit items) (k.members i) refl refl r)
    (tt, tt)
step_votes c d (Tells i to t place) k = said_keeps c (letter i to (AppendReply t false place) ∷ []) k (tt, tt)
step_votes c d (Notes i from place b nz s r) k =
    quiet_keeps c i (noted (c.at i) from b place) k (noted_ok c.records i (c.at i) from place b (k.members i))
step_votes c d (Advances i r) k =
    quiet_keeps c i (advanced (seat_of c i) (c.at i)) k
    (like_ok c.records i (c.at i) (advanced (seat_of c i) (c.at i)) (k.members i) refl refl refl refl refl)
step_votes c d (Writes i entry r room) k = writes_keeps c i (added (c.at i) entry) k r refl refl r
step_votes c d (Sends i to prev count commit items r l le e) k = said_keeps c _ k (tt, tt)
step_votes c d (Restarts i commit) k =
    quiet_keeps c i (restarted c.cores commit (c.at i)) k
    (follower_ok c.records i (c.at i) (restarted c.cores commit (c.at i)) (k.members i) refl refl refl)
step_votes c d (Pulled from to have) k = said_keeps c (letter from to (Pull have) ∷ []) k (tt, tt)
step_votes c d (Serves i to before count items e) k = said_keeps c (letter i to (Batch (before + 1) items) ∷ []) k (tt, tt)
step_votes c d (Extends j from first items log s e) k = beside_keeps c _ c.sent c.history k k.messages
step_votes c d (Forgets j) k = beside_keeps c _ c.sent c.history k k.messages
step_votes c d Looks k = beside_keeps c c.lists c.sent _ k k.messages

pub steps_votes : (c d : Cluster) → Steps c d → Good c → Keeps c d
steps_votes c d Still k = keeps_none c k
steps_votes c e (Then {d = d} ss s) k = and_then c d e (steps_votes c d ss k) (step_votes d e s)

pub start_good : (n r limit : ℕ) → Good (start n r limit)
unfolding new_member no_records
start_good n r limit = record {
  members = λ j. record {
    voted = refl;
    later = λ t l. refl;
    no_cand = λ t l. refl;
    candidate = λ r. absurd (cc);
    stands = λ r. absurd (cc);
    counted = λ r. absurd (cc);
    leads = λ r. absurd (cc);
    lead_log = λ r. absurd (cc);
  };
  messages = tt;
  records = record {
    core = λ t i l e. absurd (cc);
    elected = λ t i e nz. absurd (nz (sym e));
    fresh = λ t j i e nz. absurd (nz (sym e));
  };
}
