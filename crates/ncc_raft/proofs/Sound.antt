-- A core stays sound, rule by rule.
use Rattle.std.proofs.Common.{◌≡◌, ◌≢◌, ℕ, zero, suc, ◌+◌, ◌-◌, ◌<◌, ◌≤◌, Bool, true, false, min, max, List, [], ◌∷◌, ◌++◌}
use Rattle.std.proofs.Common.{length, Option, Some, None, refl, sym, ap, ◌∙◌, subst, arith, inl, inr, get_or}
use Rattle.std.specs.Prelude.{IsTrue, nat_eq, nat_le, nat_lt, not, ◌&&◌, replicate, slice_set, if◌then◌else◌}
use Rattle.std.proofs.lemmas.Bool.{and_parts, cases_eq, false≢true, leb-true, ltb-true, ltb-false, eqb-true}
use Rattle.std.proofs.lemmas.List.{append-nil, get_or-replicate, get_or-set_same, get_or-set_other, length-replicate, length-set}
use Rattle.std.proofs.lemmas.List.{length_push}
use Rattle.std.proofs.lemmas.List.Elements.{All-push}
use Rattle.ncc_tx.specs.declared.entry.Entry.{Entry}
use Rattle.ncc_tx.specs.declared.entry.Entry.TheVariants.{Noop}
use Rattle.ncc_tx.specs.declared.entry.Item.{Item}
use Rattle.ncc_tx.specs.Items.{entry_allowed}
use Rattle.ncc_tx.specs.Kept.{AllAllowed, MayKeep, NeverFalls, max_items, term_at, term_limit, terms}
use Rattle.ncc_tx.proofs.Entries.{noop_is}
use Rattle.ncc_raft.specs.declared.message.Body.{Body}
use Rattle.ncc_raft.specs.declared.message.Body.TheVariants.{VoteAsk, VoteReply, Append, AppendReply, Pull, Batch}
use Rattle.ncc_raft.specs.declared.message.RaftRole.{RaftRole}
use Rattle.ncc_raft.specs.declared.message.RaftRole.TheVariants.{Candidate, Follower}
use Rattle.ncc_raft.specs.declared.message.Note.TheVariants.{Beyond, TermsSpent}
use Rattle.ncc_raft.specs.Member.{Seat, Member, Outcome, is_candidate, is_core, is_leader, kept, match_of, next_of, notes, sends, still}
use Rattle.ncc_raft.specs.Member.{with_slot}
use Rattle.ncc_raft.specs.Logs.{accepted, first_conflict}
use Rattle.ncc_raft.specs.Elections.{asks, counted, is_elected, is_spent, may_vote, noop_of, raised, timed_out, voted, won}
use Rattle.ncc_raft.specs.Appending.{added, advanced, appends, back_to, follows, greatest, has_prev, has_up_to, may_commit, noted, took}
use Rattle.ncc_raft.specs.Appending.{contradicted}
use Rattle.ncc_raft.specs.Carried.{IsWithin}
use Rattle.ncc_raft.specs.Core.{IsSeat, IsSound, Leads}
use Rattle.ncc_raft.specs.Step.{answered, append_reply, hears_from, lifted, may_add, offered, on_append, on_append_reply, on_beat}
use Rattle.ncc_raft.specs.Step.{on_body, on_propose}
use Rattle.ncc_raft.specs.Step.{on_timeout, on_vote_ask, on_vote_reply, settled, tallied, term_in, took_or_not, unless, vote_reply}
use Rattle.ncc_raft.proofs.Falls.{falls_push, falls_under}
use Rattle.ncc_raft.proofs.Merged.{accepted_all, accepted_falls, accepted_least, accepted_most}
use Rattle.ncc_raft.proofs.Applied.{commit_within}

-- ---- another standing

no_lead : {A : Type 0} → false ≡ true → A
no_lead h = absurd (false≢true h)

pub stands : (seat : Seat) (m : Member) (t v : ℕ) (r : RaftRole) (l : ℕ) → IsSound seat m → t < term_limit → v ≤ 7 → m.term ≤ t →
    (IsTrue (is_leader r) → Leads seat m) → IsSound seat (record m { term = t; vote = v; role = r; leader = l })
stands seat m t v r l s lt le up leads = record {
  saved = record {
    term = lt;
    vote = le;
    terms = falls_under 0 m.term t m.log up s.saved.terms;
    entries = s.saved.entries;
    few = s.saved.few;
  };
  commit = s.commit;
  few = s.few;
  votes = s.votes;
  next = s.next;
  match = s.match;
  leads = leads;
}

pub with_votes : (seat : Seat) (m : Member) (votes : List Bool) → IsSound seat m → length votes ≡ seat.cores → IsSound seat
    (record m { votes = votes })
with_votes seat m votes s e = record {
  saved = s.saved;
  commit = s.commit;
  few = s.few;
  votes = e;
  next = s.next;
  match = s.match;
  leads = s.leads;
}

pub raised_sound : (seat : Seat) (m : Member) (t : ℕ) → IsSound seat m → t < term_limit → m.term < t → IsSound seat (raised m t)
raised_sound seat m t s lt up = stands seat m t 0 Follower 0 s lt (omega arith) (omega arith) no_lead

pub lifted_sound : (seat : Seat) (m : Member) (body : Body) → IsSound seat m → term_in body < term_limit → IsSound seat (lifted m body)
lifted_sound seat m body s lt = go (nat_lt m.term (term_in body)) refl
  where
    go : (b : Bool) → nat_lt m.term (term_in body) ≡ b → IsSound seat (if b then raised m (term_in body) else m)
    go true e = raised_sound seat m (term_in body) s lt (ltb-true m.term (term_in body) e)
    go false e = s

pub term_within : (body : Body) → IsWithin body → term_in body < term_limit
term_within (VoteAsk t place last) w = w.0
term_within (VoteReply t granted) w = w
term_within (Append t prev prev_term commit items) w = w.0
term_within (AppendReply t has place) w = w.0
term_within (Pull have) w = omega arith
term_within (Batch first items) w = omega arith

-- ---- the commit of a leader

greatest_le : (test : ℕ → Bool) (n : ℕ) → greatest test n ≤ n
unfolding greatest
greatest_le test zero = omega arith
greatest_le test (suc n) = go (test (suc n)) (greatest_le test n)
  where
    go : (b : Bool) → greatest test n ≤ n → (if b then suc n else greatest test n) ≤ suc n
    go true h = omega arith
    go false h = omega arith

pub advanced_sound : (seat : Seat) (m : Member) → IsSound seat m → IsSound seat (advanced seat m)
advanced_sound seat m s = record {
  saved = s.saved;
  commit = omega (arith, s.commit, greatest_le (may_commit seat m) (length m.log));
  few = s.few;
  votes = s.votes;
  next = s.next;
  match = s.match;
  leads = s.leads;
}

pub settled_sound : (seat : Seat) (o : Outcome) → IsSound seat o.member → IsSound seat (settled seat o).member
settled_sound seat o s = go (is_leader o.member.role)
  where
    go : (b : Bool) → IsSound seat (if b then record o { member = advanced seat o.member } else o).member
    go true = advanced_sound seat o.member s
    go false = s

-- ---- without a message

pub timed_out_sound : (seat : Seat) (m : Member) → IsSeat seat → IsSound seat m → nat_lt term_limit (m.term + 2) ≡ false →
    IsSound seat (timed_out seat m)
timed_out_sound seat m i s spent =
    let le : m.term + 2 ≤ term_limit = ltb-false term_limit (m.term + 2) spent in
    with_votes seat (record m { term = m.term + 1; vote = seat.id; role = Candidate; leader = 0 }) (replicate seat.cores false)
    (stands seat m (m.term + 1) seat.id Candidate 0 s (omega arith) (omega (arith, i.among, i.few)) (omega arith) no_lead)
    (length-replicate seat.cores false)

pub timeout_sound : (seat : Seat) (m : Member) → IsSeat seat → IsSound seat m → IsSound seat (on_timeout seat m).member
timeout_sound seat m i s = go (is_leader m.role) (is_spent m) refl
  where
    go : (a b : Bool) → is_spent m ≡ b →
        IsSound seat (if a then still m else (if b then notes m TermsSpent else sends (timed_out seat m)
        (asks seat (timed_out seat m)))).member
    go true b e = s
    go false true e = s
    go false false e = timed_out_sound seat m i s e

pub beat_sound : (seat : Seat) (m : Member) → IsSound seat m → IsSound seat (on_beat seat m).member
beat_sound seat m s = go (is_leader m.role)
  where
    go : (a : Bool) → IsSound seat (if a then sends m (appends seat m) else still m).member
    go true = s
    go false = s

pub added_sound : (seat : Seat) (m : Member) (entry : Entry) → IsSeat seat → IsSound seat m → length m.log < seat.limit →
    IsTrue (entry_allowed entry) → IsSound seat (added m entry)
added_sound seat m entry i s lt ok =
    let x : Item = record { term = m.term; entry = entry } in
    let more : length (m.log ++ x ∷ []) ≡ length m.log + 1 = length_push m.log x in
    record {
      saved = record {
        term = s.saved.term;
        vote = s.saved.vote;
        terms = falls_push 0 m.term m.log entry (omega arith) s.saved.terms;
        entries = All-push (λ (y : Item). IsTrue (entry_allowed y.entry)) m.log x s.saved.entries ok;
        few = omega (arith, more, i.limit);
      };
      commit = omega (arith, more, s.commit);
      few = omega (arith, more);
      votes = s.votes;
      next = s.next;
      match = s.match;
      leads = λ h core c. let l = s.leads h core c in (l.0, omega (arith, l.1, more));
    }

pub propose_sound : (seat : Seat) (m : Member) (entry : Entry) → IsSeat seat → IsSound seat m → IsTrue (entry_allowed entry) →
    IsSound seat (on_propose seat m entry).member
propose_sound seat m entry i s ok = go (may_add seat m) refl
  where
    go : (a : Bool) → may_add seat m ≡ a → IsSound seat (if a then sends (added m entry) (appends seat (added m entry)) else still m).member
    go true e = added_sound seat m entry i s
        (ltb-true (length m.log) seat.limit (and_parts (is_leader m.role) (nat_lt (length m.log) seat.limit) e).1) ok
    go false e = s

-- ---- votes

pub is_core_within : (n c : ℕ) → IsTrue (is_core n c) → (1 ≤ c) × (c ≤ n)
unfolding is_core
is_core_within n c h = let p = and_parts (nat_lt 0 c) (nat_le c n) h in (ltb-true 0 c p.0, leb-true c n p.1)

pub vote_ask_sound : (seat : Seat) (m : Member) (from t place last : ℕ) → IsSeat seat → IsSound seat m → IsTrue (is_core seat.cores from) →
    IsSound seat (on_vote_ask seat m from t place last).member
vote_ask_sound seat m from t place last i s c = go (may_vote m from t place last)
  where
    go : (a : Bool) → IsSound seat (if a then sends (voted m from) (vote_reply seat m from true ∷ []) else sends m
        (vote_reply seat m from false ∷ [])).member
    go true = stands seat m m.term from m.role m.leader s s.saved.term (omega (arith, (is_core_within seat.cores from c).1, i.few))
        (omega arith) s.leads
    go false = s

noop_length : (seat : Seat) (m : Member) → length m.log ≤ seat.limit → (length m.log ≤ length (m.log ++ noop_of seat m)) ×
    (length (m.log ++ noop_of seat m) ≤ seat.limit)
noop_length seat m le = go (nat_lt (length m.log) seat.limit) refl
  where
    go : (b : Bool) → nat_lt (length m.log) seat.limit ≡ b →
        (length m.log ≤ length (m.log ++ (if b then record { term = m.term; entry = Noop } ∷ [] else [])))
        × (length (m.log ++ (if b then record { term = m.term; entry = Noop } ∷ [] else [])) ≤ seat.limit)
    go true e = let more = length_push m.log (record { term = m.term; entry = Noop }) in
        (omega (arith, more), omega (arith, more, ltb-true (length m.log) seat.limit e))
    go false e = let same = ap length (append-nil m.log) in (omega (arith, same), omega (arith, same))

noop_kept : (seat : Seat) (m : Member) → MayKeep (kept m) → length (m.log ++ noop_of seat m) ≤ max_items →
    MayKeep (record { term = m.term; vote = m.vote; log = m.log ++ noop_of seat m })
noop_kept seat m k few = go (nat_lt (length m.log) seat.limit) few
  where
    go : (b : Bool) → length (m.log ++ (if b then record { term = m.term; entry = Noop } ∷ [] else [])) ≤ max_items →
        MayKeep (record { term = m.term; vote = m.vote; log = m.log ++ (if b then record { term = m.term; entry = Noop } ∷ [] else []) })
    go true f = record {
      term = k.term;
      vote = k.vote;
      terms = falls_push 0 m.term m.log Noop (omega arith) k.terms;
      entries = All-push (λ (y : Item). IsTrue (entry_allowed y.entry)) m.log (record { term = m.term; entry = Noop }) k.entries noop_is;
      few = f;
    }
    go false f = subst (λ (l : List Item). MayKeep (record { term = m.term; vote = m.vote; log = l })) (sym (append-nil m.log)) k

pub won_sound : (seat : Seat) (m : Member) → IsSeat seat → IsSound seat m → IsSound seat (won seat m)
won_sound seat m i s =
    let n = noop_length seat m s.few in
    record {
      saved = noop_kept seat m s.saved (omega (arith, n.1, i.limit));
      commit = omega (arith, s.commit, n.0);
      few = n.1;
      votes = s.votes;
      next = length-replicate seat.cores (length m.log + 1);
      match = length-replicate seat.cores 0;
      leads = λ h core c.
          let w = is_core_within seat.cores core c in
          let a : match_of (won seat m) core ≡ 0 = get_or-replicate seat.cores (core - 1) 0 0 (omega arith) in
          let b : next_of (won seat m) core ≡ length m.log + 1 = get_or-replicate seat.cores (core - 1) (length m.log + 1) 0
          (omega arith) in
          (omega (arith, a, b), omega (arith, b, n.0));
    }

pub counted_sound : (seat : Seat) (m : Member) (from : ℕ) → IsSound seat m → IsSound seat (counted m from)
counted_sound seat m from s = with_votes seat m (with_slot m.votes from true) s (length-set m.votes (from - 1) true ∙ s.votes)

pub tallied_sound : (seat : Seat) (m : Member) → IsSeat seat → IsSound seat m → IsSound seat (tallied seat m).member
tallied_sound seat m i s = go (is_elected seat m)
  where
    go : (a : Bool) → IsSound seat (if a then sends (won seat m) (appends seat (won seat m)) else still m).member
    go true = won_sound seat m i s
    go false = s

pub vote_reply_sound : (seat : Seat) (m : Member) (from t : ℕ) (granted : Bool) → IsSeat seat → IsSound seat m →
    IsSound seat (on_vote_reply seat m from t granted).member
vote_reply_sound seat m from t granted i s = go (is_candidate m.role && nat_eq m.term t && granted)
  where
    go : (a : Bool) → IsSound seat (if a then tallied seat (counted m from) else still m).member
    go true = tallied_sound seat (counted m from) i (counted_sound seat m from s)
    go false = s

-- ---- items

pub took_sound : (seat : Seat) (m : Member) (prev prev_term commit : ℕ) (items : List Item) → IsSeat seat → IsSound seat m →
    is_leader m.role ≡ false → prev ≤ length m.log → term_at m.log prev ≡ prev_term → prev + length items ≤ seat.limit →
    first_conflict m.log m.commit prev (prev_term ∷ terms items) ≡ None → NeverFalls prev_term m.term items → AllAllowed items →
    IsSound seat (took m prev commit items)
took_sound seat m prev prev_term commit items i s follower le same room none falls ok =
    let least : prev + length items ≤ length (accepted m.log prev items) = accepted_least m.log items prev le in
    let most : length (accepted m.log prev items) ≤ max (length m.log) (prev + length items) = accepted_most m.log items prev le in
    record {
      saved = record {
        term = s.saved.term;
        vote = s.saved.vote;
        terms = accepted_falls m.term prev m.log items le s.saved.terms (subst (λ (t : ℕ). NeverFalls t m.term items) (sym same) falls);
        entries = accepted_all (λ (y : Item). IsTrue (entry_allowed y.entry)) prev m.log items s.saved.entries ok;
        few = omega (arith, most, room, s.few, i.limit);
      };
      commit = omega (arith, least, commit_within m.log items m.commit prev prev_term s.commit le none);
      few = omega (arith, most, room, s.few);
      votes = s.votes;
      next = s.next;
      match = s.match;
      leads = λ h. absurd (false≢true (sym follower ∙ h));
    }

record Offered (seat : Seat) (m : Member) (prev prev_term : ℕ) (items : List Item) : Type 0 where
  sound : IsSound seat m
  follower : is_leader m.role ≡ false
  falls : NeverFalls prev_term m.term items
  allowed : AllAllowed items

took_or_not_sound : (seat : Seat) (m : Member) (from prev prev_term commit : ℕ) (items : List Item) → IsSeat seat →
    Offered seat m prev prev_term items → prev + length items ≤ seat.limit →
    first_conflict m.log m.commit prev (prev_term ∷ terms items) ≡ None →
    IsSound seat (took_or_not seat m from prev prev_term commit items).member
took_or_not_sound seat m from prev prev_term commit items i o room none = go (has_prev m prev prev_term) refl
  where
    go : (a : Bool) → has_prev m prev prev_term ≡ a →
        IsSound seat (if a
        then sends (took m prev commit items) (append_reply seat m from true (prev + length items) ∷ [])
        else sends m (append_reply seat m from false (min (prev - 1) (length m.log)) ∷ [])).member
    go true e =
        let p = and_parts (nat_le prev (length m.log)) (nat_eq (term_at m.log prev) prev_term) e in
        took_sound seat m prev prev_term commit items i o.sound o.follower (leb-true prev (length m.log) p.0)
        (eqb-true (term_at m.log prev) prev_term p.1) room none o.falls o.allowed
    go false e = o.sound

offered_sound : (seat : Seat) (m : Member) (from prev prev_term commit : ℕ) (items : List Item) → IsSeat seat →
    Offered seat m prev prev_term items → IsSound seat (offered seat m from prev prev_term commit items).member
offered_sound seat m from prev prev_term commit items i o = go (nat_lt seat.limit (prev + length items)) refl
  where
    inner : (c : Option _) → contradicted m prev prev_term items ≡ c → prev + length items ≤ seat.limit →
        IsSound seat (unless c m (took_or_not seat m from prev prev_term commit items)).member
    inner None e le = took_or_not_sound seat m from prev prev_term commit items i o le e
    inner (Some x) e le = o.sound

    go : (a : Bool) → nat_lt seat.limit (prev + length items) ≡ a →
        IsSound seat (if a then notes m (Beyond (prev + length items))
        else unless (contradicted m prev prev_term items) m (took_or_not seat m from prev prev_term commit items)).member
    go true e = o.sound
    go false e = inner (contradicted m prev prev_term items) refl (ltb-false seat.limit (prev + length items) e)

pub append_sound : (seat : Seat) (m : Member) (from t prev prev_term commit : ℕ) (items : List Item) → IsSeat seat → IsSound seat m →
    t ≤ m.term → NeverFalls prev_term t items → AllAllowed items →
    IsSound seat (on_append seat m from t prev prev_term commit items).member
append_sound seat m from t prev prev_term commit items i s le falls ok = go (nat_lt t m.term) (is_leader m.role)
  where
    go : (a b : Bool) →
        IsSound seat (if a then sends m (append_reply seat m from false 0 ∷ [])
        else (if b then still m else offered seat (follows m from) from prev prev_term commit items)).member
    go true b = s
    go false true = s
    go false false = offered_sound seat (follows m from) from prev prev_term commit items i (record {
      sound = stands seat m m.term m.vote Follower from s s.saved.term s.saved.vote (omega arith) no_lead;
      follower = refl;
      falls = falls_under prev_term t m.term items le falls;
      allowed = ok;
    })

-- a slot that is set, and the others
slot_same : (xs : List ℕ) (n c x : ℕ) → length xs ≡ n → 1 ≤ c → c ≤ n → get_or (slice_set xs (c - 1) x) (c - 1) 0 ≡ x
slot_same xs n c x e le ge = get_or-set_same xs (c - 1) x 0 (omega arith)

slot_other : (xs : List ℕ) (c d x : ℕ) → 1 ≤ c → 1 ≤ d → (d ≡ c → ⊥) → get_or (slice_set xs (c - 1) x) (d - 1) 0 ≡ get_or xs (d - 1) 0
slot_other xs c d x le ge ne = let other : d - 1 ≢ c - 1 = λ e. ne (omega (arith, e)) in get_or-set_other xs (c - 1) (d - 1) x 0 other

noted_leads : (seat : Seat) (m : Member) (match next : List ℕ) (from a b : ℕ) → IsSound seat m → IsTrue (is_core seat.cores from) →
    match ≡ slice_set m.match (from - 1) a → next ≡ slice_set m.next (from - 1) b → a < b → b ≤ length m.log + 1 → Leads seat m →
    Leads seat (record m { match = match; next = next })
noted_leads seat m match next from a b s c em en lt le l core k =
    let w = is_core_within seat.cores from c in
    let v = is_core_within seat.cores core k in
    elim (cases_eq core from) [
      | inl e ↦
          let x : get_or match (core - 1) 0 ≡ a = ap (λ (xs : List ℕ). get_or xs (core - 1) 0) em ∙ ap
          (λ (j : ℕ). get_or (slice_set m.match (from - 1) a) (j - 1) 0) e ∙ slot_same m.match seat.cores from a s.match w.0 w.1 in
          let y : get_or next (core - 1) 0 ≡ b = ap (λ (xs : List ℕ). get_or xs (core - 1) 0) en ∙ ap
          (λ (j : ℕ). get_or (slice_set m.next (from - 1) b) (j - 1) 0) e ∙ slot_same m.next seat.cores from b s.next w.0 w.1 in
          (omega (arith, x, y), omega (arith, y))
      | inr ne ↦
          let x : get_or match (core - 1) 0 ≡ get_or m.match (core - 1) 0 = ap (λ (xs : List ℕ). get_or xs (core - 1) 0) em
          ∙ slot_other m.match from core a w.0 v.0 ne in
          let y : get_or next (core - 1) 0 ≡ get_or m.next (core - 1) 0 = ap (λ (xs : List ℕ). get_or xs (core - 1) 0) en
          ∙ slot_other m.next from core b w.0 v.0 ne in
          let old = l core k in
          (omega (arith, x, y, old.0), omega (arith, y, old.1))
    ]

pub noted_sound : (seat : Seat) (m : Member) (from : ℕ) (has : Bool) (place : ℕ) → IsSound seat m → IsTrue (is_core seat.cores from) →
    is_leader m.role ≡ true → IsSound seat (noted m from has place)
noted_sound seat m from true place s c lead =
    let l = s.leads lead in
    let k = l from c in
    record {
      saved = s.saved;
      commit = s.commit;
      few = s.few;
      votes = s.votes;
      next = length-set m.next (from - 1) (has_up_to m from place + 1) ∙ s.next;
      match = length-set m.match (from - 1) (has_up_to m from place) ∙ s.match;
      leads = λ h. noted_leads seat m (with_slot m.match from (has_up_to m from place)) (with_slot m.next from (has_up_to m from place + 1))
          from (has_up_to m from place) (has_up_to m from place + 1) s c refl refl (omega arith) (omega (arith, k.0, k.1)) l;
    }
noted_sound seat m from false place s c lead =
    let l = s.leads lead in
    let k = l from c in
    record {
      saved = s.saved;
      commit = s.commit;
      few = s.few;
      votes = s.votes;
      next = length-set m.next (from - 1) (back_to m from place + 1) ∙ s.next;
      match = s.match;
      leads = λ h core d. back_leads seat m from place s c l core d;
    }
  where
    back_leads : (seat : Seat) (m : Member) (from place : ℕ) → IsSound seat m → IsTrue (is_core seat.cores from) → Leads seat m →
        Leads seat (record m { next = with_slot m.next from (back_to m from place + 1) })
    back_leads seat m from place s c l core d =
        let w = is_core_within seat.cores from c in
        let v = is_core_within seat.cores core d in
        let k = l from c in
        elim (cases_eq core from) [
          | inl e ↦
              let y : get_or (with_slot m.next from (back_to m from place + 1)) (core - 1) 0 ≡ back_to m from place + 1 =
              ap (λ (j : ℕ). get_or (with_slot m.next from (back_to m from place + 1)) (j - 1) 0) e ∙ slot_same m.next seat.cores from
              (back_to m from place + 1) s.next w.0 w.1 in
              let x : get_or m.match (core - 1) 0 ≡ get_or m.match (from - 1) 0 = ap (λ (j : ℕ). get_or m.match (j - 1) 0) e in
              (omega (arith, x, y), omega (arith, y, k.0, k.1))
          | inr ne ↦
              let y : get_or (with_slot m.next from (back_to m from place + 1)) (core - 1) 0 ≡ get_or m.next
              (core - 1) 0 = slot_other m.next from core (back_to m from place + 1) w.0 v.0 ne in
              let old = l core d in
              (omega (arith, y, old.0), omega (arith, y, old.1))
        ]

pub append_reply_sound : (seat : Seat) (m : Member) (from t : ℕ) (has : Bool) (place : ℕ) → IsSound seat m → IsTrue
    (is_core seat.cores from) →
    IsSound seat (on_append_reply seat m from t has place).member
append_reply_sound seat m from t has place s c = go (is_leader m.role && nat_eq m.term t) refl
  where
    go : (a : Bool) → (is_leader m.role && nat_eq m.term t) ≡ a → IsSound seat
        (if a then answered seat m from has place else still m).member
    go true e = inner has
      where
        lead : is_leader m.role ≡ true
        lead = (and_parts (is_leader m.role) (nat_eq m.term t) e).0

        inner : (b : Bool) → IsSound seat (answered seat m from b place).member
        inner true = noted_sound seat m from true place s c lead
        inner false = noted_sound seat m from false place s c lead
    go false e = s

-- ---- messages

hears : (seat : Seat) (from : ℕ) → IsTrue (is_core seat.cores from && not (nat_eq from seat.id)) → IsTrue (is_core seat.cores from)
hears seat from h = (and_parts (is_core seat.cores from) (not (nat_eq from seat.id)) h).0

pub body_sound : (seat : Seat) (m : Member) (from : ℕ) (body : Body) → IsSeat seat → IsSound seat m → IsWithin body →
    IsTrue (hears_from seat from body) → term_in body ≤ m.term → IsSound seat (on_body seat m from body).member
body_sound seat m from (VoteAsk t place last) i s w h up = vote_ask_sound seat m from t place last i s (hears seat from h)
body_sound seat m from (VoteReply t granted) i s w h up = vote_reply_sound seat m from t granted i s
body_sound seat m from (Append t prev prev_term commit items) i s w h up =
    append_sound seat m from t prev prev_term commit items i s up w.4 w.5.entries
body_sound seat m from (AppendReply t has place) i s w h up = append_reply_sound seat m from t has place s (hears seat from h)
body_sound seat m from (Pull have) i s w h up = s
body_sound seat m from (Batch first items) i s w h up = s

pub lifted_up : (m : Member) (body : Body) → term_in body ≤ (lifted m body).term
lifted_up m body = go (nat_lt m.term (term_in body)) refl
  where
    go : (b : Bool) → nat_lt m.term (term_in body) ≡ b → term_in body ≤ (if b then raised m (term_in body) else m).term
    go true e = omega arith
    go false e = ltb-false m.term (term_in body) e
