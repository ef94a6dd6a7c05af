-- Nothing goes back, rule by rule.
use Rattle.std.proofs.Common.{◌≡◌, ◌≢◌, ℕ, ◌+◌, ◌-◌, ◌<◌, ◌≤◌, Bool, true, false, min, List, [], ◌∷◌, ◌++◌, length, take}
use Rattle.std.proofs.Common.{Option, Some, None, refl, sym, ap, ◌∙◌, arith, inl, inr}
use Rattle.std.specs.Prelude.{IsTrue, nat_eq, nat_le, nat_lt, ◌&&◌, ◌||◌, if◌then◌else◌}
use Rattle.std.proofs.lemmas.Bool.{and_parts, eqb-true, false≢true, leb-true, ltb-true, or_cases}
use Rattle.std.proofs.lemmas.List.{append-nil, take-append-le}
use Rattle.ncc_tx.specs.declared.entry.Item.{Item}
use Rattle.ncc_tx.specs.Kept.{term_at, terms}
use Rattle.ncc_raft.specs.declared.message.Body.{Body}
use Rattle.ncc_raft.specs.declared.message.Body.TheVariants.{VoteAsk, VoteReply, Append, AppendReply, Pull, Batch}
use Rattle.ncc_raft.specs.declared.message.Note.TheVariants.{Beyond, TermsSpent}
use Rattle.ncc_raft.specs.Member.{Seat, Member, Outcome, is_candidate, is_leader, notes, sends, still}
use Rattle.ncc_raft.specs.Logs.{first_conflict, up_to_date}
use Rattle.ncc_raft.specs.Elections.{asks, counted, is_elected, is_spent, may_vote, noop_of, raised, timed_out, voted, won}
use Rattle.ncc_raft.specs.Appending.{added, advanced, appends, follows, has_prev, noted, took, contradicted}
use Rattle.ncc_raft.specs.Core.{IsSound}
use Rattle.ncc_raft.specs.Laws.{NeverBack}
use Rattle.ncc_raft.specs.Step.{answered, append_reply, lifted, may_add, offered, on_append, on_append_reply, on_beat}
use Rattle.ncc_raft.specs.Step.{on_body, on_propose}
use Rattle.ncc_raft.specs.Step.{on_timeout, on_vote_ask, on_vote_reply, settled, tallied, term_in, took_or_not, unless, vote_reply}
use Rattle.ncc_raft.proofs.Applied.{applied_stays}

-- what a rule keeps, from a core that may have taken over a later term: a leader's log grows behind, whatever it was before
pub record Back (old new : Member) : Type 0 where
  pub term : old.term ≤ new.term
  pub vote : old.term ≡ new.term → old.vote ≢ 0 → new.vote ≡ old.vote
  pub commit : old.commit ≤ new.commit
  pub applied : take old.commit new.log ≡ take old.commit old.log
  pub log : IsTrue (is_leader new.role) → (more : List Item) × (new.log ≡ old.log ++ more)

-- term, vote, log and commit stay
pub same : (old new : Member) → old.term ≡ new.term → new.vote ≡ old.vote → old.commit ≡ new.commit → new.log ≡ old.log → Back old new
same old new t v c l = record {
  term = omega (arith, t);
  vote = λ e n. v;
  commit = omega (arith, c);
  applied = ap (take old.commit) l;
  log = λ h. ([], l ∙ sym (append-nil old.log));
}

itself : (m : Member) → Back m m
itself m = same m m refl refl refl refl

pub to_never : (old new : Member) → Back old new → NeverBack old new
to_never old new b = record { term = b.term; vote = b.vote; commit = b.commit; applied = b.applied; log = λ h k. b.log k }

-- behind a later term that was taken over
pub after_lift : (m : Member) (body : Body) (new : Member) → Back (lifted m body) new → Back m new
after_lift m body new = go (nat_lt m.term (term_in body)) refl
  where
    go : (b : Bool) → nat_lt m.term (term_in body) ≡ b → Back (if b then raised m (term_in body) else m) new → Back m new
    go true e b =
        let lt : m.term < term_in body = ltb-true m.term (term_in body) e in
        record {
          term = omega (arith, b.term);
          vote = λ t n. absurd (omega (arith, b.term));
          commit = b.commit;
          applied = b.applied;
          log = b.log;
        }
    go false e b = b

-- and then the commit of a leader advances
pub settles : (seat : Seat) (m : Member) (o : Outcome) → Back m o.member → Back m (settled seat o).member
settles seat m o b = go (is_leader o.member.role)
  where
    go : (a : Bool) → Back m (if a then record o { member = advanced seat o.member } else o).member
    go true = record { term = b.term; vote = b.vote; commit = omega (arith, b.commit); applied = b.applied; log = b.log }
    go false = b

-- ---- without a message

pub timeout_back : (seat : Seat) (m : Member) → Back m (on_timeout seat m).member
timeout_back seat m = go (is_leader m.role) (is_spent m)
  where
    go : (a b : Bool) → Back m (if a then still m else (if b then notes m TermsSpent else sends (timed_out seat m)
        (asks seat (timed_out seat m)))).member
    go true b = itself m
    go false true = itself m
    go false false = record {
      term = omega arith;
      vote = λ e n. absurd (omega arith);
      commit = omega arith;
      applied = refl;
      log = λ h. ([], sym (append-nil m.log));
    }

pub beat_back : (seat : Seat) (m : Member) → Back m (on_beat seat m).member
beat_back seat m = go (is_leader m.role)
  where
    go : (a : Bool) → Back m (if a then sends m (appends seat m) else still m).member
    go true = itself m
    go false = itself m

-- items come behind
grows : (old new : Member) (more : List Item) → old.term ≡ new.term → new.vote ≡ old.vote → old.commit ≡ new.commit →
    old.commit ≤ length old.log →
    new.log ≡ old.log ++ more → Back old new
grows old new more t v c le l = record {
  term = omega (arith, t);
  vote = λ e n. v;
  commit = omega (arith, c);
  applied = ap (take old.commit) l ∙ take-append-le old.commit old.log more le;
  log = λ h. (more, l);
}

pub propose_back : (seat : Seat) (m : Member) (entry : _) → IsSound seat m → Back m (on_propose seat m entry).member
propose_back seat m entry s = go (may_add seat m)
  where
    go : (a : Bool) → Back m (if a then sends (added m entry) (appends seat (added m entry)) else still m).member
    go true = grows m (added m entry) (record { term = m.term; entry = entry } ∷ []) refl refl refl s.commit refl
    go false = itself m

-- ---- votes

vote_ask_back : (seat : Seat) (m : Member) (from t place last : ℕ) → Back m (on_vote_ask seat m from t place last).member
vote_ask_back seat m from t place last = go (may_vote m from t place last) refl
  where
    free : may_vote m from t place last ≡ true → m.vote ≢ 0 → from ≡ m.vote
    free e n =
        let p = and_parts (nat_eq m.term t && (nat_eq m.vote 0 || nat_eq m.vote from)) (up_to_date place last m.log) e in
        let q = and_parts (nat_eq m.term t) (nat_eq m.vote 0 || nat_eq m.vote from) p.0 in
        elim (or_cases (nat_eq m.vote 0) (nat_eq m.vote from) q.1) [
          | inl z ↦ absurd (n (eqb-true m.vote 0 z))
          | inr y ↦ sym (eqb-true m.vote from y)
        ]

    go : (a : Bool) → may_vote m from t place last ≡ a →
        Back m (if a then sends (voted m from) (vote_reply seat m from true ∷ []) else sends m (vote_reply seat m from false ∷ [])).member
    go true e = record {
      term = omega arith;
      vote = λ h n. free e n;
      commit = omega arith;
      applied = refl;
      log = λ h. ([], sym (append-nil m.log));
    }
    go false e = itself m

tallied_back : (seat : Seat) (m : Member) → IsSound seat m → Back m (tallied seat m).member
tallied_back seat m s = go (is_elected seat m)
  where
    go : (a : Bool) → Back m (if a then sends (won seat m) (appends seat (won seat m)) else still m).member
    go true = grows m (won seat m) (noop_of seat m) refl refl refl s.commit refl
    go false = itself m

votes_on : (m new : Member) (from : ℕ) → Back (counted m from) new → Back m new
votes_on m new from b = record { term = b.term; vote = b.vote; commit = b.commit; applied = b.applied; log = b.log }

counted_still : (seat : Seat) (m : Member) (from : ℕ) → IsSound seat m → IsSound seat (counted m from) → Back m
    (tallied seat (counted m from)).member
counted_still seat m from s c = votes_on m (tallied seat (counted m from)).member from (tallied_back seat (counted m from) c)

vote_reply_back : (seat : Seat) (m : Member) (from t : ℕ) (granted : Bool) → IsSound seat m → IsSound seat (counted m from) →
    Back m (on_vote_reply seat m from t granted).member
vote_reply_back seat m from t granted s c = go (is_candidate m.role && nat_eq m.term t && granted)
  where
    go : (a : Bool) → Back m (if a then tallied seat (counted m from) else still m).member
    go true = counted_still seat m from s c
    go false = itself m

-- ---- items

append_back : (seat : Seat) (m : Member) (from t prev prev_term commit : ℕ) (items : List Item) → IsSound seat m →
    Back m (on_append seat m from t prev prev_term commit items).member
append_back seat m from t prev prev_term commit items s = go (nat_lt t m.term) (is_leader m.role)
  where
    stays : Back m (follows m from)
    stays = same m (follows m from) refl refl refl refl

    third : (d : Bool) → has_prev m prev prev_term ≡ d → first_conflict m.log m.commit prev (prev_term ∷ terms items) ≡ None → Back m (if d
        then sends (took (follows m from) prev commit items) (append_reply seat (follows m from) from true (prev + length items) ∷ [])
        else sends (follows m from) (append_reply seat (follows m from) from false (min (prev - 1) (length m.log)) ∷ [])).member
    third true h none =
        let p = and_parts (nat_le prev (length m.log)) (nat_eq (term_at m.log prev) prev_term) h in
        record {
          term = omega arith;
          vote = λ e n. refl;
          commit = omega arith;
          applied = applied_stays m.log items m.commit prev prev_term s.commit (leb-true prev (length m.log) p.0) none;
          log = λ f. absurd (false≢true f);
        }
    third false h none = stays

    second : (c : Option _) → first_conflict m.log m.commit prev (prev_term ∷ terms items) ≡ c →
        Back m (unless c (follows m from) (took_or_not seat (follows m from) from prev prev_term commit items)).member
    second None e = third (has_prev m prev prev_term) refl e
    second (Some x) e = stays

    first : (b : Bool) → Back m (if b then notes (follows m from) (Beyond (prev + length items))
        else unless (contradicted (follows m from) prev prev_term items) (follows m from)
        (took_or_not seat (follows m from) from prev prev_term commit items)).member
    first true = stays
    first false = second (contradicted (follows m from) prev prev_term items) refl

    go : (a b : Bool) → Back m (if a then sends m (append_reply seat m from false 0 ∷ [])
        else (if b then still m else offered seat (follows m from) from prev prev_term commit items)).member
    go true b = itself m
    go false true = itself m
    go false false = first (nat_lt seat.limit (prev + length items))

append_reply_back : (seat : Seat) (m : Member) (from t : ℕ) (has : Bool) (place : ℕ) → Back m
    (on_append_reply seat m from t has place).member
append_reply_back seat m from t has place = go (is_leader m.role && nat_eq m.term t)
  where
    inner : (b : Bool) → Back m (answered seat m from b place).member
    inner true = same m (noted m from true place) refl refl refl refl
    inner false = same m (noted m from false place) refl refl refl refl

    go : (a : Bool) → Back m (if a then answered seat m from has place else still m).member
    go true = inner has
    go false = itself m

pub body_back : (seat : Seat) (m : Member) (from : ℕ) (body : Body) → IsSound seat m → IsSound seat (counted m from) → Back m
    (on_body seat m from body).member
body_back seat m from (VoteAsk t place last) s c = vote_ask_back seat m from t place last
body_back seat m from (VoteReply t granted) s c = vote_reply_back seat m from t granted s c
body_back seat m from (Append t prev prev_term commit items) s c = append_back seat m from t prev prev_term commit items s
body_back seat m from (AppendReply t has place) s c = append_reply_back seat m from t has place
body_back seat m from (Pull have) s c = itself m
body_back seat m from (Batch first items) s c = itself m
