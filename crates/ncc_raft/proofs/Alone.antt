-- Where something is noted, nothing is sent, and log and commit stay.
use Rattle.std.proofs.Common.{◌≡◌, ◌≢◌, ℕ, ◌+◌, ◌-◌, Bool, true, false, min, List, [], ◌∷◌, length, Option, Some, None, refl, sym}
use Rattle.std.proofs.Common.{◌∙◌}
use Rattle.std.specs.Prelude.{nat_eq, nat_lt, ◌&&◌, if◌then◌else◌}
use Rattle.ncc_tx.specs.declared.entry.Item.{Item}
use Rattle.ncc_raft.specs.declared.message.Body.{Body}
use Rattle.ncc_raft.specs.declared.message.Body.TheVariants.{VoteAsk, VoteReply, Append, AppendReply, Pull, Batch}
use Rattle.ncc_raft.specs.declared.message.Envelope.{Envelope}
use Rattle.ncc_raft.specs.declared.message.Note.TheVariants.{Beyond, Nothing, TermsSpent}
use Rattle.ncc_raft.specs.Member.{Seat, Member, Outcome, Timeout, Beat, Receive, Propose, is_candidate, is_leader, notes, sends, still}
use Rattle.ncc_raft.specs.Logs.{Conflict}
use Rattle.ncc_raft.specs.Elections.{asks, counted, is_elected, is_spent, may_vote, raised, timed_out, voted, won}
use Rattle.ncc_raft.specs.Appending.{added, advanced, appends, follows, has_prev, took, contradicted}
use Rattle.ncc_raft.specs.Laws.{NotesAlone, OnlyNoted}
use Rattle.ncc_raft.specs.Step.{answered, append_reply, heard, lifted, may_add, offered, on_append, on_append_reply, on_beat, on_body}
use Rattle.ncc_raft.specs.Step.{on_propose}
use Rattle.ncc_raft.specs.Step.{on_timeout, on_vote_ask, on_vote_reply, settled, step, term_in, took_or_not, unless, vote_reply}

-- a note stands alone, and comes to none that leads
record Alone (m : Member) (o : Outcome) : Type 0 where
  pub only : OnlyNoted m o
  pub follower : is_leader o.member.role ≡ false

abbrev Noting : Member → Outcome → Type 0
Noting m o = o.note ≢ Nothing → Alone m o

-- ---- the commit of a leader

settles : (seat : Seat) (m : Member) (o : Outcome) → Noting m o → (settled seat o).note ≢ Nothing → OnlyNoted m (settled seat o)
settles seat m o h = go (is_leader o.member.role) refl
  where
    go : (b : Bool) → is_leader o.member.role ≡ b → (if b then record o { member = advanced seat o.member } else o).note ≢ Nothing →
        OnlyNoted m (if b then record o { member = advanced seat o.member } else o)
    go true e n = let f : true ≡ false = sym e ∙ (h n).follower in absurd (cc)
    go false e n = (h n).only

-- ---- the rules

quiet : (m : Member) (o : Outcome) → o.note ≡ Nothing → Noting m o
quiet m o e n = absurd (n e)

timeout_alone : (seat : Seat) (m : Member) → Noting m (on_timeout seat m)
timeout_alone seat m = go (is_leader m.role) (is_spent m) refl
  where
    go : (a b : Bool) → is_leader m.role ≡ a →
        Noting m (if a then still m else (if b then notes m TermsSpent else sends (timed_out seat m) (asks seat (timed_out seat m))))
    go true b e = quiet m (still m) refl
    go false true e = λ n. record { only = record { sent = refl; log = refl; commit = refl; spent = λ x. refl }; follower = e }
    go false false e = quiet m (sends (timed_out seat m) (asks seat (timed_out seat m))) refl

beat_alone : (seat : Seat) (m : Member) → Noting m (on_beat seat m)
beat_alone seat m = go (is_leader m.role)
  where
    go : (a : Bool) → Noting m (if a then sends m (appends seat m) else still m)
    go true = quiet m (sends m (appends seat m)) refl
    go false = quiet m (still m) refl

propose_alone : (seat : Seat) (m : Member) (entry : _) → Noting m (on_propose seat m entry)
propose_alone seat m entry = go (may_add seat m)
  where
    go : (a : Bool) → Noting m (if a then sends (added m entry) (appends seat (added m entry)) else still m)
    go true = quiet m (sends (added m entry) (appends seat (added m entry))) refl
    go false = quiet m (still m) refl

vote_ask_alone : (seat : Seat) (m l : Member) (from t place last : ℕ) → Noting m (on_vote_ask seat l from t place last)
vote_ask_alone seat m l from t place last = go (may_vote l from t place last)
  where
    go : (a : Bool) → Noting m (if a then sends (voted l from) (vote_reply seat l from true ∷ []) else sends l
        (vote_reply seat l from false ∷ []))
    go true = quiet m (sends (voted l from) (vote_reply seat l from true ∷ [])) refl
    go false = quiet m (sends l (vote_reply seat l from false ∷ [])) refl

vote_reply_alone : (seat : Seat) (m l : Member) (from t : ℕ) (granted : Bool) → Noting m (on_vote_reply seat l from t granted)
vote_reply_alone seat m l from t granted = go (is_candidate l.role && nat_eq l.term t && granted) (is_elected seat (counted l from))
  where
    go : (a b : Bool) → Noting m (if a
        then (if b then sends (won seat (counted l from)) (appends seat (won seat (counted l from))) else still
        (counted l from)) else still l)
    go true true = quiet m (sends (won seat (counted l from)) (appends seat (won seat (counted l from)))) refl
    go true false = quiet m (still (counted l from)) refl
    go false b = quiet m (still l) refl

append_alone : (seat : Seat) (m l : Member) (from t prev prev_term commit : ℕ) (items : List Item) → l.log ≡ m.log → l.commit ≡ m.commit →
    Noting m (on_append seat l from t prev prev_term commit items)
append_alone seat m l from t prev prev_term commit items same_log same_commit = go (nat_lt t l.term) (is_leader l.role)
  where
    f : Member
    f = follows l from

    third : (d : Bool) → Noting m (if d
        then sends (took (follows l from) prev commit items) (append_reply seat (follows l from) from true (prev + length items) ∷ [])
        else sends (follows l from) (append_reply seat (follows l from) from false (min (prev - 1) (length l.log)) ∷ []))
    third true = quiet m (sends (took (follows l from) prev commit items) (append_reply seat (follows l from) from true
        (prev + length items) ∷ [])) refl
    third false = quiet m (sends (follows l from) (append_reply seat (follows l from) from false (min (prev - 1) (length l.log)) ∷ [])) refl

    second : (c : Option Conflict) → Noting m (unless c (follows l from)
        (took_or_not seat (follows l from) from prev prev_term commit items))
    second None = third (has_prev (follows l from) prev prev_term)
    second (Some x) = λ n. record {
      only = record { sent = refl; log = same_log; commit = same_commit; spent = λ e. absurd (cc) };
      follower = refl;
    }

    first : (b : Bool) → Noting m (if b then notes (follows l from) (Beyond (prev + length items))
        else unless (contradicted (follows l from) prev prev_term items) (follows l from)
        (took_or_not seat (follows l from) from prev prev_term commit items))
    first true = λ n. record {
      only = record { sent = refl; log = same_log; commit = same_commit; spent = λ e. absurd (cc) };
      follower = refl;
    }
    first false = second (contradicted (follows l from) prev prev_term items)

    go : (a b : Bool) → Noting m (if a then sends l (append_reply seat l from false 0 ∷ [])
        else (if b then still l else offered seat (follows l from) from prev prev_term commit items))
    go true b = quiet m (sends l (append_reply seat l from false 0 ∷ [])) refl
    go false true = quiet m (still l) refl
    go false false = first (nat_lt seat.limit (prev + length items))

append_reply_alone : (seat : Seat) (m l : Member) (from t : ℕ) (has : Bool) (place : ℕ) → Noting m (on_append_reply seat l from t has place)
append_reply_alone seat m l from t has place = go (is_leader l.role && nat_eq l.term t)
  where
    inner : (b : Bool) → Noting m (answered seat l from b place)
    inner true = quiet m (answered seat l from true place) refl
    inner false = quiet m (answered seat l from false place) refl

    go : (a : Bool) → Noting m (if a then answered seat l from has place else still l)
    go true = inner has
    go false = quiet m (still l) refl

body_alone : (seat : Seat) (m l : Member) (from : ℕ) (body : Body) → l.log ≡ m.log → l.commit ≡ m.commit → Noting m
    (on_body seat l from body)
body_alone seat m l from (VoteAsk t place last) a b = vote_ask_alone seat m l from t place last
body_alone seat m l from (VoteReply t granted) a b = vote_reply_alone seat m l from t granted
body_alone seat m l from (Append t prev prev_term commit items) a b = append_alone seat m l from t prev prev_term commit items a b
body_alone seat m l from (AppendReply t has place) a b = append_reply_alone seat m l from t has place
body_alone seat m l from (Pull have) a b = quiet m (on_body seat l from (Pull have)) refl
body_alone seat m l from (Batch first items) a b = quiet m (still l) refl

lifted_log : (m : Member) (body : Body) → ((lifted m body).log ≡ m.log) × ((lifted m body).commit ≡ m.commit)
lifted_log m body = go (nat_lt m.term (term_in body))
  where
    go : (b : Bool) → ((if b then raised m (term_in body) else m).log ≡ m.log) × ((if b then raised m (term_in body) else m).commit
        ≡ m.commit)
    go true = (refl, refl)
    go false = (refl, refl)

received : (seat : Seat) (m : Member) (e : Envelope) → (step seat m (Receive e)).note ≢ Nothing → OnlyNoted m (step seat m (Receive e))
unfolding step
received seat m e = go (heard seat e)
  where
    go : (a : Bool) → (if a then settled seat (on_body seat (lifted m e.body) e.from e.body) else still m).note ≢ Nothing →
        OnlyNoted m (if a then settled seat (on_body seat (lifted m e.body) e.from e.body) else still m)
    go true n = let l = lifted_log m e.body in
        settles seat m (on_body seat (lifted m e.body) e.from e.body) (body_alone seat m (lifted m e.body) e.from e.body l.0 l.1) n
    go false n = absurd (n refl)

pub alone : NotesAlone
unfolding step
alone seat m Timeout i s c = settles seat m (on_timeout seat m) (timeout_alone seat m)
alone seat m Beat i s c = settles seat m (on_beat seat m) (beat_alone seat m)
alone seat m (Propose entry) i s c = settles seat m (on_propose seat m entry) (propose_alone seat m entry)
alone seat m (Receive e) i s c = received seat m e
