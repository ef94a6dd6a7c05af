-- What a member is of what the code keeps, and what each piece of the code makes.
use Rattle.std.specs.Prelude.{◌≡◌, ◌↔◌, ℕ, ◌+◌, Bool, true, false, List, [], ◌∷◌, length, nat_eq, if◌then◌else◌, Option, Some, None, Result}
use Rattle.std.specs.Prelude.{Err, IfOk, OnErr, IsTrue}
use Rattle.ncc_tx.specs.declared.entry.Entry.{Entry}
use Rattle.ncc_tx.specs.declared.entry.Item.{Item}
use Rattle.ncc_tx.specs.Kept.{Leads}
use Rattle.ncc_raft.specs.declared.message.Body.{Body}
use Rattle.ncc_raft.specs.declared.message.Envelope.{Envelope}
use Rattle.ncc_raft.specs.declared.message.Note.{Note}
use Rattle.ncc_raft.specs.declared.message.ProposeError.{ProposeError}
use Rattle.ncc_raft.specs.declared.message.ProposeError.TheVariants.{Elsewhere, Full}
use Rattle.ncc_raft.specs.declared.message.RaftRole.TheVariants.{Leader}
use Rattle.ncc_raft.specs.declared.message.Step.{Step}
use Rattle.ncc_raft.specs.declared.state.Seat as held
use Rattle.ncc_raft.specs.declared.state.Standing.{Standing}
use Rattle.ncc_raft.specs.declared.state.State.{State}
use Rattle.ncc_raft.specs.Member.{Seat, Member, Outcome, Event, Propose, is_leader, kept, sends, still}
use Rattle.ncc_raft.specs.Elections.{asks, counted, may_vote, noop_of, won}
use Rattle.ncc_raft.specs.Appending.{advanced, append_to, appends, noted, took}
use Rattle.ncc_raft.specs.Core.{IsSound}
use Rattle.ncc_raft.specs.Step.{append_reply, lifted, offered, on_append, on_append_reply, on_beat, on_body, on_propose, on_timeout}
use Rattle.ncc_raft.specs.Step.{on_vote_ask, on_vote_reply, settled, step, took_or_not}

abbrev pub seat_of : held.Seat → Seat
seat_of s = record { id = s.id; cores = s.cores; limit = s.limit }

abbrev pub member_of : State → Member
member_of s = record {
  term = s.standing.term;
  vote = s.standing.vote;
  log = s.log;
  role = s.standing.role;
  leader = s.standing.leader;
  commit = s.commit;
  votes = s.votes;
  next = s.next;
  match = s.matches;
}

-- a member that stands so
abbrev pub at : Standing → Member → Member
at s m = record m { term = s.term; vote = s.vote; role = s.role; leader = s.leader }

-- a leader, as far as its messages show it
abbrev pub sender : ℕ → ℕ → List Item → List ℕ → Member
sender term commit log next = record {
  term = term;
  vote = 0;
  log = log;
  role = Leader;
  leader = 0;
  commit = commit;
  votes = [];
  next = next;
  match = [];
}

-- what a piece of the code made is this outcome
pub record Made (old new : State) (o : Outcome) (s : Step) : Type 0 where
  pub member : member_of new ≡ o.member
  pub sent : s.out ≡ o.sent
  pub note : s.note ≡ o.note
  pub change : Leads (kept (member_of old)) (kept (member_of new)) s.change

-- a state took a standing, and all else of it stayed
pub record Stood (old new : State) (standing : Standing) (out : List Envelope) (note : Note) (s : Step) : Type 0 where
  pub state : new ≡ record old { standing = standing }
  pub sent : s.out ≡ out
  pub told : s.note ≡ note
  pub change : Leads (kept (member_of old)) (kept (member_of new)) s.change

-- ---- the pieces of the step, of what the code keeps. A standing is that behind a later term that was taken over

unfoldable pub IsSoundAt : held.Seat → Standing → State → Type 0
IsSoundAt seat standing s = IsSound (seat_of seat) (at standing (member_of s))

unfoldable pub timeout_of : held.Seat → State → Outcome
timeout_of seat s = on_timeout (seat_of seat) (member_of s)

unfoldable pub beat_of : held.Seat → State → Outcome
beat_of seat s = on_beat (seat_of seat) (member_of s)

unfoldable pub propose_of : held.Seat → State → Entry → Outcome
propose_of seat s entry = on_propose (seat_of seat) (member_of s) entry

unfoldable pub asks_of : held.Seat → Standing → State → List Envelope
asks_of seat standing s = asks (seat_of seat) (at standing (member_of s))

unfoldable pub appends_of : held.Seat → ℕ → ℕ → List Item → List ℕ → List Envelope
appends_of seat term commit log next = appends (seat_of seat) (sender term commit log next)

unfoldable pub noop_for : held.Seat → ℕ → List Item → List Item
noop_for seat term log = noop_of (seat_of seat) (sender term 0 log [])

unfoldable pub may_vote_of : Standing → State → ℕ → ℕ → ℕ → ℕ → Bool
may_vote_of standing s from t place last = may_vote (at standing (member_of s)) from t place last

unfoldable pub vote_ask_of : held.Seat → Standing → State → ℕ → ℕ → ℕ → ℕ → Outcome
vote_ask_of seat standing s from t place last = on_vote_ask (seat_of seat) (at standing (member_of s)) from t place last

unfoldable pub won_of : held.Seat → Standing → State → ℕ → Outcome
won_of seat standing s from =
    sends (won (seat_of seat) (counted (at standing (member_of s)) from))
    (appends (seat_of seat) (won (seat_of seat) (counted (at standing (member_of s)) from)))

unfoldable pub vote_reply_of : held.Seat → Standing → State → ℕ → ℕ → Bool → Outcome
vote_reply_of seat standing s from t granted = on_vote_reply (seat_of seat) (at standing (member_of s)) from t granted

unfoldable pub took_of : held.Seat → Standing → State → ℕ → ℕ → ℕ → List Item → Outcome
took_of seat standing s from prev commit items =
    sends (took (at standing (member_of s)) prev commit items)
    (append_reply (seat_of seat) (at standing (member_of s)) from true (prev + length items) ∷ [])

unfoldable pub took_or_not_of : held.Seat → Standing → State → ℕ → ℕ → ℕ → ℕ → List Item → Outcome
took_or_not_of seat standing s from prev prev_term commit items =
    took_or_not (seat_of seat) (at standing (member_of s)) from prev prev_term commit items

unfoldable pub offered_of : held.Seat → Standing → State → ℕ → ℕ → ℕ → ℕ → List Item → Outcome
offered_of seat standing s from prev prev_term commit items = offered (seat_of seat) (at standing (member_of s)) from prev prev_term
    commit items

unfoldable pub append_of : held.Seat → Standing → State → ℕ → ℕ → ℕ → ℕ → ℕ → List Item → Outcome
append_of seat standing s from t prev prev_term commit items =
    on_append (seat_of seat) (at standing (member_of s)) from t prev prev_term commit items

unfoldable pub noted_yes_of : Standing → State → ℕ → ℕ → Outcome
noted_yes_of standing s from place = still (noted (at standing (member_of s)) from true place)

unfoldable pub noted_no_of : held.Seat → Standing → State → ℕ → ℕ → Outcome
noted_no_of seat standing s from place =
    sends (noted (at standing (member_of s)) from false place)
    (append_to (seat_of seat) (noted (at standing (member_of s)) from false place) from ∷ [])

unfoldable pub append_reply_of : held.Seat → Standing → State → ℕ → ℕ → Bool → ℕ → Outcome
append_reply_of seat standing s from t has place = on_append_reply (seat_of seat) (at standing (member_of s)) from t has place

unfoldable pub body_of : held.Seat → Standing → State → ℕ → Body → Outcome
body_of seat standing s from body = on_body (seat_of seat) (at standing (member_of s)) from body

unfoldable pub step_of : held.Seat → State → Event → Outcome
step_of seat s event = step (seat_of seat) (member_of s) event

unfoldable pub settled_member : Seat → Member → Member
settled_member seat m = (settled seat (still m)).member

unfoldable pub IsSettled : held.Seat → State → State → Type 0
IsSettled seat old new = member_of new ≡ settled_member (seat_of seat) (member_of old)

unfoldable pub IsAdvanced : held.Seat → State → State → Type 0
IsAdvanced seat old new = member_of new ≡ advanced (seat_of seat) (member_of old)

-- it takes over the term of a message
unfoldable pub IsLifted : Standing → State → Body → Type 0
IsLifted standing s body = at standing (member_of s) ≡ lifted (member_of s) body

-- ---- a proposal

-- why an entry is not appended, where it is not
unfoldable pub refusal_of : held.Seat → State → Option ProposeError
refusal_of seat s =
    if is_leader s.standing.role then (if nat_eq (length s.log) seat.limit then Some (Full seat.limit) else None) else Some Elsewhere

-- it was refused, or appended at the end of the log
pub record Proposed (seat : held.Seat) (old new : State) (entry : Entry) (r : Result (ℕ × ℕ × Step) ProposeError) : Type 0 where
  pub made : IfOk r (λ x. Made old new (step_of seat old (Propose entry)) x.2)
  pub place : IfOk r (λ x. x.0 ≡ length new.log)
  pub term : IfOk r (λ x. x.1 ≡ new.standing.term)
  pub err : OnErr r (new ≡ old)
  pub elsewhere : (r ≡ Err Elsewhere) ↔ (is_leader old.standing.role ≡ false)
  pub full : (entries : ℕ) → (r ≡ Err (Full entries)) ↔ (IsTrue (is_leader old.standing.role) × (length old.log ≡ seat.limit) ×
      (entries ≡ seat.limit))
