-- One step of a core: what comes of an event. Extended Raft paper, Figure 2, "Rules for Servers".
use Rattle.std.specs.Prelude.{ℕ, ◌+◌, ◌-◌, min, Bool, true, false, ◌&&◌, not, nat_eq, nat_lt, if◌then◌else◌, List, [], ◌∷◌, length, Option, Some, None}
use Rattle.ncc_tx.specs.declared.entry.Entry.{Entry}
use Rattle.ncc_tx.specs.declared.entry.Item.{Item}
use Rattle.ncc_raft.specs.declared.message.Envelope.{Envelope}
use Rattle.ncc_raft.specs.declared.message.Body.{Body}
use Rattle.ncc_raft.specs.declared.message.Body.TheVariants.{VoteAsk, VoteReply, Append, AppendReply, Pull}
use Rattle.ncc_raft.specs.declared.message.Note.TheVariants.{Contradicted, Beyond, TermsSpent}
use Rattle.ncc_raft.specs.Member.{Seat, Member, Event, Outcome, Timeout, Beat, Receive, Propose, still, sends, notes, letter, is_core}
use Rattle.ncc_raft.specs.Member.{is_leader, is_candidate}
use Rattle.ncc_raft.specs.Logs.{Conflict}
use Rattle.ncc_raft.specs.Elections.{raised, is_spent, timed_out, asks, may_vote, voted, counted, is_elected, won}
use Rattle.ncc_raft.specs.Appending.{added, append_to, appends, noted, advanced, batch, follows, contradicted, has_prev, took}

-- ---- without a message

abbrev pub on_timeout : Seat → Member → Outcome
on_timeout seat m =
    if is_leader m.role
    then still m
    else (if is_spent m then notes m TermsSpent else sends (timed_out seat m) (asks seat (timed_out seat m)))

abbrev pub on_beat : Seat → Member → Outcome
on_beat seat m = if is_leader m.role then sends m (appends seat m) else still m

-- a leader whose log has room may add an entry
abbrev pub may_add : Seat → Member → Bool
may_add seat m = is_leader m.role && nat_lt (length m.log) seat.limit

abbrev pub on_propose : Seat → Member → Entry → Outcome
on_propose seat m entry = if may_add seat m then sends (added m entry) (appends seat (added m entry)) else still m

-- ---- votes

abbrev pub vote_reply : Seat → Member → ℕ → Bool → Envelope
vote_reply seat m to granted = letter seat.id to (VoteReply m.term granted)

abbrev pub on_vote_ask : Seat → Member → ℕ → ℕ → ℕ → ℕ → Outcome
on_vote_ask seat m from t place last =
    if may_vote m from t place last
    then sends (voted m from) (vote_reply seat m from true ∷ [])
    else sends m (vote_reply seat m from false ∷ [])

-- a candidate that a majority voted for leads
abbrev pub tallied : Seat → Member → Outcome
tallied seat m = if is_elected seat m then sends (won seat m) (appends seat (won seat m)) else still m

abbrev pub on_vote_reply : Seat → Member → ℕ → ℕ → Bool → Outcome
on_vote_reply seat m from t granted =
    if is_candidate m.role && nat_eq m.term t && granted then tallied seat (counted m from) else still m

-- ---- items

abbrev pub append_reply : Seat → Member → ℕ → Bool → ℕ → Envelope
append_reply seat m to has place = letter seat.id to (AppendReply m.term has place)

abbrev pub took_or_not : Seat → Member → ℕ → ℕ → ℕ → ℕ → List Item → Outcome
took_or_not seat m from prev prev_term commit items =
    if has_prev m prev prev_term
    then sends (took m prev commit items) (append_reply seat m from true (prev + length items) ∷ [])
    else sends m (append_reply seat m from false (min (prev - 1) (length m.log)) ∷ [])

abbrev pub unless : Option Conflict → Member → Outcome → Outcome
unless None m o = o
unless (Some x) m o = notes m (Contradicted x.place x.kept x.told)

abbrev pub offered : Seat → Member → ℕ → ℕ → ℕ → ℕ → List Item → Outcome
offered seat m from prev prev_term commit items =
    if nat_lt seat.limit (prev + length items)
    then notes m (Beyond (prev + length items))
    else unless (contradicted m prev prev_term items) m (took_or_not seat m from prev prev_term commit items)

abbrev pub on_append : Seat → Member → ℕ → ℕ → ℕ → ℕ → ℕ → List Item → Outcome
on_append seat m from t prev prev_term commit items =
    if nat_lt t m.term
    then sends m (append_reply seat m from false 0 ∷ [])
    else (if is_leader m.role then still m else offered seat (follows m from) from prev prev_term commit items)

-- a leader that was told no sends once more
abbrev pub answered : Seat → Member → ℕ → Bool → ℕ → Outcome
answered seat m from true place = still (noted m from true place)
answered seat m from false place = sends (noted m from false place) (append_to seat (noted m from false place) from ∷ [])

abbrev pub on_append_reply : Seat → Member → ℕ → ℕ → Bool → ℕ → Outcome
on_append_reply seat m from t has place =
    if is_leader m.role && nat_eq m.term t then answered seat m from has place else still m

-- ---- messages

-- by kind; a core has no use for a Batch
abbrev pub on_body : Seat → Member → ℕ → Body → Outcome
on_body seat m from (VoteAsk t place last) = on_vote_ask seat m from t place last
on_body seat m from (VoteReply t granted) = on_vote_reply seat m from t granted
on_body seat m from (Append t prev prev_term commit items) = on_append seat m from t prev prev_term commit items
on_body seat m from (AppendReply t has place) = on_append_reply seat m from t has place
on_body seat m from (Pull have) = sends m (batch seat m from have ∷ [])
on_body seat m from _ = still m

-- the term of the sender, where the message tells it
abbrev pub term_in : Body → ℕ
term_in (VoteAsk t place last) = t
term_in (VoteReply t granted) = t
term_in (Append t prev prev_term commit items) = t
term_in (AppendReply t has place) = t
term_in _ = 0

-- first of all a later term is taken over
abbrev pub lifted : Member → Body → Member
lifted m body = if nat_lt m.term (term_in body) then raised m (term_in body) else m

-- from whom a core hears a message: anybody else asks for items; of its own it hears votes alone, and all else from the other cores
abbrev pub hears_from : Seat → ℕ → Body → Bool
hears_from seat from (Pull have) = not (nat_eq from seat.id)
hears_from seat from (VoteReply t granted) = is_core seat.cores from
hears_from seat from _ = is_core seat.cores from && not (nat_eq from seat.id)

-- it is for this core, from somebody that it hears
abbrev pub heard : Seat → Envelope → Bool
heard seat e = nat_eq e.to seat.id && hears_from seat e.from e.body

-- ---- the step

-- behind each event of a leader its commit advances
abbrev pub settled : Seat → Outcome → Outcome
settled seat o = if is_leader o.member.role then record o { member = advanced seat o.member } else o

-- what isn't heard changes nothing
unfoldable pub step : Seat → Member → Event → Outcome
step seat m Timeout = settled seat (on_timeout seat m)
step seat m Beat = settled seat (on_beat seat m)
step seat m (Propose entry) = settled seat (on_propose seat m entry)
step seat m (Receive e) = if heard seat e then settled seat (on_body seat (lifted m e.body) e.from e.body) else still m
