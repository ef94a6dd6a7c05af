-- What may happen in a cluster, and what becomes of it.
use Rattle.std.specs.Prelude.{ℕ, zero, suc, ◌+◌, min, true, ◌&&◌, not, nat_eq, nat_lt, nat_le, if◌then◌else◌, List, [], ◌∷◌, length, take, drop, slice_get, Option, Some, None}
use Rattle.ncc_tx.specs.declared.entry.Entry.{Entry}
use Rattle.ncc_tx.specs.Kept.{term_at}
use Rattle.ncc_raft.specs.declared.message.Envelope.{Envelope}
use Rattle.ncc_raft.specs.declared.message.Body.{Body}
use Rattle.ncc_raft.specs.declared.message.Body.TheVariants.{VoteAsk, VoteReply, Append, AppendReply, Pull, Batch}
use Rattle.ncc_raft.specs.declared.message.Note.{Note}
use Rattle.ncc_raft.specs.declared.message.Note.TheVariants.{Nothing}
use Rattle.ncc_raft.specs.Member.{Member, Outcome, letter, is_core, is_leader, restarted}
use Rattle.ncc_raft.specs.Member as core
use Rattle.ncc_raft.specs.Appending.{applied}
use Rattle.ncc_raft.specs.Step.{step}
use Rattle.ncc_raft.specs.Pulled.{Taken, Grown, taken}
use Rattle.ncc_safety.specs.Cluster.{Records, Cluster, seat_of, is_replica, stepped, quiet, said, listed, looked, stood, given, owned, accepts, wrote}

-- what a member is made to do
pub data Act : Type 0 where
  Timeout : (core : ℕ) → Act
  Beat : (core : ℕ) → Act
  Propose : (core : ℕ) (entry : Entry) → Act
  Deliver : (message : ℕ) → Act  -- the first that was sent is message 1

pub data Event : Type 0 where
  Acts : (act : Act) → Event
  -- a replica asks a core for what is behind its list
  Pulls : (replica core : ℕ) → Event
  -- a core starts again from what it keeps, with a commit up to its own; a replica has nothing then
  Crash : (member commit : ℕ) → Event
  -- it crashes while it acts, and what it keeps is what the act made of it
  Interrupt : (act : Act) (commit : ℕ) → Event
  -- freer than any program: a leader sends any cut of its log, with any commit up to its own
  Send : (core to prev count commit : ℕ) → Event
  -- a core hands any part of what it has applied to a replica
  Serve : (core to before count : ℕ) → Event

-- ---- the records of a core's step

-- its vote in a term
abbrev pub vote_in : Member → ℕ → ℕ
vote_in m t = if nat_eq m.term t then m.vote else 0

-- that it has a log up to a place
abbrev pub accepted_in : Records → ℕ → List Envelope → Records
accepted_in g i [] = g
accepted_in g i (e ∷ es) = accepted_in (tell e.body) i es
  where
    tell : Body → Records
    tell (AppendReply t true place) = accepts g t i place
    tell _ = g

-- by kind of message: a vote that it gives, that it is elected, what it accepts
abbrev pub noted_of : Records → ℕ → Member → Body → Outcome → Records
noted_of g i m (VoteAsk t place last) o =
    if nat_eq o.member.vote (vote_in m o.member.term)
    then g
    else given g o.member.term i o.member.vote o.member.log
noted_of g i m (VoteReply t granted) o =
    if is_leader o.member.role && not (is_leader m.role)
    then owned g o.member.term i m.log o.member.log
    else g
noted_of g i m (Append t prev prev_term commit items) o = accepted_in g i o.sent
noted_of g i m _ o = g

-- core i was m, and this came of an event
abbrev pub recorded : Records → ℕ → Member → core.Event → Outcome → Records
recorded g i m core.Timeout o =
    if nat_lt m.term o.member.term then stood g o.member.term i o.member.log else g
recorded g i m core.Beat o = g
recorded g i m (core.Propose entry) o =
    if nat_lt (length m.log) (length o.member.log) then wrote g o.member.term i o.member.log else g
recorded g i m (core.Receive e) o = noted_of g i m e.body o

-- ---- what happens

abbrev pub after : Cluster → ℕ → core.Event → Outcome → Cluster
after c i event o = stepped c i o.member o.sent (recorded c.records i (c.at i) event o)

-- what comes of an event at core i
abbrev pub outcome : Cluster → ℕ → core.Event → Outcome
outcome c i event = step (seat_of c i) (c.at i) event

abbrev pub steps_at : Cluster → ℕ → core.Event → Cluster
steps_at c i event = after c i event (outcome c i event)

abbrev pub steps_where : Cluster → ℕ → core.Event → Cluster
steps_where c i event = if is_core c.cores i then steps_at c i event else c

abbrev pub extended : Cluster → ℕ → Taken → Cluster
extended c j (Grown log) = listed c j log
extended c j _ = c

-- a replica takes a Batch, and has no use for other messages
abbrev pub takes : Cluster → ℕ → Body → Cluster
takes c j (Batch first items) = extended c j (taken (c.lists j) first items)
takes c j _ = c

abbrev pub message : Cluster → ℕ → Option Envelope
message c zero = None
message c (suc k) = slice_get c.sent k

abbrev pub arrives : Cluster → Option Envelope → Cluster
arrives c None = c
arrives c (Some e) =
    if is_core c.cores e.to
    then steps_at c e.to (core.Receive e)
    else (if is_replica c e.to then takes c e.to e.body else c)

abbrev pub acts : Cluster → Act → Cluster
acts c (Timeout i) = steps_where c i core.Timeout
acts c (Beat i) = steps_where c i core.Beat
acts c (Propose i entry) = steps_where c i (core.Propose entry)
acts c (Deliver n) = arrives c (message c n)

-- who acts, 0 for nobody
abbrev pub receiver : Option Envelope → ℕ
receiver None = 0
receiver (Some e) = e.to

abbrev pub doer : Cluster → Act → ℕ
doer c (Timeout i) = i
doer c (Beat i) = i
doer c (Propose i entry) = i
doer c (Deliver n) = receiver (message c n)

abbrev pub crashes : Cluster → ℕ → ℕ → Cluster
crashes c i commit =
    if is_core c.cores i
    then quiet c i (restarted c.cores commit (c.at i))
    else (if is_replica c i then listed c i [] else c)

-- so many items behind a place, with a commit up to its own
abbrev pub cut_of : Member → ℕ → ℕ → ℕ → Body
cut_of m prev count commit = Append m.term prev (term_at m.log prev) (min commit m.commit) (take count (drop prev m.log))

abbrev pub sends_cut : Cluster → ℕ → ℕ → ℕ → ℕ → ℕ → Cluster
sends_cut c i to prev count commit =
    said c (letter i to (cut_of (c.at i) prev count commit) ∷ [])

abbrev pub serves : Cluster → ℕ → ℕ → ℕ → ℕ → Cluster
serves c i to before count = said c (letter i to (Batch (before + 1) (take count (drop before (applied (c.at i))))) ∷ [])

abbrev pub moves : Cluster → Event → Cluster
moves c (Acts act) = acts c act
moves c (Interrupt act commit) = crashes (acts c act) (doer c act) commit
moves c (Crash i commit) = crashes c i commit
moves c (Pulls j i) =
    if is_replica c j && is_core c.cores i then said c (letter j i (Pull (length (c.lists j))) ∷ []) else c
moves c (Send i to prev count commit) =
    if (is_core c.cores i && is_core c.cores to) && (is_leader (c.at i).role && nat_le prev (length (c.at i).log))
    then sends_cut c i to prev count commit
    else c
moves c (Serve i to before count) = if is_core c.cores i && is_replica c to then serves c i to before count else c

-- after each event the history is looked at
unfoldable pub happens : Cluster → Event → Cluster
happens c event = looked (moves c event)

abbrev pub run : List Event → Cluster → Cluster
run [] c = c
run (e ∷ es) c = run es (happens c e)

-- ---- notes

-- what a core notes at an event, nothing where none acts
abbrev pub note_where : Cluster → ℕ → core.Event → Note
note_where c i event = if is_core c.cores i then (outcome c i event).note else Nothing

abbrev pub note_at : Cluster → Option Envelope → Note
note_at c None = Nothing
note_at c (Some e) = note_where c e.to (core.Receive e)

abbrev pub note_of_act : Cluster → Act → Note
note_of_act c (Timeout i) = note_where c i core.Timeout
note_of_act c (Beat i) = note_where c i core.Beat
note_of_act c (Propose i entry) = note_where c i (core.Propose entry)
note_of_act c (Deliver n) = note_at c (message c n)

abbrev pub note : Cluster → Event → Note
note c (Acts act) = note_of_act c act
note c (Interrupt act commit) = note_of_act c act
note c _ = Nothing
