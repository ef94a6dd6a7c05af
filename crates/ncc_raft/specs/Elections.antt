-- Elections. Extended Raft paper, Figure 2, "Rules for Servers: Candidates", "RequestVote RPC"; section 8 for the empty entry.
use Rattle.std.specs.Prelude.{ℕ, ◌+◌, Bool, true, false, ◌&&◌, ◌||◌, nat_eq, nat_lt, if◌then◌else◌, List, [], ◌∷◌, ◌++◌, length, map, replicate}
use Rattle.ncc_tx.specs.declared.entry.Item.{Item}
use Rattle.ncc_tx.specs.declared.entry.Entry.TheVariants.{Noop}
use Rattle.ncc_tx.specs.Kept.{term_limit}
use Rattle.ncc_raft.specs.declared.message.Envelope.{Envelope}
use Rattle.ncc_raft.specs.declared.message.Body.TheVariants.{VoteAsk, VoteReply}
use Rattle.ncc_raft.specs.declared.message.RaftRole.TheVariants.{Leader, Candidate, Follower}
use Rattle.ncc_raft.specs.Member.{Seat, Member, letter, cores_of, majority, has_vote_of, with_slot}
use Rattle.ncc_raft.specs.Logs.{last_term, up_to_date}

-- a message of a later term: it takes that term, follows, and knows neither a vote nor a leader in it
abbrev pub raised : Member → ℕ → Member
raised m t = record m { term = t; vote = 0; role = Follower; leader = 0 }

-- no term is left
abbrev pub is_spent : Member → Bool
is_spent m = nat_lt term_limit (m.term + 2)

-- it stands for the next term, and votes for itself
abbrev pub timed_out : Seat → Member → Member
timed_out seat m = record m { term = m.term + 1; vote = seat.id; role = Candidate; leader = 0; votes = replicate seat.cores false }

-- to itself its own vote, to each other core the question
abbrev pub ask_to : Seat → Member → ℕ → Envelope
ask_to seat m core =
    letter seat.id core (if nat_eq core seat.id then VoteReply m.term true else VoteAsk m.term (length m.log) (last_term m.log))

abbrev pub asks : Seat → Member → List Envelope
asks seat m = map (ask_to seat m) (cores_of seat.cores)

-- it is of that term, has given no other core its vote in it, and the candidate's log is at least as up to date
abbrev pub may_vote : Member → ℕ → ℕ → ℕ → ℕ → Bool
may_vote m from t place last = nat_eq m.term t && (nat_eq m.vote 0 || nat_eq m.vote from) && up_to_date place last m.log

abbrev pub voted : Member → ℕ → Member
voted m from = record m { vote = from }

abbrev pub counted : Member → ℕ → Member
counted m from = record m { votes = with_slot m.votes from true }

abbrev pub is_elected : Seat → Member → Bool
is_elected seat m = majority seat.cores (has_vote_of m)

-- the empty entry of a new leader, where its log has room for it
abbrev pub noop_of : Seat → Member → List Item
noop_of seat m = if nat_lt (length m.log) seat.limit then record { term = m.term; entry = Noop } ∷ [] else []

-- it leads: it knows of nobody that has its log, and sends from behind its end, as it was before the empty entry
abbrev pub won : Seat → Member → Member
won seat m = record m {
  role = Leader;
  leader = seat.id;
  log = m.log ++ noop_of seat m;
  next = replicate seat.cores (length m.log + 1);
  match = replicate seat.cores 0;
}
