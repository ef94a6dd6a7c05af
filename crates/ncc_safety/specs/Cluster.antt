-- The members, all that was sent, the history of all that was applied, and beside them the records of each term.
use Rattle.std.specs.Prelude.{ℕ, ◌+◌, Bool, nat_eq, nat_lt, nat_le, ◌&&◌, max, if◌then◌else◌, List, [], ◌∷◌, ◌++◌, length, map, Option, Some, None}
use Rattle.std.specs.List.{range_with_len}
use Rattle.ncc_tx.specs.declared.entry.Item.{Item}
use Rattle.ncc_raft.specs.declared.message.Envelope.{Envelope}
use Rattle.ncc_raft.specs.Member.{Seat, Member, cores_of, started}
use Rattle.ncc_raft.specs.Appending.{applied}

-- what is noted of each term, by nobody: only sentences read it
pub record Records : Type 0 where
  pub vote : ℕ → ℕ → ℕ  -- of a term and a core: whom it voted for; 0: nobody
  pub vlog : ℕ → ℕ → List Item  -- of a term and a core: its log when it voted
  pub cand : ℕ → ℕ → Option (List Item)  -- of a term and a core: the log with which it stood
  pub owner : ℕ → ℕ  -- of a term: who was elected; 0: nobody
  pub start : ℕ → List Item  -- of a term: its owner's log when it was elected
  pub lead : ℕ → List Item  -- of a term: its owner's longest log as leader
  pub ack : ℕ → ℕ → ℕ  -- of a term and a core: the greatest place that it accepted

pub record Cluster : Type 0 where
  pub cores : ℕ  -- so many, with the numbers from 1 on
  pub replicas : ℕ  -- so many, with the numbers behind those of the cores
  pub limit : ℕ  -- the greatest length of a log, one for all cores
  pub at : ℕ → Member  -- of each core
  pub lists : ℕ → List Item  -- of each replica: what it applied
  pub sent : List Envelope  -- all that was ever sent, in the order of sending
  pub history : List Item
  pub records : Records

-- f, with x at i
unfoldable pub put : {A : Type 0} → (ℕ → A) → ℕ → A → ℕ → A
put f i x j = if nat_eq j i then x else f j

unfoldable pub put2 : {A : Type 0} → (ℕ → ℕ → A) → ℕ → ℕ → A → ℕ → ℕ → A
put2 f t i x = put f t (put (f t) i x)

abbrev pub seat_of : Cluster → ℕ → Seat
seat_of c i = record { id = i; cores = c.cores; limit = c.limit }

abbrev pub is_replica : Cluster → ℕ → Bool
is_replica c j = nat_lt c.cores j && nat_le j (c.cores + c.replicas)

-- ---- changes

-- core i becomes m, all that was sent becomes this, and so do the records
abbrev pub moved : Cluster → ℕ → Member → List Envelope → Records → Cluster
moved c i m sent g = record {
  cores = c.cores;
  replicas = c.replicas;
  limit = c.limit;
  at = put c.at i m;
  lists = c.lists;
  sent = sent;
  history = c.history;
  records = g;
}

-- core i becomes m and sends these, and the records become g
abbrev pub stepped : Cluster → ℕ → Member → List Envelope → Records → Cluster
stepped c i m new g = moved c i m (c.sent ++ new) g

-- core i becomes m
abbrev pub quiet : Cluster → ℕ → Member → Cluster
quiet c i m = moved c i m c.sent c.records

-- no core changes, and no record
abbrev pub beside : Cluster → (ℕ → List Item) → List Envelope → List Item → Cluster
beside c lists sent history = record {
  cores = c.cores;
  replicas = c.replicas;
  limit = c.limit;
  at = c.at;
  lists = lists;
  sent = sent;
  history = history;
  records = c.records;
}

-- these are sent
abbrev pub said : Cluster → List Envelope → Cluster
said c new = beside c c.lists (c.sent ++ new) c.history

-- replica j has this list
abbrev pub listed : Cluster → ℕ → List Item → Cluster
listed c j list = beside c (put c.lists j list) c.sent c.history

-- ---- the history

-- what each member has applied: the cores by number, and then the replicas
abbrev pub all_applied : ℕ → ℕ → (ℕ → Member) → (ℕ → List Item) → List (List Item)
all_applied cores replicas at lists =
    map (λ i. applied (at i)) (cores_of cores) ++ map lists (range_with_len (cores + 1) replicas)

-- the first of the longest among these lists, where it is longer than the history; else the history
unfoldable pub grown : List Item → List (List Item) → List Item
grown history [] = history
grown history (list ∷ lists) = grown (if nat_lt (length history) (length list) then list else history) lists

abbrev pub history_of : Cluster → List Item
history_of c = grown c.history (all_applied c.cores c.replicas c.at c.lists)

-- the history is looked at
abbrev pub looked : Cluster → Cluster
looked c = beside c c.lists c.sent (history_of c)

-- ---- how records change

-- core i stands in term t
abbrev pub stood : Records → ℕ → ℕ → List Item → Records
stood g t i log = record {
  vote = put2 g.vote t i i;
  vlog = put2 g.vlog t i log;
  cand = put2 g.cand t i (Some log);
  owner = g.owner;
  start = g.start;
  lead = g.lead;
  ack = g.ack;
}

-- core i gives its vote in t
abbrev pub given : Records → ℕ → ℕ → ℕ → List Item → Records
given g t i to log = record {
  vote = put2 g.vote t i to;
  vlog = put2 g.vlog t i log;
  cand = g.cand;
  owner = g.owner;
  start = g.start;
  lead = g.lead;
  ack = g.ack;
}

-- core i is elected in t
abbrev pub owned : Records → ℕ → ℕ → List Item → List Item → Records
owned g t i start lead = record {
  vote = g.vote;
  vlog = g.vlog;
  cand = g.cand;
  owner = put g.owner t i;
  start = put g.start t start;
  lead = put g.lead t lead;
  ack = put2 g.ack t i (length lead);
}

-- core i has the log of t up to a place
abbrev pub accepts : Records → ℕ → ℕ → ℕ → Records
accepts g t i place = record {
  vote = g.vote;
  vlog = g.vlog;
  cand = g.cand;
  owner = g.owner;
  start = g.start;
  lead = g.lead;
  ack = put2 g.ack t i (max (g.ack t i) place);
}

-- core i, which leads t, has this log
abbrev pub wrote : Records → ℕ → ℕ → List Item → Records
wrote g t i log = record {
  vote = g.vote;
  vlog = g.vlog;
  cand = g.cand;
  owner = g.owner;
  start = g.start;
  lead = put g.lead t log;
  ack = put2 g.ack t i (length log);
}

-- ---- the start

-- a core that keeps nothing yet
unfoldable pub new_member : ℕ → Member
new_member cores = started cores (record { term = 0; vote = 0; log = [] })

unfoldable pub no_records : Records
no_records = record {
  vote = λ t j. 0;
  vlog = λ t j. [];
  cand = λ t j. None;
  owner = λ t. 0;
  start = λ t. [];
  lead = λ t. [];
  ack = λ t j. 0;
}

abbrev pub start : ℕ → ℕ → ℕ → Cluster
start cores replicas limit = record {
  cores = cores;
  replicas = replicas;
  limit = limit;
  at = λ i. new_member cores;
  lists = λ j. [];
  sent = [];
  history = [];
  records = no_records;
}
