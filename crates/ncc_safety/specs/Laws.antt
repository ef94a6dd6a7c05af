-- The laws of a cluster, of every number of cores and replicas, every limit and every list of events: what is so at one moment of a run
-- against what is so then or at a later one.
use Rattle.std.specs.Prelude.{◌≡◌, ℕ, suc, ◌≤◌, Bool, true, false, ◌&&◌, ◌||◌, nat_eq, nat_le, if◌then◌else◌, List, [], ◌∷◌, ◌++◌, take, slice_get, Some}
use Rattle.ncc_tx.specs.declared.entry.Item.{Item}
use Rattle.ncc_raft.specs.declared.message.Envelope.{Envelope}
use Rattle.ncc_raft.specs.declared.message.Body.{Body}
use Rattle.ncc_raft.specs.declared.message.Body.TheVariants.{AppendReply, Append, Batch}
use Rattle.ncc_raft.specs.declared.message.Note.{Note}
use Rattle.ncc_raft.specs.declared.message.Note.TheVariants as notes
use Rattle.ncc_raft.specs.declared.message.RaftRole.TheVariants.{Leader}
use Rattle.ncc_raft.specs.Member.{letter, majority, is_core}
use Rattle.ncc_raft.specs.Appending.{applied}
use Rattle.ncc_raft.specs.Pulled.{Taken, Contradicted, taken}
use Rattle.ncc_safety.specs.Lists.{Begins, OneLine, IsCut}
use Rattle.ncc_safety.specs.Cluster.{Records, Cluster, is_replica, start}
use Rattle.ncc_safety.specs.Nine.{Logs, Candidates, Votes, Owners, Cuts, Tells, Acks, Commits, Fronts}
use Rattle.ncc_safety.specs.Run.{Event, note, run}
use Rattle.ncc_safety.specs.Steps.{Sent}

-- of each moment of each run, and each that is no earlier
abbrev pub OverTime : (Cluster → Cluster → Type 0) → Type 0
OverTime P = (cores replicas limit : ℕ) (early late : List Event) →
    P (run early (start cores replicas limit)) (run (early ++ late) (start cores replicas limit))

-- of each moment of each run
abbrev pub Always : (Cluster → Type 0) → Type 0
Always P = (cores replicas limit : ℕ) (events : List Event) → P (run events (start cores replicas limit))

-- core i leads term t
abbrev pub Leads : Cluster → ℕ → ℕ → Type 0
Leads c t i = ((c.at i).role ≡ Leader) × ((c.at i).term ≡ t)

-- ---- 1: a term has one owner

abbrev pub OneLeader : Cluster → Cluster → Type 0
OneLeader c d = (t i j : ℕ) → Leads c t i → Leads d t j → i ≡ j

-- and its log only grows in its term
abbrev pub LeaderGrows : Cluster → Cluster → Type 0
LeaderGrows c d = (t i : ℕ) → Leads c t i → Leads d t i → Begins (c.at i).log (d.at i).log

pub record Elected (c : Cluster) : Type 0 where
  pub candidates : Candidates c
  pub votes : Votes c
  pub owners : Owners c.cores c.records

-- ---- 2: logs match

-- where two logs have items of one term at a place, they are equal up to it
abbrev pub LogsMatch : Cluster → Cluster → Type 0
LogsMatch c d = (i j k : ℕ) (x y : Item) →
    slice_get (c.at i).log k ≡ Some x → slice_get (d.at j).log k ≡ Some y → x.term ≡ y.term →
    take (suc k) (c.at i).log ≡ take (suc k) (d.at j).log

-- the items of an Append stand in the log of who leads its term, then or later, at their places
abbrev pub AppendsCut : Cluster → Cluster → Type 0
AppendsCut c d = Cuts c × ((i to t prev prev_term commit : ℕ) (items : List Item) (j : ℕ) →
    Sent c (letter i to (Append t prev prev_term commit items)) → Leads d t j → IsCut (d.at j).log prev items)

pub record Matched (c : Cluster) : Type 0 where
  pub logs : Logs c
  pub cuts : Cuts c
  pub acks : Acks c

-- ---- 3: what was chosen stays

-- a yes of term t to a place that is no smaller
abbrev pub is_yes : ℕ → ℕ → Body → Bool
is_yes t place (AppendReply u true p) = nat_eq u t && nat_le place p
is_yes t place _ = false

-- core j has sent one
abbrev pub said_yes : ℕ → ℕ → List Envelope → ℕ → Bool
said_yes t place [] j = false
said_yes t place (e ∷ es) j = (nat_eq e.from j && is_yes t place e.body) || said_yes t place es j

-- a core leads t with an item of t as the one behind k items, and it and those that said yes to it are a majority
pub record Told (c : Cluster) (t i k : ℕ) : Type 0 where
  pub leads : Leads c t i
  pub item : Item
  pub there : slice_get (c.at i).log k ≡ Some item
  pub own : item.term ≡ t
  pub many : majority c.cores (λ j. nat_eq j i || said_yes t (suc k) c.sent j) ≡ true

-- then each core that leads that term or a later one, then or later, has that log up to there
abbrev pub ChosenStays : Cluster → Cluster → Type 0
ChosenStays c d = (t i k u j : ℕ) → Told c t i k → t ≤ u → Leads d u j →
    take (suc k) (c.at i).log ≡ take (suc k) (d.at j).log

-- ---- 4: one history

-- what a core or a replica has applied
abbrev pub applied_by : Cluster → ℕ → List Item
applied_by c i = if is_core c.cores i then applied (c.at i) else c.lists i

abbrev pub AllOneLine : Cluster → Cluster → Type 0
AllOneLine c d = (i j : ℕ) → OneLine (applied_by c i) (applied_by d j)

abbrev pub InHistory : Cluster → Cluster → Type 0
InHistory c d = (i : ℕ) → (is_core c.cores i || is_replica c i) ≡ true → Begins (applied_by c i) d.history

abbrev pub HistoryGrows : Cluster → Cluster → Type 0
HistoryGrows c d = Begins c.history d.history

-- a core noted nothing, or that the terms are spent
abbrev pub IsHarmless : Note → Type 0
IsHarmless notes.Nothing = Unit {0}
IsHarmless notes.TermsSpent = Unit {0}
IsHarmless _ = ⊥

-- whatever happens next
abbrev pub NeverNoted : Cluster → Type 0
NeverNoted c = (event : Event) → IsHarmless (note c event)

abbrev pub IsContradicted : Taken → Type 0
IsContradicted (Contradicted x) = Unit {0}
IsContradicted _ = ⊥

-- at no replica, whomever it was for
abbrev pub NeverRefused : Cluster → Type 0
NeverRefused c = (i to first : ℕ) (items : List Item) (j : ℕ) →
    Sent c (letter i to (Batch first items)) → IsContradicted (taken (c.lists j) first items) → ⊥

pub record Applied (c : Cluster) : Type 0 where
  pub tells : Tells c
  pub commits : Commits c
  pub fronts : Fronts c

-- ---- the records are beside

abbrev pub with_records : Cluster → Records → Cluster
with_records c g = record {
  cores = c.cores;
  replicas = c.replicas;
  limit = c.limit;
  at = c.at;
  lists = c.lists;
  sent = c.sent;
  history = c.history;
  records = g;
}

-- they differ in records alone
abbrev pub SameButRecords : Cluster → Cluster → Type 0
SameButRecords c d = (g : Records) × (d ≡ with_records c g)

-- and then they do after the same events
abbrev pub RecordsBeside : Type 0
RecordsBeside = (c d : Cluster) (events : List Event) → SameButRecords c d → SameButRecords (run events c) (run events d)
