-- A cluster without records, as a world has it, and when it stands for a state of a run.
use Rattle.std.specs.Prelude.{◌≡◌, ℕ, ◌+◌, Bool, true, ◌&&◌, nat_lt, nat_le, List, slice_get, Some}
use Rattle.ncc_tx.specs.declared.entry.Item.{Item}
use Rattle.ncc_raft.specs.declared.message.Envelope.{Envelope}
use Rattle.ncc_raft.specs.Member.{Seat, Member, is_core}
use Rattle.ncc_safety.specs.Cluster.{Cluster, put, all_applied, grown}
use Rattle.ncc_safety.specs.Steps.{Sent, Steps}

pub record Plain : Type 0 where
  pub cores : ℕ
  pub replicas : ℕ
  pub limit : ℕ
  pub at : ℕ → Member
  pub lists : ℕ → List Item
  pub sent : List Envelope
  pub history : List Item

abbrev pub plain_seat : Plain → ℕ → Seat
plain_seat w i = record { id = i; cores = w.cores; limit = w.limit }

abbrev pub plain_replica : Plain → ℕ → Bool
plain_replica w j = nat_lt w.cores j && nat_le j (w.cores + w.replicas)

-- the same members, lists and history, and each of its messages was sent there
pub record Agrees (w : Plain) (c : Cluster) : Type 0 where
  pub cores : c.cores ≡ w.cores
  pub replicas : c.replicas ≡ w.replicas
  pub limit : c.limit ≡ w.limit
  pub at : (i : ℕ) → is_core w.cores i ≡ true → c.at i ≡ w.at i
  pub lists : (j : ℕ) → plain_replica w j ≡ true → c.lists j ≡ w.lists j
  pub sent : (k : ℕ) (e : Envelope) → slice_get w.sent k ≡ Some e → Sent c e
  pub history : c.history ≡ w.history

-- small steps lead on to a state for which it stands
pub record Follows (w : Plain) (c : Cluster) : Type 0 where
  pub to : Cluster
  pub steps : Steps c to
  pub agrees : Agrees w to

-- ---- what a world does

abbrev pub with_core : Plain → ℕ → Member → List Envelope → Plain
with_core w i m sent = record {
  cores = w.cores;
  replicas = w.replicas;
  limit = w.limit;
  at = put w.at i m;
  lists = w.lists;
  sent = sent;
  history = w.history;
}

abbrev pub with_list : Plain → ℕ → List Item → Plain
with_list w j list = record {
  cores = w.cores;
  replicas = w.replicas;
  limit = w.limit;
  at = w.at;
  lists = put w.lists j list;
  sent = w.sent;
  history = w.history;
}

abbrev pub with_sent : Plain → List Envelope → Plain
with_sent w sent = record {
  cores = w.cores;
  replicas = w.replicas;
  limit = w.limit;
  at = w.at;
  lists = w.lists;
  sent = sent;
  history = w.history;
}

abbrev pub looked_at : Plain → Plain
looked_at w = record {
  cores = w.cores;
  replicas = w.replicas;
  limit = w.limit;
  at = w.at;
  lists = w.lists;
  sent = w.sent;
  history = grown w.history (all_applied w.cores w.replicas w.at w.lists);
}
