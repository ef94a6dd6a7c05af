-- The members of a cluster as clients see them, whatever they are and however they agree.
use Rattle.std.specs.Prelude.{ℕ, zero, suc, ◌+◌, ◌-◌, nat_lt, if◌then◌else◌, Bool, List, [], ◌∷◌, ◌++◌, length, codes, decimal, slice_index_or}
use Rattle.ncc_pack.specs.declared.value.Value.{Value}
use Rattle.ncc_pack.specs.declared.value.Value.TheVariants as v
use Rattle.ncc_route.specs.declared.auth.Auth.TheVariants.{Nobody}
use Rattle.ncc_tx.specs.declared.entry.Entry.{Entry}
use Rattle.ncc_tx.specs.declared.entry.Item.{Item}
use Rattle.ncc_session.specs.declared.config.ConnConfig.{ConnConfig}

-- what becomes of an entry that is proposed at a member
pub data Proposed (S : Type 0) : Type 0 where
  -- the member does not lead
  elsewhere : Proposed S
  -- it leads, and its log has so many entries, as many as it may have
  full : ℕ → Proposed S
  -- its log has the entry behind its last, at this place and in this term; then the members are these
  placed : ℕ → ℕ → S → Proposed S

-- how many members there are, what connections are told, and the four views of a member: what it has applied, whether it leads,
-- whom it knows as leader, and what proposing an entry does
pub record Cluster (S : Type 0) : Type 1 where
  pub cores : ℕ
  pub replicas : ℕ
  pub id : ℕ
  -- how long a question may wait, in milliseconds
  pub wait : ℕ
  -- what each member has applied, member 1 first
  pub lists : S → List (List Item)
  pub leads : S → ℕ → Bool
  -- 0 for nobody
  pub leader : S → ℕ → ℕ
  pub propose : S → ℕ → Entry → Proposed S
  -- what else the members do, by themselves or as they are told to
  pub Moves : S → S → Type 0
  -- a member, by its number, starts again, and may have applied less than before
  pub Restarts : S → ℕ → S → Type 0

-- the list that a member, numbered from 1, has applied
abbrev pub applied : {S : Type 0} → Cluster S → S → ℕ → List Item
applied C s member = slice_index_or (C.lists s) (member - 1) []

-- how many entries it has applied
abbrev pub at_of : {S : Type 0} → Cluster S → S → ℕ → ℕ
at_of C s member = length (applied C s member)

-- the history, looked at again: the first applied list of greatest length, where that is longer
unfoldable pub longest : List Item → List (List Item) → List Item
longest history [] = history
longest history (list ∷ lists) = longest (if nat_lt (length history) (length list) then list else history) lists

-- ---- what a connection is told of them

-- the address of a member: `nM:7687`
abbrev pub address : ℕ → Value
address member = v.Text (codes "n" ++ decimal member ++ codes ":7687")

-- of so many members from this one on
unfoldable pub addresses : ℕ → ℕ → List Value
addresses zero member = []
addresses (suc count) member = address member ∷ addresses count (member + 1)

-- for how many seconds a routing table may be used
abbrev pub ttl : ℕ
ttl = 300

-- anybody may log in
abbrev pub config_of : {S : Type 0} → Cluster S → ℕ → ConnConfig
config_of C number = record {
  conn = number;
  auth = Nobody;
  members = record { cluster = C.id; cores = addresses C.cores 1; replicas = addresses C.replicas (C.cores + 1) };
  ttl = ttl;
}
