-- What a run shows of its members and connections.
use Rattle.std.specs.Prelude.{ℕ, ◌+◌, nat_le, ◌==◌, if◌then◌else◌, List, [], ◌∷◌, ◌++◌, length, map, is_some}
use Rattle.ncc_tx.specs.declared.entry.Item.{Item}
use Rattle.ncc_raft.specs.declared.message.RaftRole.{RaftRole}
use Rattle.ncc_raft.specs.declared.message.RaftRole.TheVariants as role
use Rattle.ncc_raft.specs.Member.{Member}
use Rattle.ncc_raft.specs.Appending.{applied}
use Rattle.ncc_clients.specs.Links.{Ended}
use Rattle.ncc_clients.specs.Run.{Client, out_of, question_of, has_ended}
use Rattle.ncc_world.specs.declared.setup.Setup.{Setup}
use Rattle.ncc_world.specs.declared.seen.Shown.{Shown}
use Rattle.ncc_world.specs.declared.seen.Shown.TheVariants.{Leader, Candidate, Follower, Replica}
use Rattle.ncc_world.specs.declared.seen.MemberSeen.{MemberSeen}
use Rattle.ncc_world.specs.declared.seen.ConnSeen.{ConnSeen}
use Rattle.ncc_world.specs.Setting.{Lists, Seats, over_list, over_raft, cluster_of}
use Rattle.ncc_world.specs.declared.seen.WorkSeen.{WorkSeen}
use Rattle.ncc_world.specs.Happening.{WorldRun}

-- over one list core 1 leads in term 1, the other cores follow, and replicas have term 0
abbrev pub member_seen : Setup → ℕ → List Item → MemberSeen
member_seen s id list =
    if id == 1 then record { id = id; shown = Leader; term = 1; at = length list }
    else if nat_le id s.cores then record { id = id; shown = Follower; term = 1; at = length list }
    else record { id = id; shown = Replica; term = 0; at = length list }

-- from this member on
unfoldable pub members_from : Setup → ℕ → Lists → List MemberSeen
members_from s id [] = []
members_from s id (list ∷ lists) = member_seen s id list ∷ members_from s (id + 1) lists

-- ---- over Raft a core shows its role, its term and what it has applied, and a replica what it has

abbrev pub shown_as : RaftRole → Shown
shown_as role.Leader = Leader
shown_as role.Candidate = Candidate
shown_as role.Follower = Follower

abbrev pub core_seen : ℕ → Member → MemberSeen
core_seen id m = record { id = id; shown = shown_as m.role; term = m.term; at = length (applied m) }

abbrev pub replica_seen : ℕ → List Item → MemberSeen
replica_seen id list = record { id = id; shown = Replica; term = 0; at = length list }

-- from this member on
unfoldable pub cores_from : ℕ → List Member → List MemberSeen
cores_from id [] = []
cores_from id (m ∷ ms) = core_seen id m ∷ cores_from (id + 1) ms

unfoldable pub replicas_from : ℕ → Lists → List MemberSeen
replicas_from id [] = []
replicas_from id (list ∷ lists) = replica_seen id list ∷ replicas_from (id + 1) lists

abbrev pub seats_seen : Setup → Seats → List MemberSeen
seats_seen s (over_list lists) = members_from s 1 lists
seats_seen s (over_raft fleet) = cores_from 1 fleet.cores ++ replicas_from (s.cores + 1) fleet.lists

abbrev pub members_of : Setup → WorldRun → List MemberSeen
members_of s r = seats_seen s r.members

abbrev pub conn_seen : Setup → Client → ConnSeen
conn_seen s c = record {
  conn = c.number;
  member = c.member;
  waiting = is_some (question_of (cluster_of s) c);
  ended = has_ended (cluster_of s) c;
  printed = c.printed;
  out = out_of (cluster_of s) c;
}

abbrev pub conns_of : Setup → WorldRun → List ConnSeen
conns_of s r = map (conn_seen s) r.clients

-- a work that ended: sessions are numbered from 1
abbrev pub work_seen : Ended → WorkSeen
work_seen e = record { line = e.line; session = e.session + 1; result = e.result }

abbrev pub works_of : WorldRun → List WorkSeen
works_of r = map work_seen r.driving.ended
