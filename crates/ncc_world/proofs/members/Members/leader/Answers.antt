use Rattle.std.proofs.Common.{◌≡◌, List}
use Rattle.ncc_tx.specs.declared.entry.Item.{Item}
use Rattle.ncc_world.specs.Setting.{Seats, over_list, over_raft, cluster_of}
use Rattle.ncc_world.specs.World.{AreMembers}
use Rattle.ncc_world.specs.Parts.{members_in}
use Rattle.ncc_world.proofs.members.Members.leader.Goals as goal

pub returns : goal.returns
returns c = record { leader = go } where
  go : (seats : Seats) (h : List Item) → AreMembers c.args.setup.now (members_in c.args.self.now) seats h
      → c.leader.result ≡ (cluster_of c.args.setup.now).leader seats c.args.member
  go (over_list lists) h k = c.leader.ensures.leader lists
  go (over_raft fleet) h k = absurd k
