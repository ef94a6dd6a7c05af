use Rattle.std.proofs.Common.{◌≡◌, List}
use Rattle.ncc_tx.specs.declared.entry.Item.{Item}
use Rattle.ncc_world.specs.declared.setup.Setup.{Setup}
use Rattle.ncc_world.specs.Setting.{Seats, over_list, over_raft, cluster_of}
use Rattle.ncc_world.specs.World.{AreMembers}
use Rattle.ncc_world.specs.Parts.{members_in}
use Rattle.ncc_world.proofs.members.Members.leads.Goals as goal

pub returns : goal.returns
returns c = record { leads = go } where
  go : (s : Setup) (seats : Seats) (h : List Item) → AreMembers s (members_in c.args.self.now) seats h
      → c.leads.result ≡ (cluster_of s).leads seats c.args.member
  go s (over_list lists) h k = c.leads.ensures.leads s lists
  go s (over_raft fleet) h k = absurd k
