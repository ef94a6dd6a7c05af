use Rattle.std.proofs.Common.{◌≡◌, List, [], length, get_or}
use Rattle.ncc_tx.specs.declared.entry.Item.{Item}
use Rattle.ncc_world.specs.declared.setup.Setup.{Setup}
use Rattle.ncc_world.specs.Setting.{Seats, over_list, over_raft, lists_of}
use Rattle.ncc_world.specs.World.{AreMembers}
use Rattle.ncc_world.specs.Parts.{members_in}
use Rattle.ncc_world.proofs.members.Members.at.Goals as goal

pub returns : goal.returns
returns c = record { at = go } where
  none : List Item
  none = []

  go : (s : Setup) (seats : Seats) (h : List Item) → AreMembers s (members_in c.args.self.now) seats h
      → c.at.result ≡ length (get_or (lists_of seats) c.args.index none)
  go s (over_list lists) h k = c.at.ensures.at s lists k.0
  go s (over_raft fleet) h k = absurd k
