use Rattle.std.proofs.Common.{◌≡◌, ◌∙◌, List}
use Rattle.ncc_tx.specs.declared.entry.Item.{Item}
use Rattle.ncc_world.specs.declared.setup.Setup.{Setup}
use Rattle.ncc_world.specs.Setting.{Seats, over_list, over_raft}
use Rattle.ncc_world.specs.World.{AreMembers}
use Rattle.ncc_world.specs.Parts.{members_in}
use Rattle.ncc_world.proofs.members.Members.history.Goals as goal

pub returns : goal.returns
returns c = record { allowed = c.entries.ensures.allowed; history = go } where
  go : (s : Setup) (seats : Seats) (h : List Item) → AreMembers s (members_in c.args.self.now) seats h → c.entries.result.now ≡ h
  go s (over_list lists) h k = c.entries.ensures.same ∙ k.1
  go s (over_raft fleet) h k = absurd k
