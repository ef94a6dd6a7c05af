use Rattle.std.proofs.Common.{◌≡◌, ◌∙◌, ap, List}
use Rattle.ncc_tx.specs.declared.entry.Item.{Item}
use Rattle.ncc_tx.specs.State.{stamps}
use Rattle.ncc_apply.specs.View.{stamp_of}
use Rattle.ncc_world.specs.declared.setup.Setup.{Setup}
use Rattle.ncc_world.specs.Setting.{Seats, over_list, over_raft}
use Rattle.ncc_world.specs.World.{AreMembers}
use Rattle.ncc_world.specs.Parts.{members_in}
use Rattle.ncc_world.proofs.members.Members.stamp.Goals as goal

pub returns : goal.returns
returns c = record { stamp = go } where
  go : (s : Setup) (seats : Seats) (h : List Item) → AreMembers s (members_in c.args.self.now) seats h
      → c.stamp.result ≡ stamp_of c.args.place (stamps h)
  go s (over_list lists) h k = c.stamp.ensures.stamp s lists k.0 ∙ ap (λ (l : List Item). stamp_of c.args.place (stamps l)) k.1
  go s (over_raft fleet) h k = absurd k
