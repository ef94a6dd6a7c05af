use Rattle.std.proofs.Common.{◌≡◌, ◌<◌, List}
use Rattle.ncc_tx.specs.declared.entry.Item.{Item}
use Rattle.ncc_world.specs.declared.setup.Setup.{Setup}
use Rattle.ncc_world.specs.declared.members.Members.{Members}
use Rattle.ncc_world.specs.Setting.{Lists, Seats, over_list, over_raft, lagging}
use Rattle.ncc_world.specs.Happening.{lagged}
use Rattle.ncc_world.specs.World.{KeptMembers, AreMembers, AreOneList}
use Rattle.ncc_world.specs.Parts.{BecomeMembers, HasList, members_in, list_in}
use Rattle.ncc_world.proofs.Offering.{has_lagged, on_ok_both}
use Rattle.ncc_world.proofs.members.Members.apply.Goals as goal

has_list : (s : Setup) (m : Members) (seats : Seats) (h : List Item) → AreMembers s (members_in m) seats h → HasList s m.list
has_list s m (over_list lists) h k = record { lists = lists; are = k.0 }
has_list s m (over_raft fleet) h k = absurd k

pub apply-requires-clause-lists : goal.apply-requires-clause-lists
apply-requires-clause-lists c =
    let h = c.requires.seats.1 in (c.requires.seats.0, has_list c.requires.seats.0 c.args.self.now h.seats h.history h.are)

pub returns : goal.returns
returns c = record {
  ok = on_ok_both _ _ _ (λ f g s seats h k. go f g s seats h k) c.apply.result c.apply.ensures.ok c.apply.ensures.same;
} where
  old : KeptMembers
  old = members_in c.args.self.now

  new : KeptMembers
  new = list_in c.apply.new.self

  go : ((s : Setup) (lists : Lists) → AreOneList s old lists → 1 < c.args.member
      → AreOneList s new (lagging lists c.args.member c.args.count))
      → new.items ≡ old.items → (s : Setup) (seats : Seats) (h : List Item) → AreMembers s old seats h
      → BecomeMembers s new seats h (lagged seats c.args.member c.args.count)
  go f g s (over_list lists) h k =
      has_lagged s lists h c.args.member c.args.count old new k.0 k.1 g (f s lists k.0 c.requires.there.0)
  go f g s (over_raft fleet) h k = absurd k
