use Rattle.std.proofs.Common.{List}
use Rattle.ncc_tx.specs.declared.entry.Item.{Item}
use Rattle.ncc_clients.specs.Members.{Proposed}
use Rattle.ncc_clients.specs.Four.{Begins}
use Rattle.ncc_world.specs.declared.setup.Setup.{Setup}
use Rattle.ncc_world.specs.declared.proposal.Proposal.{Proposal}
use Rattle.ncc_world.specs.declared.members.Members.{Members}
use Rattle.ncc_world.specs.Setting.{Lists, Seats, over_list, over_raft, cluster_of}
use Rattle.ncc_world.specs.World.{KeptMembers, AreMembers, AreOneList}
use Rattle.ncc_world.specs.Parts.{HasList, IsOffered, IsProposed, members_in, list_in}
use Rattle.ncc_world.proofs.Offering.{if_ok_both, was_offered}
use Rattle.ncc_world.proofs.members.Members.propose.Goals as goal

has_list : (s : Setup) (m : Members) (seats : Seats) (h : List Item) → AreMembers s (members_in m) seats h → HasList s m.list
has_list s m (over_list lists) h k = record { lists = lists; are = k.0 }
has_list s m (over_raft fleet) h k = absurd k

pub propose-requires-clause-lists : goal.propose-requires-clause-lists
propose-requires-clause-lists c =
    let h = c.requires.seats in has_list c.args.setup.now c.args.self.now h.seats h.history h.are

pub returns : goal.returns
returns c = record {
  ok = if_ok_both _ _ _ (λ p f g seats h k. go p f g seats h k) c.propose.result c.propose.ensures.ok c.propose.ensures.only_grows;
} where
  s : Setup
  s = c.args.setup.now

  old : KeptMembers
  old = members_in c.args.self.now

  new : KeptMembers
  new = list_in c.propose.new.self

  X : Seats → Proposed Seats
  X seats = (cluster_of s).propose seats c.args.member c.args.entry.now

  go : (p : Proposal) → ((lists : Lists) → AreOneList s old lists → IsOffered s lists (X (over_list lists)) p new)
      → Begins old.items new.items → (seats : Seats) (h : List Item) → AreMembers s old seats h → IsProposed s seats h (X seats) p new
  go p f g (over_list lists) h k = was_offered s lists h c.args.member c.args.entry.now p old new k.0 k.1 g (f lists k.0)
  go p f g (over_raft fleet) h k = absurd k
