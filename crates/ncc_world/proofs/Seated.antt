-- What is kept of members, whichever they are.
use Rattle.std.proofs.Common.{◌≡◌, List, length}
use Rattle.ncc_tx.specs.declared.entry.Item.{Item}
use Rattle.ncc_world.specs.declared.setup.Setup.{Setup}
use Rattle.ncc_world.specs.Setting.{Seats, over_list, over_raft, lists_of}
use Rattle.ncc_world.specs.World.{KeptMembers, AreMembers}
use Rattle.ncc_world.proofs.Listing.{shelf_count}

-- as many shelves as members
pub shelves_count : (s : Setup) (m : KeptMembers) (seats : Seats) (history : List Item) → AreMembers s m seats history
    → length m.shelves ≡ length (lists_of seats)
shelves_count s m (over_list lists) history k = shelf_count m.items m.shelves lists k.0.shelves
shelves_count s m (over_raft fleet) history k = absurd k
