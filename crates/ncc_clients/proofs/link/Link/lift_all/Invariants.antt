use Rattle.std.proofs.Common.{◌≡◌, ◌++◌, length}
use Rattle.ncc_clients.specs.Links.{bytes_in}
use Rattle.ncc_clients.proofs.link.Link.lift_all.Given as goal

-- what moved and what is left are all that there was
abbrev pub invariant-loop-parcel : goal.invariant-loop-parcel
invariant-loop-parcel l =
    (l.moved ++ bytes_in l.self-inside.up.items ≡ l.initial.moved ++ bytes_in l.initial.self-inside.up.items)
    × (l.self-inside.conn ≡ l.initial.self-inside.conn) × (l.self-inside.down ≡ l.initial.self-inside.down)

abbrev pub decreases-loop-parcel : goal.decreases-loop-parcel
decreases-loop-parcel l = length l.self-inside.up.items
