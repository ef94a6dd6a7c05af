use Rattle.std.proofs.Common.{◌≡◌, length}
use Rattle.ncc_clients.specs.Links.{lift_bytes, with_first}
use Rattle.ncc_clients.proofs.link.Link.lift_bytes.Given as goal

-- what moved, and then what moves of what is left, is what moves of all
abbrev pub invariant-loop-parcel : goal.invariant-loop-parcel
invariant-loop-parcel l =
    (with_first l.moved (lift_bytes l.left l.self-inside.up.items)
    ≡ with_first l.initial.moved (lift_bytes l.initial.left l.initial.self-inside.up.items))
    × (l.self-inside.conn ≡ l.initial.self-inside.conn) × (l.self-inside.down ≡ l.initial.self-inside.down)

abbrev pub decreases-loop-parcel : goal.decreases-loop-parcel
decreases-loop-parcel l = length l.self-inside.up.items
