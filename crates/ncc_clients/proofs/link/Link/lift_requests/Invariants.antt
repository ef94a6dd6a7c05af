use Rattle.std.proofs.Common.{◌≡◌, length}
use Rattle.ncc_clients.specs.Links.{lift_requests, with_first}
use Rattle.ncc_clients.proofs.link.Link.lift_requests.Given as goal

-- what moved, and then what moves of what is left, is what moves of all
abbrev pub invariant-loop-left : goal.invariant-loop-left
invariant-loop-left l =
    (with_first l.moved (lift_requests l.left l.self-inside.up.items)
    ≡ with_first l.initial.moved (lift_requests l.initial.left l.initial.self-inside.up.items))
    × (l.self-inside.conn ≡ l.initial.self-inside.conn) × (l.self-inside.down ≡ l.initial.self-inside.down)

abbrev pub decreases-loop-left : goal.decreases-loop-left
decreases-loop-left l = length l.self-inside.up.items
