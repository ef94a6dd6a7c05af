use Rattle.std.proofs.Common.{◌≡◌, ◌≤◌, take}
use Rattle.ncc_clients.specs.Links.{requests_in}
use Rattle.ncc_clients.proofs.link.Link.requests.Given as goal

-- so many of the parcels so far count
abbrev pub invariant-loop-index : goal.invariant-loop-index
invariant-loop-index l = (l.count ≡ requests_in (take l.index l.self.up)) × (l.count ≤ l.index)
