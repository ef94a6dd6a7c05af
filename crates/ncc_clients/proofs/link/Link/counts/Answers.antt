use Rattle.std.proofs.Common.{◌≡◌, ◌+◌, ◌<◌, suc, if◌then◌else◌, length, take, subst, sym}
use Rattle.ncc_clients.specs.Links.{Link, requests_in}
use Rattle.ncc_clients.proofs.Parcels.{one_more, there}
use Rattle.ncc_clients.proofs.link.Link.counts.Goals as goal

pub returns-in-Some : goal.returns-in-Some
returns-in-Some c =
    let here = subst (λ (l : Link). c.args.index < length l.up) (sym c.self.view_is) c.requires.there in
    subst (λ (l : Link). requests_in (take (c.args.index + 1) l.up)
    ≡ (if c.counts.result then suc (requests_in (take c.args.index l.up)) else requests_in (take c.args.index l.up)))
    c.self.view_is
    (one_more c.self.inside.up.items c.args.index c.in-Some.parcel.now c.counts.result
    (there c.self.inside.up.items c.args.index c.in-Some.parcel.now here c.in-Some.ensures.lookup) c.counts.ensures.exact)
