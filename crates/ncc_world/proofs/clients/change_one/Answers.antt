use Rattle.std.proofs.Common.{subst, sym}
use Rattle.ncc_world.specs.Parts.{Lowers, changed, left_at}
use Rattle.ncc_world.proofs.clients.change_one.Goals as goal

pub returns-clause-ok : goal.returns-clause-ok
returns-clause-ok c = λ s d k.
    c.in_ok-show.ensures.ok s (changed s c.args.now d c.args.what) (c.in_ok-alter.ensures.ok s c.args.seen.now d k.kept)

pub returns-clause-lowers : goal.returns-clause-lowers
returns-clause-lowers c =
    let v = c.args.served.now in
    subst (λ n. Lowers c.args.what v.placing (left_at v) n) (sym c.in_ok-show.ensures.left) c.in_ok-alter.ensures.lowers
