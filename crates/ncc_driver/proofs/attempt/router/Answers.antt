use Rattle.ncc_driver.proofs.Picking.{text_there, picks_there}
use Rattle.ncc_driver.proofs.attempt.router.Goals as goal

pub unreachable-requires : goal.unreachable-requires
unreachable-requires c =
    let t = text_there _ _ c.args.connects _ _ c.as_slice-routers.ensures.same c.is_empty.ensures.exact.1 c.if-is_empty.false
    c.index-routers-place.is c.requires.fits in
    c.in_default.not-Text t.0 t.1

pub returns : goal.returns
returns c =
    picks_there _ _ c.args.connects _ _ _ _ c.as_slice-routers.ensures.same c.is_empty.ensures.exact.1 c.if-is_empty.false
    c.index-routers-place.is c.in-Text.is c.in_ok-copy-in-Text.ensures.equal
