use Rattle.std.proofs.Common.{[], subst, sym}
use Rattle.ncc_client.specs.Calls.{MakesMore}
use Rattle.ncc_client.proofs.Lists.{makes_none, clock_none}
use Rattle.ncc_client.proofs.Going.{nothing_came, this_came, end_came, quiet, told, stops_here, stops_ended, stops_broken, hand_later, hand_stands}
use Rattle.ncc_client.proofs.Ahead.{quiet_ahead, told_ahead, none_left, end_fits_in}
use Rattle.ncc_client.proofs.working.turn.Goals as goal

pub on-requires-clause-later : goal.on-requires-clause-later
on-requires-clause-later g c = hand_later _ _ _ _ _ _ _ c.requires.at c.in-Some.ensures.some c.now-now.ensures.no_less

pub on-requires-clause-stands : goal.on-requires-clause-stands
on-requires-clause-stands g c = hand_stands _ _ _ _ _ _ c.requires.at c.in-Some.ensures.some c.requires.stands

pub returns-in-Ok-Nothing-clause-ok : goal.returns-in-Ok-Nothing-clause-ok
returns-in-Ok-Nothing-clause-ok g c = quiet _ _ _ _ _ _ _ _ c.in-Some.ensures.some
    (nothing_came _ _ _ _ _ c.in-Ok-Nothing.field-0-is c.in-Ok-Nothing.ensures.ok) (clock_none _)

pub returns-in-Ok-Nothing-clause-stands : goal.returns-in-Ok-Nothing-clause-stands
returns-in-Ok-Nothing-clause-stands g c = hand_stands _ _ _ _ _ _ c.requires.at c.in-Some.ensures.some c.requires.stands

pub returns-in-Ok-clause-ok : goal.returns-in-Ok-clause-ok
returns-in-Ok-clause-ok g c = told _ _ _ _ _ _ _ _ _ _ _ _ c.in-Some.ensures.some
    (this_came _ _ _ _ _ _ c.in-Ok-Given.field-0-is c.in-Ok-Given.ensures.ok) c.now-now.ensures.told c.in-Ok.ensures.ok c.in-Ok.ensures.stands

pub returns-in-Err-on-clause-err : goal.returns-in-Err-on-clause-err
returns-in-Err-on-clause-err g c = stops_broken _ _ _ _ _ _ _ _ _ _ _ c.in-Some.ensures.some
    (this_came _ _ _ _ _ _ c.in-Ok-Given.field-0-is c.in-Ok-Given.ensures.ok) c.now-now.ensures.told c.in-Err-on.ensures.err

pub returns-in-Ok-Ended-clause-err : goal.returns-in-Ok-Ended-clause-err
returns-in-Ok-Ended-clause-err g c =
    let k = end_came _ _ _ _ _ _ c.in-Ok-Ended.field-0-is c.in-Ok-Ended.ensures.ok in
    stops_ended _ _ _ _ _ _ _ _ _
    (subst (λ x. MakesMore (g.L.Links.calls c.args.links.now) (g.L.Links.calls x) []) (sym k.1) (makes_none _)) (clock_none _)
    c.in-Some.ensures.some k.0

pub returns-in-Err-clause-err : goal.returns-in-Err-clause-err
returns-in-Err-clause-err g c =
    stops_here _ _ _ _ _ _
    (subst (λ x. MakesMore (g.L.Links.calls c.args.links.now) (g.L.Links.calls x) []) (sym c.in-Err.ensures.err) (makes_none _))
    (clock_none _)

pub returns-in-Ok-Nothing-clause-more : goal.returns-in-Ok-Nothing-clause-more
returns-in-Ok-Nothing-clause-more g c = quiet_ahead _ _ _ _ _ _ _ _ c.requires.at c.in-Some.ensures.some
    (nothing_came _ _ _ _ _ c.in-Ok-Nothing.field-0-is c.in-Ok-Nothing.ensures.ok)

pub returns-in-Ok-clause-more : goal.returns-in-Ok-clause-more
returns-in-Ok-clause-more g c = told_ahead _ _ _ _ _ _ _ _ _ _ _ c.requires.at c.in-Some.ensures.some
    (this_came _ _ _ _ _ _ c.in-Ok-Given.field-0-is c.in-Ok-Given.ensures.ok) c.in-Ok.ensures.ok

pub returns-in-Ok-Ended-clause-fits : goal.returns-in-Ok-Ended-clause-fits
returns-in-Ok-Ended-clause-fits g c =
    end_fits_in _ _ (end_came _ _ _ _ _ _ c.in-Ok-Ended.field-0-is c.in-Ok-Ended.ensures.ok).0 c.in-Some.ensures.fits

pub unreachable-requires : goal.unreachable-requires
unreachable-requires g c = c.requires.more (none_left _ _ _ _ c.requires.at c.in-None.ensures.all)
