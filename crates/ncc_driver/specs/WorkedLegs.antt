-- Worked examples of what is sent on a link.
use Rattle.std.specs.Prelude.{◌≡◌, pos, List, [], ◌∷◌, ◌++◌}
use Rattle.ncc_pack.specs.declared.value.Value.TheVariants as v
use Rattle.ncc_bolt.specs.declared.message.Request.TheVariants as r
use Rattle.ncc_route.specs.declared.auth.Auth.TheVariants.{Nobody}
use Rattle.ncc_driver.specs.declared.action.Action.TheVariants.{Connect}
use Rattle.ncc_driver.specs.Work.{Row}
use Rattle.ncc_driver.specs.Requests.{shakes, asks, closes, hello, route}
use Rattle.ncc_driver.specs.LawsLegs.{routing_leg, working_leg, on_link, sent_since}
use Rattle.ncc_driver.specs.Worked.{n1, n2, put_pair, count_up, put_done, commit_at}

-- a row of one number
abbrev pub counted : List Row
counted = (v.Int (pos 1) ∷ []) ∷ []

-- What the count whose link breaks during COMMIT sent on that link is all of a transaction but GOODBYE.
abbrev pub BrokenLinkSent : Type 0
BrokenLinkSent = sent_since [] (commit_at 1) ≡ on_link (working_leg Nobody n1 [] count_up (counted ∷ [] ∷ []))

-- What a put sent that was committed is all of one, and GOODBYE.
abbrev pub PutSent : Type 0
PutSent = sent_since [] put_done ≡ on_link (working_leg Nobody n2 [] put_pair ([] ∷ []) ++ r.Goodbye ∷ [])

-- What the router was sent before, up to its GOODBYE, is all that a router is asked; and up to ROUTE it is that without GOODBYE.
abbrev pub RouterSent : Type 0
RouterSent =
    (sent_since [] (Connect n1 ∷ shakes ++ asks (hello Nobody n1) ++ asks (route n1) ++ closes)
    ≡ on_link (routing_leg Nobody n1 ++ r.Goodbye ∷ []))
    × (sent_since [] (Connect n1 ∷ shakes ++ asks (hello Nobody n1) ++ asks (route n1)) ≡ on_link (routing_leg Nobody n1))
