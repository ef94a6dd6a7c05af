-- A number that falls with each move of a pump: what an attempt may still send counts three, what waits to go up two, and else what waits
-- to come down one.
use Rattle.std.specs.Prelude.{ℕ, ◌+◌, ◌*◌, List, [], ◌∷◌, Option, Some, None}
use Rattle.ncc_driver.specs.Session.{session}
use Rattle.ncc_driver.specs.LawsLeft.{left_of}
use Rattle.ncc_clients.specs.Members.{Cluster}
use Rattle.ncc_clients.specs.Links.{Link, Driver, Parcel}
use Rattle.ncc_clients.specs.Run.{Run}
use Rattle.ncc_clients.specs.Drives.{driver_at, up_at, down_at}

-- what waits on a link, by what waits to go up and to come down
abbrev pub weight : List Parcel → List ℕ → ℕ
weight (p ∷ ps) down = 2
weight [] (b ∷ bs) = 1
weight [] [] = 0

-- what waits to go up on a link, if there is one
abbrev pub ups : Option Link → List Parcel
ups (Some link) = link.up
ups None = []

-- what the session's attempt may still send, of works of two steps
abbrev pub left_by : Option Driver → ℕ
left_by None = 0
left_by (Some d) = left_of 2 (session d.config d.works).state.place

abbrev pub number_by : {S : Type 0} → Cluster S → Run S → Option Driver → ℕ
number_by C r o = 3 * left_by o + weight (up_at o) (down_at C r o)

-- of the session at an index
abbrev pub number : {S : Type 0} → Cluster S → ℕ → Run S → ℕ
number C k r = number_by C r (driver_at r k)
