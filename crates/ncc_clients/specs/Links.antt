-- Sessions of drivers beside a run, and their links: each session with its works and all that it was told, and what moves on its link.
use Rattle.std.specs.Prelude.{ℕ, zero, suc, ◌-◌, nat_le, Bool, not, ◌&&◌, if◌then◌else◌, List, [], ◌∷◌, ◌++◌, length, take, drop}
use Rattle.std.specs.Prelude.{Option, Result, bytes_eq}
use Rattle.std.specs.List.{flat_map}
use Rattle.ncc_bolt.specs.Writing.{short_request}
use Rattle.ncc_bolt.specs.declared.message.Request.TheVariants.{Goodbye}
use Rattle.ncc_chunk.specs.Chunked.{chunked}
use Rattle.ncc_driver.specs.declared.config.SessionConfig.{SessionConfig}
use Rattle.ncc_driver.specs.declared.action.WorkDone.{WorkDone}
use Rattle.ncc_driver.specs.declared.action.WorkError.{WorkError}
use Rattle.ncc_driver.specs.Requests.{shake_bytes}
use Rattle.ncc_driver.specs.Session.{Begun}

-- what is left to go up of one thing that was sent, and whether it is a request that counts
pub record Parcel : Type 0 where
  pub bytes : List ℕ
  pub counts : Bool

-- a link of a session: the number of its connection, what was sent and has not gone up, and how many of the connection's bytes have come
-- down
pub record Link : Type 0 where
  pub conn : ℕ
  pub up : List Parcel
  pub down : ℕ

-- a session: its works with all that it was told, its link, and the moment until which it sleeps
pub record Driver : Type 0 where
  pub config : SessionConfig
  pub works : List Begun
  pub link : Option Link
  pub wakes : Option ℕ

-- A connection was made by a session, the first of which is 0, in a work of it, the first of which is 0.
pub record Linked : Type 0 where
  pub conn : ℕ
  pub session : ℕ
  pub work : ℕ

-- a work that has ended, in the event of this line
pub record Ended : Type 0 where
  pub line : ℕ
  pub session : ℕ
  pub work : ℕ
  pub result : Result WorkDone WorkError

pub record Driving : Type 0 where
  pub drivers : List Driver
  pub linked : List Linked
  pub ended : List Ended

abbrev pub nobody_drives : Driving
nobody_drives = record { drivers = []; linked = []; ended = [] }

-- ---- what goes up

abbrev pub goodbye_bytes : List ℕ
goodbye_bytes = chunked (short_request Goodbye)

-- Handshakes and GOODBYE do not count.
abbrev pub counts : List ℕ → Bool
counts bytes = not (bytes_eq bytes shake_bytes) && not (bytes_eq bytes goodbye_bytes)

abbrev pub parcel : List ℕ → Parcel
parcel bytes = record { bytes = bytes; counts = counts bytes }

abbrev pub bytes_in : List Parcel → List ℕ
bytes_in parcels = flat_map (λ (p : Parcel). p.bytes) parcels

abbrev pub requests_in : List Parcel → ℕ
requests_in [] = 0
requests_in (p ∷ ps) = if p.counts then suc (requests_in ps) else requests_in ps

-- what moves of parcels, and what stays
pub record Lifted : Type 0 where
  pub moved : List ℕ
  pub left : List Parcel

abbrev pub with_first : List ℕ → Lifted → Lifted
with_first bytes l = record { moved = bytes ++ l.moved; left = l.left }

abbrev pub rest_of : ℕ → Parcel → List Parcel
rest_of n p = elim (drop n p.bytes) [ [] ↦ [] | b ∷ bs ↦ record { bytes = b ∷ bs; counts = p.counts } ∷ [] ]

-- at most so many bytes
unfoldable pub lift_bytes : ℕ → List Parcel → Lifted
lift_bytes n [] = record { moved = []; left = [] }
lift_bytes n (p ∷ ps) =
    if nat_le (length p.bytes) n then with_first p.bytes (lift_bytes (n - length p.bytes) ps)
    else record { moved = take n p.bytes; left = rest_of n p ++ ps }

-- all, up to the end of so many requests
unfoldable pub lift_requests : ℕ → List Parcel → Lifted
lift_requests zero parcels = record { moved = []; left = parcels }
lift_requests (suc n) [] = record { moved = []; left = [] }
lift_requests (suc n) (p ∷ ps) =
    if p.counts then with_first p.bytes (lift_requests n ps) else with_first p.bytes (lift_requests (suc n) ps)

-- all
abbrev pub lift_all : List Parcel → Lifted
lift_all parcels = record { moved = bytes_in parcels; left = [] }
