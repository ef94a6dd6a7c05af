-- A run with sessions of drivers, one thing after another: sessions do what they want done, and nobody else sends on their links.
use Rattle.std.specs.Prelude.{◌≡◌, ◌≢◌, ◌<◌, ℕ, ◌+◌, ◌^◌, false, List, ◌++◌, length, take, Option, Some, None, IsTrue}
use Rattle.std.specs.List.{Contains}
use Rattle.ncc_driver.specs.declared.config.SessionConfig.{SessionConfig}
use Rattle.ncc_driver.specs.Session.{Begun}
use Rattle.ncc_driver.specs.Config.{config_fits}
use Rattle.ncc_driver.specs.LawsFits.{JobFits, AreBytes, ToldBytes}
use Rattle.ncc_driver.specs.Work.{Job}
use Rattle.ncc_clients.specs.Members.{Cluster}
use Rattle.ncc_clients.specs.Links.{Link, Driver, Linked, Lifted, Parcel, bytes_in, lift_bytes, lift_requests, lift_all}
use Rattle.ncc_clients.specs.Run.{Run, begun, moved}
use Rattle.ncc_clients.specs.Moment.{Small, Feeds, Drives, Path}
use Rattle.ncc_clients.specs.Drives.{driver_at, is_busy, makes, begins, lifts, waits_above, falls, cuts, woken, wakes_all, lift_to}
use Rattle.ncc_clients.specs.Drives.{all_bytes, closes_all, ends_at, Pumps}
use Rattle.ncc_clients.specs.Turn.{Turns}
use Rattle.ncc_clients.specs.Four.{Four}
use Rattle.ncc_clients.specs.Reads.{SessionsReadTheirWrites}

-- What goes up and what stays are together what waited, in its order.
abbrev pub Splits : (List Parcel → Lifted) → Type 0
Splits lift = (parcels : List Parcel) → (lift parcels).moved ++ bytes_in (lift parcels).left ≡ bytes_in parcels

-- What comes down is the first of what waited.
abbrev pub TakesFront : (List ℕ → List ℕ) → Type 0
TakesFront front = (bytes : List ℕ) → (rest : List ℕ) × (front bytes ++ rest ≡ bytes)

-- Whatever is told to move of what waits, nothing of it is lost.
abbrev pub LiftsSplit : Type 0
LiftsSplit =
    ((n : ℕ) → Splits (lift_bytes n)) × ((n : ℕ) → Splits (lift_requests n)) × Splits lift_all
    × ((limit : Option ℕ) → Splits (lift_to limit))

abbrev pub FrontsAreTaken : Type 0
FrontsAreTaken = ((n : ℕ) → TakesFront (take n)) × TakesFront all_bytes

-- Where a session has a link, what comes down on it are bytes.
abbrev pub ComeAsBytes : {S : Type 0} → Cluster S → Run S → Option Driver → (List ℕ → List ℕ) → Type 0
ComeAsBytes C r None front = Unit {0}
ComeAsBytes C r (Some d) front = (link : Link) → d.link ≡ Some link → AreBytes (front (waits_above C r link))

-- A work whose steps have a spelling, and that was told bytes.
abbrev pub IsAllowed : Begun → Type 0
IsAllowed work = JobFits work.job × ToldBytes work

-- No session made the connection of this number.
abbrev pub IsNoLink : {S : Type 0} → Run S → ℕ → Type 0
IsNoLink r conn = (l : Linked) → Contains r.driving.linked l → l.conn ≢ conn

-- A small thing that sends nothing on a link, and leaves the sessions as they are.
abbrev pub LeavesSessions : {S : Type 0} (C : Cluster S) (r s : Run S) → Small C r s → Type 0
LeavesSessions C r s (Feeds _ i c piece is) = IsNoLink r (i + 1)
LeavesSessions C r s (Drives _ driving) = ⊥
LeavesSessions C r s _ = Unit {0}

-- One thing that happens.
pub data Deed {S : Type 0} (C : Cluster S) : Run S → Run S → Type 0 where
  -- a small thing
  Plain : (r s : Run S) (h : Small C r s) → LeavesSessions C r s h → Deed C r s
  -- a session is made
  Makes : (r : Run S) (config : SessionConfig) → IsTrue (config_fits config) → Deed C r (makes r config)
  -- a session in which no work runs begins one
  Begins : (line : ℕ) (r : Run S) (k : ℕ) (d : Driver) (job : Job) → driver_at r k ≡ Some d → is_busy d ≡ false → JobFits job
      → Deed C r (begins C line k r job)
  -- bytes of its link go up
  Lifts : (r : Run S) (k : ℕ) (lift : List Parcel → Lifted) → Splits lift → Deed C r (lifts C k r (driver_at r k) lift)
  -- bytes of its link come down, and it is told them
  Falls : (line : ℕ) (r : Run S) (k : ℕ) (front : List ℕ → List ℕ) → TakesFront front → ComeAsBytes C r (driver_at r k) front
      → Deed C r (falls C line k r (driver_at r k) front)
  -- its link is lost, and it is told that
  Cuts : (line : ℕ) (r : Run S) (k : ℕ) → Deed C r (cuts C line k r (driver_at r k))
  -- it is woken
  Wakes : (line : ℕ) (r : Run S) (k : ℕ) (d : Driver) → driver_at r k ≡ Some d → Deed C r (woken C line k r d)

-- one thing after another
pub data Course {S : Type 0} (C : Cluster S) : Run S → Run S → Type 0 where
  Here : (r : Run S) → Course C r r
  Then : (r s t : Run S) → Deed C r s → Course C s t → Course C r t

-- Turns are courses, and so is that all who sleep until now are woken.
abbrev pub TurnsAreCourses : {S : Type 0} → Cluster S → Type 0
TurnsAreCourses {S} C = (line : ℕ) (r s : Run S) → Turns C line r s → Course C r s

abbrev pub WakesAreCourses : {S : Type 0} → Cluster S → Type 0
WakesAreCourses {S} C = (line : ℕ) (r : Run S) → Course C r (wakes_all C line r)

-- So is all that moves up and down at once, where what comes down are bytes at each moment from a start on.
abbrev pub PumpsAreCourses : {S : Type 0} → Cluster S → Type 0
PumpsAreCourses {S} C =
    (start : Run S) → ((r : Run S) (k : ℕ) → Course C start r → ComeAsBytes C r (driver_at r k) all_bytes)
    → (line k : ℕ) (limit : Option ℕ) (r s : Run S) → Course C start r → Pumps C line k limit r s → Course C r s

-- So is that a member ends and starts again.
abbrev pub EndsAreCourses : {S : Type 0} → Cluster S → Type 0
EndsAreCourses {S} C =
    (line member : ℕ) (members : S) (r : Run S) → C.Restarts r.members member members → Course C r (ends_at C line member members r)

-- It is all one whether a member's connections are closed before it starts again or behind that.
abbrev pub ClosesEitherWay : {S : Type 0} → Cluster S → Type 0
ClosesEitherWay {S} C =
    (member : ℕ) (members : S) (r : Run S) → closes_all C member (moved C r members) ≡ moved C (closes_all C member r) members

-- Whatever happens with sessions is one small thing after another.
abbrev pub CoursesArePaths : {S : Type 0} → Cluster S → Type 0
CoursesArePaths {S} C = (r s : Run S) → Course C r s → Path C r s

-- The cluster's number and each place of its history have 64 bits, as a bookmark has them.
pub record HasNumbers {S : Type 0} (C : Cluster S) (start : S) : Type 0 where
  pub id : C.id < 2 ^ 64
  pub places : (r : Run S) → Path C (begun start) r → length r.history < 2 ^ 64

-- Where the five rules hold of a cluster, its sessions read their writes, in every run with sessions.
abbrev pub SessionsAreServed : {S : Type 0} → Cluster S → Type 0
SessionsAreServed {S} C =
    (start : S) (end : Run S) → Four C start → HasNumbers C start → Course C (begun start) end → SessionsReadTheirWrites end
