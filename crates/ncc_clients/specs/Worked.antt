-- Worked rows: what moves on a link, whom an address names, and what becomes of a session's actions.
use Rattle.std.specs.Prelude.{◌≡◌, ℕ, true, false, List, [], ◌∷◌, ◌++◌, Option, Some, None, Ok, codes, map}
use Rattle.ncc_pack.specs.declared.value.Value.TheVariants as v
use Rattle.ncc_route.specs.declared.auth.Auth.TheVariants.{Nobody}
use Rattle.ncc_session.specs.declared.ask.Fact.{Fact}
use Rattle.ncc_session.specs.declared.ask.Fact.TheVariants.{Entered, Rows}
use Rattle.ncc_driver.specs.declared.config.SessionConfig.{SessionConfig}
use Rattle.ncc_driver.specs.Work.{Job, job_by}
use Rattle.ncc_driver.specs.Works.{put_steps}
use Rattle.ncc_driver.specs.Requests.{shake_bytes}
use Rattle.ncc_clients.specs.Members.{Cluster, elsewhere}
use Rattle.ncc_clients.specs.Links.{Link, Driver, Linked, Parcel, Lifted, goodbye_bytes, counts, parcel, lift_bytes, lift_requests}
use Rattle.ncc_clients.specs.Links.{lift_all}
use Rattle.ncc_clients.specs.Links.{requests_in}
use Rattle.ncc_clients.specs.Run.{Run, Client, begun, ticked}
use Rattle.ncc_clients.specs.Drives.{member_named, driver_at, makes, begins, lifts, cuts, wakes_all}
use Rattle.ncc_clients.specs.Reads.{SessionsReadTheirWrites}

-- ---- what moves

-- a handshake does not count, nor does GOODBYE; what else was sent does
abbrev pub RequestsCount : Type 0
RequestsCount = (counts shake_bytes ≡ false) × (counts goodbye_bytes ≡ false) × (counts (0 ∷ 1 ∷ 2 ∷ 0 ∷ 0 ∷ []) ≡ true)

abbrev pub of : List ℕ → Parcel
of bytes = record { bytes = bytes; counts = true }

-- of two requests so many bytes: none, a part of the first, the first, a part of the second, and more than there are
abbrev pub two : List Parcel
two = of (1 ∷ 2 ∷ []) ∷ of (3 ∷ 4 ∷ []) ∷ []

abbrev pub moves : List ℕ → List Parcel → Lifted
moves moved left = record { moved = moved; left = left }

abbrev pub BytesMove : Type 0
BytesMove =
    (lift_bytes 0 two ≡ moves [] two)
    × (lift_bytes 1 two ≡ moves (1 ∷ []) (of (2 ∷ []) ∷ of (3 ∷ 4 ∷ []) ∷ []))
    × (lift_bytes 2 two ≡ moves (1 ∷ 2 ∷ []) (of (3 ∷ 4 ∷ []) ∷ []))
    × (lift_bytes 3 two ≡ moves (1 ∷ 2 ∷ 3 ∷ []) (of (4 ∷ []) ∷ []))
    × (lift_bytes 9 two ≡ moves (1 ∷ 2 ∷ 3 ∷ 4 ∷ []) [])

-- So many requests move with what stands before them, and a request of which a part has moved still counts.
abbrev pub RequestsMove : Type 0
RequestsMove =
    (lift_requests 1 (parcel shake_bytes ∷ two) ≡ moves (shake_bytes ++ 1 ∷ 2 ∷ []) (of (3 ∷ 4 ∷ []) ∷ []))
    × (lift_requests 1 (lift_bytes 1 two).left ≡ moves (2 ∷ []) (of (3 ∷ 4 ∷ []) ∷ []))
    × (lift_all two ≡ moves (1 ∷ 2 ∷ 3 ∷ 4 ∷ []) [])
    × (requests_in (parcel shake_bytes ∷ two) ≡ 2)

-- ---- a cluster of two cores and a replica

abbrev pub three : Cluster (Unit {0})
three = record {
  cores = 2;
  replicas = 1;
  id = 1;
  wait = 30_000;
  lists = λ s. [] ∷ [] ∷ [] ∷ [];
  leads = λ s member. false;
  leader = λ s member. 1;
  propose = λ s member entry. elsewhere;
  Moves = λ s t. ⊥;
  Restarts = λ s member t. ⊥;
}

abbrev pub AddressesName : Type 0
AddressesName =
    (member_named three (codes "n1:7687") ≡ Some 1) × (member_named three (codes "n3:7687") ≡ Some 3)
    × (member_named three (codes "n4:7687") ≡ None)

-- ---- a session with one router, of which one work was begun

abbrev pub config : List ℕ → SessionConfig
config router = record { routers = v.Text router ∷ []; auth = Nobody; seed = 7; bookmarks = [] }

abbrev pub puts : Job
puts = job_by true (put_steps (codes "a") (codes "x"))

abbrev pub with_work : List ℕ → Run (Unit {0})
with_work router = begins three 4 0 (makes (begun tt) (config router)) puts

abbrev pub link_at : Option Driver → Option Link
link_at (Some d) = d.link
link_at None = None

abbrev pub sleeps_at : Option Driver → Option ℕ
sleeps_at (Some d) = d.wakes
sleeps_at None = None

-- It is joined to the router, and the handshake waits to go up.
abbrev pub WorkJoins : Type 0
WorkJoins =
    let r = with_work (codes "n2:7687") in
    (link_at (driver_at r 0) ≡ Some (record { conn = 1; up = parcel shake_bytes ∷ []; down = 0 }))
    × (r.driving.linked ≡ record { conn = 1; session = 0; work = 0 } ∷ [])
    × (map (λ (c : Client). c.member) r.clients ≡ 2 ∷ [])

-- A router that no member is: the link is lost, and no connection made.
abbrev pub NobodyIsThere : Type 0
NobodyIsThere =
    let r = with_work (codes "n4:7687") in
    (link_at (driver_at r 0) ≡ None) × (sleeps_at (driver_at r 0) ≡ Some 1005) × (r.clients ≡ []) × (r.driving.linked ≡ [])

-- Of the handshake a part goes up; a link that is cut is closed, drops the rest, and the session sleeps.
abbrev pub CutsDrop : Type 0
CutsDrop =
    let r = with_work (codes "n2:7687") in
    let s = lifts three 0 r (driver_at r 0) (lift_bytes 4) in
    let t = cuts three 5 0 s (driver_at s 0) in
    (map (λ (c : Client). c.bytes) t.clients ≡ (0x60 ∷ 0x60 ∷ 0xB0 ∷ 0x17 ∷ []) ∷ [])
    × (map (λ (c : Client). c.closed) t.clients ≡ true ∷ [])
    × (link_at (driver_at t 0) ≡ None) × (sleeps_at (driver_at t 0) ≡ Some 1005)

-- At its moment, and no earlier, it is woken and joins again.
abbrev pub SleepersWake : Type 0
SleepersWake =
    let r = with_work (codes "n2:7687") in
    let s = cuts three 5 0 r (driver_at r 0) in
    (sleeps_at (driver_at (wakes_all three 6 (ticked s 1004)) 0) ≡ Some 1005)
    × (map (λ (l : Linked). l.conn) (wakes_all three 6 (ticked s 1005)).driving.linked ≡ 1 ∷ 2 ∷ [])

-- ---- what a session reads

-- Its first work committed at place 3; the connection of its second one was told this.
abbrev pub second_is_told : Fact → Run (Unit {0})
second_is_told fact = record (begun tt) {
  told = record { line = 6; conn = 2; fact = fact } ∷ [];
  driving = record {
    drivers = [];
    linked = record { conn = 1; session = 0; work = 0 } ∷ record { conn = 2; session = 0; work = 1 } ∷ [];
    ended = record {
      line = 5;
      session = 0;
      work = 0;
      result = Ok (record { attempts = 1; place = Some 3; bookmark = []; rows = [] });
    } ∷ [];
  };
}

-- It may not enter at place 2, nor read there.
abbrev pub StaleIsRefuted : Type 0
StaleIsRefuted =
    (SessionsReadTheirWrites (second_is_told (Entered 2)) → ⊥) × (SessionsReadTheirWrites (second_is_told (Rows 2 [])) → ⊥)
