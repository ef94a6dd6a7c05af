-- What a session of a driver wants done is done at once, over links whose bytes move when they are told to.
use Rattle.std.specs.Prelude.{◌≡◌, ℕ, suc, ◌+◌, ◌-◌, nat_eq, nat_le, Bool, true, false, not, ◌&&◌, if◌then◌else◌, List, [], ◌∷◌, ◌++◌}
use Rattle.std.specs.Prelude.{length, drop, map, Option, Some, None, is_some, bytes_eq, slice_get, slice_set}
use Rattle.ncc_pack.specs.declared.value.Value.{Value}
use Rattle.ncc_pack.specs.declared.value.Value.TheVariants as v
use Rattle.ncc_driver.specs.declared.config.SessionConfig.{SessionConfig}
use Rattle.ncc_driver.specs.declared.action.Action.{Action}
use Rattle.ncc_driver.specs.declared.action.Action.TheVariants.{Connect, Send, Close, Sleep, Receive, Finish}
use Rattle.ncc_driver.specs.declared.action.Input.{Input}
use Rattle.ncc_driver.specs.declared.action.Input.TheVariants as i
use Rattle.ncc_driver.specs.Work.{Job}
use Rattle.ncc_driver.specs.Session.{Begun, Moved, session, acts}
use Rattle.ncc_driver.specs.Talk.{begun as begun_work, works_at}
use Rattle.ncc_clients.specs.Members.{Cluster, addresses}
use Rattle.ncc_clients.specs.Links.{Link, Driver, Ended, Lifted, Parcel, parcel, bytes_in, lift_requests, lift_all, requests_in}
use Rattle.ncc_clients.specs.Run.{Run, Client, has_ended, opened, fed, moved, closed_at, out_of}
use Rattle.ncc_clients.specs.Turn.{Turns, Settles}

-- ---- connections, by their index

-- bytes come in; on a connection that is closed they do nothing
abbrev pub feeds_one : {S : Type 0} → Cluster S → Run S → ℕ → List ℕ → Option Client → Run S
feeds_one C r i piece None = r
feeds_one C r i piece (Some c) = if c.closed then r else fed C r i c piece

abbrev pub feeds : {S : Type 0} → Cluster S → Run S → ℕ → List ℕ → Run S
feeds C r i piece = feeds_one C r i piece (slice_get r.clients i)

abbrev pub closes_one : {S : Type 0} → Run S → ℕ → Option Client → Run S
closes_one r i None = r
closes_one r i (Some c) = if c.closed then r else closed_at r i c

abbrev pub closes : {S : Type 0} → Run S → ℕ → Run S
closes r i = closes_one r i (slice_get r.clients i)

-- ---- whom an address names

abbrev pub is_named : Value → List ℕ → Bool
is_named (v.Text text) address = bytes_eq text address
is_named _ address = false

unfoldable pub named_from : ℕ → List Value → List ℕ → Option ℕ
named_from member [] address = None
named_from member (x ∷ xs) address = if is_named x address then Some member else named_from (suc member) xs address

abbrev pub member_named : {S : Type 0} → Cluster S → List ℕ → Option ℕ
member_named C address = named_from 1 (addresses (C.cores + C.replicas) 1) address

-- ---- actions, of the session at an index

abbrev pub driver_at : {S : Type 0} → Run S → ℕ → Option Driver
driver_at r k = slice_get r.driving.drivers k

abbrev pub with_driver : {S : Type 0} → Run S → ℕ → Driver → Run S
with_driver r k d = record r { driving = record r.driving { drivers = slice_set r.driving.drivers k d } }

-- a link to a member
abbrev pub joins : {S : Type 0} → ℕ → Driver → Run S → ℕ → Run S
joins k d r member = record (opened r member true) {
  driving = record {
    drivers = slice_set r.driving.drivers k (record d { link = Some (record { conn = length r.clients + 1; up = []; down = 0 }) });
    linked = r.driving.linked ++ (record { conn = length r.clients + 1; session = k; work = length d.works - 1 } ∷ []);
    ended = r.driving.ended;
  };
}

abbrev pub joins_named : {S : Type 0} → ℕ → Driver → Run S → Option ℕ → Run S
joins_named k d r None = r
joins_named k d r (Some member) = joins k d r member

abbrev pub with_parcel : List ℕ → Link → Link
with_parcel bytes link = record link { up = link.up ++ parcel bytes ∷ [] }

abbrev pub sends : List ℕ → Option Link → Option Link
sends bytes None = None
sends bytes (Some link) = Some (with_parcel bytes link)

-- What waits to go up goes up first, and then the connection is closed.
abbrev pub parts : {S : Type 0} → Cluster S → ℕ → Driver → Run S → Option Link → Run S
parts C k d r None = r
parts C k d r (Some link) =
    with_driver (closes (feeds C r (link.conn - 1) (bytes_in link.up)) (link.conn - 1)) k (record d { link = None })

abbrev pub ends : {S : Type 0} → ℕ → ℕ → Driver → Run S → Ended → Run S
ends line k d r ended = record r { driving = record r.driving { ended = r.driving.ended ++ ended ∷ [] } }

abbrev pub does_by : {S : Type 0} → Cluster S → ℕ → ℕ → Run S → Driver → Action → Run S
does_by C line k r d (Connect address) = joins_named k d r (member_named C address)
does_by C line k r d (Send bytes) = with_driver r k (record d { link = sends bytes d.link })
does_by C line k r d Close = parts C k d r d.link
does_by C line k r d (Sleep until) = with_driver r k (record d { wakes = Some until })
does_by C line k r d Receive = r
does_by C line k r d (Finish result) =
    ends line k d r (record { line = line; session = k; work = length d.works - 1; result = result })

abbrev pub does : {S : Type 0} → Cluster S → ℕ → ℕ → Run S → Option Driver → Action → Run S
does C line k r None action = r
does C line k r (Some d) action = does_by C line k r d action

-- one action after another
unfoldable pub does_all : {S : Type 0} → Cluster S → ℕ → ℕ → List Action → Run S → Run S
does_all C line k [] r = r
does_all C line k (action ∷ actions) r = does_all C line k actions (does C line k r (driver_at r k) action)

-- ---- inputs

-- the last work was told one thing more
unfoldable pub with_input : List Begun → Moved → List Begun
with_input [] x = []
with_input (w ∷ []) x = record { job = w.job; began = w.began; inputs = w.inputs ++ x ∷ [] } ∷ []
with_input (w ∷ u ∷ ws) x = w ∷ with_input (u ∷ ws) x

-- what it wants done beyond what it wanted so far
abbrev pub more : Driver → List Begun → List Action
more d works = drop (length (acts d.config d.works)) (acts d.config works)

abbrev pub knows : Driver → List Begun → Driver
knows d works = record d { works = works }

-- With these works it wants more done, and that is done.
abbrev pub does_more : {S : Type 0} → Cluster S → ℕ → ℕ → Run S → Driver → List Begun → Run S
does_more C line k r d works = does_all C line k (more d works) (with_driver r k (knows d works))

-- A Connect is the last that is done, and it is told at once whether it led to a link.
abbrev pub joined : {S : Type 0} → Cluster S → Option Action → Option Input
joined C (Some (Connect address)) = Some (if is_some (member_named C address) then i.Connected else i.Lost)
joined C _ = None

abbrev pub last_of : List Action → Option Action
last_of actions = slice_get actions (length actions - 1)

abbrev pub follows_on : {S : Type 0} → Cluster S → ℕ → ℕ → Run S → Option Driver → Option Input → Run S
follows_on C line k r (Some d) (Some input) = does_more C line k r d (with_input d.works (input, r.now))
follows_on C line k r _ _ = r

abbrev pub turns_to : {S : Type 0} → Cluster S → ℕ → ℕ → Run S → Driver → List Begun → Run S
turns_to C line k r d works =
    let t = does_more C line k r d works in follows_on C line k t (driver_at t k) (joined C (last_of (more d works)))

-- The session is told something, and does all that it wants done then.
abbrev pub told_input : {S : Type 0} → Cluster S → ℕ → ℕ → Run S → Driver → Input → Run S
told_input C line k r d input = turns_to C line k r d (with_input d.works (input, r.now))

-- ---- what events do: a session is made, a work begins and is told to start, bytes go up or come down, a link is lost, sleepers are woken

abbrev pub new_driver : SessionConfig → Driver
new_driver config = record { config = config; works = []; link = None; wakes = None }

abbrev pub makes : {S : Type 0} → Run S → SessionConfig → Run S
makes r config = record r { driving = record r.driving { drivers = r.driving.drivers ++ new_driver config ∷ [] } }

abbrev pub is_busy : Driver → Bool
is_busy d = works_at (session d.config d.works).state.place.core.stage

abbrev pub begins_by : {S : Type 0} → Cluster S → ℕ → ℕ → Run S → Option Driver → Job → Run S
begins_by C line k r None job = r
begins_by C line k r (Some d) job =
    let e = knows d (d.works ++ begun_work job r.now ∷ []) in told_input C line k (with_driver r k e) e i.Start

abbrev pub begins : {S : Type 0} → Cluster S → ℕ → ℕ → Run S → Job → Run S
begins C line k r job = begins_by C line k r (driver_at r k) job

-- bytes come in, where there are some
abbrev pub feeds_some : {S : Type 0} → Cluster S → Run S → ℕ → List ℕ → Run S
feeds_some C r i [] = r
feeds_some C r i (b ∷ bs) = feeds C r i (b ∷ bs)

-- what moves goes up, and the rest stays
abbrev pub goes_up : {S : Type 0} → Cluster S → ℕ → Run S → Driver → Link → Lifted → Run S
goes_up C k r d link l =
    feeds_some C (with_driver r k (record d { link = Some (record link { up = l.left }) })) (link.conn - 1) l.moved

abbrev pub lifts_by : {S : Type 0} → Cluster S → ℕ → Run S → Driver → Option Link → (List Parcel → Lifted) → Run S
lifts_by C k r d None lift = r
lifts_by C k r d (Some link) lift = goes_up C k r d link (lift link.up)

abbrev pub lifts : {S : Type 0} → Cluster S → ℕ → Run S → Option Driver → (List Parcel → Lifted) → Run S
lifts C k r None lift = r
lifts C k r (Some d) lift = lifts_by C k r d d.link lift

-- what the connection wrote and has not come down
abbrev pub held_back : {S : Type 0} → Cluster S → Link → Option Client → List ℕ
held_back C link None = []
held_back C link (Some c) = drop link.down (out_of C c)

abbrev pub waits_above : {S : Type 0} → Cluster S → Run S → Link → List ℕ
waits_above C r link = held_back C link (slice_get r.clients (link.conn - 1))

-- these bytes come down, and the session is told them
abbrev pub comes_down : {S : Type 0} → Cluster S → ℕ → ℕ → Run S → Driver → Link → List ℕ → Run S
comes_down C line k r d link [] = r
comes_down C line k r d link (b ∷ bs) =
    let e = record d { link = Some (record link { down = link.down + length (b ∷ bs) }) } in
    told_input C line k (with_driver r k e) e (i.Bytes (b ∷ bs))

abbrev pub falls_by : {S : Type 0} → Cluster S → ℕ → ℕ → Run S → Driver → Option Link → (List ℕ → List ℕ) → Run S
falls_by C line k r d None front = r
falls_by C line k r d (Some link) front = comes_down C line k r d link (front (waits_above C r link))

abbrev pub falls : {S : Type 0} → Cluster S → ℕ → ℕ → Run S → Option Driver → (List ℕ → List ℕ) → Run S
falls C line k r None front = r
falls C line k r (Some d) front = falls_by C line k r d d.link front

-- What waited to move is dropped, the connection is closed, and the session is told.
abbrev pub cuts_by : {S : Type 0} → Cluster S → ℕ → ℕ → Run S → Driver → Option Link → Run S
cuts_by C line k r d None = r
cuts_by C line k r d (Some link) =
    let e = record d { link = None } in told_input C line k (with_driver (closes r (link.conn - 1)) k e) e i.Lost

abbrev pub cuts : {S : Type 0} → Cluster S → ℕ → ℕ → Run S → Option Driver → Run S
cuts C line k r None = r
cuts C line k r (Some d) = cuts_by C line k r d d.link

-- its moment has come
abbrev pub is_due : ℕ → Option ℕ → Bool
is_due now None = false
is_due now (Some until) = nat_le until now

abbrev pub woken : {S : Type 0} → Cluster S → ℕ → ℕ → Run S → Driver → Run S
woken C line k r d = let e = record d { wakes = None } in told_input C line k (with_driver r k e) e i.Woken

-- those that sleep are woken, the lowest number first
unfoldable pub wakes_from : {S : Type 0} → Cluster S → ℕ → ℕ → List Driver → Run S → Run S
wakes_from C line k [] r = r
wakes_from C line k (d ∷ ds) r = wakes_from C line (suc k) ds (if is_due r.now d.wakes then woken C line k r d else r)

abbrev pub wakes_all : {S : Type 0} → Cluster S → ℕ → Run S → Run S
wakes_all C line r = wakes_from C line 0 r.driving.drivers r

-- ---- a member ends: its connections are closed, it starts again, and the sessions whose links those were are told

-- a connection of this member that has not ended
abbrev pub lives_at : {S : Type 0} → Cluster S → ℕ → Client → Bool
lives_at C member c = nat_eq c.member member && not (has_ended C c)

-- It is closed; any other stays as it is.
abbrev pub closed_with : {S : Type 0} → Cluster S → ℕ → Client → Client
closed_with C member c = if lives_at C member c then record c { closed = true } else c

abbrev pub closes_all : {S : Type 0} → Cluster S → ℕ → Run S → Run S
closes_all C member r = record r { clients = map (closed_with C member) r.clients }

-- The connection of the link is one of this member that has not ended.
abbrev pub hangs_by : {S : Type 0} → Cluster S → ℕ → Option Client → Bool
hangs_by C member None = false
hangs_by C member (Some c) = lives_at C member c

abbrev pub hangs_on : {S : Type 0} → Cluster S → ℕ → Run S → Option Link → Bool
hangs_on C member r None = false
hangs_on C member r (Some link) = hangs_by C member (slice_get r.clients (link.conn - 1))

-- Sessions whose links are lost are told, the lowest number first.
unfoldable pub loses_from : {S : Type 0} → Cluster S → ℕ → ℕ → (Option Link → Bool) → List Driver → Run S → Run S
loses_from C line k lost [] r = r
loses_from C line k lost (d ∷ ds) r = loses_from C line (suc k) lost ds (if lost d.link then cuts C line k r (driver_at r k) else r)

-- the member ends in this run, and the members are these then
abbrev pub ends_at : {S : Type 0} → Cluster S → ℕ → ℕ → S → Run S → Run S
ends_at C line member members r =
    loses_from C line 0 (hangs_on C member r) r.driving.drivers (moved C (closes_all C member r) members)

-- ---- pump: what waits goes up and is answered, what was written comes down, and so on

abbrev pub up_at : Option Driver → List Parcel
up_at (Some d) = elim d.link [ Some link ↦ link.up | None ↦ [] ]
up_at None = []

abbrev pub down_at : {S : Type 0} → Cluster S → Run S → Option Driver → List ℕ
down_at C r (Some d) = elim d.link [ Some link ↦ waits_above C r link | None ↦ [] ]
down_at C r None = []

-- So many requests, and no more, go up in this event; none is the last where there is no such limit.
abbrev pub is_reached : Option ℕ → List Parcel → Bool
is_reached None up = false
is_reached (Some n) up = nat_le n (requests_in up)

abbrev pub less : Option ℕ → List Parcel → Option ℕ
less None up = None
less (Some n) up = Some (n - requests_in up)

-- up to the last request that may go up, or all that waits
abbrev pub lift_to : Option ℕ → List Parcel → Lifted
lift_to None up = lift_all up
lift_to (Some n) up = if nat_le n (requests_in up) then lift_requests n up else lift_all up

abbrev pub rises : {S : Type 0} → Cluster S → ℕ → Option ℕ → Run S → Run S
rises C k limit r = lifts C k r (driver_at r k) (lift_to limit)

abbrev pub all_bytes : List ℕ → List ℕ
all_bytes bytes = bytes

-- all that was written comes down
abbrev pub descends : {S : Type 0} → Cluster S → ℕ → ℕ → Run S → Run S
descends C line k r = falls C line k r (driver_at r k) all_bytes

pub data Pumps {S : Type 0} (C : Cluster S) (line k : ℕ) : Option ℕ → Run S → Run S → Type 0 where
  -- nothing is left to move
  Rests : (limit : Option ℕ) (r : Run S) → up_at (driver_at r k) ≡ [] → down_at C r (driver_at r k) ≡ [] → Pumps C line k limit r r
  -- the last request that may go up goes up, and is answered
  Stops : (limit : Option ℕ) (r s : Run S) → is_reached limit (up_at (driver_at r k)) ≡ true
      → Settles C line (rises C k limit r) s → Pumps C line k limit r s
  -- all that waits goes up, and is answered
  Lifts : (limit : Option ℕ) (r s t : Run S) → (up_at (driver_at r k) ≡ [] → ⊥) → is_reached limit (up_at (driver_at r k)) ≡ false
      → Settles C line (rises C k limit r) s → Pumps C line k (less limit (up_at (driver_at r k))) s t
      → Pumps C line k limit r t
  -- all that was written comes down
  Falls : (limit : Option ℕ) (r t : Run S) → up_at (driver_at r k) ≡ [] → (down_at C r (driver_at r k) ≡ [] → ⊥)
      → Pumps C line k limit (descends C line k r) t → Pumps C line k limit r t

-- The moments of such an event: before it, on the way of the turns behind each move up, and behind each move down.
pub data Pumping {S : Type 0} (C : Cluster S) (line k : ℕ) : Option ℕ → Run S → Run S → Type 0 where
  Begins : (limit : Option ℕ) (r : Run S) → Pumping C line k limit r r
  Rising : (limit : Option ℕ) (r moment : Run S) → (up_at (driver_at r k) ≡ [] → ⊥) → Turns C line (rises C k limit r) moment
      → Pumping C line k limit r moment
  Risen : (limit : Option ℕ) (r s moment : Run S) → (up_at (driver_at r k) ≡ [] → ⊥) → is_reached limit (up_at (driver_at r k)) ≡ false
      → Settles C line (rises C k limit r) s → Pumping C line k (less limit (up_at (driver_at r k))) s moment
      → Pumping C line k limit r moment
  Fallen : (limit : Option ℕ) (r moment : Run S) → up_at (driver_at r k) ≡ [] → (down_at C r (driver_at r k) ≡ [] → ⊥)
      → Pumping C line k limit (descends C line k r) moment → Pumping C line k limit r moment
