-- What an event makes of members over Raft: a core's time runs out or its beat is due, a message comes, a replica asks, and a member starts
-- again. Over one list nothing of it happens.
use Rattle.std.specs.Prelude.{ℕ, ◌+◌, ◌-◌, nat_le, Bool, true, false, not, ◌&&◌, if◌then◌else◌, [], ◌∷◌, length, Option, Some, None, slice_get}
use Rattle.ncc_raft.specs.declared.message.Envelope.{Envelope}
use Rattle.ncc_raft.specs.declared.message.Body.{Body}
use Rattle.ncc_raft.specs.declared.message.Body.TheVariants as body
use Rattle.ncc_raft.specs.Member.{Event, Receive, letter, is_core}
use Rattle.ncc_raft.specs.Pulled.{Taken, Grown, taken}
use Rattle.ncc_safety.specs.Fleet.{Fleet, is_replica, list_at, steps_to, also_sends, list_becomes, starts_again}
use Rattle.ncc_world.specs.declared.setup.Setup.{Setup}
use Rattle.ncc_world.specs.declared.error.WorldError.{WorldError}
use Rattle.ncc_world.specs.declared.error.WorldError.TheVariants.{NoMember, NoMessage, WrongRole, WrongWorld}
use Rattle.ncc_world.specs.Setting.{Seats, over_list, over_raft, shape_of}

-- ---- why such an event is refused

abbrev pub unless : Bool → WorldError → Option WorldError
unless true error = None
unless false error = Some error

-- the cluster has a member of this number: its cores have the lowest
abbrev pub has_member : Setup → ℕ → Bool
has_member s member = nat_le 1 member && nat_le member (s.cores + s.replicas)

abbrev pub refuses_core : Setup → Seats → ℕ → Option WorldError
refuses_core s (over_list lists) member = Some WrongWorld
refuses_core s (over_raft fleet) member = if has_member s member then unless (nat_le member s.cores) WrongRole else Some NoMember

abbrev pub refuses_message : Seats → ℕ → Option WorldError
refuses_message (over_list lists) message = Some WrongWorld
refuses_message (over_raft fleet) message = unless (nat_le 1 message && nat_le message (length fleet.sent)) NoMessage

abbrev pub refuses_pull : Setup → Seats → ℕ → ℕ → Option WorldError
refuses_pull s (over_list lists) replica core = Some WrongWorld
refuses_pull s (over_raft fleet) replica core =
    if has_member s replica && has_member s core then unless (not (nat_le replica s.cores) && nat_le core s.cores) WrongRole
    else Some NoMember

abbrev pub refuses_crash : Setup → Seats → ℕ → Option WorldError
refuses_crash s (over_list lists) member = Some WrongWorld
refuses_crash s (over_raft fleet) member = unless (has_member s member) NoMember

-- ---- what becomes of the members

-- a core takes a step
abbrev pub stepping : Setup → Seats → ℕ → Event → Seats
stepping s (over_list lists) core event = over_list lists
stepping s (over_raft fleet) core event = over_raft (steps_to (shape_of s) fleet core event)

-- A replica's list grows by a Batch that follows it; whatever else comes changes nothing.
abbrev pub grown_by : Setup → Fleet → ℕ → Taken → Fleet
grown_by s fleet replica (Grown list) = list_becomes (shape_of s) fleet replica list
grown_by s fleet replica _ = fleet

abbrev pub took : Setup → Fleet → ℕ → Body → Fleet
took s fleet replica (body.Batch first items) = grown_by s fleet replica (taken (list_at (shape_of s) fleet replica) first items)
took s fleet replica _ = fleet

-- a message comes to the member that it is for, if there is one
abbrev pub hears : Setup → Fleet → Option Envelope → Fleet
hears s fleet None = fleet
hears s fleet (Some e) =
    if is_core s.cores e.to then steps_to (shape_of s) fleet e.to (Receive e)
    else if is_replica (shape_of s) e.to then took s fleet e.to e.body else fleet

abbrev pub delivered : Setup → Seats → ℕ → Seats
delivered s (over_list lists) message = over_list lists
delivered s (over_raft fleet) message = over_raft (hears s fleet (slice_get fleet.sent (message - 1)))

-- a replica asks a core
abbrev pub pulled : Setup → Seats → ℕ → ℕ → Seats
pulled s (over_list lists) replica core = over_list lists
pulled s (over_raft fleet) replica core =
    over_raft (also_sends fleet (letter replica core (body.Pull (length (list_at (shape_of s) fleet replica))) ∷ []))

-- A core starts again from what it has saved, and has applied nothing; a replica has nothing then.
abbrev pub restarted : Setup → Seats → ℕ → Seats
restarted s (over_list lists) member = over_list lists
restarted s (over_raft fleet) member =
    over_raft (if is_core s.cores member then starts_again (shape_of s) fleet member else list_becomes (shape_of s) fleet member [])
