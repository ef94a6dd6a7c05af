-- What happens to members and connections leaves a run's clock and its sessions as they are, and how many members there are.
use Rattle.std.proofs.Common.{◌≡◌, ℕ, ◌+◌, ◌-◌, ◌≤◌, Bool, true, false, List, [], ◌∷◌, ◌++◌, length, Option, Some, None, refl, ap, sym, ◌∙◌, subst}
use Rattle.std.proofs.Common.{arith, map, length-append}
use Rattle.std.specs.Prelude.{slice_get, slice_set, nat_le, ◌==◌, if◌then◌else◌}
use Rattle.std.proofs.lemmas.List.{length-map, length-set}
use Rattle.std.proofs.lemmas.Option.{slice_get_past}
use Rattle.ncc_tx.specs.declared.entry.Entry.{Entry}
use Rattle.ncc_driver.specs.declared.action.Action.{Action}
use Rattle.ncc_clients.specs.Links.{Driving}
use Rattle.ncc_clients.specs.Members.{Proposed, elsewhere, full, placed}
use Rattle.ncc_clients.specs.Run.{Client, Reply, waits, tells, proposes, reply, opened, moved, fed, closed_at, proposed}
use Rattle.ncc_clients.specs.Drives.{feeds, feeds_one, closes, closes_one}
use Rattle.ncc_clients.specs.Turn.{Does, Turns, Here, Then, Settles}
use Rattle.ncc_world.specs.declared.setup.Setup.{Setup}
use Rattle.ncc_world.specs.declared.drivers.Drivers.{Drivers}
use Rattle.ncc_world.specs.declared.running.Running.{Running}
use Rattle.ncc_bolt.specs.declared.message.Request.{Request}
use Rattle.ncc_world.specs.Requests.{client_bytes}
use Rattle.ncc_raft.specs.Member.{Member, Event, Propose, Outcome}
use Rattle.ncc_raft.specs.Appending.{applied}
use Rattle.ncc_safety.specs.Fleet.{Shape, Fleet, Elsewhere, Full, Placed, applied_lists, core_at, outcome_at, steps_to, leads, is_full}
use Rattle.ncc_world.specs.Setting.{Lists, Seats, over_list, over_raft, lists_of, cluster_of, shape_of, list_at, appended, answered}
use Rattle.ncc_world.specs.Setting.{extended, item_of}
use Rattle.ncc_world.specs.Setting as setting
use Rattle.ncc_world.specs.Happening.{WorldRun, asks, lagged}
use Rattle.ncc_world.specs.Drivers.{AreAtWork}
use Rattle.ncc_world.specs.World.{RunsAs}
use Rattle.ncc_world.specs.Parts.{RunsMid, drivers_in, run_in}

pub record Aside (r t : WorldRun) : Type 0 where
  pub now : t.now ≡ r.now
  pub driving : t.driving ≡ r.driving
  pub members : length (lists_of t.members) ≡ length (lists_of r.members)

pub aside_same : (r : WorldRun) → Aside r r
aside_same r = record { now = refl; driving = refl; members = refl }

pub aside_through : (r s t : WorldRun) → Aside r s → Aside s t → Aside r t
aside_through r s t h g = record { now = g.now ∙ h.now; driving = g.driving ∙ h.driving; members = g.members ∙ h.members }

-- ---- connections

pub opened_aside : (r : WorldRun) (member : ℕ) (printed : Bool) → Aside r (opened r member printed)
opened_aside r member printed = record { now = refl; driving = refl; members = refl }

pub feeds_aside : (s : Setup) (r : WorldRun) (i : ℕ) (piece : List ℕ) → Aside r (feeds (cluster_of s) r i piece)
feeds_aside s r i piece = go (slice_get r.clients i) where
  one : (c : Client) (b : Bool) → Aside r (if b then r else fed (cluster_of s) r i c piece)
  one c true = aside_same r
  one c false = record { now = refl; driving = refl; members = refl }

  go : (o : Option Client) → Aside r (feeds_one (cluster_of s) r i piece o)
  go None = aside_same r
  go (Some c) = one c c.closed

pub closes_aside : (r : WorldRun) (i : ℕ) → Aside r (closes r i)
closes_aside r i = go (slice_get r.clients i) where
  one : (c : Client) (b : Bool) → Aside r (if b then r else closed_at r i c)
  one c true = aside_same r
  one c false = record { now = refl; driving = refl; members = refl }

  go : (o : Option Client) → Aside r (closes_one r i o)
  go None = aside_same r
  go (Some c) = one c c.closed

-- past the last connection nothing happens
pub feeds_past : (s : Setup) (r : WorldRun) (i : ℕ) (piece : List ℕ) → length r.clients ≤ i → r ≡ feeds (cluster_of s) r i piece
feeds_past s r i piece h = sym (ap (λ (o : Option Client). feeds_one (cluster_of s) r i piece o) (slice_get_past r.clients i h))

pub closes_past : (r : WorldRun) (i : ℕ) → length r.clients ≤ i → r ≡ closes r i
closes_past r i h = sym (ap (λ (o : Option Client). closes_one r i o) (slice_get_past r.clients i h))

pub asks_aside : (s : Setup) (r : WorldRun) (member : ℕ) (request : Request) → Aside r (asks s r member request)
asks_aside s r member request =
    let o : WorldRun = opened r member false in
    aside_through r o (asks s r member request) (opened_aside r member false) (feeds_aside s o (length r.clients) (client_bytes request))

-- ---- members

lagged_count : (seats : Seats) (member count : ℕ) → length (lists_of (lagged seats member count)) ≡ length (lists_of seats)
lagged_count (over_list lists) member count =
    length-set lists (member - 1) (extended (list_at lists member) (list_at lists 1) count)
lagged_count (over_raft fleet) member count = refl

pub lagging_aside : (s : Setup) (r : WorldRun) (member count : ℕ) → Aside r (moved (cluster_of s) r (lagged r.members member count))
lagging_aside s r member count = record { now = refl; driving = refl; members = lagged_count r.members member count }

-- so many members stay
abbrev pub KeepsCount : ℕ → Proposed Seats → Type 0
KeepsCount count elsewhere = Unit {0}
KeepsCount count (full entries) = Unit {0}
KeepsCount count (placed place term after) = length (lists_of after) ≡ count

list_keeps : (s : Setup) (lists : Lists) (member : ℕ) (entry : Entry)
    → KeepsCount (length lists) ((cluster_of s).propose (over_list lists) member entry)
list_keeps s lists member entry = by_member (member == 1) where
  by_full : (b : Bool) → KeepsCount (length lists)
      (if b then full (length (list_at lists 1)) else placed (length (list_at lists 1) + 1) 1 (over_list (appended lists entry)))
  by_full true = tt
  by_full false = length-set lists 0 (list_at lists 1 ++ (item_of entry ∷ []))

  by_member : (b : Bool) → KeepsCount (length lists) (if b then setting.proposes s.limit lists entry else elsewhere)
  by_member true = by_full (nat_le s.limit (length (list_at lists 1)))
  by_member false = tt

-- a core that takes a step stays one of as many
steps_count : (shape : Shape) (f : Fleet) (i : ℕ) (event : Event) → length (applied_lists (steps_to shape f i event)) ≡ length (applied_lists f)
steps_count shape f i event =
    let m : Member = (outcome_at shape f i event).member in
    omega (
      arith,
      length-append (map applied (slice_set f.cores (i - 1) m)) f.lists,
      length-append (map applied f.cores) f.lists,
      length-map (slice_set f.cores (i - 1) m) applied,
      length-map f.cores applied,
      length-set f.cores (i - 1) m,
    )

raft_keeps : (s : Setup) (f : Fleet) (member : ℕ) (entry : Entry)
    → KeepsCount (length (applied_lists f)) ((cluster_of s).propose (over_raft f) member entry)
raft_keeps s f member entry = by_leader (leads (shape_of s) f member) where
  o : Outcome
  o = outcome_at (shape_of s) f member (Propose entry)

  by_full : (b : Bool) → KeepsCount (length (applied_lists f)) (answered
      (if b then Full (length (core_at (shape_of s) f member).log)
      else Placed (length o.member.log) o.member.term (steps_to (shape_of s) f member (Propose entry))))
  by_full true = tt
  by_full false = steps_count (shape_of s) f member (Propose entry)

  by_leader : (b : Bool) → KeepsCount (length (applied_lists f)) (answered
      (if b
      then (
      if is_full (shape_of s) f member then Full (length (core_at (shape_of s) f member).log)
      else Placed (length o.member.log) o.member.term (steps_to (shape_of s) f member (Propose entry))
      )
      else Elsewhere))
  by_leader true = by_full (is_full (shape_of s) f member)
  by_leader false = tt

propose_keeps : (s : Setup) (seats : Seats) (member : ℕ) (entry : Entry)
    → KeepsCount (length (lists_of seats)) ((cluster_of s).propose seats member entry)
propose_keeps s (over_list lists) member entry = list_keeps s lists member entry
propose_keeps s (over_raft fleet) member entry = raft_keeps s fleet member entry

proposed_aside : (s : Setup) (line : ℕ) (r : WorldRun) (i : ℕ) (c : Client) (p : Proposed Seats) → KeepsCount (length (lists_of r.members)) p
    → Aside r (proposed (cluster_of s) line r i c p)
proposed_aside s line r i c elsewhere k = record { now = refl; driving = refl; members = refl }
proposed_aside s line r i c (full entries) k = record { now = refl; driving = refl; members = refl }
proposed_aside s line r i c (placed place term after) k = record { now = refl; driving = refl; members = k }

-- ---- turns

pub does_aside : (s : Setup) (line : ℕ) (r : WorldRun) (i : ℕ) (c : Client) (p : Reply) (t : WorldRun) → Does (cluster_of s) line r i c p t
    → Aside r t
does_aside s line r i c waits t h = absurd h
does_aside s line r i c (tells fact) t h = subst (λ (x : WorldRun). Aside r x) (sym h) (record { now = refl; driving = refl; members = refl })
does_aside s line r i c proposes t h =
    subst (λ (x : WorldRun). Aside r x) (sym h.2)
    (proposed_aside s line r i c ((cluster_of s).propose r.members c.member h.0) (propose_keeps s r.members c.member h.0))

pub turns_aside : (s : Setup) (line : ℕ) (r t : WorldRun) → Turns (cluster_of s) line r t → Aside r t
turns_aside s line r t (Here _) = aside_same r
turns_aside s line r t (Then _ m _ first rest) =
    aside_through r m t (does_aside s line r first.index first.client (reply (cluster_of s) r first.client) m first.does)
    (turns_aside s line m t rest)

pub settles_aside : (s : Setup) (line : ℕ) (r t : WorldRun) → Settles (cluster_of s) line r t → Aside r t
settles_aside s line r t h = turns_aside s line r t h.turns

-- ---- what stands for a run

-- The sessions are in the middle of the same as before.
pub mid_from : (s : Setup) (at : ℕ) (left : List Action) (pending : List ℕ) (old new : Running) (r t : WorldRun)
    → RunsMid s at left pending old r → RunsAs s (run_in new) t → new.drivers ≡ old.drivers → Aside r t → RunsMid s at left pending new t
mid_from s at left pending old new r t k runs same aside = record {
  runs_as = runs;
  drives = subst (λ (d : Drivers). AreAtWork s at left pending (drivers_in d) t.now t.driving) (sym same)
      (subst (λ (n : ℕ). AreAtWork s at left pending (drivers_in old.drivers) n t.driving) (sym aside.now)
      (subst (λ (g : Driving). AreAtWork s at left pending (drivers_in old.drivers) r.now g) (sym aside.driving) k.drives));
  members = aside.members ∙ k.members;
  awake = k.awake;
}
