-- A link to a member is opened, if an address names one.
use Rattle.std.proofs.Common.{◌≡◌, ℕ, zero, suc, ◌+◌, ◌<◌, ◌≤◌, Bool, true, false, cond, List, [], ◌∷◌, length, Option, Some, None, refl}
use Rattle.std.proofs.Common.{sym, ap, ◌∙◌, subst, arith}
use Rattle.std.specs.Prelude.{is_some, if◌then◌else◌}
use Rattle.ncc_driver.specs.declared.action.Input.{Input}
use Rattle.ncc_pack.specs.declared.value.Value.{Value}
use Rattle.ncc_driver.specs.declared.action.Action.{Action}
use Rattle.ncc_driver.specs.declared.action.Action.TheVariants.{Connect}
use Rattle.ncc_driver.specs.declared.action.Input.TheVariants as i
use Rattle.ncc_clients.specs.Members.{addresses}
use Rattle.ncc_clients.specs.Links.{Driver}
use Rattle.ncc_clients.specs.Run.{opened}
use Rattle.ncc_clients.specs.Drives.{is_named, named_from, member_named, joined, joins, joins_named}
use Rattle.ncc_world.specs.declared.setup.Setup.{Setup}
use Rattle.ncc_world.specs.declared.running.Running.{Running}
use Rattle.ncc_world.specs.declared.drivers.Drivers.{Drivers}
use Rattle.ncc_world.specs.Setting.{IsSetup, lists_of, cluster_of}
use Rattle.ncc_world.specs.Happening.{WorldRun}
use Rattle.ncc_world.specs.Drivers.{AreAtWork, joined_as}
use Rattle.ncc_world.specs.Parts.{RunsMid, drivers_in, members_in}
use Rattle.ncc_world.proofs.Seated.{shelves_count}
use Rattle.ncc_world.proofs.Doing.{mid_with}

addresses_many : (count first : ℕ) → length (addresses count first) ≡ count
unfolding addresses
addresses_many zero first = refl
addresses_many (suc count) first = ap suc (addresses_many count (first + 1))

pub record Among (first count member : ℕ) : Type 0 where
  pub low : first ≤ member
  pub high : member < first + count

named_by : (b : Bool) (first count member : ℕ) (rest : Option ℕ) → (rest ≡ Some member → Among (suc first) count member)
    → cond b (Some first) rest ≡ Some member → Among first (suc count) member
named_by true first count member rest f e = let same : first ≡ member = cc in record { low = omega (arith, same); high = omega (arith, same) }
named_by false first count member rest f e =
    let h = f e in record { low = omega (arith, h.low); high = omega (arith, h.high) }

named_among : (first : ℕ) (names : List Value) (address : List ℕ) (member : ℕ) → named_from first names address ≡ Some member
    → Among first (length names) member
unfolding named_from
named_among first [] address member e = absurd (cc)
named_among first (x ∷ xs) address member e =
    named_by (is_named x address) first (length xs) member (named_from (suc first) xs address) (named_among (suc first) xs address member) e

pub named_few : (s : Setup) (at : ℕ) (left : List Action) (pending : List ℕ) (w : Running) (r : WorldRun) → IsSetup s
    → RunsMid s at left pending w r → length w.drivers.names ≤ 254
named_few s at left pending w r allowed h =
    let names : w.drivers.names ≡ addresses (s.cores + s.replicas) 1 = h.drives.names in
    omega (arith, ap (λ (x : List Value). length x) names, addresses_many (s.cores + s.replicas) 1, allowed.cores, allowed.replicas)

-- A member that is named is one of the members.
pub named_there : (s : Setup) (at : ℕ) (left : List Action) (pending : List ℕ) (w : Running) (r : WorldRun) (address : List ℕ) (member : ℕ)
    → RunsMid s at left pending w r → Some member ≡ named_from 1 w.drivers.names address
    → (0 < member) × (member ≤ length w.members.list.shelves.items)
named_there s at left pending w r address member h e =
    let names : w.drivers.names ≡ addresses (s.cores + s.replicas) 1 = h.drives.names in
    let count : length w.members.list.shelves.items ≡ length (lists_of r.members) = shelves_count s (members_in w.members) r.members r.history h.runs_as.members in
    let among = named_among 1 w.drivers.names address member (sym e) in
    let low : 1 ≤ member = among.low in
    let high : member < 1 + length w.drivers.names = among.high in
    let many : length w.drivers.names ≡ s.cores + s.replicas =
    ap (λ (x : List Value). length x) names ∙ addresses_many (s.cores + s.replicas) 1 in
    (omega (arith, low), omega (arith, high, many, count, h.members))

-- whom an address names
pub named_is : (s : Setup) (at : ℕ) (left : List Action) (pending : List ℕ) (w : Running) (r : WorldRun) (address : List ℕ) (o : Option ℕ)
    → RunsMid s at left pending w r → o ≡ named_from 1 w.drivers.names address → o ≡ member_named (cluster_of s) address
named_is s at left pending w r address o h e =
    let names : w.drivers.names ≡ addresses (s.cores + s.replicas) 1 = h.drives.names in
    e ∙ ap (λ (x : List Value). named_from 1 x address) names

-- What comes of an address that names nobody.
pub joins_none : (s : Setup) (index : ℕ) (d : Driver) (r : WorldRun) (address : List ℕ) → None ≡ member_named (cluster_of s) address
    → (Some i.Lost ≡ joined (cluster_of s) (Some (Connect address))) × (r ≡ joins_named index d r (member_named (cluster_of s) address))
joins_none s index d r address e = (ap told e, ap (joins_named index d r) e) where
  told : Option ℕ → Option Input
  told o = Some (if is_some o then i.Connected else i.Lost)

pub joins_some : (s : Setup) (index : ℕ) (d : Driver) (r : WorldRun) (address : List ℕ) (member : ℕ)
    → Some member ≡ member_named (cluster_of s) address
    → (Some i.Connected ≡ joined (cluster_of s) (Some (Connect address)))
    × (joins index d r member ≡ joins_named index d r (member_named (cluster_of s) address))
joins_some s index d r address member e = (ap told e, ap (joins_named index d r) e) where
  told : Option ℕ → Option Input
  told o = Some (if is_some o then i.Connected else i.Lost)

-- It is opened, and the session has it.
pub mid_joined : (s : Setup) (index : ℕ) (left : List Action) (pending : List ℕ) (w : Running) (r : WorldRun) (ds : Drivers) (d : Driver)
    (member conn : ℕ) → conn ≡ length r.clients + 1 → RunsMid s index left pending w (opened r member true)
    → AreAtWork s index left pending (drivers_in ds) r.now (joined_as index conn d r.driving)
    → RunsMid s index left pending (record w { drivers = ds }) (joins index d r member)
mid_joined s index left pending w r ds d member conn e h k =
    mid_with s index left left pending w (opened r member true) ds (joined_as index (length r.clients + 1) d r.driving) h
    (subst (λ (n : ℕ). AreAtWork s index left pending (drivers_in ds) r.now (joined_as index n d r.driving)) e k)
