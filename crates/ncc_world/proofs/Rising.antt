-- What moves on the link of a session: what goes up, and what comes down.
use Rattle.std.proofs.Common.{◌≡◌, ℕ, zero, suc, ◌+◌, ◌-◌, ◌<◌, ◌≤◌, Bool, true, false, List, [], ◌∷◌, length, drop, get_or}
use Rattle.std.proofs.Common.{Option, Some, None, refl, sym, ap, ◌∙◌, subst, arith, inl, inr}
use Rattle.std.proofs.Common.{rules}
use Rattle.std.proofs.lemmas.Option.{slice_get_past}
use Rattle.std.specs.Prelude.{slice_get, nat_le, IsTrue, Result, Ok, Err, IfOk}
use Rattle.std.proofs.lemmas.Bool.Decides.{leb_tells}
use Rattle.ncc_clients.specs.Links.{Link, Driver, Lifted, Parcel}
use Rattle.ncc_clients.specs.Run.{Client, out_of}
use Rattle.ncc_clients.specs.Drives.{driver_at, with_driver, feeds, feeds_some, lifts, lifts_by, held_back, waits_above, down_at, comes_down}
use Rattle.ncc_clients.specs.Drives.{falls, falls_by, told_input}
use Rattle.ncc_driver.specs.declared.action.Input.TheVariants as i
use Rattle.ncc_clients.proofs.Lists.{get_there, set_same}
use Rattle.ncc_clients.specs.Held.{fallen, lifted, with_up}
use Rattle.ncc_world.specs.declared.setup.Setup.{Setup}
use Rattle.ncc_world.specs.declared.seen.ConnSeen.{ConnSeen}
use Rattle.ncc_world.specs.declared.served.Served.{Served}
use Rattle.ncc_world.specs.Setting.{cluster_of}
use Rattle.ncc_world.specs.Happening.{WorldRun}
use Rattle.ncc_world.specs.World.{AreClients, KeptRun, RunsAs}
use Rattle.ncc_world.specs.declared.running.Running.{Running}
use Rattle.ncc_world.specs.declared.drivers.Drivers.{Drivers}
use Rattle.ncc_world.specs.Drivers.{AreAtWork, with_one}
use Rattle.ncc_world.specs.Parts.{RunsMid, drivers_in, rises_some}
use Rattle.ncc_world.proofs.Turning.{counted}
use Rattle.ncc_world.proofs.Doing.{mid_with, same_run}

pub not_true : (b : Bool) → b ≡ false → IsTrue b → ⊥
not_true b e h = let no : IsTrue false = subst (λ (x : Bool). IsTrue x) e h in search rules

pub if_ok_weaker : {T E : Type 0} {P Q : T → Type 0} (r : Result T E) → ((t : T) → P t → Q t) → IfOk r P → IfOk r Q
if_ok_weaker (Ok t) f h = f t h
if_ok_weaker (Err e) f h = h

-- ---- up

pub rises_nothing : (s : Setup) (r : WorldRun) (o : Option Driver) → rises_some s r o [] ≡ r
rises_nothing s r None = refl
rises_nothing s r (Some d) = go d.link where
  go : (o : Option Link) → elim o [ Some link ↦ feeds_some (cluster_of s) r (link.conn - 1) [] | None ↦ r ] ≡ r
  go None = refl
  go (Some link) = refl

abbrev rises_by : Setup → WorldRun → List ℕ → Option Link → WorldRun
rises_by s r bytes o = elim o [ Some link ↦ feeds_some (cluster_of s) r (link.conn - 1) bytes | None ↦ r ]

pub rises_unlinked : (s : Setup) (r : WorldRun) (d : Driver) (bytes : List ℕ) → d.link ≡ None → rises_some s r (Some d) bytes ≡ r
rises_unlinked s r d bytes e = ap (rises_by s r bytes) e

pub rises_linked : (s : Setup) (r : WorldRun) (d : Driver) (bytes : List ℕ) (link : Link) → d.link ≡ Some link
    → rises_some s r (Some d) bytes ≡ feeds_some (cluster_of s) r (link.conn - 1) bytes
rises_linked s r d bytes link e = ap (rises_by s r bytes) e

pub feeds_there : (s : Setup) (r : WorldRun) (i : ℕ) (bytes : List ℕ) → (bytes ≡ [] → ⊥)
    → feeds (cluster_of s) r i bytes ≡ feeds_some (cluster_of s) r i bytes
feeds_there s r i [] f = absurd (f refl)
feeds_there s r i (b ∷ bs) f = refl

-- the session with what stays on its link behind what was taken to go up
abbrev pub taken_from : (List Parcel → Lifted) → Driver → Driver
taken_from lift d = record d { link = with_up (lifted lift d.link).left d.link }

lifts_as : (s : Setup) (r : WorldRun) (k : ℕ) (d : Driver) (lift : List Parcel → Lifted) (bytes : List ℕ) → driver_at r k ≡ Some d
    → bytes ≡ (lifted lift d.link).moved
    → rises_some s (with_driver r k (taken_from lift d)) (Some (taken_from lift d)) bytes ≡ lifts_by (cluster_of s) k r d d.link lift
lifts_as s r k d lift bytes there e = go d.link refl where
  at : Option Link → Driver
  at o = record d { link = with_up (lifted lift o).left o }

  go : (o : Option Link) → d.link ≡ o
      → rises_some s (with_driver r k (record d { link = with_up (lifted lift d.link).left d.link }))
      (Some (record d { link = with_up (lifted lift d.link).left d.link })) bytes
      ≡ lifts_by (cluster_of s) k r d d.link lift
  go None f =
      let here : record d { link = with_up (lifted lift d.link).left d.link } ≡ d =
      ap (λ (o : Option Link). record d { link = with_up (lifted lift o).left o }) f ∙ ap (λ (o : Option Link). record d { link = o }) (sym f) in
      ap (λ (x : Driver). rises_some s (with_driver r k x) (Some x) bytes) here
      ∙ rises_unlinked s (with_driver r k d) d bytes f
      ∙ same_run r k d there
      ∙ ap (λ (o : Option Link). lifts_by (cluster_of s) k r d o lift) (sym f)
  go (Some link) f =
      let after : Driver = record d { link = Some (record link { up = (lift link.up).left }) } in
      let here : record d { link = with_up (lifted lift d.link).left d.link } ≡ after =
      ap (λ (o : Option Link). record d { link = with_up (lifted lift o).left o }) f in
      let moved : bytes ≡ (lift link.up).moved = e ∙ ap (λ (o : Option Link). (lifted lift o).moved) f in
      ap (λ (x : Driver). rises_some s (with_driver r k x) (Some x) bytes) here
      ∙ ap (λ (x : List ℕ). feeds_some (cluster_of s) (with_driver r k after) (link.conn - 1) x) moved
      ∙ ap (λ (o : Option Link). lifts_by (cluster_of s) k r d o lift) (sym f)

-- What was taken from what waits, and then goes up, was lifted.
pub lifts_so : (s : Setup) (r : WorldRun) (k : ℕ) (d : Driver) (lift : List Parcel → Lifted) (bytes : List ℕ) → driver_at r k ≡ Some d
    → bytes ≡ (lifted lift d.link).moved
    → rises_some s (with_driver r k (taken_from lift d)) (driver_at (with_driver r k (taken_from lift d)) k) bytes
    ≡ lifts (cluster_of s) k r (driver_at r k) lift
lifts_so s r k d lift bytes there e =
    ap (λ (o : Option Driver). rises_some s (with_driver r k (taken_from lift d)) o bytes)
    (set_same r.driving.drivers k d (taken_from lift d) there)
    ∙ lifts_as s r k d lift bytes there e ∙ ap (λ (o : Option Driver). lifts (cluster_of s) k r o lift) (sym there)

-- What was taken from what waits is no longer there.
pub mid_lifts : (s : Setup) (at : ℕ) (pending : List ℕ) (w : Running) (r : WorldRun) (ds : Drivers) (d : Driver) (lift : List Parcel → Lifted)
    (bytes : List ℕ) → driver_at r at ≡ Some d
    → (AreAtWork s at [] pending (drivers_in w.drivers) r.now r.driving → (bytes ≡ (lifted lift d.link).moved)
    × AreAtWork s at [] pending (drivers_in ds) r.now (with_one at (taken_from lift d) r.driving))
    → RunsMid s at [] pending w r
    → (bytes ≡ (lifted lift d.link).moved) × RunsMid s at [] pending (record w { drivers = ds }) (with_driver r at (taken_from lift d))
mid_lifts s at pending w r ds d lift bytes there f h =
    let x = f h.drives in (x.0, mid_with s at [] [] pending w r ds (with_one at (taken_from lift d) r.driving) h x.1)

-- ---- down

out_at : (s : Setup) (vs : List Served) (seens : List ConnSeen) (cs : List Client) (i : ℕ) (seen : ConnSeen) (c : Client)
    → AreClients s vs seens cs → slice_get cs i ≡ Some c → seen ≡ get_or seens i seen → seen.out ≡ out_of (cluster_of s) c
unfolding AreClients
out_at s [] [] [] i seen c h e f = absurd (cc)
out_at s [] [] (x ∷ xs) i seen c h e f = absurd h
out_at s [] (y ∷ ys) cs i seen c h e f = absurd h
out_at s (z ∷ zs) [] cs i seen c h e f = absurd h
out_at s (z ∷ zs) (y ∷ ys) [] i seen c h e f = absurd h
out_at s (z ∷ zs) (y ∷ ys) (x ∷ xs) zero seen c h e f =
    let same : x ≡ c = cc in
    ap (λ (k : ConnSeen). k.out) (f ∙ h.0.seen_is) ∙ ap (λ (k : Client). out_of (cluster_of s) k) same
out_at s (z ∷ zs) (y ∷ ys) (x ∷ xs) (suc i) seen c h e f = out_at s zs ys xs i seen c h.1 e f

-- What a connection shows beyond what came down waits above.
pub above_shown : (s : Setup) (w : KeptRun) (r : WorldRun) (link : Link) (seen : ConnSeen) → RunsAs s w r
    → link.conn - 1 < length w.clients.seen → seen ≡ get_or w.clients.seen (link.conn - 1) seen
    → drop link.down seen.out ≡ waits_above (cluster_of s) r link
above_shown s w r link seen k lt e =
    let n = counted s w r k in
    let there : (c : Client) × (slice_get r.clients (link.conn - 1) ≡ Some c) =
    get_there r.clients (link.conn - 1) (omega (arith, lt, n.seen)) in
    ap (λ (out : List ℕ). drop link.down out) (out_at s w.clients.table w.clients.seen r.clients (link.conn - 1) seen there.0 k.clients.each there.1 e)
    ∙ ap (held_back (cluster_of s) link) (sym there.1)

-- the same of what was read on the way there
pub rest_is : (s : Setup) (w : KeptRun) (r : WorldRun) (link : Link) (seens : List ConnSeen) (seen : ConnSeen) (at conn down : ℕ)
    (out rest : List ℕ) → RunsAs s w r → seens ≡ w.clients.seen → at < length seens → at ≡ conn - 1 → conn ≡ link.conn → down ≡ link.down
    → out ≡ (get_or seens at seen).out → rest ≡ drop down out → seen ≡ get_or seens at seen → rest ≡ waits_above (cluster_of s) r link
rest_is s w r link seens seen at conn down out rest k all lt at_is conn_is down_is out_is behind_is there =
    let place : at ≡ link.conn - 1 = at_is ∙ ap (λ (n : ℕ). n - 1) conn_is in
    let here : seen ≡ get_or w.clients.seen (link.conn - 1) seen =
    there ∙ ap (λ (l : List ConnSeen). get_or l at seen) all ∙ ap (λ (n : ℕ). get_or w.clients.seen n seen) place in
    let within : link.conn - 1 < length w.clients.seen = omega (arith, lt, place, ap (λ (l : List ConnSeen). length l) all) in
    behind_is ∙ ap (λ (n : ℕ). drop n out) down_is
    ∙ ap (λ (xs : List ℕ). drop link.down xs) (out_is ∙ sym (ap (λ (x : ConnSeen). x.out) there))
    ∙ above_shown s w r link seen k within here

-- no such connection
pub above_past : (s : Setup) (w : KeptRun) (r : WorldRun) (link : Link) → RunsAs s w r → length w.clients.seen ≤ link.conn - 1
    → [] ≡ waits_above (cluster_of s) r link
above_past s w r link k le =
    let n = counted s w r k in
    ap (held_back (cluster_of s) link) (sym (slice_get_past r.clients (link.conn - 1) (omega (arith, le, n.seen))))

abbrev down_by : Setup → WorldRun → Option Link → List ℕ
down_by s r o = elim o [ Some link ↦ waits_above (cluster_of s) r link | None ↦ [] ]

pub down_linked : (s : Setup) (r : WorldRun) (k : ℕ) (d : Driver) (link : Link) → driver_at r k ≡ Some d → d.link ≡ Some link
    → waits_above (cluster_of s) r link ≡ down_at (cluster_of s) r (driver_at r k)
down_linked s r k d link there e = ap (down_by s r) (sym e) ∙ ap (down_at (cluster_of s) r) (sym there)

pub down_unlinked : (s : Setup) (r : WorldRun) (k : ℕ) (d : Driver) → driver_at r k ≡ Some d → d.link ≡ None
    → [] ≡ down_at (cluster_of s) r (driver_at r k)
down_unlinked s r k d there e = ap (down_by s r) (sym e) ∙ ap (down_at (cluster_of s) r) (sym there)

-- Nothing comes down, and nothing happens.
pub falls_nothing : (s : Setup) (line k : ℕ) (r : WorldRun) (front : List ℕ → List ℕ)
    → front (down_at (cluster_of s) r (driver_at r k)) ≡ [] → r ≡ falls (cluster_of s) line k r (driver_at r k) front
falls_nothing s line k r front e = go (driver_at r k) e where
  one : (d : Driver) (o : Option Link) → front (down_by s r o) ≡ [] → r ≡ falls_by (cluster_of s) line k r d o front
  one d None f = refl
  one d (Some link) f = ap (comes_down (cluster_of s) line k r d link) (sym f)

  go : (o : Option Driver) → front (down_at (cluster_of s) r o) ≡ [] → r ≡ falls (cluster_of s) line k r o front
  go None f = refl
  go (Some d) f = one d d.link f

-- the same bytes come down
pub falls_same : (s : Setup) (line k : ℕ) (r : WorldRun) (front other : List ℕ → List ℕ)
    → front (down_at (cluster_of s) r (driver_at r k)) ≡ other (down_at (cluster_of s) r (driver_at r k))
    → falls (cluster_of s) line k r (driver_at r k) front ≡ falls (cluster_of s) line k r (driver_at r k) other
falls_same s line k r front other e = go (driver_at r k) e where
  one : (d : Driver) (o : Option Link) → front (down_by s r o) ≡ other (down_by s r o)
      → falls_by (cluster_of s) line k r d o front ≡ falls_by (cluster_of s) line k r d o other
  one d None f = refl
  one d (Some link) f = ap (comes_down (cluster_of s) line k r d link) f

  go : (o : Option Driver) → front (down_at (cluster_of s) r o) ≡ other (down_at (cluster_of s) r o)
      → falls (cluster_of s) line k r o front ≡ falls (cluster_of s) line k r o other
  go None f = refl
  go (Some d) f = one d d.link f

-- Where bytes wait above there is a link.
pub linked_by : (s : Setup) (r : WorldRun) (k : ℕ) (d : Driver) (front : List ℕ → List ℕ) (bytes : List ℕ) → driver_at r k ≡ Some d
    → front [] ≡ [] → bytes ≡ front (down_at (cluster_of s) r (driver_at r k)) → (bytes ≡ [] → ⊥) → (link : Link) × (d.link ≡ Some link)
linked_by s r k d front bytes there nil e some = go d.link refl where
  go : (o : Option Link) → d.link ≡ o → (link : Link) × (d.link ≡ Some link)
  go None f = absurd (some (e ∙ ap front (sym (down_unlinked s r k d there f)) ∙ nil))
  go (Some link) f = (link, f)

pub some_bytes : (bytes : List ℕ) → (bytes ≡ [] → ⊥) → 1 ≤ length bytes
some_bytes [] f = absurd (f refl)
some_bytes (b ∷ bs) f = omega arith

pub some_tells : (bytes : List ℕ) → (bytes ≡ [] → ⊥) → true ≡ nat_le 1 (length bytes)
some_tells bytes f = elim (leb_tells 1 (length bytes)) [
  | inl h ↦ sym h.0
  | inr h ↦ absurd (omega (arith, h.1, some_bytes bytes f))
]

-- Some bytes come down, and the session is told them.
pub falls_some : (s : Setup) (line k : ℕ) (r : WorldRun) (d : Driver) (front : List ℕ → List ℕ) (bytes : List ℕ) (link : Link)
    → driver_at r k ≡ Some d → d.link ≡ Some link → bytes ≡ front (down_at (cluster_of s) r (driver_at r k)) → (bytes ≡ [] → ⊥)
    → told_input (cluster_of s) line k (with_driver r k (record d { link = fallen (length bytes) d.link }))
    (record d { link = fallen (length bytes) d.link }) (i.Bytes bytes)
    ≡ falls (cluster_of s) line k r (driver_at r k) front
falls_some s line k r d front bytes link there e f some =
    ap (λ (o : Option Link). after (record d { link = fallen (length bytes) o })) e ∙ comes bytes some
    ∙ ap (comes_down (cluster_of s) line k r d link) f
    ∙ ap (λ (x : List ℕ). comes_down (cluster_of s) line k r d link (front x)) (sym (down_linked s r k d link there e))
    ∙ ap (λ (o : Option Link). falls_by (cluster_of s) line k r d o front) (sym e)
    ∙ ap (λ (o : Option Driver). falls (cluster_of s) line k r o front) (sym there) where
      after : Driver → WorldRun
      after x = told_input (cluster_of s) line k (with_driver r k x) x (i.Bytes bytes)

      comes : (xs : List ℕ) → (xs ≡ [] → ⊥)
          → told_input (cluster_of s) line k (with_driver r k (record d { link = Some (record link { down = link.down + length xs }) }))
          (record d { link = Some (record link { down = link.down + length xs }) }) (i.Bytes xs)
          ≡ comes_down (cluster_of s) line k r d link xs
      comes [] g = absurd (g refl)
      comes (b ∷ bs) g = refl
