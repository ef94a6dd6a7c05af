-- One move of a pump, and all of them.
use Rattle.std.proofs.Common.{◌≡◌, ℕ, ◌-◌, ◌<◌, ◌≤◌, Bool, true, false, cond, List, [], ◌∷◌, length, take}
use Rattle.std.proofs.Common.{Option, Some, None, refl, sym, ap, ◌∙◌, subst, arith, inl, inr}
use Rattle.std.proofs.lemmas.List.{take_all}
use Rattle.std.proofs.lemmas.Bool.Decides.{leb_tells}
use Rattle.std.specs.Prelude.{nat_le}
use Rattle.ncc_driver.specs.LawsFits.{AreBytes}
use Rattle.ncc_clients.specs.Links.{Link, Driver, Parcel, requests_in}
use Rattle.ncc_clients.specs.Turn.{Settles}
use Rattle.ncc_clients.specs.Drives.{driver_at, up_at, down_at, rises, descends, falls, all_bytes}
use Rattle.ncc_clients.specs.Drives.{Rests, Stops, Lifts, Falls}
use Rattle.ncc_clients.specs.Held.{waiting_in, waiting_on}
use Rattle.ncc_clients.specs.Measure.{number}
use Rattle.ncc_clients.proofs.Lowering.{rises_lower}
use Rattle.ncc_world.specs.declared.setup.Setup.{Setup}
use Rattle.ncc_world.specs.declared.running.Running.{Running}
use Rattle.ncc_world.specs.Setting.{cluster_of}
use Rattle.ncc_world.specs.Happening.{WorldRun}
use Rattle.ncc_world.specs.Parts.{MovesOnce, PumpsOn, RunsAll, left_after}
use Rattle.ncc_world.proofs.Lessening.{IsShort, falls_lower}
use Rattle.ncc_world.proofs.Rising.{falls_nothing, falls_same}

-- ---- what waits to go up

abbrev up_by : Option Link → List Parcel
up_by o = elim o [ Some link ↦ link.up | None ↦ [] ]

waiting_some : (up : List Parcel) (n : ℕ) → Some n ≡ waiting_in up → (up ≡ [] → ⊥) × (n ≡ requests_in up)
waiting_some [] n e = absurd (cc)
waiting_some (p ∷ ps) n e = (λ f. cc, cc)

waiting_none : (up : List Parcel) → None ≡ waiting_in up → up ≡ []
waiting_none [] e = refl
waiting_none (p ∷ ps) e = absurd (cc)

some_on : (o : Option Link) (n : ℕ) → Some n ≡ waiting_on o → (up_by o ≡ [] → ⊥) × (n ≡ requests_in (up_by o))
some_on None n e = absurd (cc)
some_on (Some link) n e = waiting_some link.up n e

none_on : (o : Option Link) → None ≡ waiting_on o → up_by o ≡ []
none_on None e = refl
none_on (Some link) e = waiting_none link.up e

-- so many requests wait, or nothing
pub some_waits : (r : WorldRun) (k : ℕ) (d : Driver) (n : ℕ) → driver_at r k ≡ Some d → Some n ≡ waiting_on d.link
    → (up_at (driver_at r k) ≡ [] → ⊥) × (n ≡ requests_in (up_at (driver_at r k)))
some_waits r k d n there e =
    subst (λ (o : Option Driver). (up_at o ≡ [] → ⊥) × (n ≡ requests_in (up_at o))) (sym there) (some_on d.link n e)

pub none_waits : (r : WorldRun) (k : ℕ) (d : Driver) → driver_at r k ≡ Some d → None ≡ waiting_on d.link → up_at (driver_at r k) ≡ []
none_waits r k d there e = subst (λ (o : Option Driver). up_at o ≡ []) (sym there) (none_on d.link e)

-- ---- up

moved_up : (s : Setup) (line k : ℕ) (limit : Option ℕ) (r m : WorldRun) (new : Running) → (up_at (driver_at r k) ≡ [] → ⊥)
    → Settles (cluster_of s) line (rises (cluster_of s) k limit r) m → RunsAll s new m
    → MovesOnce s line k limit r (left_after limit (requests_in (up_at (driver_at r k)))) new
moved_up s line k None r m new some settles h = (
  m,
  λ t p. (Lifts None r m t some refl settles p.0, p.1),
  h,
  rises_lower (cluster_of s) k None line r m some refl settles.turns,
)
moved_up s line k (Some count) r m new some settles h = go (nat_le count (requests_in (up_at (driver_at r k)))) refl where
  go : (b : Bool) → nat_le count (requests_in (up_at (driver_at r k))) ≡ b
      → MovesOnce s line k (Some count) r (cond b None (Some (Some (count - requests_in (up_at (driver_at r k)))))) new
  go true e = (m, (Stops (Some count) r m e settles, tt), h)
  go false e = (
    m,
    λ t p. (Lifts (Some count) r m t some e settles p.0, p.1),
    h,
    rises_lower (cluster_of s) k (Some count) line r m some e settles.turns,
  )

-- All that may go up went up, and was answered.
pub moves_up : (s : Setup) (line k : ℕ) (limit : Option ℕ) (r m : WorldRun) (d : Driver) (n : ℕ) (new : Running) → driver_at r k ≡ Some d
    → Some n ≡ waiting_on d.link → Settles (cluster_of s) line (rises (cluster_of s) k limit r) m → RunsAll s new m
    → MovesOnce s line k limit r (left_after limit n) new
moves_up s line k limit r m d n new there e settles h =
    let w = some_waits r k d n there e in
    subst (λ (x : ℕ). MovesOnce s line k limit r (left_after limit x) new) (sym w.1) (moved_up s line k limit r m new w.0 settles h)

-- ---- down

some_length : (xs : List ℕ) (b : Bool) → b ≡ nat_le 1 (length xs) → b ≡ true → xs ≡ [] → ⊥
some_length xs b e f g =
    let none : length xs ≡ 0 = ap length g in
    elim (leb_tells 1 (length xs)) [ inl h ↦ absurd (omega (arith, h.1, none)) | inr h ↦ absurd (let z = h.0 in cc) ]

none_length : (xs : List ℕ) → false ≡ nat_le 1 (length xs) → xs ≡ []
none_length [] e = refl
none_length (x ∷ xs) e = elim (leb_tells 1 (length (x ∷ xs))) [
  | inl h ↦ absurd (let z = h.0 in cc)
  | inr h ↦ absurd (omega (arith, h.1))
]

-- Nothing was left to move.
pub moves_none : (s : Setup) (line k count : ℕ) (limit : Option ℕ) (r : WorldRun) (d : Driver) (new : Running) → driver_at r k ≡ Some d
    → None ≡ waiting_on d.link → length (down_at (cluster_of s) r (driver_at r k)) ≤ count
    → false ≡ nat_le 1 (length (take count (down_at (cluster_of s) r (driver_at r k))))
    → RunsAll s new (falls (cluster_of s) line k r (driver_at r k) (take count)) → MovesOnce s line k limit r None new
moves_none s line k count limit r d new there e le none h =
    let all : take count (down_at (cluster_of s) r (driver_at r k)) ≡ down_at (cluster_of s) r (driver_at r k) =
    take_all count (down_at (cluster_of s) r (driver_at r k)) le in
    let nothing = none_length (take count (down_at (cluster_of s) r (driver_at r k))) none in (
      r,
      (Rests limit r (none_waits r k d there e) (sym all ∙ nothing), tt),
      subst (λ (x : WorldRun). RunsAll s new x) (sym (falls_nothing s line k r (take count) nothing)) h,
    )

-- All that was written came down.
pub moves_down : (s : Setup) (line k count : ℕ) (limit : Option ℕ) (r : WorldRun) (d : Driver) (new : Running) → driver_at r k ≡ Some d
    → IsShort d → None ≡ waiting_on d.link → length (down_at (cluster_of s) r (driver_at r k)) ≤ count
    → AreBytes (take count (down_at (cluster_of s) r (driver_at r k)))
    → true ≡ nat_le 1 (length (take count (down_at (cluster_of s) r (driver_at r k))))
    → RunsAll s new (falls (cluster_of s) line k r (driver_at r k) (take count)) → MovesOnce s line k limit r (Some limit) new
moves_down s line k count limit r d new there short e le bytes some h = (
  falls (cluster_of s) line k r (driver_at r k) (take count),
  λ t p. goes t (falls (cluster_of s) line k r (driver_at r k) (take count)) same p,
  h,
  subst (λ (m : WorldRun). number (cluster_of s) k m < number (cluster_of s) k r) (sym same)
      (falls_lower (cluster_of s) k line r d there short (none_on d.link e)
      (λ f. not_none (ap (λ (o : Option Driver). down_at (cluster_of s) r o) there ∙ f))),
) where
  down : List ℕ
  down = down_at (cluster_of s) r (driver_at r k)

  all : take count (down_at (cluster_of s) r (driver_at r k)) ≡ down_at (cluster_of s) r (driver_at r k)
  all = take_all count (down_at (cluster_of s) r (driver_at r k)) le

  not_none : down_at (cluster_of s) r (driver_at r k) ≡ [] → ⊥
  not_none f = some_length (take count (down_at (cluster_of s) r (driver_at r k))) true some refl (all ∙ f)

  same : falls (cluster_of s) line k r (driver_at r k) (take count) ≡ descends (cluster_of s) line k r
  same = falls_same s line k r (take count) all_bytes all

  goes : (t m : WorldRun) → m ≡ descends (cluster_of s) line k r → PumpsOn s line k limit m t → PumpsOn s line k limit r t
  goes t m f p =
      let q : PumpsOn s line k limit (descends (cluster_of s) line k r) t = subst (λ (x : WorldRun). PumpsOn s line k limit x t) f p in (
        Falls limit r t (none_waits r k d there e) not_none q.0,
        (subst AreBytes all bytes, q.1),
      )
