-- Why a session may not begin a work, by what the sessions keep.
use Rattle.std.proofs.Common.{◌≡◌, ℕ, ◌-◌, Bool, true, false, cond, List, [], Option, None, Some, length}
use Rattle.std.proofs.Common.{ap, sym, refl, ◌∙◌, ◌<◌, ◌&&◌, arith}
use Rattle.std.specs.Prelude.{slice_get, nat_le}
use Rattle.std.proofs.lemmas.Bool.{leb-true}
use Rattle.ncc_driver.specs.declared.action.Action.{Action}
use Rattle.ncc_clients.proofs.Lists.{get_within}
use Rattle.ncc_clients.specs.Links.{Driver, Driving}
use Rattle.ncc_clients.specs.Drives.{is_busy}
use Rattle.ncc_clients.specs.Held.{Held, IsDriver}
use Rattle.ncc_world.specs.declared.error.WorldError.{WorldError}
use Rattle.ncc_world.specs.declared.error.WorldError.TheVariants.{Busy, NoSession}
use Rattle.ncc_world.specs.declared.setup.Setup.{Setup}
use Rattle.ncc_world.specs.Drivers.{AreAtWork, KeptDrivers, has_session, is_busy_in, left_of, refuses_work}
use Rattle.ncc_world.proofs.Sessions.{has_one}

counts_same : (s : Setup) (k : KeptDrivers) (now : ℕ) (driving : Driving) (session : ℕ) (b : Bool) → has_session (length k.list) session ≡ b
    → AreAtWork s 0 [] [] k now driving → has_session (length driving.drivers) session ≡ b
counts_same s k now driving session b h w = ap (λ n. has_session n session) (sym w.each.count) ∙ h

refuses_by : Driving → ℕ → Bool → Option WorldError
refuses_by driving session b =
    cond b (cond (is_busy_in (slice_get driving.drivers (session - 1))) (Some Busy) None) (Some NoSession)

-- There is none of this number.
pub refuses_none : (s : Setup) (k : KeptDrivers) (now : ℕ) (driving : Driving) (session : ℕ) → has_session (length k.list) session ≡ false
    → AreAtWork s 0 [] [] k now driving → Some NoSession ≡ refuses_work driving session
unfolding refuses_by
refuses_none s k now driving session h w = ap (refuses_by driving session) (sym (counts_same s k now driving session false h w))

-- There is, and it says whether it works.
pub refuses_one : (s : Setup) (k : KeptDrivers) (now : ℕ) (driving : Driving) (session : ℕ) (held : Held) (b : Bool)
    → has_session (length k.list) session ≡ true → slice_get k.list (session - 1) ≡ Some held
    → ((d : Driver) (left : List Action) → IsDriver held d left → b ≡ is_busy d)
    → AreAtWork s 0 [] [] k now driving → cond b (Some Busy) None ≡ refuses_work driving session
unfolding refuses_by
refuses_one s k now driving session held b h was says w =
    let d = has_one s 0 [] [] k now driving (session - 1) (get_within k.list (session - 1) held was) w in
    let one = w.each.each (session - 1) held d.0 was d.1 in
    ap (λ (x : Bool). cond x (Some Busy) None) (says d.0 (left_of 0 [] (session - 1)) one.stands)
    ∙ ap (λ (o : Option Driver). cond (is_busy_in o) (Some Busy) None) (sym d.1)
    ∙ ap (refuses_by driving session) (sym (counts_same s k now driving session true h w))

-- Its index is that of one that is kept.
pub has_within : (count session : ℕ) → has_session count session ≡ true → session - 1 < count
has_within count session h = go (nat_le 1 session) (nat_le session count) refl refl h where
  go : (a b : Bool) → nat_le 1 session ≡ a → nat_le session count ≡ b → a && b ≡ true → session - 1 < count
  go true true e f h = omega (arith, leb-true 1 session e, leb-true session count f)
  go true false e f h = absurd (cc)
  go false b e f h = absurd (cc)
