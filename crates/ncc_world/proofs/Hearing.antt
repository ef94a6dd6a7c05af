-- What the sessions keep where one of them is told something, or begins a work.
use Rattle.std.proofs.Common.{◌≡◌, ℕ, ◌≤◌, List, [], ◌∷◌, ◌++◌, Some, false, refl, ap, sym, ◌∙◌, arith}
use Rattle.std.specs.Prelude.{slice_get, slice_set}
use Rattle.ncc_driver.specs.declared.action.Input.{Input}
use Rattle.ncc_driver.specs.declared.standing.Core.{Core}
use Rattle.ncc_driver.specs.Work.{Job}
use Rattle.ncc_driver.specs.Talk.{begun, is_working, works_at}
use Rattle.ncc_driver.specs.declared.action.Action.{Action}
use Rattle.ncc_clients.specs.Links.{Driver, Driving}
use Rattle.ncc_clients.specs.Drives.{is_busy, knows, more, with_input}
use Rattle.ncc_clients.specs.Held.{Held, Hears, IsDriver, IsLive}
use Rattle.ncc_clients.proofs.Began.{began_is, began_more, began_stays}
use Rattle.ncc_world.specs.declared.setup.Setup.{Setup}
use Rattle.ncc_world.specs.Drivers.{AreAtWork, Becomes, KeptDrivers, with_one}
use Rattle.ncc_world.proofs.Sessions.{becomes_on, lives_on, one_here, stays_on}

-- A session says of itself whether it works, as that of the run does.
pub working_is : (held : Held) (d : Driver) (left : List Action) → IsDriver held d left → is_working held.session ≡ is_busy d
working_is held d left i = sym (ap (λ (c : Core). works_at c.stage) i.session_is.core_is)

-- Its last work began by now.
pub begun_by : (s : Setup) (index : ℕ) (k : KeptDrivers) (old : Held) (now : ℕ) (driving : Driving) (pending : List ℕ)
    → slice_get k.list index ≡ Some old → AreAtWork s index [] pending k now driving → old.session.core.began ≤ now
begun_by s index k old now driving pending was w =
    let l = lives_on s index k old now driving pending was w in
    omega (arith, began_is old l.0 [] l.1.stands, l.1.began)

pub lives_so : (s : Setup) (index : ℕ) (k : KeptDrivers) (old : Held) (now : ℕ) (driving : Driving) (pending : List ℕ)
    → slice_get k.list index ≡ Some old → AreAtWork s index [] pending k now driving → IsLive old
lives_so s index k old now driving pending was w =
    let l = lives_on s index k old now driving pending was w in (l.0, l.1.stands)

pub rests_so : (s : Setup) (index : ℕ) (k : KeptDrivers) (old : Held) (now : ℕ) (driving : Driving) (pending : List ℕ) (d : Driver)
    → slice_get k.list index ≡ Some old → slice_get driving.drivers index ≡ Some d → is_busy d ≡ false
    → AreAtWork s index [] pending k now driving → is_working old.session ≡ false
rests_so s index k old now driving pending d was there rests w =
    working_is old d [] (one_here s index [] pending k now driving old d was there w).stands ∙ rests

pub hears_on : (s : Setup) (index : ℕ) (k : KeptDrivers) (old held : Held) (d : Driver) (input : Input) (now : ℕ)
    → slice_get k.list index ≡ Some old → Hears old held d (with_input d.works (input, now))
    → Becomes s index k (record k { list = slice_set k.list index held }) d [] (knows d (with_input d.works (input, now)))
    (more d (with_input d.works (input, now)))
hears_on s index k old held d input now was hears =
    becomes_on s index k old held d (knows d (with_input d.works (input, now))) [] (more d (with_input d.works (input, now))) was hears
    (began_stays d.works (input, now)) refl

pub begins_on : (s : Setup) (index : ℕ) (k : KeptDrivers) (old held : Held) (d : Driver) (job : Job) (now : ℕ) (driving : Driving)
    (pending : List ℕ) → slice_get k.list index ≡ Some old → slice_get driving.drivers index ≡ Some d
    → (IsDriver old d [] → IsDriver held (knows d (d.works ++ begun job now ∷ [])) []) → AreAtWork s index [] pending k now driving
    → AreAtWork s index [] pending (record k { list = slice_set k.list index held }) now
    (with_one index (knows d (d.works ++ begun job now ∷ [])) driving)
begins_on s index k old held d job now driving pending was there makes w =
    let one = one_here s index [] pending k now driving old d was there w in
    stays_on s index [] [] pending k now driving held d (knows d (d.works ++ begun job now ∷ [])) there
    (record { stands = makes one.stands; began = omega (arith, began_more d.works job now) }) refl w
