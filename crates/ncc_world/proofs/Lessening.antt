-- The number of a pump's loop, of a session of a world: how high it is at most, and that it falls where all comes down.
use Rattle.std.proofs.Common.{◌≡◌, ◌≤◌, ◌<◌, ◌⊎◌, inl, inr, ℕ, ◌+◌, ◌-◌, ◌*◌, List, [], ◌∷◌, ◌++◌, length, drop, Option, Some, None}
use Rattle.std.proofs.Common.{refl, sym, ap, ◌∙◌, subst, arith}
use Rattle.std.specs.Prelude.{slice_get, slice_set}
use Rattle.ncc_driver.specs.declared.config.SessionConfig.{SessionConfig}
use Rattle.ncc_driver.specs.declared.action.Action.{Action}
use Rattle.ncc_driver.specs.Work.{Job}
use Rattle.ncc_driver.specs.Session.{Begun, session, acts}
use Rattle.ncc_driver.specs.LawsLeft.{HasSteps}
use Rattle.ncc_driver.proofs.LawsLeft.{left_at_most, add_has_two, put_has_one, get_has_one}
use Rattle.ncc_clients.specs.Members.{Cluster}
use Rattle.ncc_clients.specs.Links.{Link, Driver, Parcel}
use Rattle.ncc_clients.specs.Run.{Run, Client, out_of}
use Rattle.ncc_clients.specs.Drives.{driver_at, with_driver, held_back, waits_above, does_all, follows_on, joined, last_of}
use Rattle.ncc_clients.specs.Drives.{falls, comes_down, descends, all_bytes, with_input, up_at, down_at}
use Rattle.ncc_clients.proofs.Lists.{set_same}
use Rattle.ncc_clients.specs.declared.task.Task.{Task}
use Rattle.ncc_clients.specs.declared.task.Task.TheVariants.{Add, Put, Get}
use Rattle.ncc_clients.specs.Task.{job_of}
use Rattle.ncc_clients.specs.Held.{Held, HasTask, IsDriver}
use Rattle.ncc_clients.proofs.Parcels.{drop_more}
use Rattle.ncc_clients.specs.Measure.{number, number_by, left_by, ups, weight}
use Rattle.ncc_clients.proofs.Descending.{descends_lower}

-- ---- works

task_steps : (task : Task) → HasSteps 2 (job_of task)
task_steps (Add add) = add_has_two add.key add.by
task_steps (Put put) = λ told l. put_has_one put.key put.value told (omega (arith, l))
task_steps (Get get) = λ told l. get_has_one get.key told (omega (arith, l))

-- The last work, if there is one, has two steps at most.
abbrev pub IsShort : Driver → Type 0
IsShort d = (d.works ≡ []) ⊎ ((before : List Begun) × (work : Begun) × (d.works ≡ before ++ work ∷ []) × HasSteps 2 work.job)

pub held_short : (held : Held) (d : Driver) (left : List Action) → IsDriver held d left → IsShort d
held_short held d left h = go held.task h.task_is where
  go : (o : Option Task) → HasTask held d o → IsShort d
  go None none = inl none
  go (Some task) x = inr (x.before, x.last, x.works_are, subst (λ (job : Job). HasSteps 2 job) (sym x.job_is) (task_steps task))

abbrev nil : List ℕ
nil = []

drop_all : (xs : List ℕ) → drop (length xs) xs ≡ []
drop_all [] = refl
drop_all (x ∷ xs) = drop_all xs

drop_actions : (xs : List Action) → drop (length xs) xs ≡ []
drop_actions [] = refl
drop_actions (x ∷ xs) = drop_actions xs

module _ {S : Type 0} (C : Cluster S) where
  -- ---- how high it is at most

  weight_most : (up : List Parcel) (down : List ℕ) → weight up down ≤ 2
  weight_most (p ∷ ps) down = omega arith
  weight_most [] (b ∷ bs) = omega arith
  weight_most [] [] = omega arith

  left_most : (o : Option Driver) → left_by o ≤ 11
  left_most None = omega arith
  left_most (Some d) = left_at_most 2 (session d.config d.works).state.place

  pub number_most : (k : ℕ) (r : Run S) → number C k r ≤ 35
  number_most k r =
      let o = driver_at r k in
      sums (left_by o) (weight (up_at o) (down_at C r o)) (left_most o) (weight_most (up_at o) (down_at C r o)) where
        sums : (n w : ℕ) → n ≤ 11 → w ≤ 2 → 3 * n + w ≤ 35
        sums n w a b = omega (arith, a, b)

  -- ---- a session that began no work only counts what came down

  none_above : (link : Link) (bytes : List ℕ) (o : Option Client) → held_back C link o ≡ bytes
      → held_back C (record link { down = link.down + length bytes }) o ≡ []
  none_above link bytes None e = refl
  none_above link bytes (Some c) e =
      sym (drop_more link.down (length bytes) (out_of C c)) ∙ ap (λ (x : List ℕ). drop (length bytes) x) e ∙ drop_all bytes

  quiet : (line k : ℕ) (t : Run S) (o : Option Driver) → follows_on C line k t o None ≡ t
  quiet line k t None = refl
  quiet line k t (Some d) = refl

  module _ (k line : ℕ) (r : Run S) (config : SessionConfig) (wakes : Option ℕ) (link : Link) (b : ℕ) (bs : List ℕ) where
    abbrev idle : Driver
    idle = record { config = config; works = []; link = Some link; wakes = wakes }

    abbrev lower : Driver
    lower = record { config = config; works = []; link = Some (record link { down = link.down + length (b ∷ bs) }); wakes = wakes }

    abbrev from : Run S
    from = with_driver r k lower

    abbrev counted : Run S
    counted = with_driver from k lower

    goes_on : List Action → Run S
    goes_on actions =
        let t = does_all C line k actions counted in follows_on C line k t (driver_at t k) (joined C (last_of actions))

    only_counts : comes_down C line k r idle link (b ∷ bs) ≡ counted
    unfolding with_input does_all goes_on
    only_counts =
        ap goes_on (drop_actions (acts config [])) ∙ quiet line k counted (driver_at counted k)

    idle_lower : driver_at r k ≡ Some idle → link.up ≡ [] → waits_above C r link ≡ b ∷ bs → number C k (descends C line k r) < number C k r
    idle_lower here empty bytes =
        let fall : descends C line k r ≡ counted =
        ap (λ (o : Option Driver). falls C line k r o all_bytes) here ∙ ap (comes_down C line k r idle link) bytes ∙ only_counts in
        let first = 3 * left_by (Some idle) in
        let was : number C k r ≡ first + 1 =
        ap (λ (o : Option Driver). number_by C r o) here
        ∙ ap (λ (up : List Parcel). first + weight up (waits_above C r link)) empty
        ∙ ap (λ (down : List ℕ). first + weight [] down) bytes in
        let after : driver_at counted k ≡ Some lower =
        set_same (slice_set r.driving.drivers k lower) k lower lower (set_same r.driving.drivers k idle lower here) in
        let is_now : number C k counted ≡ first + 0 =
        ap (λ (o : Option Driver). number_by C counted o) after
        ∙ ap (λ (up : List Parcel). first + weight up (waits_above C counted (record link { down = link.down + length (b ∷ bs) }))) empty
        ∙ ap (λ (down : List ℕ). first + weight [] down) (none_above link (b ∷ bs) (slice_get r.clients (link.conn - 1)) bytes) in
        subst (λ (u : Run S). number C k u < number C k r) (sym fall) (one_less (number C k counted) (number C k r) first is_now was) where
          one_less : (now was n : ℕ) → now ≡ n + 0 → was ≡ n + 1 → now < was
          one_less now was n a b = omega (arith, a, b)

  module _ (k line : ℕ) (r : Run S) (config : SessionConfig) (wakes : Option ℕ) where
    by_bytes : (link : Link) (bytes : List ℕ)
        → driver_at r k ≡ Some (record { config = config; works = []; link = Some link; wakes = wakes })
        → link.up ≡ [] → waits_above C r link ≡ bytes → (bytes ≡ [] → ⊥) → number C k (descends C line k r) < number C k r
    by_bytes link [] here empty e some = absurd (some refl)
    by_bytes link (b ∷ bs) here empty e some = idle_lower k line r config wakes link b bs here empty e

    by_link : (o : Option Link) → driver_at r k ≡ Some (record { config = config; works = []; link = o; wakes = wakes })
        → ups o ≡ [] → (elim o [ Some link ↦ waits_above C r link | None ↦ nil ] ≡ nil → ⊥)
        → number C k (descends C line k r) < number C k r
    by_link None here empty some = absurd (some refl)
    by_link (Some link) here empty some = by_bytes link (waits_above C r link) here empty refl some

  -- ---- of any session

  pub falls_lower : (k line : ℕ) (r : Run S) (d : Driver) → driver_at r k ≡ Some d → IsShort d → up_at (Some d) ≡ []
      → (down_at C r (Some d) ≡ [] → ⊥) → number C k (descends C line k r) < number C k r
  falls_lower k line r d here (inl none) empty some =
      by_link k line r d.config d.wakes d.link (here ∙ ap (λ (ws : List Begun). Some (record d { works = ws })) none) empty some
  falls_lower k line r d here (inr x) empty some = descends_lower C k line r x.0 x.1 x.3 d here x.2 empty some
