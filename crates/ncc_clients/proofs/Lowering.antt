-- What waits on a session's link goes up, and turns follow: the number that falls with each move of a pump falls.
use Rattle.std.proofs.Common.{◌≡◌, ◌<◌, ℕ, ◌+◌, ◌-◌, ◌*◌, Bool, true, false, List, [], ◌∷◌, Option, Some, None}
use Rattle.std.proofs.Common.{refl, sym, ap, ◌∙◌, subst, arith}
use Rattle.std.specs.Prelude.{slice_get, if◌then◌else◌}
use Rattle.ncc_clients.specs.Members.{Cluster, elsewhere, full, placed, Proposed}
use Rattle.ncc_clients.specs.Links.{Link, Driver, Driving, Lifted, Parcel, bytes_in, lift_all, lift_requests}
use Rattle.ncc_clients.specs.Run.{Run, Client, Reply, waits, tells, proposes, reply, proposed, fed}
use Rattle.ncc_clients.specs.Turn.{Turns, Here, Then, Does}
use Rattle.ncc_clients.specs.Drives.{driver_at, with_driver, feeds_one, feeds_some, goes_up, lifts_by, lifts, lift_to, is_reached}
use Rattle.ncc_clients.specs.Drives.{rises, up_at, down_at}
use Rattle.ncc_clients.specs.Measure.{weight, ups, left_by, number_by, number}
use Rattle.ncc_clients.proofs.Lists.{set_same}

module _ {S : Type 0} (C : Cluster S) where
  -- ---- sessions stay in turns

  replied : (line : ℕ) (r s : Run S) (i : ℕ) (c : Client) (a : Reply) → Does C line r i c a s → s.driving ≡ r.driving
  replied line r s i c waits h = absurd h
  replied line r s i c (tells fact) h = ap (λ (x : Run S). x.driving) h
  replied line r s i c proposes h = ap (λ (x : Run S). x.driving) h.2 ∙ same (C.propose r.members c.member h.0) where
    same : (p : Proposed S) → (proposed C line r i c p).driving ≡ r.driving
    same elsewhere = refl
    same (full entries) = refl
    same (placed place term members) = refl

  pub turns_same : (line : ℕ) (r s : Run S) → Turns C line r s → s.driving ≡ r.driving
  turns_same line r _ (Here _) = refl
  turns_same line r s (Then _ m _ t more) = turns_same line m s more ∙ replied line r m t.index t.client (reply C r t.client) t.does

  pub fed_same : (r : Run S) (i : ℕ) (piece : List ℕ) → (feeds_some C r i piece).driving ≡ r.driving
  fed_same r i [] = refl
  fed_same r i (b ∷ bs) = go (slice_get r.clients i) where
    one : (c : Client) (closed : Bool) → (if closed then r else fed C r i c (b ∷ bs)).driving ≡ r.driving
    one c true = refl
    one c false = refl

    go : (o : Option Client) → (feeds_one C r i (b ∷ bs) o).driving ≡ r.driving
    go None = refl
    go (Some c) = one c c.closed

  -- ---- what waits goes up

  lifted_all : (limit : Option ℕ) (up : List Parcel) → is_reached limit up ≡ false → lift_to limit up ≡ lift_all up
  lifted_all None up e = refl
  lifted_all (Some n) up e = ap (λ (b : Bool). if b then lift_requests n up else lift_all up) e

  at_most : (n : ℕ) (down : List ℕ) → n + weight [] down < n + 2
  at_most n [] = omega arith
  at_most n (b ∷ bs) = omega arith

  module _ (k : ℕ) (limit : Option ℕ) (line : ℕ) (r s : Run S) where
    from_link : (d : Driver) (link : Link) (p : Parcel) (ps : List Parcel) → driver_at r k ≡ Some d → d.link ≡ Some link → link.up ≡ p ∷ ps
        → is_reached limit link.up ≡ false → Turns C line (rises C k limit r) s → number C k s < number C k r
    from_link d link p ps here is up_is free turns =
        let e : Driver = record d { link = Some (record link { up = [] }) } in
        let w = with_driver r k e in
        let rise : rises C k limit r ≡ feeds_some C w (link.conn - 1) (bytes_in link.up) =
        ap (λ (o : Option Driver). lifts C k r o (lift_to limit)) here
        ∙ ap (λ (o : Option Link). lifts_by C k r d o (lift_to limit)) is
        ∙ ap (λ (l : Lifted). goes_up C k r d link l) (lifted_all limit link.up free) in
        let same : s.driving ≡ w.driving =
        turns_same line (rises C k limit r) s turns ∙ ap (λ (x : Run S). x.driving) rise ∙ fed_same w (link.conn - 1) (bytes_in link.up) in
        let after : driver_at s k ≡ Some e =
        ap (λ (x : Driving). slice_get x.drivers k) same ∙ set_same r.driving.drivers k d e here in
        let was : number C k r ≡ 3 * left_by (Some d) + 2 =
        ap (λ (o : Option Driver). number_by C r o) here
        ∙ ap (λ (o : Option Link). 3 * left_by (Some d) + weight (ups o) (down_at C r (Some d))) is
        ∙ ap (λ (ups : List Parcel). 3 * left_by (Some d) + weight ups (down_at C r (Some d))) up_is in
        let is_now : number C k s ≡ 3 * left_by (Some e) + weight [] (down_at C s (Some e)) =
        ap (λ (o : Option Driver). number_by C s o) after in
        subst (λ (n : ℕ). number C k s < n) (sym was)
        (subst (λ (n : ℕ). n < 3 * left_by (Some d) + 2) (sym is_now) (at_most (3 * left_by (Some d)) (down_at C s (Some e))))

    by_up : (d : Driver) (link : Link) (up : List Parcel) → driver_at r k ≡ Some d → d.link ≡ Some link → link.up ≡ up → (up ≡ [] → ⊥)
        → is_reached limit link.up ≡ false → Turns C line (rises C k limit r) s → number C k s < number C k r
    by_up d link [] here is e some free turns = absurd (some refl)
    by_up d link (p ∷ ps) here is e some free turns = from_link d link p ps here is e free turns

    by_link : (d : Driver) (o : Option Link) → driver_at r k ≡ Some d → d.link ≡ o → (ups o ≡ [] → ⊥)
        → is_reached limit (ups o) ≡ false → Turns C line (rises C k limit r) s → number C k s < number C k r
    by_link d None here is some free turns = absurd (some refl)
    by_link d (Some link) here is some free turns = by_up d link link.up here is refl some free turns

    by_driver : (o : Option Driver) → driver_at r k ≡ o → (up_at o ≡ [] → ⊥) → is_reached limit (up_at o) ≡ false
        → Turns C line (rises C k limit r) s → number C k s < number C k r
    by_driver None here some free turns = absurd (some refl)
    by_driver (Some d) here some free turns = by_link d d.link here refl some free turns

    -- All that waited goes up, and turns follow: the number is less.
    pub rises_lower : (up_at (driver_at r k) ≡ [] → ⊥) → is_reached limit (up_at (driver_at r k)) ≡ false
        → Turns C line (rises C k limit r) s → number C k s < number C k r
    rises_lower some free turns = by_driver (driver_at r k) refl some free turns
