-- All that moves on a link at once: it is a path of small things, there is one way to go, and each moment on the way goes on to its end.
use Rattle.std.proofs.Common.{◌≡◌, ℕ, Bool, true, false, List, [], Option, Some, None, refl, subst}
use Rattle.std.proofs.Common.{arith, inl, inr}
use Rattle.std.specs.Prelude.{nat_le}
use Rattle.std.proofs.lemmas.Bool.Decides.{leb_tells}
use Rattle.ncc_clients.specs.Members.{Cluster}
use Rattle.ncc_clients.specs.Links.{Parcel, requests_in}
use Rattle.ncc_clients.specs.Run.{Run}
use Rattle.ncc_clients.specs.Turn.{Settles}
use Rattle.ncc_clients.specs.Moment.{Path, Here}
use Rattle.ncc_clients.specs.Drives.{driver_at, up_at, is_reached, less, rises, descends}
use Rattle.ncc_clients.specs.Drives.{Pumps, Pumping, Rests, Stops, Lifts, Falls, Begins, Rising, Risen, Fallen}
use Rattle.ncc_clients.specs.Laws.{TurnsAreSmall, OneWay}
use Rattle.ncc_world.specs.Events.{CountsSome}
use Rattle.ncc_world.proofs.Settling.{SameSteps, path_through, turns_on}
use Rattle.ncc_world.proofs.Silent.{rises_leads, descends_leads}

-- where some are counted, more is left to count
not_reached : (limit : Option ℕ) → CountsSome limit → (up : List Parcel) → up ≡ [] → is_reached limit up ≡ true → ⊥
not_reached None counts up none e = absurd (cc)
not_reached (Some n) counts up none e =
    let f : nat_le n 0 ≡ true = subst (λ (ps : List Parcel). nat_le n (requests_in ps) ≡ true) none e in
    elim (leb_tells n 0) [
      | inl h ↦ absurd (omega (arith, h.1, counts))
      | inr h ↦ absurd (let z = h.0 in cc)
    ]

pub some_up : (limit : Option ℕ) → CountsSome limit → (up : List Parcel) → is_reached limit up ≡ true → up ≡ [] → ⊥
some_up limit counts up e none = not_reached limit counts up none e

pub counts_less : (limit : Option ℕ) → CountsSome limit → (up : List Parcel) → is_reached limit up ≡ false → CountsSome (less limit up)
counts_less None counts up e = tt
counts_less (Some n) counts up e = elim (leb_tells n (requests_in up)) [
  | inl h ↦ absurd (let z = h.0 in cc)
  | inr h ↦ omega (arith, h.1)
]

apart : (b : Bool) → b ≡ true → b ≡ false → ⊥
apart b e f = cc

module _ {S : Type 0} (C : Cluster S) (small : TurnsAreSmall C) (line k : ℕ) where
  risen_path : (limit : Option ℕ) (r s : Run S) → Settles C line (rises C k limit r) s → Path C r s
  risen_path limit r s h =
      path_through C r (rises C k limit r) s (rises_leads C line k limit r).path (small line (rises C k limit r) s h.turns)

  pub pumps_path : (limit : Option ℕ) (r t : Run S) → Pumps C line k limit r t → Path C r t
  pumps_path limit r _ (Rests _ _ up down) = Here r
  pumps_path limit r t (Stops _ _ _ reached h) = risen_path limit r t h
  pumps_path limit r t (Lifts _ _ m _ some more h p) =
      path_through C r m t (risen_path limit r m h) (pumps_path (less limit (up_at (driver_at r k))) m t p)
  pumps_path limit r t (Falls _ _ _ none some p) =
      let s = descends C line k r in path_through C r s t (descends_leads C line k r).path (pumps_path limit s t p)

  pub pumping_path : (limit : Option ℕ) (r m : Run S) → Pumping C line k limit r m → Path C r m
  pumping_path limit r _ (Begins _ _) = Here r
  pumping_path limit r m (Rising _ _ _ some turns) =
      path_through C r (rises C k limit r) m (rises_leads C line k limit r).path (small line (rises C k limit r) m turns)
  pumping_path limit r m (Risen _ _ s _ some more h p) =
      path_through C r s m (risen_path limit r s h) (pumping_path (less limit (up_at (driver_at r k))) s m p)
  pumping_path limit r m (Fallen _ _ _ none some p) =
      let s = descends C line k r in path_through C r s m (descends_leads C line k r).path (pumping_path limit s m p)

  module _ (way : OneWay C) where
    pub one_pump : (limit : Option ℕ) (r t u : Run S) → CountsSome limit → Pumps C line k limit r t → Pumps C line k limit r u → t ≡ u
    one_pump limit r _ _ counts (Rests _ _ up down) (Rests _ _ up2 down2) = refl
    one_pump limit r _ u counts (Rests _ _ up down) (Stops _ _ _ reached h) =
        absurd (not_reached limit counts (up_at (driver_at r k)) up reached)
    one_pump limit r _ u counts (Rests _ _ up down) (Lifts _ _ m _ some more h p) = absurd (some up)
    one_pump limit r _ u counts (Rests _ _ up down) (Falls _ _ _ none some p) = absurd (some down)
    one_pump limit r t _ counts (Stops _ _ _ reached g) (Rests _ _ up down) =
        absurd (not_reached limit counts (up_at (driver_at r k)) up reached)
    one_pump limit r t u counts (Stops _ _ _ reached g) (Stops _ _ _ reached2 h) = way line (rises C k limit r) t u g h
    one_pump limit r t u counts (Stops _ _ _ reached g) (Lifts _ _ m _ some more h p) =
        absurd (apart (is_reached limit (up_at (driver_at r k))) reached more)
    one_pump limit r t u counts (Stops _ _ _ reached g) (Falls _ _ _ none some p) =
        absurd (not_reached limit counts (up_at (driver_at r k)) none reached)
    one_pump limit r t _ counts (Lifts _ _ m _ some more g p) (Rests _ _ up down) = absurd (some up)
    one_pump limit r t u counts (Lifts _ _ m _ some more g p) (Stops _ _ _ reached h) =
        absurd (apart (is_reached limit (up_at (driver_at r k))) reached more)
    one_pump limit r t u counts (Lifts _ _ m _ some more g p) (Lifts _ _ n _ some2 more2 h q) =
        let same : n ≡ m = way line (rises C k limit r) n m h g in
        let left = less limit (up_at (driver_at r k)) in
        one_pump left m t u (counts_less limit counts (up_at (driver_at r k)) more) p (subst (λ (x : Run S). Pumps C line k left x u) same q)
    one_pump limit r t u counts (Lifts _ _ m _ some more g p) (Falls _ _ _ none some2 q) = absurd (some none)
    one_pump limit r t _ counts (Falls _ _ _ none some p) (Rests _ _ up down) = absurd (some down)
    one_pump limit r t u counts (Falls _ _ _ none some p) (Stops _ _ _ reached h) =
        absurd (not_reached limit counts (up_at (driver_at r k)) none reached)
    one_pump limit r t u counts (Falls _ _ _ none some p) (Lifts _ _ m _ some2 more h q) = absurd (some2 none)
    one_pump limit r t u counts (Falls _ _ _ none some p) (Falls _ _ _ none2 some2 q) =
        one_pump limit (descends C line k r) t u counts p q

    pub pumping_on : SameSteps → (limit : Option ℕ) (r m t : Run S) → CountsSome limit → Pumping C line k limit r m
        → Pumps C line k limit r t → Path C m t
    pumping_on same limit r _ t counts (Begins _ _) q = pumps_path limit r t q
    pumping_on same limit r m _ counts (Rising _ _ _ some turns) (Rests _ _ up down) = absurd (some up)
    pumping_on same limit r m t counts (Rising _ _ _ some turns) (Stops _ _ _ reached h) =
        small line m t (turns_on same C line (rises C k limit r) m t turns h.turns h.rests)
    pumping_on same limit r m t counts (Rising _ _ _ some turns) (Lifts _ _ n _ some2 more h q) =
        path_through C m n t (small line m n (turns_on same C line (rises C k limit r) m n turns h.turns h.rests))
        (pumps_path (less limit (up_at (driver_at r k))) n t q)
    pumping_on same limit r m t counts (Rising _ _ _ some turns) (Falls _ _ _ none some2 q) = absurd (some none)
    pumping_on same limit r m _ counts (Risen _ _ s _ some more g p) (Rests _ _ up down) = absurd (some up)
    pumping_on same limit r m t counts (Risen _ _ s _ some more g p) (Stops _ _ _ reached h) =
        absurd (apart (is_reached limit (up_at (driver_at r k))) reached more)
    pumping_on same limit r m t counts (Risen _ _ s _ some more g p) (Lifts _ _ n _ some2 more2 h q) =
        let there : n ≡ s = way line (rises C k limit r) n s h g in
        let left = less limit (up_at (driver_at r k)) in
        pumping_on same left s m t (counts_less limit counts (up_at (driver_at r k)) more) p
        (subst (λ (x : Run S). Pumps C line k left x t) there q)
    pumping_on same limit r m t counts (Risen _ _ s _ some more g p) (Falls _ _ _ none some2 q) = absurd (some none)
    pumping_on same limit r m _ counts (Fallen _ _ _ none some p) (Rests _ _ up down) = absurd (some down)
    pumping_on same limit r m t counts (Fallen _ _ _ none some p) (Stops _ _ _ reached h) =
        absurd (not_reached limit counts (up_at (driver_at r k)) none reached)
    pumping_on same limit r m t counts (Fallen _ _ _ none some p) (Lifts _ _ n _ some2 more h q) = absurd (some2 none)
    pumping_on same limit r m t counts (Fallen _ _ _ none some p) (Falls _ _ _ none2 some2 q) =
        pumping_on same limit (descends C line k r) m t counts p q
