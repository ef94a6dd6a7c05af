-- A world of which nothing has happened.
use Rattle.std.proofs.Common.{◌≡◌, ℕ, zero, suc, ◌+◌, List, [], length, get_or, refl, ap, sym, ◌∙◌, subst, replicate, nat_eq}
use Rattle.std.specs.List.{list_any}
use Rattle.std.specs.Map.{keys_of, values_of}
use Rattle.ncc_wait.specs.declared.parked.Parked.{Parked}
use Rattle.ncc_world.specs.declared.setup.Setup.{Setup}
use Rattle.ncc_world.specs.declared.seen.ConnSeen.{ConnSeen}
use Rattle.ncc_world.specs.declared.served.Served.{Served}
use Rattle.ncc_world.specs.World.{AreClients, AreNumbered, AreServed, parked_at}

none_each : (s : Setup) → AreClients s [] [] []
unfolding AreClients
none_each s = tt

none_numbered : AreNumbered 1 []
unfolding AreNumbered
none_numbered = tt

none_parked : (s : Setup) (m : ℕ) → [] ≡ parked_at s m []
unfolding parked_at
none_parked s m = refl

pub get_same : {X : Type 0} (n i : ℕ) (x : X) → get_or (replicate n x) i x ≡ x
get_same zero i x = refl
get_same (suc n) zero x = refl
get_same (suc n) (suc i) x = get_same n i x

pub count_same : {X : Type 0} (n : ℕ) (x : X) → length (replicate n x) ≡ n
count_same zero x = refl
count_same (suc n) x = ap suc (count_same n x)

pub no_clients : (s : Setup) (count : ℕ) (es : List (ℕ × Served)) (seen : List ConnSeen) (rooms : List (List Parked))
    (live : List (List ℕ)) → es ≡ [] → seen ≡ [] → rooms ≡ replicate count [] → live ≡ replicate count []
    → AreServed s count (record { numbers = keys_of es; table = values_of es; seen = seen; rooms = rooms; live = live }) []
no_clients s count es seen rooms live e f g h = record {
  each = subst (λ (x : List (ℕ × Served)). AreClients s (values_of x) seen []) (sym e)
      (subst (λ (x : List ConnSeen). AreClients s [] x []) (sym f) (none_each s));
  numbered = none_numbered;
  keyed = ap keys_of e;
  there = tt;
  count_is = ap length g ∙ count_same count [];
  rooms = λ i l. let none : List Parked = [] in
      ap (λ (x : List (List Parked)). get_or x i none) g ∙ get_same count i none ∙ none_parked s (i + 1);
  live_count = ap length h ∙ count_same count [];
  live = λ i n l. let none : List ℕ = [] in
      ap (list_any (nat_eq n)) (ap (λ (x : List (List ℕ)). get_or x i none) h ∙ get_same count i none);
}
