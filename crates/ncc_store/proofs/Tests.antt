-- A test of each item of a list, from the first that is left.
use Rattle.std.proofs.Common.{◌≡◌, ℕ, ◌+◌, ◌<◌, ◌≤◌, Bool, true, false, ◌&&◌, List, length, drop, get_or, sym, ap, ◌∙◌}
use Rattle.std.specs.List.{list_all}
use Rattle.std.proofs.lemmas.List.{drop_all}
use Rattle.ncc_store.proofs.Running.{next_is}

module _ {A : Type 0} (p : A → Bool) (xs : List A) (i : ℕ) (x : A) (lt : i < length xs) (is : x ≡ get_or xs i x)
    (so_far : list_all p (drop i xs) ≡ list_all p xs) where
  opened : (p x && list_all p (drop (i + 1) xs)) ≡ list_all p xs
  opened = sym (ap (list_all p) (next_is xs i x lt is)) ∙ so_far

  pub passes_on : p x ≡ true → list_all p (drop (i + 1) xs) ≡ list_all p xs
  passes_on e = sym (ap (λ (t : Bool). t && list_all p (drop (i + 1) xs)) e) ∙ opened

  pub stops_at : p x ≡ false → false ≡ list_all p xs
  stops_at e = sym (ap (λ (t : Bool). t && list_all p (drop (i + 1) xs)) e) ∙ opened

pub passes_all : {A : Type 0} (p : A → Bool) (xs : List A) (i : ℕ) → length xs ≤ i → list_all p (drop i xs) ≡ list_all p xs → true
    ≡ list_all p xs
passes_all p xs i le h = sym (ap (list_all p) (drop_all i xs le)) ∙ h
