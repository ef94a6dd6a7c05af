-- How the reading of records goes on.
use Rattle.std.proofs.Common.{◌≡◌, ℕ, ◌+◌, ◌≤◌, List, ◌∷◌, ◌++◌, length, take, drop, refl, sym, ◌∙◌, ap, append_assoc}
use Rattle.std.proofs.Common.{subst, arith, length-append, take-append-drop}
use Rattle.std.proofs.lemmas.List.{drop-append-le, drop_at, length-take-le, take_at}
use Rattle.ncc_tx.specs.declared.entry.ChangeSet.{ChangeSet}
use Rattle.ncc_tx.specs.declared.entry.Saved.{Saved}
use Rattle.ncc_tx.specs.Kept.{part_after, payload}
use Rattle.ncc_log.specs.Opening.{Reached}
use Rattle.ncc_log.specs.Records.{Breaks, MayStandBehind, Stands, later, opened, recorded}
use Rattle.ncc_log.specs.Saves.{nothing}
use Rattle.ncc_log.proofs.One.{recorded_long}

module _ (file : List ℕ) (gate size g : ℕ) (s : Saved) (c : ChangeSet) (rest : List ℕ) (r : Reached file gate s)
    (is_open : g ≡ 0 → ⊥) (there : drop gate file ≡ g ∷ (recorded c ++ rest)) (some : 1 ≤ length rest) (may : MayStandBehind s c)
    (is : size ≡ length (payload c)) where
  abbrev next : ℕ
  next = gate + (5 + size)

  front_long : length (take gate file) ≡ gate
  front_long = length-take-le gate file (omega (arith, r.inside))

  split : file ≡ (take gate file ++ g ∷ recorded c) ++ rest
  split = sym (take-append-drop gate file) ∙ ap (λ (l : List ℕ). take gate file ++ l) there
      ∙ sym (append_assoc (take gate file) (g ∷ recorded c) rest)

  head_long : length (take gate file ++ g ∷ recorded c) ≡ next
  head_long = omega (arith, length-append (take gate file) (g ∷ recorded c), front_long, recorded_long c, is)

  front_is : take next file ≡ take gate file ++ g ∷ recorded c
  front_is = ap (take next) split ∙ take_at (take gate file ++ g ∷ recorded c) rest next head_long

  rest_is : drop next file ≡ rest
  rest_is = ap (drop next) split ∙ drop_at (take gate file ++ g ∷ recorded c) rest next head_long

  records_are : drop 14 (take next file) ≡ drop 14 (take gate file) ++ g ∷ recorded c
  records_are = ap (drop 14) front_is ∙ drop-append-le 14 (take gate file) (g ∷ recorded c) (omega (arith, front_long, r.front))

  pub reached_next : Reached file next (part_after s c)
  reached_next = record {
    inside = omega (arith, ap length split, length-append (take gate file ++ g ∷ recorded c) rest, head_long, some);
    front = omega (arith, r.front);
    on = λ tail t h.
        let tail_is : List ℕ = g ∷ (recorded c ++ tail) in
        subst (λ (l : List ℕ). Stands nothing l t)
        (sym (append_assoc (drop 14 (take gate file)) (g ∷ recorded c) tail) ∙ ap (λ (l : List ℕ). l ++ tail) (sym records_are))
        (r.on tail_is t (opened s t tail_is g c tail is_open may refl h));
    breaks = λ at h.
        let moved : Breaks (part_after s c) (gate + (5 + length (payload c))) rest at =
        subst (λ (n : ℕ). Breaks (part_after s c) (gate + (5 + n)) rest at) is
        (subst (λ (l : List ℕ). Breaks (part_after s c) next l at) rest_is h) in
        r.breaks at (later s gate (drop gate file) g c rest at is_open may some there moved);
  }
