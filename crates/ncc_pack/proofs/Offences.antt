-- What a refusal says of the bytes themselves.
use Rattle.std.proofs.Common.{Option, ◌+◌, ◌≤◌, ◌≡◌, ◌⊎◌, inl, inr, ℕ, ◌-◌, List, [], ◌++◌, length, Result, Ok, Err, Some, refl}
use Rattle.std.proofs.Common.{sym, ap, subst, ◌∙◌, append_assoc, append-nil, arith}
use Rattle.std.proofs.lemmas.List.{length-append}
use Rattle.ncc_pack.specs.declared.value.Value.{Value}
use Rattle.ncc_pack.specs.declared.error.PackError.{PackError}
use Rattle.ncc_pack.specs.declared.error.PackError.TheVariants.{Short, Float, BadMarker, BadUtf8, RepeatedKey, KeyNotText, TooDeep}
use Rattle.ncc_pack.specs.declared.error.PackError.TheVariants.{TooLong, Memory}
use Rattle.ncc_pack.specs.Reading.{Read, value_at, read_value}
use Rattle.ncc_pack.specs.Spells.{spells}
use Rattle.ncc_pack.specs.Offence.{AreBytes, BeginsValue, MayBegin, EndsInKey, place_of, MayGoOn, TakesLetter, Offends, RefusedAt, StandsAt}
use Rattle.ncc_pack.proofs.Fields.{IsBytes}
use Rattle.ncc_pack.proofs.Taken.{value_taken}
use Rattle.ncc_pack.proofs.Spelled.{value_again}
use Rattle.ncc_pack.proofs.Faults.{Open, CutKey, InText, IsHard, PlacedAt, Shaped, GoesOn, NeverOk, Fault, IsIll, letter}
use Rattle.ncc_pack.proofs.Refusing.{value_reader, finds_value}

-- ---- what goes on

may_begin : (z : List ℕ) → Open spells z → MayBegin z
may_begin z o = (o.0, (o.1, z ++ o.0, [], o.2, sym (append-nil (z ++ o.0))))

pub in_key : (z : List ℕ) → CutKey spells z → EndsInKey z
in_key z c = record {
  before = c.before;
  cut = c.cut;
  is = c.is;
  ends = c.ends;
  other = (c.other.0, c.other.1, c.other.2, may_begin (c.before ++ c.other.1) c.other.3);
}

from_open : (err : PackError) (z : List ℕ) → MayBegin z → MayGoOn err z
from_open Short z m = inl m
from_open (BadUtf8 at) z m = inl m
from_open _ z m = m

from_cut : (err : PackError) (z : List ℕ) → InText err → EndsInKey z → MayGoOn err z
from_cut Short z i k = inr k
from_cut (BadUtf8 at) z i k = inr k
from_cut _ z i k = absurd i

goes : (err : PackError) (z : List ℕ) → GoesOn spells err z → MayGoOn err z
goes err z (inl o) = from_open err z (may_begin z o)
goes err z (inr k) = from_cut err z k.0 (in_key z k.1)

takes_letter : (err : PackError) (z : List ℕ) → (IsIll err → GoesOn spells err (z ++ letter)) → TakesLetter err z
takes_letter (BadUtf8 at) z h = goes (BadUtf8 at) (z ++ letter) (h tt)
takes_letter _ z h = tt

never_begins : (b : List ℕ) → NeverOk (value_reader 32) b → MayBegin b → ⊥
never_begins b never m =
    let begun = m.1 in
    never 0 m.0 (begun.0, begun.2) (ap (value_at 0 32) begun.4 ∙ value_again 0 32 begun.0 begun.1 begun.2 begun.3)

-- ---- places

pub hard_or : (err : PackError) (n : ℕ) → PlacedAt err n → (err ≡ Short) ⊎ IsHard err
hard_or Short n p = inl refl
hard_or Memory n p = absurd p
hard_or _ n p = inr tt

placed_hard : (err : PackError) (at : ℕ) → place_of err ≡ Some at → IsHard err
placed_hard Short at e = absurd cc
placed_hard Memory at e = absurd cc
placed_hard _ at e = tt

same_place : (err : PackError) (at n : ℕ) → place_of err ≡ Some at → PlacedAt err n → at ≡ n
same_place Short at n e p = absurd cc
same_place (Float i) at n e p = let q : i ≡ at = cc in sym q ∙ p
same_place (BadMarker i) at n e p = let q : i ≡ at = cc in sym q ∙ p
same_place (BadUtf8 i) at n e p = let q : i ≡ at = cc in sym q ∙ p
same_place (RepeatedKey i) at n e p = let q : i ≡ at = cc in sym q ∙ p
same_place (KeyNotText i) at n e p = let q : i ≡ at = cc in sym q ∙ p
same_place (TooDeep i) at n e p = let q : i ≡ at = cc in sym q ∙ p
same_place (TooLong i) at n e p = let q : i ≡ at = cc in sym q ∙ p
same_place Memory at n e p = absurd cc

shaped : (err : PackError) (o : List ℕ) → IsHard err → Shaped err o → Offends err o
shaped Short o h x = absurd h
shaped (Float at) o h x = x
shaped (BadMarker at) o h x = x
shaped (BadUtf8 at) o h x = x
shaped (RepeatedKey at) o h x = x
shaped (KeyNotText at) o h x = x
shaped (TooDeep at) o h x = x
shaped (TooLong at) o h x = x
shaped Memory o h x = absurd h

abbrev some_at : ℕ → Option ℕ
some_at i = Some i

-- ---- the laws

abbrev Found : List ℕ → PackError → Type 0
Found b err = Fault (GoesOn spells) (value_reader 32) (length b) b err

found : (b : List ℕ) (err : PackError) → AreBytes b → read_value b ≡ Err err → Found b err
found b err fits e = finds_value 32 (length b) b err fits e

okay : {A : Type 0} → A → Result A PackError
okay y = Ok y

pub none_yet : (b : List ℕ) → AreBytes b → read_value b ≡ Err Short → BeginsValue b → ⊥
none_yet b fits e begun =
    let so : read_value b ≡ Ok (begun.0, begun.2) = ap (value_at (length b) 32) begun.4
    ∙ value_again (length b) 32 begun.0 begun.1 begun.2 begun.3 in
    no (begun.0, begun.2) (sym so ∙ e)
  where
    no : (y : Value × List ℕ) → let r : Read Value = Ok y in r ≡ Err Short → ⊥
    no y q = cc

pub may : (b : List ℕ) → AreBytes b → read_value b ≡ Err Short → MayGoOn Short b
may b fits e =
    let f = found b Short fits e in
    let whole : b ≡ f.before = f.parts ∙ ap (λ (z : List ℕ). f.before ++ (z ++ f.after)) f.shape
    ∙ ap (λ (z : List ℕ). f.before ++ z) (f.ends refl) ∙ append-nil f.before in
    subst (MayGoOn Short) (sym whole) (goes Short f.before f.goes_on)

-- what may begin a value may after a front of it
front_may : (b a o r : List ℕ) → b ≡ a ++ (o ++ r) → MayBegin b → MayBegin (a ++ o)
front_may b a o r parts m =
    (r ++ m.0, subst BeginsValue (ap (λ (z : List ℕ). z ++ m.0) (parts ∙ sym (append_assoc a o r)) ∙ append_assoc (a ++ o) r m.0) m.1)

pub never : (b : List ℕ) (err : PackError) → IsHard err → AreBytes b → read_value b ≡ Err err → MayBegin b → ⊥
never b err hard fits e m =
    let f = found b err fits e in
    never_begins (f.before ++ f.offence) (f.never hard) (front_may b f.before f.offence f.after f.parts m)

pub exactly : (b : List ℕ) → AreBytes b → MayBegin b → (BeginsValue b → ⊥) → read_value b ≡ Err Short
exactly b fits m none = by (read_value b) refl
  where
    by : (r : Read Value) → read_value b ≡ r → r ≡ Err Short
    by (Ok y) e = let t = value_taken (length b) 32 b y fits e in absurd (none (y.0, t.front, y.1, t.spells, t.parts))
    by (Err err) e = which (hard_or err _ (found b err fits e).place)
      where
        which : (err ≡ Short) ⊎ IsHard err → (let r : Read Value = Err err in r) ≡ Err Short
        which (inl s) = ap (λ (d : PackError). let r : Read Value = Err d in r) s
        which (inr hard) = absurd (never b err hard fits e m)

pub placed_never : (b : List ℕ) (err : PackError) (at : ℕ) → AreBytes b → RefusedAt b err at → MayBegin b → ⊥
placed_never b err at fits (e, p) = never b err (placed_hard err at p) fits e

pub stands : (b : List ℕ) (err : PackError) (at : ℕ) → AreBytes b → RefusedAt b err at → StandsAt b err at
stands b err at fits (e, p) =
    let f = found b err fits e in
    let hard = placed_hard err at p in
    let there : at ≡ length b - length (f.offence ++ f.after) = same_place err at _ p f.place in
    let place : length f.before ≡ at = omega (arith, ap length f.parts, length-append f.before (f.offence ++ f.after)) in
    record {
      before = f.before;
      offence = f.offence;
      after = f.after;
      parts = f.parts;
      place = place;
      goes_on = goes err f.before f.goes_on;
      letter = takes_letter err f.before f.takes;
      ends = never_begins (f.before ++ f.offence) (f.never hard);
      offends = shaped err f.offence hard f.shape;
    }

-- ---- within other bytes

placed_some : (err : PackError) (n : ℕ) → IsHard err → PlacedAt err n → place_of err ≡ Some n
placed_some Short n h p = absurd h
placed_some (Float at) n h p = ap (λ (i : ℕ). some_at i) p
placed_some (BadMarker at) n h p = ap (λ (i : ℕ). some_at i) p
placed_some (BadUtf8 at) n h p = ap (λ (i : ℕ). some_at i) p
placed_some (RepeatedKey at) n h p = ap (λ (i : ℕ). some_at i) p
placed_some (KeyNotText at) n h p = ap (λ (i : ℕ). some_at i) p
placed_some (TooDeep at) n h p = ap (λ (i : ℕ). some_at i) p
placed_some (TooLong at) n h p = ap (λ (i : ℕ). some_at i) p
placed_some Memory n h p = absurd h

-- what is refused from a place on: the place counts what stands before
pub stands_in : (total : ℕ) (b : List ℕ) (err : PackError) → IsBytes b → value_at total 32 b ≡ Err err → IsHard err → length b ≤ total
    → (at : ℕ) × (place_of err ≡ Some ((total - length b) + at)) × StandsAt b err at
stands_in total b err fits e hard le =
    let f = finds_value 32 total b err fits e in
    let size = length-append f.before (f.offence ++ f.after) in
    let long = ap length f.parts in
    let there : total - length (f.offence ++ f.after) ≡ (total - length b) + length f.before = omega arith in (
      length f.before,
      placed_some err _ hard f.place ∙ ap (λ (i : ℕ). some_at i) there,
      record {
        before = f.before;
        offence = f.offence;
        after = f.after;
        parts = f.parts;
        place = refl;
        goes_on = goes err f.before f.goes_on;
        letter = takes_letter err f.before f.takes;
        ends = never_begins (f.before ++ f.offence) (f.never hard);
        offends = shaped err f.offence hard f.shape;
      },
    )
