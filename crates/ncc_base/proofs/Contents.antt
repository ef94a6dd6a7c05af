-- What a crash may leave, before and after a call.
use Rattle.std.proofs.Common.{◌≡◌, inl, inr, ℕ, zero, suc, add-zero, length-take, min, if◌then◌else◌, ◌+◌, ◌<◌, ◌≤◌, List}
use Rattle.std.proofs.Common.{[], ◌∷◌, ◌++◌, length, take, drop, refl, sym, ◌∙◌, ap, arith, length-append}
use Rattle.std.proofs.Common.{length-drop, append_assoc, Bool, true, false}
use Rattle.std.specs.Prelude.{max}
use Rattle.std.specs.List.{list_any}
use Rattle.std.proofs.lemmas.List.{length-take-le, get_or-take, get_or-drop, take_at}
use Rattle.std.proofs.lemmas.List.{drop_at, ext_get_or}
use Rattle.std.proofs.lemmas.List.Folds.{list_any-append}
use Rattle.std.proofs.lemmas.Bool.Decides.{nat_tests}
use Rattle.ncc_base.specs.Disk.{Write, Sync, Torn, Follows, Only}
use Rattle.ncc_base.specs.MemDisk.{Content, IsImage, byte_at, effect, is_in, is_written}
use Rattle.ncc_base.specs.MemDisk.{with_bytes}
use Rattle.ncc_base.specs.declared.mem_disk.Range.{Range}
use Rattle.ncc_base.specs.MemLaws.{Sane, both_false, cases_of, long_with}

joined_none : (p : ℕ) (rs : List Range) (r : Range) → is_written p rs ≡ false → is_in p r ≡ false → is_written p (rs ++ r ∷ []) ≡ false
joined_none p rs r none out = list_any-append (is_in p) rs (r ∷ []) ∙ both_false (list_any (is_in p) rs) (is_in p r) none out

-- ---- a sync

pub only_seen : (c : Content) (ok : Bool) → Only c.seen (IsImage (effect (Sync ok) c))
only_seen c ok x image = ext_get_or 0 x c.seen (omega (
  arith,
  image.no_shorter,
  image.no_longer,
)) (λ p le. image.same p (omega (arith, le, image.no_longer)) refl)

-- ---- a write

-- in the range what a function gives, elsewhere what is there
picked : (ℕ → ℕ) → Range → ℕ → List ℕ → List ℕ
picked f r p [] = []
picked f r p (x ∷ xs) = (if is_in p r then f p else x) ∷ picked f r (p + 1) xs

picked_long : (f : ℕ → ℕ) (r : Range) (p : ℕ) (xs : List ℕ) → length (picked f r p xs) ≡ length xs
unfolding picked
picked_long f r p [] = refl
picked_long f r p (x ∷ xs) = omega (arith, picked_long f r (p + 1) xs)

picked_at : (f : ℕ → ℕ) (r : Range) (p : ℕ) (xs : List ℕ) (i : ℕ) → i < length xs →
    byte_at (picked f r p xs) i ≡ (if is_in (p + i) r then f (p + i) else byte_at xs i)
unfolding picked
picked_at f r p [] i le = absurd (omega (arith, le))
picked_at f r p (x ∷ xs) zero le = ap (λ (k : ℕ). if is_in k r then f k else x) (sym (add-zero p))
picked_at f r p (x ∷ xs) (suc i) le =
    picked_at f r (p + 1) xs i (omega (arith, le))
    ∙ ap (λ (k : ℕ). if is_in k r then f k else byte_at xs i) (omega arith)

if_false : (b : Bool) (x y : ℕ) → b ≡ false → (if b then x else y) ≡ y
if_false b x y e = ap (λ (t : Bool). if t then x else y) e

if_true : (b : Bool) (x y : ℕ) → b ≡ true → (if b then x else y) ≡ x
if_true b x y e = ap (λ (t : Bool). if t then x else y) e

out_before : (p : ℕ) (r : Range) → p < r.at → is_in p r ≡ false
out_before p r low = grind (arith, nat_tests)

out_behind : (p : ℕ) (r : Range) → r.at + r.count ≤ p → is_in p r ≡ false
out_behind p r high = grind (arith, nat_tests)

-- of a content after a torn write: one before it
module _ (r : Range) (c : Content) (x : List ℕ) (start : r.at ≤ length c.seen) (shorter : length c.stable ≤ length c.seen)
    (no_shorter : length c.stable ≤ length x) (no_longer : length x ≤ max (length c.seen) (r.at + r.count))
    (same : (p : ℕ) → p < length c.stable → is_written p c.ranges ≡ false → is_in p r ≡ false → byte_at x p ≡ byte_at c.stable p) where
  abbrev whole : List ℕ
  whole = picked (byte_at c.stable) r 0 x

  abbrev earlier : List ℕ
  earlier = take (length c.seen) whole

  long : length earlier ≡ min (length c.seen) (length x)
  long = omega (arith, length-take (length c.seen) whole, picked_long (byte_at c.stable) r 0 x)

  at_place : (p : ℕ) → p < length earlier → byte_at earlier p ≡ (if is_in p r then byte_at c.stable p else byte_at x p)
  at_place p le =
      get_or-take (length c.seen) whole p 0 (omega (arith, le, long))
      ∙ picked_at (byte_at c.stable) r 0 x p (omega (arith, le, long))
      ∙ ap (λ (k : ℕ). if is_in k r then byte_at c.stable k else byte_at x p) (omega arith)

  elsewhere : (p : ℕ) → p < length earlier → is_in p r ≡ false → byte_at earlier p ≡ byte_at x p
  elsewhere p le none = at_place p le ∙ if_false (is_in p r) (byte_at c.stable p) (byte_at x p) none

  stays : (p : ℕ) → p < length c.stable → is_written p c.ranges ≡ false → byte_at earlier p ≡ byte_at c.stable p
  stays p le none =
      let low : p < length earlier = omega (arith, le, long, shorter, no_shorter) in
      elim (cases_of (is_in p r)) [
        | inl there ↦ at_place p low ∙ if_true (is_in p r) (byte_at c.stable p) (byte_at x p) there
        | inr out ↦ elsewhere p low out ∙ same p le none out
      ]

  before_image : IsImage c earlier
  before_image = record { no_shorter = omega (arith, long, shorter, no_shorter); no_longer = omega (arith, long); same = stays }

  tears : Torn r.at r.count earlier x
  tears = record {
    before = ext_get_or 0 (take r.at x) (take r.at earlier)
        (omega (arith, length-take r.at x, length-take r.at earlier, long, start))
        (λ p le.
        let low : p < r.at = omega (arith, le, length-take r.at x) in
        get_or-take r.at x p 0 low
        ∙ sym (elsewhere p (omega (arith, le, low, length-take r.at x, long, start)) (out_before p r low))
        ∙ sym (get_or-take r.at earlier p 0 low));
    after = ext_get_or 0 (drop (r.at + r.count) x) (drop (r.at + r.count) earlier)
        (omega (arith, length-drop (r.at + r.count) x, length-drop (r.at + r.count) earlier, long, no_longer))
        (λ p le.
        get_or-drop (r.at + r.count) x p 0
        ∙ sym (elsewhere (r.at + r.count + p) (omega (
          arith,
          le,
          length-drop (r.at + r.count) x,
          long,
          no_longer,
        )) (out_behind (r.at + r.count + p) r (omega arith)))
        ∙ sym (get_or-drop (r.at + r.count) earlier p 0));
    no_shorter = omega (arith, long);
    no_longer = omega (arith, long, no_longer);
  }

  pub torn_back : (d : List ℕ) × IsImage c d × Torn r.at r.count d x
  torn_back = (earlier, before_image, tears)

-- a write that is made
pub follows : (at : ℕ) (bytes : List ℕ) (ok : Bool) (c : Content) → at ≤ length c.seen → Sane c →
    Follows (Torn at (length bytes)) (IsImage c) (IsImage (effect (Write at bytes ok) c))
follows at bytes ok c start sane x image =
    let r : Range = record { at = at; count = length bytes } in
    torn_back r c x start sane.no_shorter image.no_shorter
    (omega (arith, image.no_longer, long_with at bytes c.seen start))
    (λ p le none out. image.same p le (joined_none p c.ranges r none out))

-- one that is not made
pub torn_same : (at n : ℕ) (old : List ℕ) → Torn at n old old
torn_same at n old = record { before = refl; after = refl; no_shorter = omega arith; no_longer = omega arith }

pub follows_same : (at n : ℕ) (images : List ℕ → Type 0) → Follows (Torn at n) images images
follows_same at n images x image = (x, image, torn_same at n x)

-- what is written is one of the outcomes of a torn write
pub holds_torn : (at : ℕ) (bytes old : List ℕ) → at ≤ length old → Torn at (length bytes) old (with_bytes at bytes old)
holds_torn at bytes old le =
    let n : length (take at old) ≡ at = length-take-le at old le in
    let m : length (take at old ++ bytes) ≡ at + length bytes = omega (arith, n, length-append (take at old) bytes) in
    let long = long_with at bytes old le in
    record {
      before = ap (λ (l : List ℕ). take at l) (append_assoc (take at old) bytes (drop (at + length bytes) old))
          ∙ take_at (take at old) (bytes ++ drop (at + length bytes) old) at n;
      after = drop_at (take at old ++ bytes) (drop (at + length bytes) old) (at + length bytes) m;
      no_shorter = omega (arith, long);
      no_longer = omega (arith, long);
    }
