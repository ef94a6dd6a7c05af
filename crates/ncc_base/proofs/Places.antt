-- Bytes at their places, in contents that are put together.
use Rattle.std.proofs.Common.{◌≡◌, ◌⊎◌, inl, inr, ℕ, ◌+◌, ◌-◌, ◌<◌, ◌≤◌, List, ◌++◌, length, take, drop, get_or, refl, sym}
use Rattle.std.proofs.Common.{◌∙◌, ap, arith, length-drop, append_assoc, Bool, true, false}
use Rattle.std.specs.Prelude.{min, if◌then◌else◌}
use Rattle.std.proofs.lemmas.List.{length-take-le, get_or-take, get_or-drop, get_or_past}
use Rattle.std.proofs.lemmas.List.{drop-drop}
use borrow.Rule.Slice.PartMut.{put_mid}
use Rattle.ncc_base.specs.MemDisk.{byte_at, with_bytes, is_in}
use Rattle.ncc_base.specs.MemLaws.{before_it, behind_it, below_or, inside, outside, within_it}
use Rattle.ncc_base.specs.declared.mem_disk.Range.{Range}

-- the bytes of a range, taken over from another content of the same length
module _ (r : Range) (a n : ℕ) (to from ys : List ℕ) (same : length to ≡ length from) (first : a ≡ min (length from) r.at)
    (many : n ≡ min (length from - a) r.count) (is : ys ≡ take n (drop a from)) where
  long : length ys ≡ n
  long = ap (λ (l : List ℕ). length l) is ∙ length-take-le n (drop a from) (omega (arith, many, first, length-drop a from))

  low : a ≤ length to
  low = omega (arith, same, first)

  in_it : (p : ℕ) → a ≤ p → p < a + n → byte_at (with_bytes a ys to) p ≡ byte_at from p
  in_it p up down =
      within_it a ys to p low up (omega (arith, down, long))
      ∙ ap (λ (l : List ℕ). get_or l (p - a) 0) is
      ∙ get_or-take n (drop a from) (p - a) 0 (omega (arith, up, down))
      ∙ get_or-drop a from (p - a) 0
      ∙ ap (λ (i : ℕ). get_or from i 0) (omega (arith, up))

  when_in : (p : ℕ) → is_in p r ≡ true → byte_at (with_bytes a ys to) p ≡ byte_at from p
  when_in p there = elim (below_or p (length from)) [
    | inl short ↦ let place = inside p r there in
        in_it p (omega (arith, first, place.0)) (omega (arith, first, many, place.0, place.1, short))
    | inr past ↦
        behind_it a ys to p low (omega (arith, first, many, long, past))
        ∙ get_or_past to p 0 (omega (arith, past, same))
        ∙ sym (get_or_past from p 0 past)
  ]

  when_out : (p : ℕ) → (p < r.at) ⊎ (r.at + r.count ≤ p) → byte_at (with_bytes a ys to) p ≡ byte_at to p
  when_out p apart = elim (below_or p a) [
    | inl under ↦ before_it a ys to p low under
    | inr up ↦ behind_it a ys to p low (elim apart [
      | inl l ↦ omega (arith, l, up, first, many, long)
      | inr h ↦ omega (arith, h, first, many, long)
    ])
  ]

  pub taken_over : (p : ℕ) → byte_at (with_bytes a ys to) p ≡ (if is_in p r then byte_at from p else byte_at to p)
  taken_over p = go (is_in p r) refl where
    go : (b : Bool) → is_in p r ≡ b → byte_at (with_bytes a ys to) p ≡ (if b then byte_at from p else byte_at to p)
    go true e = when_in p e
    go false e = when_out p (outside p r e)

-- a part of a slice, after it was written
pub part_is : (a k : ℕ) (xs ys : List ℕ) → k ≡ length ys → put_mid a k xs ys ≡ with_bytes a ys xs
part_is a k xs ys e =
    ap (λ (l : List ℕ). take a xs ++ (ys ++ l)) (drop-drop k a xs)
    ∙ ap (λ (n : ℕ). take a xs ++ (ys ++ drop (a + n) xs)) e
    ∙ sym (append_assoc (take a xs) ys (drop (a + length ys) xs))
