-- Rows that keep their limits keep them in each part, and with more behind.
use Rattle.std.proofs.Common.{◌≡◌, ℕ, zero, suc, ◌<◌, Bool, List, [], ◌∷◌, ◌++◌, length, take, drop, get_or, refl, sym}
use Rattle.std.specs.Prelude.{IsTrue, slice_get, Option, Some, None}
use Rattle.std.specs.List.{list_all}
use Rattle.std.proofs.lemmas.List.Folds.{list_all-append}
use Rattle.std.proofs.lemmas.Option.{get_or_from_slice_get, slice_get_within}
use Rattle.ncc_pack.proofs.Loops.{all_at, both}
use Rattle.ncc_store.specs.Rows.{row_keeps}
use Rattle.ncc_session.specs.Question.{Row}
use Rattle.ncc_session.specs.Kept.{all_keep}
use Rattle.ncc_session.specs.Turns.{rows_at, taken}

module _ {A : Type 0} (p : A → Bool) where
  all_first : (n : ℕ) (xs : List A) → IsTrue (list_all p xs) → IsTrue (list_all p (take n xs))
  all_first zero xs h = refl
  all_first (suc n) [] h = refl
  all_first (suc n) (x ∷ xs) h = let k = both (p x) (list_all p xs) h in rw (k.0, all_first n xs k.1) refl

  all_behind : (n : ℕ) (xs : List A) → IsTrue (list_all p xs) → IsTrue (list_all p (drop n xs))
  all_behind zero xs h = h
  all_behind (suc n) [] h = refl
  all_behind (suc n) (x ∷ xs) h = all_behind n xs (both (p x) (list_all p xs) h).1

  -- the one at an index
  pub keeps_at : (xs : List A) (i : ℕ) (x : A) → i < length xs → x ≡ get_or xs i x → IsTrue (list_all p xs) → IsTrue (p x)
  keeps_at xs i x lt is h = rw is (all_at p xs i x lt h)

-- the rows of a result
rows_by : (told : List (List Row)) (number next : ℕ) (o : Option (List Row)) → slice_get told number ≡ o → IsTrue (all_keep told)
    → IsTrue (list_all row_keeps (rows_at told number next))
rows_by told number next None e h = rw (e, rows_at) refl
rows_by told number next (Some rows) e h =
    let lt : number < length told = slice_get_within told number rows e in
    let is : rows ≡ get_or told number rows = sym (get_or_from_slice_get told number rows rows e) in
    rw (e, rows_at) (all_behind row_keeps next rows (keeps_at (λ rs. list_all row_keeps rs) told number rows lt is h))

taken_keep : (count : Option ℕ) (rows : List Row) → IsTrue (list_all row_keeps rows) → IsTrue (list_all row_keeps (taken count rows))
taken_keep None rows h = h
taken_keep (Some n) rows h = all_first row_keeps n rows h

pub share_keeps : (told at : List (List Row)) (number next : ℕ) (count : Option ℕ) (left rows : List Row) → IsTrue (all_keep told)
    → at ≡ told → left ≡ rows_at at number next → rows ≡ taken count left → IsTrue (list_all row_keeps rows)
share_keeps told at number next count left rows h same left_is rows_are =
    rw (rows_are, left_is, same) (taken_keep count (rows_at told number next) (rows_by told number next (slice_get told number) refl h))

-- one list more
pub one_more : (told : List (List Row)) (rows : List Row) → IsTrue (all_keep told) → IsTrue (list_all row_keeps rows)
    → IsTrue (all_keep (told ++ rows ∷ []))
one_more told rows h k = rw (list_all-append (λ rs. list_all row_keeps rs) told (rows ∷ []), h, k) refl
