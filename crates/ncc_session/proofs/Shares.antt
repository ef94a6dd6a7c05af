-- Rows of a result: which are left, what is written of them, and how many bytes they have.
use Rattle.std.proofs.Common.{◌≡◌, ℕ, ◌+◌, ◌-◌, ◌^◌, ◌<◌, ◌≤◌, min, List, [], ◌∷◌, ◌++◌, length, map, take, drop, get_or, refl, sym, ap}
use Rattle.std.proofs.Common.{◌∙◌, append_assoc, arith}
use Rattle.std.specs.Prelude.{Option, Some, None}
use Rattle.std.proofs.lemmas.List.{take_more, take_rest, drop_all, map-append, length-take}
use Rattle.std.proofs.lemmas.Option.{slice_get_read}
use Rattle.ncc_store.specs.Rows.{rows_len}
use Rattle.ncc_session.specs.Question.{Row, Output, wrote, asked, bytes_of}
use Rattle.ncc_session.specs.Turns.{rows_at, taken}

-- the rows of the result with this number
module _ (told : List (List Row)) (number next : ℕ) (rows at : List Row) (lt : number < length told) (is : rows ≡ get_or told number rows)
    (same : at ≡ rows) where
  rows_there : rows_at told number next ≡ drop next at
  rows_there = rw (slice_get_read told (length told) number rows refl lt is, rows_at, same) refl

  pub rest_is : take (length at - next) (drop next at) ≡ rows_at told number next
  rest_is = take_rest at next ∙ sym rows_there

  pub spent_is : length at ≤ next → [] ≡ rows_at told number next
  spent_is le = sym (drop_all next at le) ∙ sym rows_there

-- no more are taken than there are
pub taken_within : (count : Option ℕ) (rows : List Row) → length (taken count rows) ≤ length rows
taken_within None rows = omega arith
taken_within (Some n) rows = omega (arith, length-take n rows)

-- what is written of several outputs
pub outputs_join : (a b : List Output) → bytes_of (a ++ b) ≡ bytes_of a ++ bytes_of b
outputs_join [] b = refl
outputs_join (wrote x ∷ a) b = ap (λ (v : List ℕ). x ++ v) (outputs_join a b) ∙ sym (append_assoc x (bytes_of a) (bytes_of b))
outputs_join (asked q ∷ a) b = outputs_join a b

-- one more row
pub record_more : (out all : List ℕ) (f : Row → Output) (rows : List Row) (i : ℕ) (row : Row) → i < length rows → row ≡ get_or rows i row
    → out ≡ all ++ bytes_of (map f (take i rows)) → out ++ bytes_of (f row ∷ []) ≡ all ++ bytes_of (map f (take (i + 1) rows))
record_more out all f rows i row lt is e =
    let front : take (i + 1) rows ≡ take i rows ++ row ∷ [] =
    take_more rows i row lt ∙ ap (λ (r : Row). take i rows ++ r ∷ []) (sym is) in
    rw (e, front, map-append f (take i rows) (row ∷ []), outputs_join (map f (take i rows)) (f row ∷ []))
    (append_assoc all (bytes_of (map f (take i rows))) (bytes_of (f row ∷ [])))

-- the bytes of all rows
pub all_counted : (sum i : ℕ) (rows : List Row) → length rows ≤ i → sum ≤ 2 ^ 64 - 1 →
    min (sum + rows_len (drop i rows)) (2 ^ 64 - 1) ≡ min (rows_len rows) (2 ^ 64 - 1) → sum ≡ min (rows_len rows) (2 ^ 64 - 1)
all_counted sum i rows le lt e =
    let none : rows_len (drop i rows) ≡ 0 = ap rows_len (drop_all i rows le) in
    omega arith
