-- Terms that don't fall.
use Rattle.std.proofs.Common.{ℕ, zero, suc, ◌<◌, ◌≤◌, List, [], ◌∷◌, ◌++◌, length, take, drop, arith}
use Rattle.std.specs.Prelude.{slice_get}
use Rattle.ncc_tx.specs.declared.entry.Entry.{Entry}
use Rattle.ncc_tx.specs.declared.entry.Item.{Item}
use Rattle.ncc_tx.specs.Kept.{NeverFalls, term_at, term_of}

pub falls_under : (least low high : ℕ) (xs : List Item) → low ≤ high → NeverFalls least low xs → NeverFalls least high xs
falls_under least low high [] le a = tt
falls_under least low high (x ∷ xs) le a = (a.0, omega (arith, a.1, le), falls_under x.term low high xs le a.2)

-- an item of the greatest term may come behind
pub falls_push : (least t : ℕ) (xs : List Item) (e : Entry) → least ≤ t → NeverFalls least t xs →
    NeverFalls least t (xs ++ record { term = t; entry = e } ∷ [])
falls_push least t [] e le a = (le, omega arith, tt)
falls_push least t (x ∷ xs) e le a = (a.0, a.1, falls_push x.term t xs e a.1 a.2)

term_le : (least t : ℕ) (xs : List Item) (n : ℕ) → NeverFalls least t xs → term_of (slice_get xs n) ≤ t
term_le least t [] n a = omega arith
term_le least t (x ∷ xs) zero a = a.1
term_le least t (x ∷ xs) (suc n) a = term_le x.term t xs n a.2

pub at_le : (t : ℕ) (log : List Item) (place : ℕ) → NeverFalls 0 t log → term_at log place ≤ t
at_le t log zero a = omega arith
at_le t log (suc p) a = term_le 0 t log p a

-- the least term stands first
first_le : (least t : ℕ) (xs : List Item) (n : ℕ) → n < length xs → NeverFalls least t xs → least ≤ term_of (slice_get xs n)
first_le least t [] n lt a = absurd (omega arith)
first_le least t (x ∷ xs) zero lt a = a.0
first_le least t (x ∷ xs) (suc n) lt a = omega (arith, a.0, first_le x.term t xs n (omega arith) a.2)

ascends : (least t : ℕ) (xs : List Item) (m n : ℕ) → m ≤ n → n < length xs → NeverFalls least t xs →
    term_of (slice_get xs m) ≤ term_of (slice_get xs n)
ascends least t [] m n le lt a = absurd (omega arith)
ascends least t (x ∷ xs) zero zero le lt a = omega arith
ascends least t (x ∷ xs) zero (suc n) le lt a = first_le x.term t xs n (omega arith) a.2
ascends least t (x ∷ xs) (suc m) zero le lt a = absurd (omega arith)
ascends least t (x ∷ xs) (suc m) (suc n) le lt a = ascends x.term t xs m n (omega arith) (omega arith) a.2

-- an earlier place has no greater term
pub at_ascends : (t : ℕ) (log : List Item) (m n : ℕ) → m ≤ n → n ≤ length log → NeverFalls 0 t log → term_at log m ≤ term_at log n
at_ascends t log zero n le len a = omega arith
at_ascends t log (suc m) zero le len a = absurd (omega arith)
at_ascends t log (suc m) (suc n) le len a = ascends 0 t log m n (omega arith) (omega arith) a

-- ---- parts

pub falls_front : (least greatest n : ℕ) (xs : List Item) → NeverFalls least greatest xs → NeverFalls least greatest (take n xs)
falls_front least greatest zero xs a = tt
falls_front least greatest (suc n) [] a = tt
falls_front least greatest (suc n) (x ∷ xs) a = (a.0, a.1, falls_front x.term greatest n xs a.2)

falls_less : (least low greatest : ℕ) (xs : List Item) → low ≤ least → NeverFalls least greatest xs → NeverFalls low greatest xs
falls_less least low greatest [] le a = tt
falls_less least low greatest (x ∷ xs) le a = (omega (arith, a.0), a.1, a.2)

behind : (least greatest n : ℕ) (xs : List Item) → n < length xs → NeverFalls least greatest xs →
    NeverFalls (term_of (slice_get xs n)) greatest (drop (suc n) xs)
behind least greatest n [] lt a = absurd (omega arith)
behind least greatest zero (x ∷ xs) lt a = a.2
behind least greatest (suc n) (x ∷ xs) lt a = behind x.term greatest n xs (omega arith) a.2

-- behind a place they don't fall from its term on
pub falls_behind : (greatest place : ℕ) (log : List Item) → place ≤ length log → NeverFalls 0 greatest log →
    NeverFalls (term_at log place) greatest (drop place log)
falls_behind greatest zero log le a = a
falls_behind greatest (suc p) log le a = behind 0 greatest p log (omega arith) a
