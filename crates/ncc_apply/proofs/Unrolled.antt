-- Runs, written out.
use Rattle.std.proofs.Common.{◌≡◌, ◌∙◌, ℕ, zero, suc, ◌+◌, ◌-◌, ◌<◌, ◌≤◌, true, false, List, [], ◌∷◌, ◌++◌, length, refl, sym}
use Rattle.std.proofs.Common.{ap, ap₂, arith, Option, Some, None, set, get_or, replicate, append_assoc, length-append, ltb}
use Rattle.std.proofs.lemmas.Bool.{ltb-true, ltb-false, ne_eqb}
use Rattle.std.proofs.lemmas.List.{length-replicate, replicate_more, get_or_append_left, get_or-append_right, get_or-replicate}
use Rattle.std.proofs.lemmas.Option.{get_or_from_slice_get, slice_get-get_or, slice_get_past, slice_get_within}
use Rattle.std.specs.Prelude.{IsSome, ◌↔◌}
use Rattle.std.specs.List.{slice_get}
use Rattle.std.specs.List.Sorted.{IsNonDecreasingBy, IsPartitionPoint}
use Rattle.ncc_tx.specs.declared.stamp.Stamp.{Stamp}
use Rattle.ncc_apply.specs.declared.runs.Run.{Run}
use Rattle.ncc_apply.specs.Runs.{IsRising, end_of, stamp_in, unrolled}
use Rattle.ncc_apply.specs.View.{stamp_of}

-- as many stamps as there are places
pub places : (from : ℕ) (rs : List Run) → IsRising from rs → from + length (unrolled from rs) ≡ end_of from rs
unfolding IsRising end_of unrolled
places from [] rising = omega arith
places from (r ∷ rs) rising =
    let more = places r.until rs rising.1 in
    let first = replicate (r.until - from) (stamp_in r) in
    omega (arith, rising.0, more, length-append first (unrolled r.until rs), length-replicate (r.until - from) (stamp_in r))

-- ---- the last place

pub end_get : (from : ℕ) (rs : List Run) (d : Run) → 0 < length rs → (get_or rs (length rs - 1) d).until ≡ end_of from rs
unfolding end_of
end_get from [] d some = absurd (omega arith)
end_get from (r ∷ []) d some = refl
end_get from (r ∷ x ∷ rs) d some =
    let next : length (r ∷ x ∷ rs) - 1 ≡ suc (length (x ∷ rs) - 1) = omega arith in
    ap (λ (n : ℕ). (get_or (r ∷ x ∷ rs) n d).until) next ∙ end_get r.until (x ∷ rs) d (omega arith)

pub last_some : (rs : List Run) (r : Run) → Some r ≡ slice_get rs (length rs - 1) → r.until ≡ end_of 0 rs
last_some rs r e =
    let within = slice_get_within rs (length rs - 1) r (sym e) in
    sym (ap (λ (x : Run). x.until) (get_or_from_slice_get rs (length rs - 1) r r (sym e))) ∙ end_get 0 rs r (omega (arith, within))

pub last_none : (rs : List Run) → None ≡ slice_get rs (length rs - 1) → 0 ≡ end_of 0 rs
unfolding end_of
last_none [] e = refl
last_none (r ∷ rs) e = absurd (cc (slice_get-get_or (r ∷ rs) (length (r ∷ rs) - 1) r (omega arith)))

-- ---- the run of a place

above : (from : ℕ) (rs : List Run) (j : ℕ) (d : Run) → IsRising from rs → j < length rs → from ≤ (get_or rs j d).until
unfolding IsRising
above from [] j d rising lt = absurd (omega arith)
above from (r ∷ rs) zero d rising lt = omega (arith, rising.0)
above from (r ∷ rs) (suc j) d rising lt = let more = above r.until rs j d rising.1 (omega arith) in omega (arith, rising.0, more)

pub rises : (from : ℕ) (rs : List Run) → IsRising from rs → IsNonDecreasingBy (λ r. r.until) rs
unfolding IsRising
rises from [] rising i j d le lt = absurd (omega arith)
rises from (r ∷ rs) rising zero zero d le lt = omega arith
rises from (r ∷ rs) rising zero (suc j) d le lt = above r.until rs j d rising.1 (omega arith)
rises from (r ∷ rs) rising (suc i) zero d le lt = absurd (omega arith)
rises from (r ∷ rs) rising (suc i) (suc j) d le lt = rises r.until rs rising.1 i j d (omega arith) (omega arith)

-- the stamp of the first place that is in none of these runs, so many places behind
record InRun (from p i : ℕ) (rs : List Run) (d : Run) (e : Stamp) : Type 0 where
  within : p - from - 1 < length (unrolled from rs)
  is : get_or (unrolled from rs) (p - from - 1) e ≡ stamp_in (get_or rs i d)

in_run : (from p i : ℕ) (rs : List Run) (d : Run) (e : Stamp) → IsRising from rs → from < p → i < length rs →
    ((k : ℕ) → k < i → (get_or rs k d).until < p) → p ≤ (get_or rs i d).until → InRun from p i rs d e
unfolding IsRising unrolled
in_run from p i [] d e rising lt some before here = absurd (omega arith)
in_run from p zero (r ∷ rs) d e rising lt some before here =
    let first = replicate (r.until - from) (stamp_in r) in
    let long : length first ≡ r.until - from = length-replicate (r.until - from) (stamp_in r) in
    let low : p - from - 1 < length first = omega (arith, long) in
    record {
      within = omega (arith, low, length-append first (unrolled r.until rs));
      is =
          get_or_append_left first (unrolled r.until rs) e (p - from - 1) low
          ∙ get_or-replicate (r.until - from) (p - from - 1) (stamp_in r) e (omega (arith, low, long));
    }
in_run from p (suc i) (r ∷ rs) d e rising lt some before here =
    let first = replicate (r.until - from) (stamp_in r) in
    let long : length first ≡ r.until - from = length-replicate (r.until - from) (stamp_in r) in
    let later : r.until < p = before 0 (omega arith) in
    let more = in_run r.until p i rs d e rising.1 later (omega arith) (λ k below. before (suc k) (omega arith)) here in
    let behind : p - from - 1 - (r.until - from) ≡ p - r.until - 1 = omega (arith, rising.0, later) in
    record {
      within = omega (arith, more.within, long, length-append first (unrolled r.until rs), rising.0, later);
      is =
          get_or-append_right first (unrolled r.until rs) (r.until - from) (p - from - 1) e long (omega (arith, rising.0, later))
          ∙ ap (λ (n : ℕ). get_or (unrolled r.until rs) n e) behind ∙ more.is;
    }

-- what `partition_point` gives at the runs that end before a place
abbrev pub Parted : List Run → ℕ → ℕ → Type 0
Parted rs p i = IsPartitionPoint (λ (r : Run). ltb r.until p ≡ true) (λ (r : Run). ltb r.until p ≡ false) rs i

of_place : (p : ℕ) (ss : List Stamp) → 0 < p → stamp_of p ss ≡ slice_get ss (p - 0 - 1)
of_place p ss some =
    let e : p - 1 ≡ p - 0 - 1 = omega arith in rw (ne_eqb p 0 (omega arith)) (ap (λ (n : ℕ). slice_get ss n) e)

pub stamp_found : (p i : ℕ) (rs : List Run) (d : Run) → IsRising 0 rs → 0 < p → Parted rs p i → i < length rs →
    Some (stamp_in (get_or rs i d)) ≡ stamp_of p (unrolled 0 rs)
stamp_found p i rs d rising some parted lt =
    let e = stamp_in d in
    let found =
    in_run 0 p i rs d e rising some lt (λ k below. ltb-true (get_or rs k d).until p (parted.0 k d (omega arith) below))
    (ltb-false (get_or rs i d).until p (parted.1 i d (omega arith) lt)) in
    sym (of_place p (unrolled 0 rs) some ∙ slice_get-get_or (unrolled 0 rs) (p - 0 - 1) e found.within ∙ ap Some found.is)

past_end : (p : ℕ) (rs : List Run) → ((k : ℕ) (d : Run) → 0 ≤ k → k < length rs → ltb (get_or rs k d).until p ≡ true) → 0 < p →
    end_of 0 rs < p
unfolding end_of
past_end p [] all some = some
past_end p (r ∷ rs) all some =
    let i = length (r ∷ rs) - 1 in
    let last = ltb-true (get_or (r ∷ rs) i r).until p (all i r (omega arith) (omega arith)) in
    let e : (get_or (r ∷ rs) i r).until ≡ end_of 0 (r ∷ rs) = end_get 0 (r ∷ rs) r (omega arith) in
    omega (arith, last, e)

pub stamp_none : (p : ℕ) (rs : List Run) → IsRising 0 rs → 0 < p → Parted rs p (length rs) → None ≡ stamp_of p (unrolled 0 rs)
stamp_none p rs rising some parted =
    let past = past_end p rs parted.0 some in
    sym (of_place p (unrolled 0 rs) some ∙ slice_get_past (unrolled 0 rs) (p - 0 - 1) (omega (arith, places 0 rs rising, past)))

-- ---- one more place

pub new_run : (from : ℕ) (rs : List Run) (r : Run) → IsRising from rs → r.until ≡ end_of from rs + 1 →
    unrolled from (rs ++ r ∷ []) ≡ unrolled from rs ++ stamp_in r ∷ []
unfolding IsRising end_of unrolled
new_run from [] r rising last = let one : r.until - from ≡ 1 = omega (arith, last) in rw one
new_run from (x ∷ rs) r rising last =
    ap (λ (l : List Stamp). replicate (x.until - from) (stamp_in x) ++ l) (new_run x.until rs r rising.1 last)
    ∙ sym (append_assoc (replicate (x.until - from) (stamp_in x)) (unrolled x.until rs) (stamp_in r ∷ []))

pub new_rises : (from : ℕ) (rs : List Run) (r : Run) → IsRising from rs → r.until ≡ end_of from rs + 1 → IsRising from (rs ++ r ∷ [])
unfolding IsRising end_of
new_rises from [] r rising last = (omega (arith, last), tt)
new_rises from (x ∷ rs) r rising last = (rising.0, new_rises x.until rs r rising.1 last)

one_more : (n : ℕ) (s : Stamp) → replicate (n + 1) s ++ [] ≡ (replicate n s ++ []) ++ s ∷ []
one_more n s =
    rw (← replicate_more n s) (append_assoc (replicate n s) (s ∷ []) [] ∙ sym (append_assoc (replicate n s) [] (s ∷ [])))

pub longer_run : (from : ℕ) (rs : List Run) (i : ℕ) (r d : Run) → IsRising from rs → i + 1 ≡ length rs →
    stamp_in r ≡ stamp_in (get_or rs i d) →
    r.until ≡ end_of from rs + 1 → unrolled from (set rs i r) ≡ unrolled from rs ++ stamp_in r ∷ []
unfolding IsRising end_of unrolled
longer_run from [] i r d rising at same last = absurd (omega arith)
longer_run from (x ∷ []) zero r d rising at same last =
    let n = x.until - from in
    let one : r.until - from ≡ n + 1 = omega (arith, last, rising.0) in
    rw (one, ← same) (one_more n (stamp_in r))
longer_run from (x ∷ []) (suc i) r d rising at same last = absurd (omega arith)
longer_run from (x ∷ y ∷ rs) zero r d rising at same last = absurd (omega arith)
longer_run from (x ∷ y ∷ rs) (suc i) r d rising at same last =
    ap (λ (l : List Stamp). replicate (x.until - from) (stamp_in x) ++ l)
    (longer_run x.until (y ∷ rs) i r d rising.1 (omega arith) same last)
    ∙ sym (append_assoc (replicate (x.until - from) (stamp_in x)) (unrolled x.until (y ∷ rs)) (stamp_in r ∷ []))

pub longer_rises : (from : ℕ) (rs : List Run) (i : ℕ) (r : Run) → IsRising from rs → i + 1 ≡ length rs → r.until ≡ end_of from rs + 1 →
    IsRising from (set rs i r)
unfolding IsRising end_of
longer_rises from [] i r rising at last = absurd (omega arith)
longer_rises from (x ∷ []) zero r rising at last = (omega (arith, last, rising.0), tt)
longer_rises from (x ∷ []) (suc i) r rising at last = absurd (omega arith)
longer_rises from (x ∷ y ∷ rs) zero r rising at last = absurd (omega arith)
longer_rises from (x ∷ y ∷ rs) (suc i) r rising at last = (rising.0, longer_rises x.until (y ∷ rs) i r rising.1 (omega arith) last)

-- ---- what a view tells

pub same_at : (rs : List Run) (i : ℕ) (a b : Run) → i < length rs → get_or rs i a ≡ get_or rs i b
same_at [] i a b lt = absurd (omega arith)
same_at (r ∷ rs) zero a b lt = refl
same_at (r ∷ rs) (suc i) a b lt = same_at rs i a b (omega arith)

some_within : (ss : List Stamp) (i : ℕ) → IsSome (slice_get ss i) ↔ ((1 ≤ suc i) × (suc i ≤ length ss))
some_within [] i = (λ s. absurd (cc), λ b. absurd (omega (arith, b.1)))
some_within (x ∷ ss) zero = (λ s. (omega arith, omega arith), λ b. refl)
some_within (x ∷ ss) (suc i) =
    let more = some_within ss i in (λ s. (omega arith, omega (arith, (more.0 s).1)), λ b. more.1 (omega arith, omega (arith, b.1)))

there_of : (p : ℕ) (ss : List Stamp) → IsSome (stamp_of p ss) ↔ ((1 ≤ p) × (p ≤ length ss))
there_of zero ss = (λ s. absurd (cc), λ b. absurd (omega (arith, b.0)))
there_of (suc p) ss =
    let e : suc p - 0 - 1 ≡ p = omega arith in
    rw (of_place (suc p) ss (omega arith), e) (some_within ss p)

pub stamped_there : (p : ℕ) (ss : List Stamp) (r : Option Stamp) → r ≡ stamp_of p ss → IsSome r ↔ ((1 ≤ p) × (p ≤ length ss))
stamped_there p ss r e = rw e (there_of p ss)

-- ---- one stamp more

get_last : (xs : List Stamp) (x : Stamp) → slice_get (xs ++ x ∷ []) (length xs) ≡ Some x
get_last [] x = refl
get_last (y ∷ ys) x = get_last ys x

get_before : (xs : List Stamp) (x : Stamp) (i : ℕ) → i < length xs → slice_get (xs ++ x ∷ []) i ≡ slice_get xs i
get_before [] x i lt = absurd (omega arith)
get_before (y ∷ ys) x zero lt = refl
get_before (y ∷ ys) x (suc i) lt = get_before ys x i (omega arith)

pub last_stamp : (n : ℕ) (xs all : List Stamp) (x : Stamp) → length xs ≡ n → all ≡ xs ++ x ∷ [] → stamp_of (n + 1) all ≡ Some x
last_stamp n xs all x e grown =
    let i : n + 1 - 0 - 1 ≡ length xs = omega arith in
    of_place (n + 1) all (omega arith) ∙ ap₂ (λ (l : List Stamp) (k : ℕ). slice_get l k) grown i ∙ get_last xs x

pub earlier_stamp : (n p : ℕ) (xs all : List Stamp) (x : Stamp) → length xs ≡ n → all ≡ xs ++ x ∷ [] → p ≤ n → stamp_of p all ≡ stamp_of p xs
earlier_stamp n zero xs all x e grown le = refl
earlier_stamp n (suc p) xs all x e grown le =
    let i : suc p - 0 - 1 ≡ p = omega arith in
    of_place (suc p) all (omega arith)
    ∙ ap₂ (λ (l : List Stamp) (k : ℕ). slice_get l k) grown i
    ∙ get_before xs x p (omega arith)
    ∙ sym (of_place (suc p) xs (omega arith) ∙ ap (λ (k : ℕ). slice_get xs k) i)
