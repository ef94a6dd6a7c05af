-- What is applied stays.
use Rattle.std.proofs.Common.{◌≡◌, ℕ, zero, suc, ◌+◌, ◌-◌, ◌<◌, ◌≤◌, Bool, List, [], ◌∷◌, ◌++◌, length, take}
use Rattle.std.proofs.Common.{drop, None, refl, sym, ap, ◌∙◌, subst, arith, inl, inr, length-append}
use Rattle.std.specs.Prelude.{if◌then◌else◌}
use Rattle.std.proofs.lemmas.Bool.{cases_eq, cases_lt, eq-eqb}
use Rattle.std.proofs.lemmas.List.{length-take}
use Rattle.std.proofs.lemmas.Option.{none-some}
use Rattle.ncc_tx.specs.declared.entry.Item.{Item}
use Rattle.ncc_tx.specs.Kept.{term_at, terms}
use Rattle.ncc_raft.specs.Logs.{accepted, first_conflict, merged}
use Rattle.ncc_raft.proofs.Conflicts.{conflict_here, conflict_past, conflict_same}

-- the told terms are those of the log, from a place on, as far as the last one
abbrev Agrees : List Item → ℕ → ℕ → List ℕ → Type 0
Agrees log last place [] = Unit {0}
Agrees log last place (t ∷ ts) = (place ≤ last → term_at log place ≡ t) × Agrees log last (suc place) ts

agrees : (log : List Item) (last place : ℕ) (ts : List ℕ) → first_conflict log last place ts ≡ None → Agrees log last place ts
agrees log last place [] e = tt
agrees log last place (t ∷ ts) e = elim (cases_eq (term_at log place) t) [
  | inl same ↦ (λ le. same, agrees log last (suc place) ts (sym (conflict_same log last place t ts same) ∙ e))
  | inr other ↦ elim (cases_lt last place) [
    | inl past ↦ (λ le. absurd (omega arith), agrees log last (suc place) ts (sym (conflict_past log last place t ts past) ∙ e))
    | inr le ↦ absurd (none-some (record { place = place; kept = term_at log place; told = t })
        (sym e ∙ conflict_here log last place t ts le other))
  ]
]

-- the same of the rest of a log, from its first item on: the next `n` items are at or below the last place
abbrev Fronts : List Item → ℕ → List Item → Type 0
Fronts old n [] = Unit {0}
Fronts [] n (x ∷ xs) = Unit {0}
Fronts (o ∷ os) zero (x ∷ xs) = Unit {0}
Fronts (o ∷ os) (suc n) (x ∷ xs) = (o.term ≡ x.term) × Fronts os n xs

merged_front : (old new : List Item) (n : ℕ) → n ≤ length old → Fronts old n new → take n (merged old new) ≡ take n old
unfolding merged
merged_front old [] n le f = refl
merged_front [] (x ∷ xs) zero le f = refl
merged_front [] (x ∷ xs) (suc n) le f = absurd (omega arith)
merged_front (o ∷ os) (x ∷ xs) zero le f = refl
merged_front (o ∷ os) (x ∷ xs) (suc n) le f =
    ap (λ (b : Bool). take (suc n) (if b then o ∷ merged os xs else x ∷ xs)) (eq-eqb o.term x.term f.0)
    ∙ ap (λ (l : List Item). o ∷ l) (merged_front os xs n (omega arith) f.1)

behind : (done : List Item) (o : Item) (os : List Item) → term_at (done ++ o ∷ os) (suc (length done)) ≡ o.term
behind [] o os = refl
behind (d ∷ ds) o os = behind ds o os

one_on : (done : List Item) (o : Item) (os : List Item) → (done ++ o ∷ []) ++ os ≡ done ++ o ∷ os
one_on [] o os = refl
one_on (d ∷ ds) o os = ap (λ (l : List Item). d ∷ l) (one_on ds o os)

-- what the front has where the next item agrees, by how many of the next ones are at or below the last place
fronts_by : (o x : Item) (os xs : List Item) (n : ℕ) → (0 < n → o.term ≡ x.term) → Fronts os (n - 1) xs → Fronts (o ∷ os) n (x ∷ xs)
fronts_by o x os xs zero same rest = tt
fronts_by o x os xs (suc n) same rest =
    let k : suc n - 1 ≡ n = omega arith in
    (same (omega arith), subst (λ (j : ℕ). Fronts os j xs) k rest)

-- from places of the whole log to its rest; `done` stands before it
fronts : (done old new : List Item) (last : ℕ) → Agrees (done ++ old) last (suc (length done)) (terms new) → Fronts old
    (last - length done) new
fronts done old [] last a = tt
fronts done [] (x ∷ xs) last a = tt
fronts done (o ∷ os) (x ∷ xs) last a =
    let more : length (done ++ o ∷ []) ≡ suc (length done) = omega (arith, length-append done (o ∷ [])) in
    let rest : Agrees ((done ++ o ∷ []) ++ os) last (suc (length (done ++ o ∷ []))) (terms xs) =
    subst (λ (l : List Item). Agrees l last (suc (length (done ++ o ∷ []))) (terms xs)) (sym (one_on done o os))
    (subst (λ (k : ℕ). Agrees (done ++ o ∷ os) last (suc k) (terms xs)) (sym more) a.1) in
    let f : Fronts os (last - length (done ++ o ∷ [])) xs = fronts (done ++ o ∷ []) os xs last rest in
    let n_is : last - length (done ++ o ∷ []) ≡ last - length done - 1 = omega (arith, more) in
    fronts_by o x os xs (last - length done) (λ lt. sym (behind done o os) ∙ a.0 (omega arith))
    (subst (λ (k : ℕ). Fronts os k xs) n_is f)

behind_same : (ds xs ys : List Item) (n : ℕ) → take (n - length ds) xs ≡ take (n - length ds) ys → take n (ds ++ xs) ≡ take n (ds ++ ys)
behind_same [] xs ys n e = let k : n - 0 ≡ n = omega arith in subst (λ (j : ℕ). take j xs ≡ take j ys) k e
behind_same (d ∷ ds) xs ys zero e = refl
behind_same (d ∷ ds) xs ys (suc n) e =
    let k : suc n - suc (length ds) ≡ n - length ds = omega arith in
    ap (λ (l : List Item). d ∷ l) (behind_same ds xs ys n (subst (λ (j : ℕ). take j xs ≡ take j ys) k e))

front_kept : (done old new : List Item) (last : ℕ) → last ≤ length done + length old →
    Agrees (done ++ old) last (suc (length done)) (terms new) → take last (done ++ merged old new) ≡ take last (done ++ old)
front_kept done old new last le a =
    let inner : take (last - length done) (merged old new) ≡ take (last - length done) old =
    merged_front old new (last - length done) (omega arith) (fronts done old new last a) in
    behind_same done (merged old new) old last inner

split : (prev : ℕ) (log : List Item) → prev ≤ length log → (length (take prev log) ≡ prev) × (take prev log ++ drop prev log ≡ log) ×
    (length (take prev log) + length (drop prev log) ≡ length log)
split zero log le = (refl, refl, omega arith)
split (suc p) [] le = absurd (omega arith)
split (suc p) (x ∷ xs) le = let h = split p xs (omega arith) in (ap suc h.0, ap (λ (l : List Item). x ∷ l) h.1, omega (arith, h.2))

-- what is applied stays, where no place among it was told otherwise
pub applied_stays : (log items : List Item) (commit prev prev_term : ℕ) → commit ≤ length log → prev ≤ length log →
    first_conflict log commit prev (prev_term ∷ terms items) ≡ None → take commit (accepted log prev items) ≡ take commit log
unfolding accepted
applied_stays log items commit prev prev_term le ge none =
    let s = split prev log ge in
    let a : Agrees log commit prev (prev_term ∷ terms items) = agrees log commit prev (prev_term ∷ terms items) none in
    let b : Agrees (take prev log ++ drop prev log) commit (suc (length (take prev log))) (terms items) =
    subst (λ (l : List Item). Agrees l commit (suc (length (take prev log))) (terms items)) (sym s.1)
    (subst (λ (k : ℕ). Agrees log commit (suc k) (terms items)) (sym s.0) a.1) in
    front_kept (take prev log) (drop prev log) items commit (omega (arith, s.2)) b ∙ ap (take commit) s.1

-- so it lies within the new log
pub commit_within : (log items : List Item) (commit prev prev_term : ℕ) → commit ≤ length log → prev ≤ length log →
    first_conflict log commit prev (prev_term ∷ terms items) ≡ None → commit ≤ length (accepted log prev items)
commit_within log items commit prev prev_term le ge none =
    let e : length (take commit (accepted log prev items)) ≡ length (take commit log) = ap length
    (applied_stays log items commit prev prev_term le ge none) in
    omega (arith, e, length-take commit (accepted log prev items), length-take commit log)
