-- Why items are not taken, case by case.
use Rattle.std.proofs.Common.{◌≡◌, ℕ, ◌+◌, ◌-◌, ◌<◌, ◌≤◌, Bool, true, false, List, ◌++◌, length, drop, Option, Some, None, Result, Ok}
use Rattle.std.proofs.Common.{Err, refl, sym, ap, ◌∙◌, subst, arith, inl, inr, ◌⊎◌, ◌↔◌}
use Rattle.std.specs.Prelude.{OnOk, is_ok, nat_le, nat_lt, if◌then◌else◌}
use Rattle.std.proofs.lemmas.Option.{none-some, same_Some}
use Rattle.std.proofs.lemmas.Bool.{cases_lt, le-leb, le-ltb, lt-leb, lt-ltb}
use Rattle.ncc_tx.specs.declared.entry.Item.{Item}
use Rattle.ncc_tx.specs.Kept.{terms}
use Rattle.ncc_raft.specs.Logs.{Conflict, first_conflict}
use Rattle.ncc_raft.specs.Pulled.{Taken, Grown, Gap, Stale, Contradicted, grown, taken}
use Rattle.ncc_replica.specs.declared.replica.TakeError.{TakeError}
use Rattle.ncc_replica.specs.declared.replica.TakeError.TheVariants as error
use Rattle.ncc_replica.specs.Told.{told}

abbrev by : Bool → Bool → List Item → ℕ → List Item → Taken
by gap stale log first items =
    if gap then Gap (length log) first
    else (if stale then Stale (length log) (first + length items - 1) else grown log first items (first_conflict log (length log) first
    (terms items)))

opened : (log items : List Item) (first : ℕ) →
    taken log first items ≡ by (nat_lt (length log + 1) first) (nat_le (first + length items) (length log + 1)) log first items
unfolding taken
opened log items first = refl

pub gap_is : (log items : List Item) (first : ℕ) → length log + 1 < first → taken log first items ≡ Gap (length log) first
gap_is log items first lt = opened log items first
    ∙ ap (λ (b : Bool). by b (nat_le (first + length items) (length log + 1)) log first items) (lt-ltb (length log + 1) first lt)

pub stale_is : (log items : List Item) (first : ℕ) → first ≤ length log + 1 → first + length items ≤ length log + 1 →
    taken log first items ≡ Stale (length log) (first + length items - 1)
stale_is log items first le ge = opened log items first
    ∙ ap (λ (b : Bool). by b (nat_le (first + length items) (length log + 1)) log first items) (le-ltb (length log + 1) first le)
    ∙ ap (λ (b : Bool). by false b log first items) (le-leb (first + length items) (length log + 1) ge)

pub grown_is : (log items : List Item) (first : ℕ) → first ≤ length log + 1 → length log + 1 < first + length items →
    taken log first items ≡ grown log first items (first_conflict log (length log) first (terms items))
grown_is log items first le lt = opened log items first
    ∙ ap (λ (b : Bool). by b (nat_le (first + length items) (length log + 1)) log first items) (le-ltb (length log + 1) first le)
    ∙ ap (λ (b : Bool). by false b log first items) (lt-leb (first + length items) (length log + 1) lt)

-- ---- as the code tells it

pub is_gap : (log items : List Item) (first have : ℕ) → have ≡ length log → have + 1 < first → Some (error.Gap have first) ≡ told
    (taken log first items)
is_gap log items first have e lt =
    ap (λ (n : ℕ). Some (error.Gap n first)) e ∙ sym (ap told (gap_is log items first (omega (arith, e))))

pub is_stale : (log items : List Item) (first have last : ℕ) → have ≡ length log → first ≤ have + 1 → first + length items ≤ have + 1 →
    last ≡ first + length items - 1 → Some (error.Stale have last) ≡ told (taken log first items)
is_stale log items first have last e le ge f =
    ap (λ (n : ℕ). Some (error.Stale n last)) e ∙ ap (λ (n : ℕ). Some (error.Stale (length log) n)) f
    ∙ sym (ap told (stale_is log items first (omega (arith, e)) (omega (arith, e))))

pub is_clash : (log items : List Item) (first have p k t : ℕ) → have ≡ length log → first ≤ have + 1 → have + 1 < first + length items →
    first_conflict log have first (terms items) ≡ Some (record { place = p; kept = k; told = t }) →
    Some (error.Contradicted p k t) ≡ told (taken log first items)
is_clash log items first have p k t e le lt x =
    let y : first_conflict log (length log) first (terms items) ≡ Some (record { place = p; kept = k; told = t }) =
    ap (λ (n : ℕ). first_conflict log n first (terms items)) (sym e) ∙ x in
    sym (ap told (grown_is log items first (omega (arith, e)) (omega (arith, e)) ∙ ap (grown log first items) y))

pub is_none : (log items : List Item) (first have : ℕ) → have ≡ length log → first ≤ have + 1 → have + 1 < first + length items →
    first_conflict log have first (terms items) ≡ None → None ≡ told (taken log first items)
is_none log items first have e le lt x =
    let y : first_conflict log (length log) first (terms items) ≡ None = ap (λ (n : ℕ). first_conflict log n first (terms items))
    (sym e) ∙ x in
    sym (ap told (grown_is log items first (omega (arith, e)) (omega (arith, e)) ∙ ap (grown log first items) y))

-- ---- what an answer says of the list

abbrev Appended : List Item → List Item → ℕ → Type 0
Appended log items first =
    (first ≤ length log + 1) × (length log + 1 - first ≤ length items) × (taken log first items ≡ Grown
    (log ++ drop (length log + 1 - first) items))

by_conflict : (log items : List Item) (first : ℕ) → first ≤ length log + 1 → length log + 1 < first + length items → (c : Option Conflict) →
    first_conflict log (length log) first (terms items) ≡ c → None ≡ told (taken log first items) → Appended log items first
by_conflict log items first le lt None x e = (le, omega arith, grown_is log items first le lt ∙ ap (grown log first items) x)
by_conflict log items first le lt (Some y) x e =
    absurd (none-some (error.Contradicted y.place y.kept y.told)
    (e ∙ ap told (grown_is log items first le lt ∙ ap (grown log first items) x)))

-- where nothing is told, the items behind its own are appended
pub appended : (log items : List Item) (first : ℕ) → None ≡ told (taken log first items) → Appended log items first
appended log items first e = elim (cases_lt (length log + 1) first) [
  | inl lt ↦ absurd (none-some (error.Gap (length log) first) (e ∙ ap told (gap_is log items first lt)))
  | inr le ↦ elim (cases_lt (length log + 1) (first + length items)) [
    | inl lt ↦ by_conflict log items first le lt (first_conflict log (length log) first (terms items)) refl e
    | inr ge ↦ absurd (none-some (error.Stale (length log) (first + length items - 1)) (e ∙ ap told (stale_is log items first le ge)))
  ]
]

pub begins_within : (log items : List Item) (first : ℕ) → None ≡ told (taken log first items) → first ≤ length log + 1
begins_within log items first e = (appended log items first e).0

pub known_within : (log items : List Item) (first n : ℕ) → None ≡ told (taken log first items) → n ≡ length log →
    n + 1 - first ≤ length items
known_within log items first n e f = let h = (appended log items first e).1 in omega (arith, h, f)

pub grown_by : (log items new more : List Item) (first n : ℕ) → None ≡ told (taken log first items) → n ≡ length log → more ≡ drop
    (n + 1 - first) items →
    new ≡ log ++ more → taken log first items ≡ Grown new
grown_by log items new more first n e f g h =
    (appended log items first e).2
    ∙ ap (λ (k : ℕ). Grown (log ++ drop (k + 1 - first) items)) (sym f)
    ∙ ap (λ (l : List Item). Grown (log ++ l)) (sym g) ∙ ap Grown (sym h)

pub grown_ok : {E : Type 0} (r : Result (Unit {0}) E) (log items new copy more : List Item) (first n : ℕ) →
    None ≡ told (taken log first items) → n ≡ length log → copy ≡ drop (n + 1 - first) items → more ≡ copy →
    new ≡ (if is_ok r then log ++ more else log) → OnOk r (taken log first items ≡ Grown new)
grown_ok (Ok x) log items new copy more first n e f g h i = grown_by log items new more first n e f (h ∙ g) i
grown_ok (Err x) log items new copy more first n e f g h i = tt

-- ---- the answer says what is told, and nothing else does

abbrev Answer : Type 0
Answer = Result (Unit {0}) TakeError

abbrev refusal : TakeError → Answer
refusal e = Err e

-- a refusal
pub gap_refused : (t : Taken) (e : TakeError) (r : Answer) → Some e ≡ told t → r ≡ Err e → (have at : ℕ) →
    (r ≡ Err (error.Gap have at)) ↔ (t ≡ Gap have at)
gap_refused (Grown log) e r s x have at = (λ h. absurd (cc), λ h. absurd (cc))
gap_refused (Gap a b) e r s x have at = (λ h. cc, λ h. cc)
gap_refused (Stale a b) e r s x have at = (λ h. absurd (cc), λ h. absurd (cc))
gap_refused (Contradicted y) e r s x have at = (λ h. absurd (cc), λ h. absurd (cc))

pub stale_refused : (t : Taken) (e : TakeError) (r : Answer) → Some e ≡ told t → r ≡ Err e → (have last : ℕ) →
    (r ≡ Err (error.Stale have last)) ↔ (t ≡ Stale have last)
stale_refused (Grown log) e r s x have last = (λ h. absurd (cc), λ h. absurd (cc))
stale_refused (Gap a b) e r s x have last = (λ h. absurd (cc), λ h. absurd (cc))
stale_refused (Stale a b) e r s x have last = (λ h. cc, λ h. cc)
stale_refused (Contradicted y) e r s x have last = (λ h. absurd (cc), λ h. absurd (cc))

pub clash_refused : (t : Taken) (e : TakeError) (r : Answer) → Some e ≡ told t → r ≡ Err e → (p k u : ℕ) →
    (r ≡ Err (error.Contradicted p k u)) ↔ (t ≡ Contradicted (record { place = p; kept = k; told = u }))
clash_refused (Grown log) e r s x p k u = (λ h. absurd (cc), λ h. absurd (cc))
clash_refused (Gap a b) e r s x p k u = (λ h. absurd (cc), λ h. absurd (cc))
clash_refused (Stale a b) e r s x p k u = (λ h. absurd (cc), λ h. absurd (cc))
clash_refused (Contradicted y) e r s x p k u = (
  λ h.
      let a : y.place ≡ p = cc in
      let b : y.kept ≡ k = cc in
      let c : y.told ≡ u = cc in
      λ i. Contradicted (record { place = a i; kept = b i; told = c i }),
  λ h.
      let g : told (Contradicted y) ≡ Some (error.Contradicted p k u) = ap told h in
      let f : e ≡ error.Contradicted p k u = same_Some e (error.Contradicted p k u) (s ∙ g) in
      x ∙ ap refusal f,
)

-- none
pub none_told : (t : Taken) (r : Answer) (e : TakeError) (u : Taken) → None ≡ told t → Some e ≡ told u → (r ≡ Err e → ⊥) →
    (r ≡ Err e) ↔ (t ≡ u)
none_told t r e u n s other = (λ h. absurd (other h), λ h. absurd (none-some e (n ∙ ap told h ∙ sym s)))
