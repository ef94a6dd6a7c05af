-- The first place at which another term was told.
use Rattle.std.proofs.Common.{◌≡◌, ℕ, suc, ◌+◌, ◌<◌, ◌≤◌, Bool, true, false, List, [], ◌∷◌, length, get_or, drop, Option}
use Rattle.std.proofs.Common.{Some, None, refl, sym, ap, ◌∙◌, arith}
use Rattle.std.specs.Prelude.{IfNone, IfSome, nat_eq, nat_le, not, ◌&&◌, if◌then◌else◌}
use Rattle.std.proofs.lemmas.Bool.{le-leb, lt-leb, eq-eqb, ne_eqb}
use Rattle.std.proofs.lemmas.List.{drop_all, drop_more}
use Rattle.ncc_tx.specs.declared.entry.Item.{Item}
use Rattle.ncc_tx.specs.Kept.{term_at, terms}
use Rattle.ncc_raft.specs.declared.logs.Clash.{Clash}
use Rattle.ncc_raft.specs.Logs.{Conflict, first_conflict}

abbrev chosen : Bool → Bool → Conflict → Option Conflict → Option Conflict
chosen a b x rest = if a && not b then Some x else rest

-- it is this one
pub conflict_here : (log : List Item) (last place t : ℕ) (ts : List ℕ) → place ≤ last → (term_at log place ≡ t → ⊥) →
    first_conflict log last place (t ∷ ts) ≡ Some (record { place = place; kept = term_at log place; told = t })
unfolding first_conflict
conflict_here log last place t ts le other =
    let x : Conflict = record { place = place; kept = term_at log place; told = t } in
    let rest : Option Conflict = first_conflict log last (suc place) ts in
    ap (λ (a : Bool). chosen a (nat_eq (term_at log place) t) x rest) (le-leb place last le)
    ∙ ap (λ (b : Bool). chosen true b x rest) (ne_eqb (term_at log place) t other)

-- it is past the last place, or has that term
pub conflict_past : (log : List Item) (last place t : ℕ) (ts : List ℕ) → last < place →
    first_conflict log last place (t ∷ ts) ≡ first_conflict log last (suc place) ts
unfolding first_conflict
conflict_past log last place t ts lt =
    let x : Conflict = record { place = place; kept = term_at log place; told = t } in
    let rest : Option Conflict = first_conflict log last (suc place) ts in
    ap (λ (a : Bool). chosen a (nat_eq (term_at log place) t) x rest) (lt-leb place last lt)

pub conflict_same : (log : List Item) (last place t : ℕ) (ts : List ℕ) → term_at log place ≡ t →
    first_conflict log last place (t ∷ ts) ≡ first_conflict log last (suc place) ts
unfolding first_conflict
conflict_same log last place t ts same =
    let x : Conflict = record { place = place; kept = term_at log place; told = t } in
    let rest : Option Conflict = first_conflict log last (suc place) ts in
    ap (λ (b : Bool). chosen (nat_le place last) b x rest) (eq-eqb (term_at log place) t same) ∙ go (nat_le place last) x rest
  where
    go : (a : Bool) (x : Conflict) (rest : Option Conflict) → chosen a true x rest ≡ rest
    go true x rest = refl
    go false x rest = refl

pub no_conflict : (log : List Item) (last place : ℕ) → first_conflict log last place [] ≡ None
unfolding first_conflict
no_conflict log last place = refl

-- ---- the loop

-- what is found from the next item on is what is found in all
pub record Passed (log : List Item) (last place : ℕ) (items : List Item) (i : ℕ) : Type 0 where
  pub rest : first_conflict log last place (terms items) ≡ first_conflict log last (place + i) (terms (drop i items))

pub passed_none : (log : List Item) (last place : ℕ) (items : List Item) → Passed log last place items 0
passed_none log last place items = record {
  rest = let e : place ≡ place + 0 = omega arith in ap (λ (p : ℕ). first_conflict log last p (terms items)) e;
}

next_is : (items : List Item) (i : ℕ) (x : Item) → i < length items → x ≡ get_or items i x → terms (drop i items) ≡ x.term ∷ terms
    (drop (i + 1) items)
next_is items i x lt is = ap terms (drop_more items i x lt ∙ ap (λ (y : Item). y ∷ drop (i + 1) items) (sym is))

opened : (log : List Item) (last place : ℕ) (items : List Item) (i : ℕ) (x : Item) → i < length items → x ≡ get_or items i x →
    Passed log last place items i →
    first_conflict log last place (terms items) ≡ first_conflict log last (place + i) (x.term ∷ terms (drop (i + 1) items))
opened log last place items i x lt is p = p.rest ∙ ap (first_conflict log last (place + i)) (next_is items i x lt is)

on : (log : List Item) (last place i : ℕ) (ts : List ℕ) → first_conflict log last (suc (place + i)) ts ≡ first_conflict log last
    (place + (i + 1)) ts
on log last place i ts = let e : suc (place + i) ≡ place + (i + 1) = omega arith in ap (λ (p : ℕ). first_conflict log last p ts) e

pub passed_far : (log : List Item) (last place : ℕ) (items : List Item) (i : ℕ) (x : Item) → i < length items → x ≡ get_or items i x →
    last < place + i → Passed log last place items i → Passed log last place items (i + 1)
passed_far log last place items i x lt is far p = record {
  rest = opened log last place items i x lt is p ∙ conflict_past log last (place + i) x.term (terms (drop (i + 1) items)) far
      ∙ on log last place i (terms (drop (i + 1) items));
}

pub passed_same : (log : List Item) (last place : ℕ) (items : List Item) (i : ℕ) (x : Item) → i < length items → x ≡ get_or items i x →
    term_at log (place + i) ≡ x.term → Passed log last place items i → Passed log last place items (i + 1)
passed_same log last place items i x lt is same p = record {
  rest = opened log last place items i x lt is p ∙ conflict_same log last (place + i) x.term (terms (drop (i + 1) items)) same
      ∙ on log last place i (terms (drop (i + 1) items));
}

pub passed_found : (log : List Item) (last place : ℕ) (items : List Item) (i kept : ℕ) (x : Item) → i < length items → x
    ≡ get_or items i x →
    kept ≡ term_at log (place + i) → (kept ≡ x.term → ⊥) → place + i ≤ last → Passed log last place items i →
    first_conflict log last place (terms items) ≡ Some (record { place = place + i; kept = kept; told = x.term })
passed_found log last place items i kept x lt is e other le p =
    opened log last place items i x lt is p
    ∙ conflict_here log last (place + i) x.term (terms (drop (i + 1) items)) le (λ h. other (e ∙ h))
    ∙ ap (λ (k : ℕ). Some (record { place = place + i; kept = k; told = x.term })) (sym e)

pub passed_all : (log : List Item) (last place : ℕ) (items : List Item) (i : ℕ) → length items ≤ i → Passed log last place items i →
    first_conflict log last place (terms items) ≡ None
passed_all log last place items i le p =
    p.rest ∙ ap (λ (l : List Item). first_conflict log last (place + i) (terms l)) (drop_all i items le) ∙ no_conflict log last (place + i)

-- ---- the place before the items

pub prev_found : (log : List Item) (last place kept t : ℕ) (b : Bool) (items : List Item) → kept ≡ term_at log place →
    b ≡ (nat_le place last && not (nat_eq kept t)) → b ≡ true →
    first_conflict log last place (t ∷ terms items) ≡ Some (record { place = place; kept = kept; told = t })
unfolding first_conflict
prev_found log last place kept t b items e f g =
    ap (λ (k : ℕ). if nat_le place last && not (nat_eq k t) then Some
    (record { place = place; kept = k; told = t }) else first_conflict log last (suc place) (terms items)) (sym e)
    ∙ ap (λ (c : Bool). if c then Some (record { place = place; kept = kept; told = t }) else first_conflict log last (suc place)
    (terms items)) (sym f ∙ g)

not_prev : (log : List Item) (last place kept t : ℕ) (b : Bool) (items : List Item) → kept ≡ term_at log place →
    b ≡ (nat_le place last && not (nat_eq kept t)) → b ≡ false →
    first_conflict log last place (t ∷ terms items) ≡ first_conflict log last (place + 1) (terms items)
unfolding first_conflict
not_prev log last place kept t b items e f g =
    let on : suc place ≡ place + 1 = omega arith in
    ap (λ (k : ℕ). if nat_le place last && not (nat_eq k t) then Some
    (record { place = place; kept = k; told = t }) else first_conflict log last (suc place) (terms items)) (sym e)
    ∙ ap (λ (c : Bool). if c then Some (record { place = place; kept = kept; told = t }) else first_conflict log last (suc place)
    (terms items)) (sym f ∙ g)
    ∙ ap (λ (p : ℕ). first_conflict log last p (terms items)) on

pub prev_some : (log : List Item) (last place kept t : ℕ) (b : Bool) (items : List Item) (r : Option Clash) → kept ≡ term_at log place →
    b ≡ (nat_le place last && not (nat_eq kept t)) → b ≡ false →
    IfSome r (λ x. first_conflict log last (place + 1) (terms items) ≡ Some (record { place = x.place; kept = x.kept; told = x.told })) →
    IfSome r (λ x. first_conflict log last place (t ∷ terms items) ≡ Some (record { place = x.place; kept = x.kept; told = x.told }))
prev_some log last place kept t b items None e f g h = h
prev_some log last place kept t b items (Some x) e f g h = not_prev log last place kept t b items e f g ∙ h

pub prev_none : (log : List Item) (last place kept t : ℕ) (b : Bool) (items : List Item) (r : Option Clash) → kept ≡ term_at log place →
    b ≡ (nat_le place last && not (nat_eq kept t)) → b ≡ false →
    IfNone r (first_conflict log last (place + 1) (terms items) ≡ None) → IfNone r (first_conflict log last place (t ∷ terms items) ≡ None)
prev_none log last place kept t b items None e f g h = not_prev log last place kept t b items e f g ∙ h
prev_none log last place kept t b items (Some x) e f g h = h

pub ruleset of_passed = (passed_none, passed_far, passed_same, passed_found, passed_all)
