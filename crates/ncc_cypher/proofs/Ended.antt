-- One token more at the end of an item.
use Rattle.std.proofs.Common.{◌≡◌, ℕ, Bool, true, false, List, [], ◌∷◌, ◌++◌, Option, Some, None, refl, sym, ap, subst, ◌∙◌}
use Rattle.std.specs.Prelude.{map}
use Rattle.ncc_cypher.specs.declared.token.Token.{Token}
use Rattle.ncc_cypher.specs.declared.token.Token.TheVariants as t
use Rattle.ncc_cypher.specs.Token.{Placed}
use Rattle.ncc_cypher.specs.Grammar.{Name}
use Rattle.ncc_cypher.specs.Columns.{between, behind, source_of, name_of, name_if, alias_of, or_source, column, part_at, parts}
use Rattle.ncc_cypher.specs.Reading.{is_as, name_by, at_part, further_columns}

pub behind_more : (to : List ℕ) (ps : List Placed) (q : Placed) → behind to (ps ++ (q ∷ [])) ≡ q.to
behind_more to [] q = refl
behind_more to (p ∷ ps) q = behind_more p.to ps q

-- one token more of an item
abbrev pub last_what : Placed → List Placed → Token
last_what p [] = p.what
last_what p (q ∷ ps) = last_what q ps

pub alias_more : (p : Placed) (ps : List Placed) (q : Placed) → alias_of ((p ∷ ps) ++ (q ∷ [])) ≡ name_if (last_what p ps) q.what
alias_more p [] q = refl
alias_more p (r ∷ []) q = refl
alias_more p (r ∷ u ∷ ps) q = alias_more r (u ∷ ps) q

last_more : (p : Placed) (ps : List Placed) (q : Placed) → last_what p (ps ++ (q ∷ [])) ≡ q.what
last_more p [] q = refl
last_more p (r ∷ ps) q = last_more r ps q

-- ---- the columns one by one

by_part : (a b c : List (List Placed)) (x : Token) → map column (part_at a b c x) ≡ at_part (map column a) (map column b) (map column c) x
by_part a b c t.Comma = refl
by_part a b c t.Semicolon = refl
by_part a b c _ = refl

by_name : (x : Token) (source : List ℕ) → or_source (name_of x) source ≡ name_by true x source
by_name (t.Name n) source = refl
by_name _ source = refl

by_last : (l x : Token) (source : List ℕ) → or_source (name_if l x) source ≡ name_by (is_as l) x source
by_last t.As x source = by_name x source
by_last _ x source = refl

column_more : (f : Placed) (others : List Placed) (x : Placed) → column ((f ∷ others) ++ (x ∷ [])) ≡ name_by (is_as (last_what f others)) x.what (between f.from x.to)
column_more f others x =
    ap (λ (z : Option Name). or_source z (source_of ((f ∷ others) ++ (x ∷ [])))) (alias_more f others x) ∙ ap (λ (z : List ℕ). or_source (name_if (last_what f others) x.what) (between f.from z)) (behind_more f.to others x) ∙ by_last (last_what f others) x.what (between f.from x.to)

-- from before an item, and from within one
abbrev Both : List Placed → Type 0
Both ps =
    (further_columns None [] false ps ≡ map column (parts [] ps))
    × ((f : Placed) (others : List Placed) → further_columns (Some f.from) (column (f ∷ others)) (is_as (last_what f others)) ps ≡ map column (parts (f ∷ others) ps))

from_before : (x : Placed) (xs : List Placed) → Both xs → further_columns None [] false (x ∷ xs) ≡ map column (parts [] (x ∷ xs))
unfolding further_columns
from_before x xs r =
    ap (λ (z : List Name). at_part ([] ∷ z) ([] ∷ []) (further_columns (Some x.from) (between x.from x.to) (is_as x.what) xs) x.what) r.0
    ∙ ap (λ (z : List Name). at_part ([] ∷ map column (parts [] xs)) ([] ∷ []) z x.what) (r.1 x []) ∙ sym (by_part ([] ∷ parts [] xs) ([] ∷ []) (parts (x ∷ []) xs) x.what)

from_within : (f : Placed) (others : List Placed) (x : Placed) (xs : List Placed) → Both xs → further_columns (Some f.from) (column (f ∷ others)) (is_as (last_what f others)) (x ∷ xs) ≡ map column (parts (f ∷ others) (x ∷ xs))
unfolding further_columns
from_within f others x xs r =
    let c : Name = column (f ∷ others) in
    let d : Name = name_by (is_as (last_what f others)) x.what (between f.from x.to) in
    ap (λ (z : List Name). at_part (c ∷ z) (c ∷ []) (further_columns (Some f.from) d (is_as x.what) xs) x.what) r.0
    ∙ ap (λ (z : Name). at_part (c ∷ map column (parts [] xs)) (c ∷ []) (further_columns (Some f.from) z (is_as x.what) xs) x.what) (sym (column_more f others x))
    ∙ ap (λ (z : Token). at_part (c ∷ map column (parts [] xs)) (c ∷ []) (further_columns (Some f.from) (column ((f ∷ others) ++ (x ∷ []))) (is_as z) xs) x.what) (sym (last_more f others x))
    ∙ ap (λ (z : List Name). at_part (c ∷ map column (parts [] xs)) (c ∷ []) z x.what) (r.1 f (others ++ (x ∷ [])))
    ∙ sym (by_part ((f ∷ others) ∷ parts [] xs) ((f ∷ others) ∷ []) (parts ((f ∷ others) ++ (x ∷ [])) xs) x.what)

both : (ps : List Placed) → Both ps
unfolding further_columns
both [] = (refl, λ f others. refl)
both (x ∷ xs) = (from_before x xs (both xs), λ f others. from_within f others x xs (both xs))

pub all_columns : (ps : List Placed) → map column (parts [] ps) ≡ further_columns None [] false ps
all_columns ps = sym ((both ps).0)
