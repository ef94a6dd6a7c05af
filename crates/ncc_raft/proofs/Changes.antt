-- Which change leads from what was kept to what is kept then.
use Rattle.std.proofs.Common.{◌≡◌, ℕ, ◌≤◌, List, [], ◌∷◌, ◌++◌, length, take, drop, Some, None, refl, sym, ap, ◌∙◌, subst}
use Rattle.std.proofs.Common.{arith}
use Rattle.std.proofs.lemmas.List.{drop_all, drop_at, length-take-le, take_all}
use Rattle.ncc_tx.specs.declared.entry.ChangeSet.{ChangeSet}
use Rattle.ncc_tx.specs.declared.entry.Item.{Item}
use Rattle.ncc_tx.specs.declared.entry.Saved.{Saved}
use Rattle.ncc_tx.specs.Kept.{Leads, Parted}
use Rattle.ncc_tx.proofs.Changes.{leads_after}

-- ---- the log stays

abbrev pub kept_as : ℕ → ℕ → List Item → Saved
kept_as t v log = record { term = t; vote = v; log = log }

pub none : (a b v w : ℕ) (log : List Item) → a ≡ b → v ≡ w → Leads (kept_as a v log) (kept_as b w log) None
none a b v w log e f = λ i. record { term = e i; vote = f i; log = log }

pub renewed : (a b v w : ℕ) (log : List Item) → ((a ≡ b) × (v ≡ w) → ⊥) →
    Leads (kept_as a v log) (kept_as b w log) (Some (record { term = b; vote = w; keep = length log; items = [] }))
renewed a b v w log other =
    let behind : [] ≡ drop (length log) log = sym (drop_all (length log) log (omega arith)) in
    let most : Parted (drop (length log) log) (drop (length log) log) = subst (λ (l : List Item). Parted l l) behind tt in
    record {
      other = λ e. other (ap (λ (s : Saved). s.term) e, ap (λ (s : Saved). s.vote) e);
      term = refl;
      vote = refl;
      keep = record { in_old = omega arith; in_new = omega arith; same = refl; most = most };
      items = behind;
    }

-- ---- the log ends with other items

not_same : (old : List Item) (keep : ℕ) (items : List Item) → keep ≤ length old → Parted (drop keep old) items → (items ≡ [] → ⊥) →
    old ≡ take keep old ++ items → ⊥
not_same old keep items le parted some e =
    let front : length (take keep old) ≡ keep = length-take-le keep old le in
    let behind : drop keep old ≡ items = ap (drop keep) e ∙ drop_at (take keep old) items keep front in
    go items some (subst (λ (l : List Item). Parted l items) behind parted)
  where
    go : (xs : List Item) → (xs ≡ [] → ⊥) → Parted xs xs → ⊥
    go [] none p = none refl
    go (x ∷ xs) none p = p refl

pub grown : (a b v w : ℕ) (old : List Item) (keep : ℕ) (items : List Item) → keep ≤ length old → Parted (drop keep old) items →
    (items ≡ [] → ⊥) →
    Leads (kept_as a v old) (kept_as b w (take keep old ++ items)) (Some (record { term = b; vote = w; keep = keep; items = items }))
grown a b v w old keep items le parted some =
    let c : ChangeSet = record { term = b; vote = w; keep = keep; items = items } in
    leads_after (kept_as a v old) c le parted (λ e. not_same old keep items le parted some (ap (λ (s : Saved). s.log) e))

-- one item more at the end
pub added : (a b v w : ℕ) (old : List Item) (x : Item) →
    Leads (kept_as a v old) (kept_as b w (old ++ x ∷ [])) (Some (record { term = b; vote = w; keep = length old; items = x ∷ [] }))
added a b v w old x =
    let behind : drop (length old) old ≡ [] = drop_all (length old) old (omega arith) in
    let parted : Parted (drop (length old) old) (x ∷ []) = subst (λ (l : List Item). Parted l (x ∷ [])) (sym behind) tt in
    let some : x ∷ [] ≡ [] → ⊥ = λ e. absurd (cc) in
    let g = grown a b v w old (length old) (x ∷ []) (omega arith) parted some in
    subst (λ (l : List Item). Leads (kept_as a v old) (kept_as b w (l ++ x ∷ []))
    (Some (record { term = b; vote = w; keep = length old; items = x ∷ [] })))
    (take_all (length old) old (omega arith)) g
