-- A function that is changed at one place.
use Rattle.std.proofs.Common.{◌≡◌, ℕ, ◌⊎◌, refl, sym, ap, ◌∙◌, subst, inl, inr}
use Rattle.std.proofs.lemmas.Bool.{cases_eq, eq-eqb, ne_eqb}
use Rattle.std.proofs.Math.Path.{fun_ext}
use Rattle.ncc_safety.specs.Cluster.{put, put2}

pub put_same : {A : Type 0} → (f : ℕ → A) (i : ℕ) (x : A) → put f i x i ≡ x
unfolding put
put_same f i x = rw (eq-eqb i i refl)

pub put_at : {A : Type 0} → (f : ℕ → A) (i j : ℕ) (x : A) → j ≡ i → put f i x j ≡ x
unfolding put
put_at f i j x e = rw (eq-eqb j i e)

pub put_other : {A : Type 0} → (f : ℕ → A) (i j : ℕ) (x : A) → (j ≡ i → ⊥) → put f i x j ≡ f j
unfolding put
put_other f i j x e = rw (ne_eqb j i e)

-- what holds of each place
pub put_all : {A : Type 0} (P : ℕ → A → Type 0) → (f : ℕ → A) (i : ℕ) (x : A) → P i x → ((j : ℕ) → (j ≡ i → ⊥) → P j (f j)) → (j : ℕ) →
    P j (put f i x j)
put_all P f i x here rest j = go (cases_eq j i)
  where
    go : (j ≡ i) ⊎ (j ≡ i → ⊥) → P j (put f i x j)
    go (inl e) = subst (λ k. P k (put f i x k)) (sym e) (rw put_same here)
    go (inr n) = rw (put_other f i j x n) (rest j n)

pub put2_same : {A : Type 0} → (f : ℕ → ℕ → A) (t i : ℕ) (x : A) → put2 f t i x t i ≡ x
unfolding put2
put2_same f t i x = rw put_same (put_same (f t) i x)

pub put2_at : {A : Type 0} → (f : ℕ → ℕ → A) (t i u j : ℕ) (x : A) → u ≡ t → j ≡ i → put2 f t i x u j ≡ x
put2_at f t i u j x e d = rw (e, d) (put2_same f t i x)

pub put2_term : {A : Type 0} → (f : ℕ → ℕ → A) (t i u j : ℕ) (x : A) → (u ≡ t → ⊥) → put2 f t i x u j ≡ f u j
unfolding put2
put2_term f t i u j x n = ap (λ g. g j) (put_other f t u (put (f t) i x) n)

pub put2_member : {A : Type 0} → (f : ℕ → ℕ → A) (t i u j : ℕ) (x : A) → (j ≡ i → ⊥) → put2 f t i x u j ≡ f u j
unfolding put2
put2_member f t i u j x n = go (cases_eq u t)
  where
    go : (u ≡ t) ⊎ (u ≡ t → ⊥) → put f t (put (f t) i x) u j ≡ f u j
    go (inl e) = rw (e, put_same) (put_other (f t) i j x n)
    go (inr m) = ap (λ g. g j) (put_other f t u (put (f t) i x) m)

-- the place that is changed, or another
pub put2_cases : {A : Type 0} → (f : ℕ → ℕ → A) (t i u j : ℕ) (x : A) →
    ((u ≡ t) × (j ≡ i) × (put2 f t i x u j ≡ x)) ⊎ (put2 f t i x u j ≡ f u j)
put2_cases f t i u j x = go (cases_eq u t) (cases_eq j i)
  where
    go : (u ≡ t) ⊎ (u ≡ t → ⊥) → (j ≡ i) ⊎ (j ≡ i → ⊥) → ((u ≡ t) × (j ≡ i) × (put2 f t i x u j ≡ x)) ⊎ (put2 f t i x u j ≡ f u j)
    go (inl e) (inl d) = inl (e, d, put2_at f t i u j x e d)
    go (inl e) (inr d) = inr (put2_member f t i u j x d)
    go (inr e) d = inr (put2_term f t i u j x e)

-- another place than the one that is changed
abbrev pub Away : ℕ → ℕ → ℕ → ℕ → Type 0
Away t i u j = (u ≡ t → ⊥) ⊎ (j ≡ i → ⊥)

pub cases2 : (t i u j : ℕ) → ((u ≡ t) × (j ≡ i)) ⊎ Away t i u j
cases2 t i u j = go (cases_eq u t) (cases_eq j i)
  where
    go : (u ≡ t) ⊎ (u ≡ t → ⊥) → (j ≡ i) ⊎ (j ≡ i → ⊥) → ((u ≡ t) × (j ≡ i)) ⊎ Away t i u j
    go (inl e) (inl d) = inl (e, d)
    go (inl e) (inr d) = inr (inr d)
    go (inr e) d = inr (inl e)

pub put2_away : {A : Type 0} → (f : ℕ → ℕ → A) (t i u j : ℕ) (x : A) → Away t i u j → put2 f t i x u j ≡ f u j
put2_away f t i u j x (inl n) = put2_term f t i u j x n
put2_away f t i u j x (inr n) = put2_member f t i u j x n

-- changed twice at one place
pub put_put : {A : Type 0} → (f : ℕ → A) (i : ℕ) (x y : A) → put (put f i x) i y ≡ put f i y
put_put f i x y = fun_ext (λ j. go j (cases_eq j i))
  where
    go : (j : ℕ) → (j ≡ i) ⊎ (j ≡ i → ⊥) → put (put f i x) i y j ≡ put f i y j
    go j (inl e) = put_at (put f i x) i j y e ∙ sym (put_at f i j y e)
    go j (inr n) = put_other (put f i x) i j y n ∙ put_other f i j x n ∙ sym (put_other f i j y n)

-- changed to what it was
pub put_self : {A : Type 0} → (f : ℕ → A) (i : ℕ) → put f i (f i) ≡ f
put_self f i = fun_ext (λ j. go j (cases_eq j i))
  where
    go : (j : ℕ) → (j ≡ i) ⊎ (j ≡ i → ⊥) → put f i (f i) j ≡ f j
    go j (inl e) = put_at f i j (f i) e ∙ ap f (sym e)
    go j (inr n) = put_other f i j (f i) n
