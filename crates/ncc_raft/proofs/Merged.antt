-- A log that takes items behind a place.
use Rattle.std.proofs.Common.{◌≡◌, ℕ, zero, suc, ◌+◌, ◌<◌, ◌≤◌, Bool, max, List, [], ◌∷◌, ◌++◌, length}
use Rattle.std.proofs.Common.{take, drop, refl, sym, ap, ◌∙◌, subst, arith, append_assoc, length-append, inl}
use Rattle.std.proofs.Common.{inr}
use Rattle.std.specs.Prelude.{slice_get, if◌then◌else◌}
use Rattle.std.specs.List.{All}
use Rattle.std.proofs.lemmas.Bool.{cases_eq, eq-eqb, ne_eqb}
use Rattle.std.proofs.lemmas.List.{drop-drop, length-drop, length-take-le, take-append-drop}
use Rattle.std.proofs.lemmas.List.Elements.{All-append, All-cons, All-drop, All-head, All-tail, All-take}
use Rattle.ncc_tx.specs.declared.entry.Item.{Item}
use Rattle.ncc_tx.specs.Kept.{NeverFalls, Parted, SameTerms, term_at, term_of, terms}
use Rattle.ncc_raft.specs.Logs.{accepted, merged}

-- ---- the rule by how many first items have the same terms

abbrev both : Bool → Item → Item → List Item → List Item → List Item
both b o x os xs = if b then o ∷ merged os xs else x ∷ xs

merged_nil : (old : List Item) → merged old [] ≡ old
unfolding merged
merged_nil old = refl

merged_empty : (x : Item) (xs : List Item) → merged [] (x ∷ xs) ≡ x ∷ xs
unfolding merged
merged_empty x xs = refl

merged_same : (o x : Item) (os xs : List Item) → o.term ≡ x.term → merged (o ∷ os) (x ∷ xs) ≡ o ∷ merged os xs
unfolding merged
merged_same o x os xs e = ap (λ (b : Bool). both b o x os xs) (eq-eqb o.term x.term e)

merged_other : (o x : Item) (os xs : List Item) → (o.term ≡ x.term → ⊥) → merged (o ∷ os) (x ∷ xs) ≡ x ∷ xs
unfolding merged
merged_other o x os xs e = ap (λ (b : Bool). both b o x os xs) (ne_eqb o.term x.term e)

same_head : (o x : Item) (os xs : List Item) (n : ℕ) → take (suc n) (terms (o ∷ os)) ≡ take (suc n) (terms (x ∷ xs)) →
    (o.term ≡ x.term) × (take n (terms os) ≡ take n (terms xs))
same_head o x os xs n e =
    let f : o.term ∷ take n (terms os) ≡ x.term ∷ take n (terms xs) = e in
    let a : o.term ≡ x.term = cc in
    let b : take n (terms os) ≡ take n (terms xs) = cc in
    (a, b)

pub merged_parts : (old new : List Item) (n : ℕ) → SameTerms old new n → n < length new → merged old new ≡ take n old ++ drop n new
merged_parts old [] n s lt = absurd (omega arith)
merged_parts [] (x ∷ xs) zero s lt = merged_empty x xs
merged_parts [] (x ∷ xs) (suc n) s lt = absurd (omega (arith, s.in_first))
merged_parts (o ∷ os) (x ∷ xs) zero s lt = merged_other o x os xs s.most
merged_parts (o ∷ os) (x ∷ xs) (suc n) s lt =
    let h = same_head o x os xs n s.same in
    merged_same o x os xs h.0 ∙ ap (λ (l : List Item). o ∷ l)
    (merged_parts os xs n (record {
      in_first = omega (arith, s.in_first);
      in_second = omega
          (arith, s.in_second);
      same = h.1;
      most = s.most;
    }) (omega arith))

pub merged_whole : (old new : List Item) → SameTerms old new (length new) → merged old new ≡ old
merged_whole old [] s = merged_nil old
merged_whole [] (x ∷ xs) s = absurd (omega (arith, s.in_first))
merged_whole (o ∷ os) (x ∷ xs) s =
    let h = same_head o x os xs (length xs) s.same in
    merged_same o x os xs h.0 ∙ ap (λ (l : List Item). o ∷ l)
    (merged_whole os xs (record {
      in_first = omega (arith, s.in_first);
      in_second = omega
          (arith, s.in_second);
      same = h.1;
      most = s.most;
    }))

nothing : (k : ℕ) → take {A = Item} k [] ≡ []
nothing zero = refl
nothing (suc k) = refl

take_on : (log : List Item) (prev n : ℕ) → take prev log ++ take n (drop prev log) ≡ take (prev + n) log
take_on log zero n = let k : n ≡ 0 + n = omega arith in ap (λ (j : ℕ). take j log) k
take_on [] (suc p) n = nothing n ∙ sym (nothing (suc p + n))
take_on (x ∷ xs) (suc p) n =
    let k : suc (p + n) ≡ suc p + n = omega arith in
    ap (λ (l : List Item). x ∷ l) (take_on xs p n) ∙ ap (λ (j : ℕ). take j (x ∷ xs)) k

pub accepted_parts : (log items : List Item) (prev n : ℕ) → SameTerms (drop prev log) items n → n < length items →
    take (prev + n) log ++ drop n items ≡ accepted log prev items
unfolding accepted
accepted_parts log items prev n s lt =
    sym (ap (λ (l : List Item). take prev log ++ l) (merged_parts (drop prev log) items n s lt)
    ∙ sym (append_assoc (take prev log) (take n (drop prev log)) (drop n items))
    ∙ ap (λ (l : List Item). l ++ drop n items) (take_on log prev n))

pub accepted_whole : (log items : List Item) (prev n : ℕ) → SameTerms (drop prev log) items n → n ≡ length items →
    log ≡ accepted log prev items
unfolding accepted
accepted_whole log items prev n s e =
    let t : SameTerms (drop prev log) items (length items) = subst (SameTerms (drop prev log) items) e s in
    sym (ap (λ (l : List Item). take prev log ++ l) (merged_whole (drop prev log) items t) ∙ take-append-drop prev log)

-- the first item of another term, or none, stands where the log parts
pub parted_on : (log items : List Item) (prev n : ℕ) → Parted (drop n (drop prev log)) (drop n items) →
    Parted (drop (prev + n) log) (drop n items)
parted_on log items prev n p = subst (λ (l : List Item). Parted l (drop n items)) (drop-drop n prev log) p

-- ---- what the new log keeps

pub merged_falls : (least greatest : ℕ) (old new : List Item) → NeverFalls least greatest old → NeverFalls least greatest new →
    NeverFalls least greatest (merged old new)
merged_falls least greatest old [] a b = subst (NeverFalls least greatest) (sym (merged_nil old)) a
merged_falls least greatest [] (x ∷ xs) a b = subst (NeverFalls least greatest) (sym (merged_empty x xs)) b
merged_falls least greatest (o ∷ os) (x ∷ xs) a b = elim (cases_eq o.term x.term) [
  | inl t ↦
      let rest : NeverFalls o.term greatest (merged os xs) =
      merged_falls o.term greatest os xs a.2 (subst (λ (k : ℕ). NeverFalls k greatest xs) (sym t) b.2) in
      let whole : NeverFalls least greatest (o ∷ merged os xs) = (a.0, a.1, rest) in
      subst (NeverFalls least greatest) (sym (merged_same o x os xs t)) whole
  | inr other ↦ subst (NeverFalls least greatest) (sym (merged_other o x os xs other)) b
]

abbrev term_or : ℕ → List Item → ℕ → ℕ
term_or least log zero = least
term_or least log (suc n) = term_of (slice_get log n)

falls_on : (least greatest prev : ℕ) (log items : List Item) → prev ≤ length log → NeverFalls least greatest log →
    NeverFalls (term_or least log prev) greatest items → NeverFalls least greatest (take prev log ++ merged (drop prev log) items)
falls_on least greatest zero log items le a b = merged_falls least greatest log items a b
falls_on least greatest (suc p) [] items le a b = absurd (omega arith)
falls_on least greatest (suc zero) (x ∷ xs) items le a b =
    (a.0, a.1, falls_on x.term greatest zero xs items (omega arith) a.2 b)
falls_on least greatest (suc (suc p)) (x ∷ xs) items le a b =
    (a.0, a.1, falls_on x.term greatest (suc p) xs items (omega arith) a.2 b)

at_is : (log : List Item) (n : ℕ) → term_at log n ≡ term_or 0 log n
at_is log zero = refl
at_is log (suc n) = refl

pub accepted_falls : (greatest prev : ℕ) (log items : List Item) → prev ≤ length log → NeverFalls 0 greatest log →
    NeverFalls (term_at log prev) greatest items → NeverFalls 0 greatest (accepted log prev items)
unfolding accepted
accepted_falls greatest prev log items le a b =
    falls_on 0 greatest prev log items le a (subst (λ (t : ℕ). NeverFalls t greatest items) (at_is log prev) b)

merged_all : (P : Item → Type 0) (old new : List Item) → All P old → All P new → All P (merged old new)
merged_all P old [] a b = subst (All P) (sym (merged_nil old)) a
merged_all P [] (x ∷ xs) a b = subst (All P) (sym (merged_empty x xs)) b
merged_all P (o ∷ os) (x ∷ xs) a b = elim (cases_eq o.term x.term) [
  | inl t ↦
      subst (All P) (sym (merged_same o x os xs t))
      (All-cons P o (merged os xs) (All-head P o os a) (merged_all P os xs (All-tail P o os a) (All-tail P x xs b)))
  | inr other ↦ subst (All P) (sym (merged_other o x os xs other)) b
]

pub accepted_all : (P : Item → Type 0) (prev : ℕ) (log items : List Item) → All P log → All P items → All P (accepted log prev items)
unfolding accepted
accepted_all P prev log items a b = All-append P (take prev log) (merged (drop prev log) items) (All-take P prev log a)
    (merged_all P (drop prev log) items (All-drop P prev log a) b)

record Lengths (old new both : ℕ) : Type 0 where
  least : new ≤ both
  most : both ≤ max old new

merged_length : (old new : List Item) → Lengths (length old) (length new) (length (merged old new))
merged_length old [] = subst (λ (l : List Item). Lengths (length old) 0 (length l)) (sym (merged_nil old))
    (record { least = omega arith; most = omega arith })
merged_length [] (x ∷ xs) =
    subst (λ (l : List Item). Lengths 0 (suc (length xs)) (length l)) (sym (merged_empty x xs))
    (record { least = omega arith; most = omega arith })
merged_length (o ∷ os) (x ∷ xs) = elim (cases_eq o.term x.term) [
  | inl t ↦
      let h : Lengths (length os) (length xs) (length (merged os xs)) = merged_length os xs in
      subst (λ (l : List Item). Lengths (suc (length os)) (suc (length xs)) (length l)) (sym (merged_same o x os xs t))
      (record { least = omega (arith, h.least); most = omega (arith, h.most) })
  | inr other ↦
      subst (λ (l : List Item). Lengths (suc (length os)) (suc (length xs)) (length l)) (sym (merged_other o x os xs other))
      (record { least = omega arith; most = omega arith })
]

pub accepted_least : (log items : List Item) (prev : ℕ) → prev ≤ length log → prev + length items ≤ length (accepted log prev items)
unfolding accepted
accepted_least log items prev le =
    omega (
      arith,
      (merged_length (drop prev log) items).least,
      length-take-le prev log le,
      length-append (take prev log)
          (merged (drop prev log) items),
    )

pub accepted_most : (log items : List Item) (prev : ℕ) → prev ≤ length log → length (accepted log prev items) ≤ max (length log)
    (prev + length items)
unfolding accepted
accepted_most log items prev le =
    omega (
      arith,
      (merged_length (drop prev log) items).most,
      length-take-le prev log le,
      length-drop prev log,
      length-append
          (take prev log) (merged (drop prev log) items),
    )
