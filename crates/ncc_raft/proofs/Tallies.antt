-- Counting cores one after another.
use Rattle.std.proofs.Common.{◌≡◌, ◌≢◌, ℕ, ◌+◌, ◌-◌, ◌*◌, ◌<◌, ◌≤◌, Bool, true, false, List, length, refl, sym, ap}
use Rattle.std.proofs.Common.{◌∙◌, subst, arith, get_or, inl, inr}
use Rattle.std.specs.Prelude.{nat_eq, nat_le, nat_lt, slice_index_or, slice_set, if◌then◌else◌}
use Rattle.std.specs.List.{count_by}
use Rattle.std.proofs.lemmas.Bool.{cases_eq, le-leb, lt-leb}
use Rattle.std.proofs.lemmas.List.{get_or-set_other, get_or-set_same}
use Rattle.std.proofs.lemmas.List.FromFn.{get_or-range_with_len, length-range_with_len}
use Rattle.ncc_raft.specs.Fronts.{Middle, elects_of, known_up_to}
use Rattle.ncc_raft.specs.Member.{cores_of, majority}
use Rattle.ncc_raft.proofs.Cores.{count_no, count_yes, majority_is}
use Rattle.ncc_raft.proofs.Middles.{middle_is}

-- ---- votes, with that of one core more

abbrev pub voted_by : List Bool → ℕ → ℕ → Bool
voted_by votes from core = slice_index_or (slice_set votes (from - 1) true) (core - 1) false

-- of the first i cores c voted
pub record Counted (votes : List Bool) (from i c : ℕ) : Type 0 where
  pub few : c ≤ i
  pub count : c ≡ count_by (voted_by votes from) (cores_of i)

pub counted_none : (votes : List Bool) (from : ℕ) → Counted votes from 0 0
counted_none votes from = record { few = omega arith; count = refl }

at_from : (votes : List Bool) (from i : ℕ) → 1 ≤ from → from ≤ length votes → i + 1 ≡ from → voted_by votes from (i + 1) ≡ true
at_from votes from i le ge e =
    let k : i + 1 - 1 ≡ from - 1 = omega arith in
    ap (λ (j : ℕ). get_or (slice_set votes (from - 1) true) j false) k ∙ get_or-set_same votes (from - 1) true false (omega arith)

at_other : (votes : List Bool) (from i : ℕ) → 1 ≤ from → (i + 1 ≡ from → ⊥) → voted_by votes from (i + 1) ≡ get_or votes i false
at_other votes from i le ne =
    let k : i + 1 - 1 ≡ i = omega arith in
    let other : i ≢ from - 1 = λ e. ne (omega (arith, e)) in
    ap (λ (j : ℕ). get_or (slice_set votes (from - 1) true) j false) k ∙ get_or-set_other votes (from - 1) i true false other

pub counted_vote : (votes : List Bool) (from i c : ℕ) → 1 ≤ from → from ≤ length votes → get_or votes i false ≡ true →
    Counted votes from i c → Counted votes from (i + 1) (c + 1)
counted_vote votes from i c le ge voted h = record {
  few = omega (arith, h.few);
  count = count_yes (voted_by votes from) i c h.count (elim (cases_eq (i + 1) from) [
    | inl e ↦ at_from votes from i le ge e
    | inr ne ↦ at_other votes from i le ne ∙ voted
  ]);
}

pub counted_from : (votes : List Bool) (from i c : ℕ) → 1 ≤ from → from ≤ length votes → i + 1 ≡ from → Counted votes from i c →
    Counted votes from (i + 1) (c + 1)
counted_from votes from i c le ge e h =
    record { few = omega (arith, h.few); count = count_yes (voted_by votes from) i c h.count (at_from votes from i le ge e) }

pub counted_not : (votes : List Bool) (from i c : ℕ) → 1 ≤ from → get_or votes i false ≡ false → (i + 1 ≡ from → ⊥) →
    Counted votes from i c → Counted votes from (i + 1) c
counted_not votes from i c le not_voted ne h = record {
  few = omega (arith, h.few);
  count = count_no (voted_by votes from) i c h.count (at_other votes from i le ne ∙ not_voted);
}

pub counted_all : (votes : List Bool) (from i c : ℕ) → i ≡ length votes → Counted votes from i c → nat_lt (length votes) (2 * c)
    ≡ elects_of votes from
unfolding elects_of
counted_all votes from i c e h = majority_is (length votes) (voted_by votes from) c
    (h.count ∙ ap (λ (k : ℕ). count_by (voted_by votes from) (cores_of k)) e)

-- ---- places

abbrev pub has_place : List ℕ → ℕ → ℕ → ℕ → ℕ → Bool
has_place matches id own place core = nat_le place (known_up_to matches id own core)

pub record Having (matches : List ℕ) (id own place i c : ℕ) : Type 0 where
  pub few : c ≤ i
  pub count : c ≡ count_by (has_place matches id own place) (cores_of i)

pub having_none : (matches : List ℕ) (id own place : ℕ) → Having matches id own place 0 0
having_none matches id own place = record { few = omega arith; count = refl }

-- what is known of core i + 1
known_is : (matches : List ℕ) (id own i k : ℕ) → k ≡ (if nat_eq (i + 1) id then own else slice_index_or matches i 0) → k
    ≡ known_up_to matches id own (i + 1)
known_is matches id own i k e =
    let j : i ≡ i + 1 - 1 = omega arith in
    e ∙ ap (λ (n : ℕ). if nat_eq (i + 1) id then own else slice_index_or matches n 0) j

pub having_yes : (matches : List ℕ) (id own place i c k : ℕ) → k ≡ (if nat_eq (i + 1) id then own else slice_index_or matches i 0) →
    place ≤ k →
    Having matches id own place i c → Having matches id own place (i + 1) (c + 1)
having_yes matches id own place i c k e le h = record {
  few = omega (arith, h.few);
  count = count_yes (has_place matches id own place) i c h.count
      (ap (nat_le place) (sym (known_is matches id own i k e)) ∙ le-leb place k le);
}

pub having_no : (matches : List ℕ) (id own place i c k : ℕ) → k ≡ (if nat_eq (i + 1) id then own else slice_index_or matches i 0) →
    k < place →
    Having matches id own place i c → Having matches id own place (i + 1) c
having_no matches id own place i c k e lt h = record {
  few = omega (arith, h.few);
  count = count_no (has_place matches id own place) i c h.count
      (ap (nat_le place) (sym (known_is matches id own i k e)) ∙ lt-leb place k lt);
}

pub having_all : (matches : List ℕ) (id own place i c : ℕ) → i ≡ length matches → Having matches id own place i c →
    nat_lt (length matches) (2 * c) ≡ majority (length matches) (has_place matches id own place)
having_all matches id own place i c e h =
    majority_is (length matches) (has_place matches id own place) c
    (h.count ∙ ap (λ (k : ℕ). count_by (has_place matches id own place) (cores_of k)) e)

-- ---- the best place so far

pub record Best (matches : List ℕ) (id own i best : ℕ) : Type 0 where
  pub has : 0 < best → majority (length matches) (has_place matches id own best) ≡ true
  pub most : (j : ℕ) → j < i → best < known_up_to matches id own (j + 1) →
      majority (length matches) (has_place matches id own (known_up_to matches id own (j + 1))) ≡ false

pub best_none : (matches : List ℕ) (id own : ℕ) → Best matches id own 0 0
best_none matches id own = record { has = λ h. absurd (omega arith); most = λ j h. absurd (omega arith) }

pub best_takes : (matches : List ℕ) (id own i best k : ℕ) → k ≡ (if nat_eq (i + 1) id then own else slice_index_or matches i 0) → best < k →
    majority (length matches) (has_place matches id own k) ≡ true → Best matches id own i best → Best matches id own (i + 1) k
best_takes matches id own i best k e lt is_true b = record {
  has = λ h. is_true;
  most = λ j h more. elim (cases_eq j i) [
    | inl same ↦
        let is : k ≡ known_up_to matches id own (j + 1) = known_is matches id own i k e ∙ ap (λ (n : ℕ). known_up_to matches id own
        (n + 1)) (sym same) in
        absurd (omega (arith, more, is))
    | inr ne ↦ b.most j (omega (arith, h, ne)) (omega (arith, more))
  ];
}

keeps : (matches : List ℕ) (id own i best k : ℕ) → k ≡ (if nat_eq (i + 1) id then own else slice_index_or matches i 0) →
    (best < k → majority (length matches) (has_place matches id own k) ≡ false) → Best matches id own i best → Best matches id own
    (i + 1) best
keeps matches id own i best k e is_false b = record {
  has = b.has;
  most = λ j h more. elim (cases_eq j i) [
    | inl same ↦
        let is : k ≡ known_up_to matches id own (j + 1) = known_is matches id own i k e ∙ ap (λ (n : ℕ). known_up_to matches id own
        (n + 1)) (sym same) in
        subst (λ (n : ℕ). majority (length matches) (has_place matches id own n) ≡ false) is (is_false (omega (arith, more, is)))
    | inr ne ↦ b.most j (omega (arith, h, ne)) more
  ];
}

pub best_keeps : (matches : List ℕ) (id own i best k : ℕ) → k ≡ (if nat_eq (i + 1) id then own else slice_index_or matches i 0) → k ≤ best →
    Best matches id own i best → Best matches id own (i + 1) best
best_keeps matches id own i best k e le b = keeps matches id own i best k e (λ h. absurd (omega arith)) b

pub best_lacks : (matches : List ℕ) (id own i best k : ℕ) → k ≡ (if nat_eq (i + 1) id then own else slice_index_or matches i 0) →
    majority (length matches) (has_place matches id own k) ≡ false → Best matches id own i best → Best matches id own (i + 1) best
best_lacks matches id own i best k e is_false b = keeps matches id own i best k e (λ h. is_false) b

pub best_all : (matches : List ℕ) (id own i best : ℕ) → i ≡ length matches → Best matches id own i best → Middle matches id own best
best_all matches id own i best e b = middle_is matches id own best b.has
    (λ k lt more.
    let n : length (cores_of (length matches)) ≡ length matches = length-range_with_len 1 (length matches) in
    let at : get_or (cores_of (length matches)) k 0 ≡ k + 1 = get_or-range_with_len 1 (length matches) k 0 (omega (arith, lt, n))
    ∙ omega arith in
    let p : best < known_up_to matches id own (k + 1) = subst (λ (c : ℕ). best < known_up_to matches id own c) at more in
    subst (λ (c : ℕ). majority (length matches) (has_place matches id own (known_up_to matches id own c)) ≡ false) (sym at)
    (b.most k (omega (arith, lt, n, e)) p))

pub ruleset of_best = (best_none, best_takes, best_keeps, best_lacks, best_all)
