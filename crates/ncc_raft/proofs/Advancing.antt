-- The commit of a leader: what a majority has, where that is of its own term.
use Rattle.std.proofs.Common.{◌≡◌, ℕ, zero, suc, ◌+◌, ◌-◌, ◌<◌, ◌≤◌, Bool, true, false, max, length, sym, ap, ◌∙◌, subst}
use Rattle.std.proofs.Common.{arith, ◌⊎◌, inl, inr}
use Rattle.std.specs.Prelude.{IsTrue, nat_eq, nat_lt, slice_index_or, ◌&&◌, if◌then◌else◌}
use Rattle.std.proofs.lemmas.Bool.{and_cases, and_from, and_left, and_parts, and_right, cases_eq, cases_lt, eq-eqb, eqb-false, eqb-true}
use Rattle.std.proofs.lemmas.Bool.{false≢true, lt-leb, ltb-false, ltb-true, ne_eqb}
use Rattle.std.proofs.lemmas.List.{get_or_past}
use Rattle.ncc_tx.specs.Kept.{term_at}
use Rattle.ncc_raft.specs.declared.state.Seat as held
use Rattle.ncc_raft.specs.declared.state.State.{State}
use Rattle.ncc_raft.specs.Fronts.{Middle, known_up_to}
use Rattle.ncc_raft.specs.Member.{Seat, Member, is_leader, majority}
use Rattle.ncc_raft.specs.Appending.{advanced, greatest, is_known_at, may_commit}
use Rattle.ncc_raft.specs.Core.{IsSound}
use Rattle.ncc_raft.specs.State.{IsAdvanced, IsSoundAt, member_of, seat_of}
use Rattle.ncc_raft.proofs.Carrying.{core_is}
use Rattle.ncc_raft.proofs.Cores.{none_majority}
use Rattle.ncc_raft.proofs.Falls.{at_ascends, at_le}

-- ---- the greatest number that passes a test

greatest_is : (test : ℕ → Bool) (n p : ℕ) → p ≤ n → (0 < p → test p ≡ true) → ((q : ℕ) → p < q → q ≤ n → test q ≡ false) →
    greatest test n ≡ p
unfolding greatest
greatest_is test zero p le has none = omega arith
greatest_is test (suc n) p le has none = elim (cases_eq p (suc n)) [
  | inl e ↦
      let t : test (suc n) ≡ true = subst (λ (k : ℕ). test k ≡ true) e (has (omega arith)) in
      ap (λ (b : Bool). if b then suc n else greatest test n) t ∙ sym e
  | inr ne ↦
      let f : test (suc n) ≡ false = none (suc n) (omega arith) (omega arith) in
      ap (λ (b : Bool). if b then suc n else greatest test n) f
      ∙ greatest_is test n p (omega arith) has (λ q lt ge. none q lt (omega arith))
]

-- ---- of a sound leader

-- what a majority has lies within the log
record Known (seat : Seat) (m : Member) (place : ℕ) : Type 0 where
  sound : IsSound seat m
  has : 0 < place → majority seat.cores (is_known_at seat m place) ≡ true
  most : (later : ℕ) → place < later → majority seat.cores (is_known_at seat m later) ≡ false
  within : place ≤ length m.log

passes : (seat : Seat) (m : Member) (place : ℕ) → Known seat m place → term_at m.log place ≡ m.term → greatest (may_commit seat m)
    (length m.log) ≡ place
passes seat m place k e =
    greatest_is (may_commit seat m) (length m.log) place k.within
    (λ lt. and_from (nat_eq (term_at m.log place) m.term) (majority seat.cores (is_known_at seat m place))
    (eq-eqb (term_at m.log place) m.term e) (k.has lt))
    (λ q lt le. and_right (nat_eq (term_at m.log q) m.term) (majority seat.cores (is_known_at seat m q)) (k.most q lt))

fails : (seat : Seat) (m : Member) (place : ℕ) → Known seat m place → (term_at m.log place ≡ m.term → ⊥) → greatest (may_commit seat m)
    (length m.log) ≡ 0
fails seat m place k ne =
    greatest_is (may_commit seat m) (length m.log) 0 (omega arith) (λ lt. absurd (omega arith))
    (λ q lt le. elim (cases_lt place q) [
      | inl past ↦ and_right (nat_eq (term_at m.log q) m.term) (majority seat.cores (is_known_at seat m q)) (k.most q past)
      | inr before ↦
          let a = at_ascends m.term m.log q place before k.within k.sound.saved.terms in
          let b = at_le m.term m.log place k.sound.saved.terms in
          and_left (nat_eq (term_at m.log q) m.term) (majority seat.cores (is_known_at seat m q))
          (ne_eqb (term_at m.log q) m.term (λ e. ne (omega (arith, a, b, e))))
    ])

-- ---- of what the code keeps

match_le : (seat : Seat) (m : Member) (c : ℕ) → IsSound seat m → IsTrue (is_leader m.role) → slice_index_or m.match (c - 1) 0 ≤ length m.log
match_le seat m c s lead = elim (cases_lt (c - 1) seat.cores) [
  | inl lt ↦
      let k : c - 1 + 1 - 1 ≡ c - 1 = omega arith in
      let l = s.leads lead (c - 1 + 1) (core_is seat.cores (c - 1 + 1) (omega arith) (omega arith)) in
      let e : slice_index_or m.match (c - 1 + 1 - 1) 0 ≡ slice_index_or m.match (c - 1) 0 = ap (λ (j : ℕ). slice_index_or m.match j 0) k in
      omega (arith, l.0, l.1, e)
  | inr ge ↦ let z : slice_index_or m.match (c - 1) 0 ≡ 0 = get_or_past m.match (c - 1) 0 (omega (arith, s.match)) in omega (arith, z)
]

known_le : (seat : Seat) (m : Member) (c : ℕ) → IsSound seat m → IsTrue (is_leader m.role) → known_up_to m.match seat.id
    (length m.log) c ≤ length m.log
known_le seat m c s lead = go (nat_eq c seat.id)
  where
    go : (b : Bool) → (if b then length m.log else slice_index_or m.match (c - 1) 0) ≤ length m.log
    go true = omega arith
    go false = match_le seat m c s lead

of_middle : (seat : Seat) (m : Member) (place : ℕ) → IsSound seat m → IsTrue (is_leader m.role) → Middle m.match seat.id
    (length m.log) place → Known seat m place
of_middle seat m place s lead k =
    let has : 0 < place → majority seat.cores (is_known_at seat m place) ≡ true =
    λ lt. subst (λ (n : ℕ). majority n (is_known_at seat m place) ≡ true) s.match (k.has lt) in
    record {
      sound = s;
      has = has;
      most = λ later lt. subst (λ (n : ℕ). majority n (is_known_at seat m later) ≡ false) s.match (k.most later lt);
      within = elim (cases_lt (length m.log) place) [
        | inl past ↦
            let lacks : majority seat.cores (is_known_at seat m place) ≡ false = none_majority seat.cores (is_known_at seat m place)
            (λ c. lt-leb place (known_up_to m.match seat.id (length m.log) c) (omega (arith, known_le seat m c s lead))) in
            let f : false ≡ true = sym lacks ∙ has (omega arith) in
            absurd (false≢true f)
        | inr le ↦ le
      ];
    }

taking : (seat : Seat) (m : Member) (place : ℕ) → Known seat m place → nat_lt m.commit place ≡ true → nat_eq
    (term_at m.log place) m.term ≡ true →
    record m { commit = place } ≡ advanced seat m
taking seat m place k lt e =
    let g : greatest (may_commit seat m) (length m.log) ≡ place = passes seat m place k (eqb-true (term_at m.log place) m.term e) in
    let c : place ≡ max m.commit (greatest (may_commit seat m) (length m.log)) = omega (arith, g, ltb-true m.commit place lt) in
    ap (λ (n : ℕ). record m { commit = n }) c

keeping : (seat : Seat) (m : Member) (place : ℕ) → Known seat m place → (nat_lt m.commit place ≡ false) ⊎
    (nat_eq (term_at m.log place) m.term ≡ false) →
    m ≡ advanced seat m
keeping seat m place k (inl ge) =
    let le : greatest (may_commit seat m) (length m.log) ≤ m.commit = elim (cases_eq (term_at m.log place) m.term) [
      | inl e ↦ omega (arith, passes seat m place k e, ltb-false m.commit place ge)
      | inr ne ↦ omega (arith, fails seat m place k ne)
    ] in
    let c : m.commit ≡ max m.commit (greatest (may_commit seat m) (length m.log)) = omega (arith, le) in
    ap (λ (n : ℕ). record m { commit = n }) c
keeping seat m place k (inr ne) =
    let g : greatest (may_commit seat m) (length m.log) ≡ 0 = fails seat m place k (eqb-false (term_at m.log place) m.term ne) in
    let c : m.commit ≡ max m.commit (greatest (may_commit seat m) (length m.log)) = omega (arith, g) in
    ap (λ (n : ℕ). record m { commit = n }) c

pub advance_takes : (seat : held.Seat) (old : State) (place n : ℕ) (b : Bool) → IsSoundAt seat old.standing old → IsTrue
    (is_leader old.standing.role) →
    Middle old.matches seat.id n place → n ≡ length old.log → b ≡ (nat_lt old.commit place && nat_eq
    (term_at old.log place) old.standing.term) → b ≡ true →
    IsAdvanced seat old (record old { commit = place })
unfolding IsSoundAt IsAdvanced
advance_takes seat old place n b s lead k e f t =
    let p = and_parts (nat_lt old.commit place) (nat_eq (term_at old.log place) old.standing.term) (sym f ∙ t) in
    let middle : Middle old.matches seat.id (length old.log) place = subst (λ (j : ℕ). Middle old.matches seat.id j place) e k in
    taking (seat_of seat) (member_of old) place (of_middle (seat_of seat) (member_of old) place s lead middle) p.0 p.1

pub advance_keeps : (seat : held.Seat) (old : State) (place n : ℕ) (b : Bool) → IsSoundAt seat old.standing old → IsTrue
    (is_leader old.standing.role) →
    Middle old.matches seat.id n place → n ≡ length old.log → b ≡ (nat_lt old.commit place && nat_eq
    (term_at old.log place) old.standing.term) → b ≡ false →
    IsAdvanced seat old old
unfolding IsSoundAt IsAdvanced
advance_keeps seat old place n b s lead k e f t =
    let middle : Middle old.matches seat.id (length old.log) place = subst (λ (j : ℕ). Middle old.matches seat.id j place) e k in
    keeping (seat_of seat) (member_of old) place (of_middle (seat_of seat) (member_of old) place s lead middle)
    (and_cases (nat_lt old.commit place) (nat_eq (term_at old.log place) old.standing.term) (sym f ∙ t))
