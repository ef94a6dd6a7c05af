-- Bytes of words are ASCII, so a text may be cut behind them.
use Rattle.std.proofs.Common.{◌≡◌, ℕ, ◌+◌, ◌-◌, ◌<◌, ◌≤◌, Bool, true, false, List, length, get_or, refl, sym, subst, ◌∙◌, inl, inr, arith}
use Rattle.std.specs.Str.{IsUtf8, IsCharBoundary}
use Rattle.std.specs.List.{prefix_len}
use Rattle.std.proofs.lemmas.Str.{IsCharBoundary-start, IsCharBoundary-after_ascii}
use Rattle.std.proofs.lemmas.List.Sums.{prefix_len_passes, prefix_len-le-length}
use Rattle.std.proofs.lemmas.Bool.{cases_lt}
use Rattle.std.proofs.lemmas.Bool.Decides.{nat_tests}
use Rattle.ncc_cypher.specs.declared.class.Class.TheVariants.{Other}
use Rattle.ncc_cypher.specs.Token.{is_blank}
use Rattle.ncc_cypher.specs.Class.{class, is_digit, is_word}

large : (b : ℕ) → 128 ≤ b → class b ≡ Other
unfolding class
large b h = grind (arith, nat_tests)

pub word_small : (b : ℕ) → is_word b ≡ true → b < 128
word_small b e =
    elim (cases_lt b 128) [
      | inl lt ↦ lt
      | inr le ↦ absurd (let k : is_word b ≡ false = rw (large b le) refl in let g : true ≡ false = sym e ∙ k in cc)
    ]

pub digit_small : (b : ℕ) → is_digit b ≡ true → b < 128
digit_small b e =
    elim (cases_lt b 128) [
      | inl lt ↦ lt
      | inr le ↦ absurd (let k : is_digit b ≡ false = rw (large b le) refl in let g : true ≡ false = sym e ∙ k in cc)
    ]

pub blank_small : (b : ℕ) → is_blank b ≡ true → b < 128
blank_small b e =
    elim (cases_lt b 128) [
      | inl lt ↦ lt
      | inr le ↦ absurd (let k : is_blank b ≡ false = rw (large b le) refl in let g : true ≡ false = sym e ∙ k in cc)
    ]

at_zero : (bs : List ℕ) (n : ℕ) → IsUtf8 bs → n ≡ 0 → IsCharBoundary bs n
at_zero bs n u e = rw e (IsCharBoundary-start bs u)

pub cut : (p : ℕ → Bool) (bs : List ℕ) → ((b : ℕ) → p b ≡ true → b < 128) → IsUtf8 bs → IsCharBoundary bs (prefix_len p bs)
cut p bs small u =
    elim (cases_lt 0 (prefix_len p bs)) [
      | inl lt ↦
          let n : ℕ = prefix_len p bs - 1 in
          let le : prefix_len p bs ≤ length bs = prefix_len-le-length p bs in
          let here : get_or bs n 0 < 128 = small (get_or bs n 0) (prefix_len_passes p bs n 0 (omega arith)) in
          let e : n + 1 ≡ prefix_len p bs = omega arith in
          subst (λ (k : ℕ). IsCharBoundary bs k) e (IsCharBoundary-after_ascii bs n u (omega (arith, le)) here)
      | inr le ↦ at_zero bs (prefix_len p bs) u (omega arith)
    ]
