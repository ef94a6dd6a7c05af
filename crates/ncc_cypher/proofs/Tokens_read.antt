-- What the code reads by the first byte's class is what stands there.
use Rattle.std.proofs.Common.{◌≡◌, ℕ, ℤ, zero, suc, ◌+◌, ◌-◌, ◌<◌, ◌≤◌, Bool, true, false, cond, List, [], ◌∷◌, ◌++◌, length, get_or, take, drop, Option, Some, None, refl, sym, ap, ◌∙◌, arith}
use Rattle.std.specs.Prelude.{◌^◌, pos, negsuc, nat_lt}
use Rattle.std.specs.List.{prefix_len}
use Rattle.std.specs.Str.Parse.{AllDigits, digits_value}
use Rattle.std.specs.Char.{digit_value}
use Rattle.std.proofs.lemmas.Bool.Decides.{nat_tests}
use Rattle.std.proofs.lemmas.List.{length-append}
use Rattle.std.proofs.Math.Seq.{take-append_seam}
use Rattle.std.proofs.lemmas.Str.{digit_value_digit}
use mir.Syntax.{w64}
use mir.Val.{SFits}
use Rattle.std.proofs.Math.IntN.{neg_ℤ}
use Rattle.ncc_cypher.specs.declared.class.Class.{Class}
use Rattle.ncc_cypher.specs.declared.class.Class.TheVariants.{Letter, Zero, Digit, Minus, Quote, Sign}
use Rattle.ncc_cypher.specs.declared.token.Token.{Token}
use Rattle.ncc_cypher.specs.declared.token.Token.TheVariants.{Text}
use Rattle.ncc_cypher.specs.Piece.{value_of, rest_of, HasBody}
use Rattle.ncc_cypher.specs.Class.{class, is_digit, is_word, is_digit_class, is_word_class, IsDigitClass}
use Rattle.ncc_cypher.specs.Lexeme.{word, Passes}
use Rattle.ncc_cypher.specs.Number.{number_of}
use Rattle.ncc_cypher.specs.Token.{keyword, or_name, sign_of, as_int}
use Rattle.ncc_cypher.specs.Scan.{digits_at, digits_by, by_class, lexeme_at, token_at, token_of, as_number, as_text, with_rest}
use Rattle.ncc_cypher.specs.Body.{body_at}
use Rattle.ncc_cypher.proofs.Lexemes.{passes_front}

-- at a first byte of a class
at_class : (bs : List ℕ) (c : Class) → 0 < length bs → class (get_or bs 0 0) ≡ c → lexeme_at bs ≡ by_class c (get_or bs 0 0) (drop 1 bs)
unfolding lexeme_at
at_class [] c lt e = absurd (omega arith)
at_class (b ∷ bs) c lt e = ap (λ (k : Class). by_class k b bs) e

digits_class : (bs : List ℕ) (c : Class) → 0 < length bs → class (get_or bs 0 0) ≡ c → digits_at bs ≡ digits_by c (get_or bs 0 0) (drop 1 bs)
digits_class [] c lt e = absurd (omega arith)
digits_class (b ∷ bs) c lt e = ap (λ (k : Class). digits_by k b bs) e

pub zero_is : (b : ℕ) → class b ≡ Zero → b ≡ 48
unfolding class
zero_is b e = grind (arith, nat_tests)

pub minus_is : (b : ℕ) → class b ≡ Minus → b ≡ 45
unfolding class
minus_is b e = grind (arith, nat_tests)

pub quote_is : (b : ℕ) → class b ≡ Quote → b < 92
unfolding class
quote_is b e = grind (arith, nat_tests)

pub sign_is : (b : ℕ) → class b ≡ Sign → b < 128
unfolding class
sign_is b e = grind (arith, nat_tests)

digit_class : (b : ℕ) (c : Class) → class b ≡ c → is_digit_class c ≡ true → (48 ≤ b) × (b ≤ 57)
unfolding class
digit_class b Zero e h = (let i : b ≡ 48 = zero_is b e in omega arith, let i : b ≡ 48 = zero_is b e in omega arith)
digit_class b Digit e h = (grind (arith, nat_tests), grind (arith, nat_tests))
digit_class b _ e h = absurd cc

digit_is : (b : ℕ) → is_digit b ≡ true → (48 ≤ b) × (b ≤ 57)
digit_is b e = digit_class b (class b) refl e

pub digit_worth : (b : ℕ) → is_digit b ≡ true → digit_value b < 10
digit_worth b e = let d = digit_is b e in let l : 48 ≤ b = d.0 in let h : b ≤ 57 = d.1 in let k = digit_value_digit b (l, h) in omega arith

pub all_digits : (bs : List ℕ) → Passes is_digit bs → AllDigits 10 bs
all_digits [] h = tt
all_digits (b ∷ bs) h = (digit_worth b h.0, all_digits bs h.1)

-- ---- numbers

by_digit : (b : ℕ) (bs : List ℕ) (c : Class) → is_digit_class c ≡ true → by_class c b bs ≡ as_number false (digits_by c b bs)
by_digit b bs Zero e = refl
by_digit b bs Digit e = refl
by_digit b bs _ e = absurd cc

number_is : (bs : List ℕ) → 0 < length bs → IsDigitClass (class (get_or bs 0 0)) → lexeme_at bs ≡ as_number false (digits_at bs)
number_is bs lt e = at_class bs (class (get_or bs 0 0)) lt refl ∙ by_digit (get_or bs 0 0) (drop 1 bs) (class (get_or bs 0 0)) e ∙ ap (as_number false) (sym (digits_class bs (class (get_or bs 0 0)) lt refl))

pub number_gives : (bs ds rest : List ℕ) (o : Option ℤ) → 0 < length bs → IsDigitClass (class (get_or bs 0 0)) → digits_at bs ≡ Some (ds, rest) → o ≡ number_of false ds → with_rest (as_int o) rest ≡ token_at bs
unfolding token_at
number_gives bs ds rest o lt c d e = ap (λ (z : Option ℤ). with_rest (as_int z) rest) e ∙ sym (ap token_of (number_is bs lt c ∙ ap (as_number false) d))

pub number_lacks : (bs : List ℕ) → 0 < length bs → IsDigitClass (class (get_or bs 0 0)) → digits_at bs ≡ None → None ≡ token_at bs
unfolding token_at
number_lacks bs lt c d = sym (ap token_of (number_is bs lt c ∙ ap (as_number false) d))

minus_at : (bs : List ℕ) → 0 < length bs → class (get_or bs 0 0) ≡ Minus → lexeme_at bs ≡ as_number true (digits_at (drop 1 bs))
minus_at bs lt e = at_class bs Minus lt e

pub minus_gives : (bs ds rest : List ℕ) (o : Option ℤ) → 0 < length bs → class (get_or bs 0 0) ≡ Minus → digits_at (drop 1 bs) ≡ Some (ds, rest) → o ≡ number_of true ds → with_rest (as_int o) rest ≡ token_at bs
unfolding token_at
minus_gives bs ds rest o lt c d e = ap (λ (z : Option ℤ). with_rest (as_int z) rest) e ∙ sym (ap token_of (minus_at bs lt c ∙ ap (as_number true) d))

pub minus_lacks : (bs : List ℕ) → 0 < length bs → class (get_or bs 0 0) ≡ Minus → digits_at (drop 1 bs) ≡ None → None ≡ token_at bs
unfolding token_at
minus_lacks bs lt c d = sym (ap token_of (minus_at bs lt c ∙ ap (as_number true) d))

-- a number that is read fits 64 bits
some_int : (m n : ℤ) → Some m ≡ Some n → m ≡ n
some_int m n e = cc

plain_case : (v : ℕ) (n : ℤ) (b : Bool) → nat_lt v (2 ^ 63) ≡ b → Some n ≡ cond b (Some (pos v)) None → SFits w64 n
plain_case v n true lt e = let i = some_int n (pos v) e in let h : v < 2 ^ 63 = grind (arith, nat_tests) in rw i (record { sfits = h })
plain_case v n false lt e = absurd cc

minus_case : (v : ℕ) (n : ℤ) (b : Bool) → nat_lt (2 ^ 63) v ≡ b → Some n ≡ cond b None (Some (neg_ℤ (pos v))) → SFits w64 n
minus_case v n true lt e = absurd cc
minus_case zero n false lt e = let i = some_int n (neg_ℤ (pos 0)) e in let h : 0 < 2 ^ 63 = omega arith in rw i (record { sfits = h })
minus_case (suc v) n false lt e = let i = some_int n (negsuc v) e in let h : v < 2 ^ 63 = grind (arith, nat_tests) in rw i (record { sfits = h })

pub number_fits : (m : Bool) (ds : List ℕ) (n : ℤ) → Some n ≡ number_of m ds → SFits w64 n
number_fits false ds n e = plain_case (digits_value 10 ds) n (nat_lt (digits_value 10 ds) (2 ^ 63)) refl e
number_fits true ds n e = minus_case (digits_value 10 ds) n (nat_lt (2 ^ 63) (digits_value 10 ds)) refl e

pub minus_cut : (bs ds rest : List ℕ) → 0 < length bs → ds ++ rest ≡ drop 1 bs → take (length bs - length rest) bs ≡ get_or bs 0 0 ∷ ds
minus_cut [] ds rest lt e = absurd (omega arith)
minus_cut (b ∷ bs) ds rest lt e =
    let n : length (b ∷ bs) - length rest ≡ suc (length ds) = omega (arith, ap length e, length-append ds rest) in
    rw n (ap (λ (z : List ℕ). b ∷ take (length ds) z) (sym e) ∙ ap (λ (z : List ℕ). b ∷ z) (take-append_seam ds rest))

-- ---- words, texts, signs

front_of : (p : ℕ → Bool) (b : ℕ) (bs : List ℕ) → p b ≡ true → (take (prefix_len p (b ∷ bs)) (b ∷ bs) ≡ b ∷ take (prefix_len p bs) bs) × (drop (prefix_len p (b ∷ bs)) (b ∷ bs) ≡ drop (prefix_len p bs) bs)
front_of p b bs e = let i : 1 + prefix_len p bs ≡ suc (prefix_len p bs) = omega arith in (rw e (rw i refl), rw e (rw i refl))

word_front : (bs : List ℕ) → 0 < length bs → class (get_or bs 0 0) ≡ Letter → lexeme_at bs ≡ Some (word (take (prefix_len is_word bs) bs), drop (prefix_len is_word bs) bs)
unfolding lexeme_at
word_front [] lt e = absurd (omega arith)
word_front (b ∷ bs) lt e =
    let w : is_word b ≡ true = ap is_word_class e in
    let f = front_of is_word b bs w in
    ap (λ (k : Class). by_class k b bs) e ∙ ap (λ (z : List ℕ). Some (word z, drop (prefix_len is_word bs) bs)) (sym f.0) ∙ ap (λ (z : List ℕ). Some (word (take (prefix_len is_word (b ∷ bs)) (b ∷ bs)), z)) (sym f.1)

pub word_gives : (bs w rest : List ℕ) (token : Token) → 0 < length bs → class (get_or bs 0 0) ≡ Letter → w ≡ take (prefix_len is_word bs) bs → rest ≡ drop (prefix_len is_word bs) bs → token ≡ or_name w (keyword w) → token_at bs ≡ Some (token, rest)
unfolding token_at
word_gives bs w rest token lt c ew er et =
    ap token_of (word_front bs lt c) ∙ ap (λ (z : List ℕ). Some (or_name z (keyword z), drop (prefix_len is_word bs) bs)) (sym ew) ∙ ap (λ (z : Token). Some (z, drop (prefix_len is_word bs) bs)) (sym et) ∙ ap (λ (z : List ℕ). Some (token, z)) (sym er)

pub quote_gives : (bs : List ℕ) (q : ℕ) (r : Option (List ℕ × List ℕ)) → 0 < length bs → q ≡ get_or bs 0 0 → class q ≡ Quote → r ≡ body_at q false (drop 1 bs) → token_at bs ≡ token_of (as_text r)
unfolding token_at
quote_gives bs q r lt e c b =
    let k : class (get_or bs 0 0) ≡ Quote = ap class (sym e) ∙ c in
    ap token_of (at_class bs Quote lt k) ∙ ap (λ (z : ℕ). token_of (as_text (body_at z false (drop 1 bs)))) (sym e) ∙ ap (λ (z : Option (List ℕ × List ℕ)). token_of (as_text z)) (sym b)

text_by : (o : Option (List ℕ × List ℕ)) (rest : List ℕ) → rest_of o ≡ Some rest → Some (Text (value_of o), rest) ≡ token_of (as_text o)
text_by None rest e = absurd cc
text_by (Some r) rest e = let i : r.1 ≡ rest = cc in ap (λ (z : List ℕ). Some (Text r.0, z)) (sym i)

none_by : (o : Option (List ℕ × List ℕ)) → rest_of o ≡ None → None ≡ token_of (as_text o)
none_by None e = refl
none_by (Some r) e = absurd cc

pub has_body : (o : Option (List ℕ × List ℕ)) (rest : List ℕ) → rest_of o ≡ Some rest → HasBody o
has_body None rest e = absurd cc
has_body (Some r) rest e = tt

pub quote_text : (bs : List ℕ) (q : ℕ) (behind rest value : List ℕ) → 0 < length bs → q ≡ get_or bs 0 0 → class q ≡ Quote → behind ≡ drop 1 bs → value ≡ value_of (body_at q false behind) → rest_of (body_at q false (drop 1 bs)) ≡ Some rest → Some (Text value, rest) ≡ token_at bs
quote_text bs q behind rest value lt e c d v b =
    ap (λ (z : List ℕ). Some (Text z, rest)) (v ∙ ap (λ (z : List ℕ). value_of (body_at q false z)) d) ∙ text_by (body_at q false (drop 1 bs)) rest b ∙ sym (quote_gives bs q (body_at q false (drop 1 bs)) lt e c refl)

pub quote_none : (bs : List ℕ) (q : ℕ) → 0 < length bs → q ≡ get_or bs 0 0 → class q ≡ Quote → rest_of (body_at q false (drop 1 bs)) ≡ None → None ≡ token_at bs
quote_none bs q lt e c b = none_by (body_at q false (drop 1 bs)) b ∙ sym (quote_gives bs q (body_at q false (drop 1 bs)) lt e c refl)

pub sign_gives : (bs : List ℕ) (b : ℕ) (o : Option Token) → 0 < length bs → b ≡ get_or bs 0 0 → class b ≡ Sign → o ≡ sign_of b → token_at bs ≡ with_rest o (drop 1 bs)
unfolding token_at
sign_gives bs b o lt e c s =
    let k : class (get_or bs 0 0) ≡ Sign = ap class (sym e) ∙ c in
    ap token_of (at_class bs Sign lt k) ∙ ap (λ (z : ℕ). with_rest (sign_of z) (drop 1 bs)) (sym e) ∙ ap (λ (z : Option Token). with_rest z (drop 1 bs)) (sym s)

pub none_given : (bs : List ℕ) (b : ℕ) (c : Class) → 0 < length bs → b ≡ get_or bs 0 0 → class b ≡ c → by_class c (get_or bs 0 0) (drop 1 bs) ≡ None → token_at bs ≡ None
unfolding token_at
none_given bs b c lt e k n = ap token_of (at_class bs c lt (ap class (sym e) ∙ k) ∙ n)

pub at_end : (bs : List ℕ) → length bs ≡ 0 → token_at bs ≡ None
unfolding token_at lexeme_at
at_end [] e = refl
at_end (b ∷ bs) e = absurd (omega arith)

-- ---- digits at the front

pub zero_digits : (bs : List ℕ) → 0 < length bs → class (get_or bs 0 0) ≡ Zero → (digits_at bs ≡ Some (take 1 bs, drop 1 bs)) × AllDigits 10 (take 1 bs)
zero_digits [] lt e = absurd (omega arith)
zero_digits (b ∷ bs) lt e = (ap (λ (k : Class). digits_by k b bs) e, (digit_worth b (ap is_digit_class e), tt))

pub more_digits : (bs : List ℕ) → 0 < length bs → class (get_or bs 0 0) ≡ Digit → (digits_at bs ≡ Some (take (prefix_len is_digit bs) bs, drop (prefix_len is_digit bs) bs)) × AllDigits 10 (take (prefix_len is_digit bs) bs) × (0 < length (take (prefix_len is_digit bs) bs))
more_digits [] lt e = absurd (omega arith)
more_digits (b ∷ bs) lt e =
    let f = front_of is_digit b bs (ap is_digit_class e) in (
      ap (λ (k : Class). digits_by k b bs) e ∙ ap (λ (z : List ℕ). Some (z, drop (prefix_len is_digit bs) bs)) (sym f.0) ∙ ap (λ (z : List ℕ). Some (take (prefix_len is_digit (b ∷ bs)) (b ∷ bs), z)) (sym f.1),
      all_digits _ (passes_front is_digit (b ∷ bs)),
      (let p : length (take (prefix_len is_digit (b ∷ bs)) (b ∷ bs)) ≡ suc (length (take (prefix_len is_digit bs) bs)) = ap length f.0 in omega arith),
    )

pub no_digits : (bs : List ℕ) (c : Class) → 0 < length bs → class (get_or bs 0 0) ≡ c → digits_by c (get_or bs 0 0) (drop 1 bs) ≡ None → digits_at bs ≡ None
no_digits bs c lt e n = digits_class bs c lt e ∙ n

pub one_more : (bs ds rest : List ℕ) → 0 < length bs → ds ++ rest ≡ drop 1 bs → (front : List ℕ) × (bs ≡ front ++ rest)
one_more [] ds rest lt e = absurd (omega arith)
one_more (b ∷ bs) ds rest lt e = (b ∷ ds, ap (λ (z : List ℕ). b ∷ z) (sym e))
