-- Texts that are read as tokens, whatever follows or where no word goes on.
use Rattle.std.proofs.Common.{◌≡◌, ℕ, ℤ, zero, suc, ◌<◌, ◌≤◌, Bool, true, false, cond, List, [], ◌∷◌, ◌++◌, length, get_or, Option, Some, None, refl, sym, ap, subst, ◌∙◌, arith}
use Rattle.std.specs.Prelude.{◌==◌, ◌^◌, pos, negsuc, nat_lt}
use Rattle.std.specs.List.{prefix_len}
use Rattle.std.specs.Fmt.{decimal, signed_decimal}
use Rattle.std.specs.Str.Parse.{AllDigits, digits_value}
use Rattle.std.proofs.Math.IntN.{neg_ℤ}
use Rattle.std.proofs.lemmas.Fmt.{decimal_is_IsNumeral, first_decimal, decimal_digit}
use Rattle.std.proofs.lemmas.Str.Parse.{digit_from_value}
use Rattle.std.proofs.lemmas.Bool.Decides.{nat_tests}
use Rattle.ncc_cypher.specs.declared.class.Class.TheVariants as q
use Rattle.ncc_cypher.specs.declared.token.Token.{Token}
use Rattle.ncc_cypher.specs.declared.token.Token.TheVariants as t
use Rattle.ncc_cypher.specs.Class.{class, is_digit, is_word, is_digit_class}
use Rattle.ncc_cypher.specs.Lexeme as x
use Rattle.ncc_cypher.specs.Lexeme.{Lexeme, Writes, Passes, IsNumber, Body}
use Rattle.ncc_cypher.specs.Number.{number_of}
use Rattle.ncc_cypher.specs.Token as k
use Rattle.ncc_cypher.specs.Token.{meaning, keyword, or_name, sign_of, as_int, Begins, past_blanks, Placed, Tokens, tokens_of}
use Rattle.ncc_cypher.specs.Print.{escaped, quoted}
use Rattle.ncc_cypher.proofs.Lexemes.{some, by_is}
use mir.Syntax.{w64}
use mir.Val.{SFits}
use Rattle.std.specs.Int.{IsInRange}
use Rattle.std.proofs.lemmas.Bool.{eqb-true}
use Rattle.ncc_cypher.proofs.Tokens_read.{number_fits}
use Rattle.ncc_cypher.proofs.Sources.{IsToken, token_stopped, starts, behind_space}

-- bytes whose tokens are these
pub record Has (bytes : List ℕ) (ts : List Token) : Type 0 where
  pub placed : List Placed
  pub end : List ℕ
  pub tokens : Tokens bytes placed end
  pub nothing : past_blanks end ≡ []
  pub same : tokens_of placed ≡ ts

pub has_none : Has [] []
has_none = record { placed = []; end = []; tokens = k.stop []; nothing = refl; same = refl }

-- no word goes on here
pub record Clean (rest : List ℕ) : Type 0 where
  pub word : prefix_len is_word rest ≡ 0
  pub digit : prefix_len is_digit rest ≡ 0

pub clean_none : Clean []
clean_none = record { word = refl; digit = refl }

abbrev pub Reads : List ℕ → List Token → Type 0
Reads text ts = (rest : List ℕ) (us : List Token) → Clean rest → Has rest us → Has (text ++ rest) (ts ++ us)

abbrev pub Firm : List ℕ → List Token → Type 0
Firm text ts = (rest : List ℕ) (us : List Token) → Has rest us → Has (text ++ rest) (ts ++ us)

has_more : (t : Token) (w rest : List ℕ) (us : List Token) → Begins (past_blanks (w ++ rest)) t rest → Has rest us → Has (w ++ rest) (t ∷ us)
has_more t w rest us b h = record {
  placed = record { what = t; from = past_blanks (w ++ rest); to = rest } ∷ h.placed;
  end = h.end;
  tokens = k.more (w ++ rest) rest h.end t h.placed b h.tokens;
  nothing = h.nothing;
  same = ap (λ (z : List Token). t ∷ z) h.same;
}

pub token_reads : (v : Lexeme) (t : Token) (w : List ℕ) → Writes v w → meaning v ≡ Some t → Reads w (t ∷ [])
token_reads v t w written m = λ rest us c h. has_more t w rest us (token_stopped v t w rest written m c.word c.digit) h

pub sign_firm : (b : ℕ) (t : Token) → class b ≡ q.Sign → sign_of b ≡ Some t → Firm (b ∷ []) (t ∷ [])
sign_firm b t e m = λ rest us h.
    has_more t (b ∷ []) rest us
    (record { lexeme = x.sign b; longest = subst (λ (z : List ℕ). x.Longest z (x.sign b) rest) (sym (starts (x.sign b) (b ∷ []) rest (x.a_sign b e))) (some (b ∷ rest) (x.sign b) rest (by_is b q.Sign rest e)); is = m }) h

pub space_firm : Firm (32 ∷ []) []
space_firm = λ rest us h. let s = behind_space rest h.placed h.end h.tokens h.nothing in record { placed = h.placed; end = s.0; tokens = s.1; nothing = s.2; same = h.same }

pub firm_reads : (a : List ℕ) (ts : List Token) → Firm a ts → Reads a ts
firm_reads a ts f = λ rest us c h. f rest us h

-- ---- names

-- neither a keyword nor a sign
abbrev IsValue : Token → Type 0
IsValue (t.Name n) = Unit {0}
IsValue (t.Int i) = Unit {0}
IsValue _ = ⊥

some_token : (y u : Token) → Some y ≡ Some u → y ≡ u
some_token y u e = cc

no_value : (b : Bool) (y : Token) (o : Option Token) (u : Token) → IsValue u → (IsValue y → ⊥) → (o ≡ Some u → ⊥) → cond b (Some y) o ≡ Some u → ⊥
no_value true y o u i f g e = f (subst IsValue (sym (some_token y u e)) i)
no_value false y o u i f g e = g e

none_is : (u : Token) → None ≡ Some u → ⊥
none_is u e = cc

no_keyword : (w : List ℕ) (u : Token) → IsValue u → keyword w ≡ Some u → ⊥
unfolding keyword
no_keyword w u i e =
    no_value _ t.Create _ u i (λ z. z)
    (no_value _ t.Match _ u i (λ z. z)
    (no_value _ t.Merge _ u i (λ z. z) (no_value _ t.Set _ u i (λ z. z) (no_value _ t.Delete _ u i (λ z. z) (no_value _ t.Return _ u i (λ z. z) (no_value _ t.As _ u i (λ z. z) (no_value _ t.True _ u i (λ z. z) (no_value _ t.False _ u i (λ z. z) (no_value _ t.Null _ u i (λ z. z) (none_is u))))))))))
    e

no_sign : (b : ℕ) (u : Token) → IsValue u → sign_of b ≡ Some u → ⊥
unfolding sign_of
no_sign b u i e =
    no_value _ t.Open _ u i (λ z. z)
    (no_value _ t.Close _ u i (λ z. z)
    (no_value _ t.LeftBrace _ u i (λ z. z) (no_value _ t.RightBrace _ u i (λ z. z) (no_value _ t.Colon _ u i (λ z. z) (no_value _ t.Comma _ u i (λ z. z) (no_value _ t.Dot _ u i (λ z. z) (no_value _ t.Equals _ u i (λ z. z) (no_value _ t.Plus _ u i (λ z. z) (no_value _ t.Dollar _ u i (λ z. z) (no_value _ t.Semicolon _ u i (λ z. z) (none_is u)))))))))))
    e

no_int : (o : Option ℤ) (n : List ℕ) → as_int o ≡ Some (t.Name n) → ⊥
no_int None n e = cc
no_int (Some i) n e = cc

same_word : (w n : List ℕ) (o : Option Token) → keyword w ≡ o → Some (or_name w o) ≡ Some (t.Name n) → w ≡ n
same_word w n None e f = cc
same_word w n (Some y) e f = absurd (no_keyword w (t.Name n) tt (e ∙ f))

word_of : (v : Lexeme) (w n : List ℕ) → Writes v w → meaning v ≡ Some (t.Name n) → Writes (x.word n) n × (meaning (x.word n) ≡ Some (t.Name n))
word_of _ _ n (x.a_word b bs e p) m = let i : b ∷ bs ≡ n = same_word (b ∷ bs) n (keyword (b ∷ bs)) refl m in subst (λ (z : List ℕ). Writes (x.word z) z × (meaning (x.word z) ≡ Some (t.Name n))) i (x.a_word b bs e p, m)
word_of _ _ n (x.plus ds e) m = absurd (no_int (number_of false ds) n m)
word_of _ _ n (x.minus b ds c e) m = absurd (no_int (number_of true ds) n m)
word_of _ _ n (x.a_text r v w c e) m = absurd cc
word_of _ _ n (x.a_sign b e) m = absurd (no_sign b (t.Name n) tt m)

pub name_reads : (n : List ℕ) → IsToken (t.Name n) → Reads n (t.Name n ∷ [])
name_reads n f = let w = word_of f.lexeme f.bytes n f.written f.is in token_reads (x.word n) (t.Name n) n w.0 w.1

-- ---- texts

body_quote : (bs : List ℕ) → Body 39 bs (escaped bs ++ (39 ∷ [])) → Body 39 (39 ∷ bs) (escaped (39 ∷ bs) ++ (39 ∷ []))
unfolding escaped
body_quote bs h = x.escaped 39 bs (escaped bs ++ (39 ∷ [])) refl h

body_slash : (bs : List ℕ) → Body 39 bs (escaped bs ++ (39 ∷ [])) → Body 39 (92 ∷ bs) (escaped (92 ∷ bs) ++ (39 ∷ []))
unfolding escaped
body_slash bs h = x.escaped 92 bs (escaped bs ++ (39 ∷ [])) refl h

body_by : (b : ℕ) (bs : List ℕ) (y z : Bool) → (b == 39) ≡ y → (b == 92) ≡ z → Body 39 bs (escaped bs ++ (39 ∷ [])) → Body 39 (b ∷ bs) (escaped (b ∷ bs) ++ (39 ∷ []))
unfolding escaped
body_by b bs true z e f h = let i : b ≡ 39 = eqb-true b 39 e in subst (λ (u : ℕ). Body 39 (u ∷ bs) (escaped (u ∷ bs) ++ (39 ∷ []))) (sym i) (body_quote bs h)
body_by b bs false true e f h = let i : b ≡ 92 = eqb-true b 92 f in subst (λ (u : ℕ). Body 39 (u ∷ bs) (escaped (u ∷ bs) ++ (39 ∷ []))) (sym i) (body_slash bs h)
body_by b bs false false e f h = rw (e, f) (x.plain b bs (escaped bs ++ (39 ∷ [])) e f h)

body_is : (bs : List ℕ) → Body 39 bs (escaped bs ++ (39 ∷ []))
unfolding escaped
body_is [] = x.ends
body_is (b ∷ bs) = body_by b bs (b == 39) (b == 92) refl refl (body_is bs)

pub text_reads : (bs : List ℕ) → Reads (quoted bs) (t.Text bs ∷ [])
unfolding class
text_reads bs = token_reads (x.text bs) (t.Text bs) (quoted bs) (x.a_text 39 bs (escaped bs ++ (39 ∷ [])) refl (body_is bs)) refl

-- ---- integers

digit_class : (b : ℕ) → 48 < b → b ≤ 57 → class b ≡ q.Digit
unfolding class
digit_class b l g = grind (arith, nat_tests)

zero_class : class 48 ≡ q.Zero
unfolding class
zero_class = refl

digit_by : (b : ℕ) (z : Bool) → (b == 48) ≡ z → 48 ≤ b → b ≤ 57 → is_digit b ≡ true
digit_by b true e l g = let i : b ≡ 48 = eqb-true b 48 e in ap is_digit i ∙ ap is_digit_class zero_class
digit_by b false e l g = let h : 48 < b = grind (arith, nat_tests) in ap is_digit_class (digit_class b h g)

is_digit_in : (b : ℕ) → IsInRange 48 57 b → is_digit b ≡ true
is_digit_in b h = digit_by b (b == 48) refl h.0 h.1

digit_passes : (ds : List ℕ) → AllDigits 10 ds → Passes is_digit ds
digit_passes [] h = tt
digit_passes (b ∷ bs) h = (is_digit_in b (digit_from_value b h.0), digit_passes bs h.1)

no_text_int : (v : List ℕ) (i : ℤ) → Some (t.Text v) ≡ Some (t.Int i) → ⊥
no_text_int v i e = cc

number_shape : (ds : List ℕ) → 0 < length ds → AllDigits 10 ds → 48 < get_or ds 0 0 → IsNumber ds
number_shape [] lt a f = absurd (omega arith)
number_shape (b ∷ bs) lt a f = let r = digit_from_value b a.0 in let g : b ≤ 57 = r.1 in x.more b bs (digit_class b f g) (digit_passes bs a.1)

decimal_number : (n : ℕ) → n < 2 ^ 64 → IsNumber (decimal n)
decimal_number zero lt = subst IsNumber (sym (decimal_digit 0 (omega arith))) (x.zero 48 zero_class)
decimal_number (suc n) lt =
    let d = decimal_is_IsNumeral (suc n) lt in
    number_shape (decimal (suc n)) d.0.0 d.0.1 (first_decimal (suc n) (omega arith) lt)

plain_value : (n : ℕ) → n < 2 ^ 63 → number_of false (decimal n) ≡ Some (pos n)
plain_value n lt =
    let v : digits_value 10 (decimal n) ≡ n = (decimal_is_IsNumeral n (omega arith)).1 in
    let k : nat_lt n (2 ^ 63) ≡ true = grind (arith, nat_tests) in
    ap (λ (z : ℕ). cond (nat_lt z (2 ^ 63)) (Some (pos z)) None) v ∙ ap (λ (z : Bool). cond z (Some (pos n)) None) k

minus_value : (n : ℕ) → n < 2 ^ 63 → number_of true (decimal (suc n)) ≡ Some (negsuc n)
minus_value n lt =
    let v : digits_value 10 (decimal (suc n)) ≡ suc n = (decimal_is_IsNumeral (suc n) (omega arith)).1 in
    let k : nat_lt (2 ^ 63) (suc n) ≡ false = grind (arith, nat_tests) in
    ap (λ (z : ℕ). cond (nat_lt (2 ^ 63) z) None (Some (neg_ℤ (pos z)))) v ∙ ap (λ (z : Bool). cond z None (Some (neg_ℤ (pos (suc n))))) k

word_int : (w : List ℕ) (i : ℤ) (o : Option Token) → keyword w ≡ o → Some (or_name w o) ≡ Some (t.Int i) → ⊥
word_int w i None e f = cc
word_int w i (Some y) e f = no_keyword w (t.Int i) tt (e ∙ f)

int_is : (i : ℤ) (o : Option ℤ) → as_int o ≡ Some (t.Int i) → Some i ≡ o
int_is i None e = absurd (none_is (t.Int i) e)
int_is i (Some j) e = let g : i ≡ j = cc in ap (λ (z : ℤ). Some z) g

int_fits : (v : Lexeme) (w : List ℕ) (i : ℤ) → Writes v w → meaning v ≡ Some (t.Int i) → SFits w64 i
int_fits _ _ i (x.a_word b bs e p) m = absurd (word_int (b ∷ bs) i (keyword (b ∷ bs)) refl m)
int_fits _ _ i (x.plus ds e) m = number_fits false ds i (int_is i (number_of false ds) m)
int_fits _ _ i (x.minus b ds c e) m = number_fits true ds i (int_is i (number_of true ds) m)
int_fits _ _ i (x.a_text r v w c e) m = absurd (no_text_int v i m)
int_fits _ _ i (x.a_sign b e) m = absurd (no_sign b (t.Int i) tt m)

minus_class : class 45 ≡ q.Minus
unfolding class
minus_class = refl

int_by : (i : ℤ) → SFits w64 i → Reads (signed_decimal i) (t.Int i ∷ [])
int_by (pos n) f = let l : n < 2 ^ 63 = f.sfits in token_reads (x.number false (decimal n)) (t.Int (pos n)) (decimal n) (x.plus (decimal n) (decimal_number n (omega arith))) (ap as_int (plain_value n l))
int_by (negsuc n) f = let l : n < 2 ^ 63 = f.sfits in token_reads (x.number true (decimal (suc n))) (t.Int (negsuc n)) (45 ∷ decimal (suc n)) (x.minus 45 (decimal (suc n)) minus_class (decimal_number (suc n) (omega arith))) (ap as_int (minus_value n l))

pub int_reads : (i : ℤ) → IsToken (t.Int i) → Reads (signed_decimal i) (t.Int i ∷ [])
int_reads i f = int_by i (int_fits f.lexeme f.bytes i f.written f.is)
