-- The tokens of a source are one list, and tokens with spaces behind them are those of a source.
use Rattle.std.proofs.Common.{◌≡◌, ℕ, suc, ◌+◌, false, List, [], ◌∷◌, ◌++◌, drop, Option, Some, None, refl, sym, ap, subst, ◌∙◌, arith}
use Rattle.std.specs.List.{prefix_len}
use Rattle.ncc_cypher.specs.declared.class.Class.{Class}
use Rattle.ncc_cypher.specs.declared.class.Class.TheVariants.{Letter, Zero, Digit, Minus, Quote, Sign}
use Rattle.ncc_cypher.specs.declared.token.Token.{Token}
use Rattle.ncc_cypher.specs.Class.{class, is_digit, is_word}
use Rattle.ncc_cypher.specs.Lexeme.{Lexeme, Writes, a_word, plus, minus, a_text, a_sign, IsNumber, zero, more, Longest}
use Rattle.ncc_cypher.specs.Scan.{lexeme_at, token_at, token_of, with_rest}
use Rattle.ncc_cypher.specs.Token as k
use Rattle.ncc_cypher.specs.Token.{meaning, Begins, is_blank, is_blank_class, past_blanks, Placed, tokens_of, Tokens}
use Rattle.ncc_cypher.specs.Grammar.{Every}
use Rattle.ncc_cypher.proofs.Lexemes.{some, only, again}

-- ---- a token at a place

pair_is : (a b : Token × List ℕ) → Some a ≡ Some b → a ≡ b
pair_is a b e = cc

no_pair : (a : Token × List ℕ) → None ≡ Some a → ⊥
no_pair a e = cc

pub begins_is : (bytes : List ℕ) (t : Token) (rest : List ℕ) → Begins bytes t rest → token_at bytes ≡ Some (t, rest)
unfolding token_at
begins_is bytes t rest b = ap token_of (only bytes b.lexeme rest b.longest) ∙ ap (λ (z : Option Token). with_rest z rest) b.is

meaning_is : (bytes : List ℕ) (t : Token) (rest : List ℕ) (x : Lexeme) (left : List ℕ) (o : Option Token) → lexeme_at bytes ≡ Some (x, left) → meaning x ≡ o → with_rest o left ≡ Some (t, rest) → Begins bytes t rest
meaning_is bytes t rest x left None e m f = absurd cc
meaning_is bytes t rest x left (Some u) e m f =
    let p = pair_is (u, left) (t, rest) f in
    let i : u ≡ t = ap (λ (z : Token × List ℕ). z.0) p in
    let j : left ≡ rest = ap (λ (z : Token × List ℕ). z.1) p in
    record { lexeme = x; longest = subst (λ (z : List ℕ). Longest bytes x z) j (some bytes x left e); is = m ∙ ap (λ (z : Token). Some z) i }

token_is : (bytes : List ℕ) (t : Token) (rest : List ℕ) (o : Option (Lexeme × List ℕ)) → lexeme_at bytes ≡ o → token_of o ≡ Some (t, rest) → Begins bytes t rest
token_is bytes t rest None e f = absurd cc
token_is bytes t rest (Some r) e f = meaning_is bytes t rest r.0 r.1 (meaning r.0) e refl f

pub token_begins : (bytes : List ℕ) (t : Token) (rest : List ℕ) → token_at bytes ≡ Some (t, rest) → Begins bytes t rest
unfolding token_at
token_begins bytes t rest e = token_is bytes t rest (lexeme_at bytes) refl e

pub none_begins : (bytes : List ℕ) → token_at bytes ≡ None → (t : Token) (rest : List ℕ) → Begins bytes t rest → ⊥
none_begins bytes e t rest b = no_pair (t, rest) (sym e ∙ begins_is bytes t rest b)

pub nothing : (bytes : List ℕ) → bytes ≡ [] → token_at bytes ≡ None
unfolding token_at lexeme_at
nothing [] e = refl
nothing (b ∷ bs) e = absurd cc

-- ---- lists of tokens

-- one more token
pub tokens_more : (bytes : List ℕ) (ps : List Placed) (end : List ℕ) (t : Token) (rest : List ℕ) → Tokens bytes ps end → Begins (past_blanks end) t rest → Tokens bytes (ps ++ (record { what = t; from = past_blanks end; to = rest } ∷ [])) rest
tokens_more _ _ _ t rest (k.stop bytes) b = k.more bytes rest rest t [] b (k.stop rest)
tokens_more _ _ _ t rest (k.more bytes left end u others c o) b = k.more bytes left rest u (others ++ (record { what = t; from = past_blanks end; to = rest } ∷ [])) c (tokens_more left others end t rest o b)

-- what is left behind the first of them
pub record Left (ps : List Placed) (qs : List Placed) (end whole : List ℕ) : Type 0 where
  pub left : List Placed
  pub parts : qs ≡ ps ++ left
  pub tokens : Tokens end left whole

pub same_token : (bytes : List ℕ) (t u : Token) (rest left : List ℕ) → Begins bytes t rest → Begins bytes u left → (t ≡ u) × (rest ≡ left)
same_token bytes t u rest left b c =
    let p = pair_is (t, rest) (u, left) (sym (begins_is bytes t rest b) ∙ begins_is bytes u left c) in
    (ap (λ (z : Token × List ℕ). z.0) p, ap (λ (z : Token × List ℕ). z.1) p)

both_more : (bytes rest end : List ℕ) (t : Token) (others qs : List Placed) (whole : List ℕ) → ((qs : List Placed) (whole : List ℕ) → Tokens rest qs whole → token_at (past_blanks whole) ≡ None → Left others qs end whole) → Begins (past_blanks bytes) t rest → Tokens bytes qs whole → token_at (past_blanks whole) ≡ None
    → Left (record { what = t; from = past_blanks bytes; to = rest } ∷ others) qs end whole
both_more _ rest end t others _ _ h b (k.stop bytes) e = absurd (none_begins (past_blanks bytes) e t rest b)
both_more _ rest end t others _ _ h b (k.more bytes left whole u qs c p) e =
    let i = same_token (past_blanks bytes) t u rest left b c in
    let w = h qs whole (subst (λ (z : List ℕ). Tokens z qs whole) (sym i.1) p) e in
    record {
      left = w.left;
      parts = ap (λ (z : Token). record { what = z; from = past_blanks bytes; to = left } ∷ qs) (sym i.0) ∙ ap (λ (z : List ℕ). record { what = t; from = past_blanks bytes; to = z } ∷ qs) (sym i.1) ∙ ap (λ (z : List Placed). record { what = t; from = past_blanks bytes; to = rest } ∷ z) w.parts;
      tokens = w.tokens;
    }

-- a list behind which no token begins goes on from each list of the same bytes
pub goes_further : (bytes : List ℕ) (ps : List Placed) (end : List ℕ) (qs : List Placed) (whole : List ℕ) → Tokens bytes ps end → Tokens bytes qs whole → token_at (past_blanks whole) ≡ None → Left ps qs end whole
goes_further _ _ _ qs whole (k.stop bytes) o e = record { left = qs; parts = refl; tokens = o }
goes_further _ _ _ qs whole (k.more bytes rest end t others b o) p e = both_more bytes rest end t others qs whole (λ us w q f. goes_further rest others end us w o q f) b p e

-- ---- tokens that some bytes write

pub record IsToken (t : Token) : Type 0 where
  pub lexeme : Lexeme
  pub bytes : List ℕ
  pub written : Writes lexeme bytes
  pub is : meaning lexeme ≡ Some t

pub all_tokens : (bytes : List ℕ) (ps : List Placed) (end : List ℕ) → Tokens bytes ps end → Every IsToken (tokens_of ps)
all_tokens _ _ _ (k.stop bytes) = tt
all_tokens _ _ _ (k.more bytes rest end t others b o) = (record { lexeme = b.lexeme; bytes = b.longest.front; written = b.longest.written; is = b.is }, all_tokens rest others end o)

-- what can be written doesn't begin with a blank
first_is : (b : ℕ) (bs : List ℕ) (c : Class) → class b ≡ c → is_blank_class c ≡ false → past_blanks (b ∷ bs) ≡ b ∷ bs
first_is b bs c e n = let i : is_blank b ≡ false = ap is_blank_class e ∙ n in rw i refl

number_first : (ds more : List ℕ) → IsNumber ds → past_blanks (ds ++ more) ≡ ds ++ more
number_first _ rest (zero b e) = first_is b rest Zero e refl
number_first _ rest (more b bs e p) = first_is b (bs ++ rest) Digit e refl

pub starts : (x : Lexeme) (w rest : List ℕ) → Writes x w → past_blanks (w ++ rest) ≡ w ++ rest
starts _ _ rest (a_word b bs e p) = first_is b (bs ++ rest) Letter e refl
starts _ _ rest (plus ds n) = number_first ds rest n
starts _ _ rest (minus b ds e n) = first_is b (ds ++ rest) Minus e refl
starts _ _ rest (a_text q v w e b) = first_is q (w ++ rest) Quote e refl
starts _ _ rest (a_sign b e) = first_is b rest Sign e refl

-- nothing longer stands where a byte follows that no word holds
pub stopped : (x : Lexeme) (w rest : List ℕ) → Writes x w → prefix_len is_word rest ≡ 0 → prefix_len is_digit rest ≡ 0 → lexeme_at (w ++ rest) ≡ Some (x, rest)
stopped x w rest written e f =
    let r = again x w rest written in
    let n : r.n ≡ 0 = r.stop e f in
    r.reads ∙ ap (λ (z : Lexeme). Some (z, drop r.n rest)) (r.same n) ∙ ap (λ (q : ℕ). Some (x, drop q rest)) n

pub token_stopped : (x : Lexeme) (t : Token) (w rest : List ℕ) → Writes x w → meaning x ≡ Some t → prefix_len is_word rest ≡ 0 → prefix_len is_digit rest ≡ 0 → Begins (past_blanks (w ++ rest)) t rest
token_stopped x t w rest written m e f = record { lexeme = x; longest = subst (λ (z : List ℕ). Longest z x rest) (sym (starts x w rest written)) (some (w ++ rest) x rest (stopped x w rest written e f)); is = m }

past_space : (bs : List ℕ) → past_blanks (32 ∷ bs) ≡ past_blanks bs
unfolding class
past_space bs = let i : 1 + prefix_len is_blank bs ≡ suc (prefix_len is_blank bs) = omega arith in rw i refl

pub behind_space : (bs : List ℕ) (ps : List Placed) (end : List ℕ) → Tokens bs ps end → past_blanks end ≡ [] → (e : List ℕ) × Tokens (32 ∷ bs) ps e × (past_blanks e ≡ [])
behind_space _ _ _ (k.stop bs) n = (32 ∷ bs, k.stop (32 ∷ bs), past_space bs ∙ n)
behind_space _ _ _ (k.more bs rest end t others b o) n =
    (end, subst (λ (z : List ℕ). Tokens (32 ∷ bs) (record { what = t; from = z; to = rest } ∷ others) end) (past_space bs) (k.more (32 ∷ bs) rest end t others (subst (λ (z : List ℕ). Begins z t rest) (sym (past_space bs)) b) o), n)

-- a source with these tokens
pub record Source (ts : List Token) : Type 0 where
  pub bytes : List ℕ
  pub placed : List Placed
  pub end : List ℕ
  pub tokens : Tokens bytes placed end
  pub nothing : past_blanks end ≡ []
  pub same : tokens_of placed ≡ ts

space_stops : (bs : List ℕ) → (prefix_len is_word (32 ∷ bs) ≡ 0) × (prefix_len is_digit (32 ∷ bs) ≡ 0)
unfolding class
space_stops bs = (refl, refl)

pub has_source : (ts : List Token) → Every IsToken ts → Source ts
has_source [] f = record { bytes = []; placed = []; end = []; tokens = k.stop []; nothing = refl; same = refl }
has_source (t ∷ ts) f =
    let r = has_source ts f.1 in
    let s = behind_space r.bytes r.placed r.end r.tokens r.nothing in
    let w = f.0 in
    let z = space_stops r.bytes in
    record {
      bytes = w.bytes ++ (32 ∷ r.bytes);
      placed = record { what = t; from = past_blanks (w.bytes ++ (32 ∷ r.bytes)); to = 32 ∷ r.bytes } ∷ r.placed;
      end = s.0;
      tokens = k.more (w.bytes ++ (32 ∷ r.bytes)) (32 ∷ r.bytes) s.0 t r.placed (token_stopped w.lexeme t w.bytes (32 ∷ r.bytes) w.written w.is z.0 z.1) s.1;
      nothing = s.2;
      same = ap (λ (q : List Token). t ∷ q) r.same;
    }
