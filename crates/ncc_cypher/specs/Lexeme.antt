-- How words, integers, texts and signs are written, and which of them stands at a place: the longest.
use Rattle.std.specs.Prelude.{◌≡◌, ℕ, ◌≤◌, Bool, true, false, List, [], ◌∷◌, ◌++◌, length, ◌==◌}
use Rattle.ncc_cypher.specs.declared.class.Class.TheVariants.{Letter, Zero, Digit, Minus, Quote, Sign}
use Rattle.ncc_cypher.specs.Class.{class, is_digit, is_word, escape, is_escape}

-- a word, an integer with a minus or not and its digits, a text by its value, a sign
pub data Lexeme : Type 0 where
  word : List ℕ → Lexeme
  number : Bool → List ℕ → Lexeme
  text : List ℕ → Lexeme
  sign : ℕ → Lexeme

-- each byte passes the test
abbrev pub Passes : (ℕ → Bool) → List ℕ → Type 0
Passes p [] = Unit {0}
Passes p (b ∷ bs) = (p b ≡ true) × Passes p bs

-- 0, or digits that don't begin with 0
pub data IsNumber : List ℕ → Type 0 where
  zero : (b : ℕ) → class b ≡ Zero → IsNumber (b ∷ [])
  more : (b : ℕ) (bs : List ℕ) → class b ≡ Digit → Passes is_digit bs → IsNumber (b ∷ bs)

-- a text's value, and its bytes up to the closing quote: any but the quote and the backslash, and escapes
pub data Body (q : ℕ) : List ℕ → List ℕ → Type 0 where
  ends : Body q [] (q ∷ [])
  plain : (b : ℕ) (v w : List ℕ) → (b == q) ≡ false → (b == 92) ≡ false → Body q v w → Body q (b ∷ v) (b ∷ w)
  escaped : (e : ℕ) (v w : List ℕ) → is_escape e ≡ true → Body q v w → Body q (escape e ∷ v) (92 ∷ e ∷ w)

-- which bytes write a lexeme
pub data Writes : Lexeme → List ℕ → Type 0 where
  a_word : (b : ℕ) (bs : List ℕ) → class b ≡ Letter → Passes is_word bs → Writes (word (b ∷ bs)) (b ∷ bs)
  plus : (ds : List ℕ) → IsNumber ds → Writes (number false ds) ds
  minus : (b : ℕ) (ds : List ℕ) → class b ≡ Minus → IsNumber ds → Writes (number true ds) (b ∷ ds)
  a_text : (q : ℕ) (v w : List ℕ) → class q ≡ Quote → Body q v w → Writes (text v) (q ∷ w)
  a_sign : (b : ℕ) → class b ≡ Sign → Writes (sign b) (b ∷ [])

-- the longest lexeme that the bytes begin with, and what follows it
pub record Longest (bytes : List ℕ) (x : Lexeme) (rest : List ℕ) : Type 0 where
  pub front : List ℕ
  pub parts : bytes ≡ front ++ rest
  pub written : Writes x front
  pub longest : (y : Lexeme) (other more : List ℕ) → Writes y other → bytes ≡ other ++ more → length other ≤ length front
