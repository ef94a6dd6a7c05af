-- Which sources spell a statement, and where a source goes wrong.
use Rattle.std.specs.Prelude.{◌≡◌, ℕ, ◌+◌, List, [], ◌∷◌, ◌++◌, map, length, Result, Ok, Err}
use Rattle.ncc_pack.specs.declared.value.Value.{Value}
use Rattle.ncc_pack.specs.declared.value.Value.TheVariants as v
use Rattle.ncc_cypher.specs.declared.error.ParseError.{ParseError}
use Rattle.ncc_cypher.specs.declared.error.ParseError.TheVariants.{Memory}
use Rattle.ncc_cypher.specs.declared.token.Token.{Token}
use Rattle.ncc_cypher.specs.declared.tree.Statement.{Statement}
use Rattle.ncc_cypher.specs.declared.error.SyntaxKind.{SyntaxKind}
use Rattle.ncc_cypher.specs.declared.error.SyntaxKind.TheVariants.{BadToken, Unexpected}
use Rattle.ncc_cypher.specs.Token.{Begins, Placed, Tokens, tokens_of, past_blanks}
use Rattle.ncc_cypher.specs.Grammar.{Spells}
use Rattle.ncc_cypher.specs.Columns.{columns}

-- the source is tokens that spell the statement, with blanks between them and behind
pub record Spelled (statement : Statement) (source : List ℕ) : Type 0 where
  pub placed : List Placed
  pub end : List ℕ
  pub tokens : Tokens source placed end
  pub nothing : past_blanks end ≡ []
  pub spells : Spells statement (tokens_of placed)
  pub columns : statement.columns ≡ map v.Text (columns placed)

-- some spelled source begins with these tokens
pub record Continued (ts : List Token) : Type 0 where
  pub statement : Statement
  pub source : List ℕ
  pub spelled : Spelled statement source
  pub more : List Token
  pub same : tokens_of spelled.placed ≡ ts ++ more

-- at these bytes no token begins, or a token that no spelling continues behind those before
abbrev pub StopsHere : SyntaxKind → List Token → List ℕ → Type 0
StopsHere BadToken ts bytes = (token : Token) (rest : List ℕ) → Begins bytes token rest → ⊥
StopsHere Unexpected ts bytes = (token : Token) × (rest : List ℕ) × Begins bytes token rest × (Continued (ts ++ (token ∷ [])) → ⊥)

-- the source spells nothing, and this is the first place where it goes wrong: the tokens before are continued
pub record Stopped (source : List ℕ) (at : ℕ) (kind : SyntaxKind) : Type 0 where
  pub placed : List Placed
  pub end : List ℕ
  pub tokens : Tokens source placed end
  pub place : at + length (past_blanks end) ≡ length source
  pub before : Continued (tokens_of placed)
  pub here : StopsHere kind (tokens_of placed) (past_blanks end)
  pub never : (s : Statement) → Spelled s source → ⊥

-- the first, or want of memory
abbrev pub IsOrMemory : Result Statement ParseError → Result Statement ParseError → Type 0
IsOrMemory (Err Memory) r = Unit {0}
IsOrMemory (Err e) r = r ≡ Err e
IsOrMemory (Ok s) r = r ≡ Ok s

-- the source spells the statement, but for its columns
abbrev pub Again : Statement → List ℕ → Type 0
Again s source = (names : List Value) × Spelled (record s { columns = names }) source
