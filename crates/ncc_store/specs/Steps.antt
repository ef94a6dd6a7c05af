-- Steps that were made of a source.
use Rattle.std.specs.Prelude.{◌≡◌, ℕ, Result, Ok, Err}
use Rattle.ncc_cypher.specs.declared.tree.Statement.{Statement}
use Rattle.ncc_cypher.specs.declared.error.ParseError.{ParseError}
use Rattle.ncc_cypher.specs.declared.error.ParseError.TheVariants.{Syntax, Memory}
use Rattle.ncc_cypher.specs.declared.error.SyntaxKind.{SyntaxKind}

-- a step of this statement, or want of memory
abbrev pub IsOf : {A : Type 0} → (A → Statement) → Statement → Result A ParseError → Type 0
IsOf statement_of statement (Ok s) = statement_of s ≡ statement
IsOf statement_of statement (Err (Syntax at kind)) = ⊥
IsOf statement_of statement (Err Memory) = Unit {0}

-- a step of what a source is parsed to, or want of memory
abbrev pub IsParsed : {A : Type 0} → (A → Statement) → Result Statement (ℕ × SyntaxKind) → Result A ParseError → Type 0
IsParsed statement_of answer (Ok s) = answer ≡ Ok (statement_of s)
IsParsed statement_of answer (Err (Syntax at kind)) = answer ≡ Err (at, kind)
IsParsed statement_of answer (Err Memory) = Unit {0}
