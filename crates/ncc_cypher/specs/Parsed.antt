-- Reading as a function of the source: its longest tokens from left to right, the machine over them, and the columns.
use Rattle.std.specs.Prelude.{◌≡◌, ℕ, zero, suc, ◌-◌, List, [], ◌∷◌, length, map, Option, Some, None, Result, Ok, Err}
use Rattle.ncc_pack.specs.declared.value.Value.TheVariants as v
use Rattle.ncc_cypher.specs.declared.token.Token.{Token}
use Rattle.ncc_cypher.specs.declared.tree.Statement.{Statement}
use Rattle.ncc_cypher.specs.declared.error.ParseError.{ParseError}
use Rattle.ncc_cypher.specs.declared.error.ParseError.TheVariants.{Syntax, Memory}
use Rattle.ncc_cypher.specs.declared.error.SyntaxKind.{SyntaxKind}
use Rattle.ncc_cypher.specs.declared.error.SyntaxKind.TheVariants.{BadToken, Unexpected}
use Rattle.ncc_cypher.specs.State.{State}
use Rattle.ncc_cypher.specs.State as s
use Rattle.ncc_cypher.specs.Token.{Placed, past_blanks}
use Rattle.ncc_cypher.specs.Scan.{token_at}
use Rattle.ncc_cypher.specs.Grammar.{Name}
use Rattle.ncc_cypher.specs.Columns.{columns}
use Rattle.ncc_cypher.specs.Machine.{step, accepts}

-- a statement, or where and how a source goes wrong
abbrev pub Answer : Type 0
Answer = Result Statement (ℕ × SyntaxKind)

-- ---- the tokens of a source

abbrev pub front_by : (List ℕ → List Placed × List ℕ) → List ℕ → Option (Token × List ℕ) → List Placed × List ℕ
front_by f bytes None = ([], bytes)
front_by f bytes (Some r) = (record { what = r.0; from = past_blanks bytes; to = r.1 } ∷ (f r.1).0, (f r.1).1)

-- the tokens that the bytes begin with, so many at most, and the bytes behind them
unfoldable pub front : ℕ → List ℕ → List Placed × List ℕ
front zero bytes = ([], bytes)
front (suc n) bytes = front_by (λ rest. front n rest) bytes (token_at (past_blanks bytes))

-- all, since each has a byte at least
abbrev pub scanned : List ℕ → List Placed × List ℕ
scanned source = front (length source) source

-- ---- the machine over them. A refusal says how many bytes are left

abbrev pub named_by : List Name → Option Statement → Answer
named_by names None = Err (0, BadToken)
named_by names (Some y) = Ok (record y { columns = map v.Text names })

-- where no token follows
abbrev pub ended : List Name → State → List ℕ → Answer
ended names x [] = named_by names (accepts x)
ended names x bytes = Err (length bytes, BadToken)

abbrev pub goes : (State → Answer) → ℕ → Option State → Answer
goes f left None = Err (left, Unexpected)
goes f left (Some x) = f x

-- from a state on
unfoldable pub whole : List Name → List ℕ → State → List Placed → Answer
whole names bytes x [] = ended names x bytes
whole names bytes x (p ∷ ps) = goes (λ r. whole names bytes r ps) (length p.from) (step x p.what)

abbrev pub at_place : ℕ → Answer → Answer
at_place n (Ok y) = Ok y
at_place n (Err e) = Err (n - e.0, e.1)

-- what a source is: the statement that it spells, or where and how it goes wrong
unfoldable pub parsed : List ℕ → Answer
parsed source = at_place (length source) (whole (columns (scanned source).0) (past_blanks (scanned source).1) s.Start (scanned source).0)

-- what the code answers: this, or that there is no memory
abbrev pub IsAnswer : Result Statement ParseError → Answer → Type 0
IsAnswer (Ok y) r = r ≡ Ok y
IsAnswer (Err Memory) r = Unit {0}
IsAnswer (Err (Syntax at kind)) r = r ≡ Err (at, kind)
