-- The tokens that bytes begin with, one by one.
use Rattle.std.proofs.Common.{◌≡◌, ◌≤◌, ◌<◌, ℕ, zero, suc, ◌-◌, List, [], ◌∷◌, length, Option, Some, None, Ok, Err, refl, sym, ap, ◌∙◌, arith}
use Rattle.ncc_pack.specs.declared.value.Value.{Value}
use Rattle.ncc_cypher.specs.declared.tree.Statement.{Statement}
use Rattle.ncc_cypher.specs.declared.error.SyntaxKind.{SyntaxKind}
use Rattle.ncc_cypher.specs.declared.reader.Reader.{Reader}
use Rattle.ncc_cypher.specs.State as s
use Rattle.ncc_cypher.specs.Columns.{columns}
use Rattle.ncc_cypher.specs.declared.token.Token.{Token}
use Rattle.ncc_cypher.specs.Token.{Placed, past_blanks}
use Rattle.ncc_cypher.specs.Scan.{token_at}
use Rattle.ncc_cypher.specs.Parsed.{Answer, front_by, front, scanned, named_by, whole, at_place, parsed}
use Rattle.ncc_cypher.specs.Reading.{Ahead, tokens_in, ahead_by, ahead, left, reads, column_values}
use Rattle.ncc_cypher.proofs.Sources.{nothing}
use Rattle.ncc_cypher.proofs.Answered.{shorter}

no_length : (bytes : List ℕ) → length bytes ≤ 0 → bytes ≡ []
no_length [] le = refl
no_length (b ∷ bs) le = absurd (omega arith)

blanks_none : (bytes : List ℕ) → bytes ≡ [] → past_blanks bytes ≡ []
blanks_none [] e = refl
blanks_none (b ∷ bs) e = absurd cc

same_by : (f g : List ℕ → List Placed × List ℕ) (bytes : List ℕ) (o : Option (Token × List ℕ)) → token_at (past_blanks bytes) ≡ o → ((rest : List ℕ) → length rest < length bytes → f rest ≡ g rest) → front_by f bytes o ≡ front_by g bytes o
same_by f g bytes None e h = refl
same_by f g bytes (Some r) e h = ap (λ (z : List Placed × List ℕ). (record { what = r.0; from = past_blanks bytes; to = r.1 } ∷ z.0, z.1)) (h r.1 (shorter bytes r.0 r.1 e))

none_by : (f : List ℕ → List Placed × List ℕ) (bytes : List ℕ) → length bytes ≤ 0 → ([], bytes) ≡ front_by f bytes (token_at (past_blanks bytes))
none_by f bytes le = ap (front_by f bytes) (sym (nothing (past_blanks bytes) (blanks_none bytes (no_length bytes le))))

-- enough is enough
same_front : (n m : ℕ) (bytes : List ℕ) → length bytes ≤ n → length bytes ≤ m → front n bytes ≡ front m bytes
unfolding front
same_front zero zero bytes le lm = refl
same_front zero (suc m) bytes le lm = none_by (λ rest. front m rest) bytes le
same_front (suc n) zero bytes le lm = sym (none_by (λ rest. front n rest) bytes lm)
same_front (suc n) (suc m) bytes le lm = same_by (λ rest. front n rest) (λ rest. front m rest) bytes (token_at (past_blanks bytes)) refl (λ rest lt. same_front n m rest (omega arith) (omega arith))

one_front : (n : ℕ) (bytes : List ℕ) → n ≡ length bytes → front n bytes ≡ front_by scanned bytes (token_at (past_blanks bytes))
unfolding front
one_front zero bytes e = none_by scanned bytes (omega arith)
one_front (suc n) bytes e = same_by (λ rest. front n rest) scanned bytes (token_at (past_blanks bytes)) refl (λ rest lt. same_front n (length rest) rest (omega arith) (omega arith))

ahead_of : Option (Token × List ℕ) → List ℕ → Ahead
ahead_of None from = ([], from)
ahead_of (Some r) from = ahead_by (Some r.0) from r.1

by_front : (bytes : List ℕ) (o : Option (Token × List ℕ)) → scanned bytes ≡ front_by scanned bytes o → tokens_in bytes ≡ ahead_of o (past_blanks bytes)
unfolding tokens_in ahead_of
by_front bytes None e = ap (λ (z : List Placed × List ℕ). (z.0, past_blanks z.1)) e
by_front bytes (Some r) e = ap (λ (z : List Placed × List ℕ). (z.0, past_blanks z.1)) e

pub tokens_some : (bytes : List ℕ) (x : Token) (rest : List ℕ) → token_at (past_blanks bytes) ≡ Some (x, rest) → tokens_in bytes ≡ ahead_by (Some x) (past_blanks bytes) rest
unfolding ahead_of
tokens_some bytes x rest e = by_front bytes (Some (x, rest)) (one_front (length bytes) bytes refl ∙ ap (front_by scanned bytes) e)

pub tokens_none : (bytes : List ℕ) → token_at (past_blanks bytes) ≡ None → tokens_in bytes ≡ ([], past_blanks bytes)
unfolding ahead_of
tokens_none bytes e = by_front bytes None (one_front (length bytes) bytes refl ∙ ap (front_by scanned bytes) e)

-- ---- for `read`

abbrev answer : ℕ → Ahead → Answer
answer n a = at_place n (whole (columns a.0) a.1 s.Start a.0)

parsed_ahead : (source : List ℕ) (r : Reader) → ahead r ≡ tokens_in source → parsed source ≡ answer (length source) (ahead r)
unfolding parsed tokens_in
parsed_ahead source r e = ap (answer (length source)) (sym e)

pub read_ok : (source : List ℕ) (r : Reader) (y : Statement) → ahead r ≡ tokens_in source → reads (columns (left r)) s.Start r ≡ named_by (columns (left r)) (Some y) → y.columns ≡ column_values (columns (left r)) → parsed source ≡ Ok y
read_ok source r y e f c = parsed_ahead source r e ∙ ap (at_place (length source)) f ∙ ap (λ (z : List Value). Ok (record y { columns = z })) (sym c)

pub read_err : (source : List ℕ) (r : Reader) (n : ℕ) (kind : SyntaxKind) → ahead r ≡ tokens_in source → reads (columns (left r)) s.Start r ≡ Err (n, kind) → parsed source ≡ Err (length source - n, kind)
read_err source r n kind e f = parsed_ahead source r e ∙ ap (at_place (length source)) f
