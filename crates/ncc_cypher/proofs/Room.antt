-- The columns have no more bytes than the source, even with one more for each.
use Rattle.std.proofs.Common.{◌≡◌, ◌≤◌, ◌<◌, ℕ, suc, ◌+◌, ◌-◌, List, [], ◌∷◌, ◌++◌, length, take, map, Option, Some, None, Result, Ok, Err, refl, sym, ap, subst, ◌∙◌, arith}
use Rattle.std.specs.Prelude.{IfOk, false, true}
use Rattle.std.proofs.lemmas.List.{length-append, length-take}
use Rattle.ncc_cypher.specs.declared.token.Token.{Token}
use Rattle.ncc_cypher.specs.declared.token.Token.TheVariants as t
use Rattle.ncc_cypher.specs.declared.tree.Statement.{Statement}
use Rattle.ncc_cypher.specs.declared.error.ParseError.{ParseError}
use Rattle.ncc_cypher.specs.Lexeme.{Lexeme, Writes, a_word, plus, minus, a_text, a_sign}
use Rattle.ncc_cypher.specs.Token as k
use Rattle.ncc_cypher.specs.Token.{Begins, Placed, Tokens, past_blanks, keyword, meaning}
use Rattle.ncc_cypher.specs.Grammar.{Name}
use Rattle.ncc_cypher.specs.Columns.{between, behind, source_of, name_of, name_if, alias_of, or_source, column, part_at, parts, at_return, columns, room, Within}
use Rattle.ncc_cypher.specs.Number.{number_of}
use Rattle.ncc_cypher.specs.Spelled.{Spelled}
use Rattle.ncc_cypher.specs.Parsed.{parsed, IsAnswer}
use Rattle.ncc_cypher.proofs.Exact.{is_found}
use Rattle.ncc_cypher.proofs.Names.{no_int, no_sign, same_word}
use Rattle.ncc_cypher.proofs.Ended.{alias_more, behind_more, last_what}
use Rattle.ncc_cypher.proofs.Answered.{blank_front, written_some}

-- ---- a name is no longer than its bytes

written_name : (x : Lexeme) (front : List ℕ) (n : Name) → Writes x front → meaning x ≡ Some (t.Name n) → length n ≤ length front
written_name _ _ n (a_word b bs c p) e = let i : b ∷ bs ≡ n = same_word (b ∷ bs) n (keyword (b ∷ bs)) refl e in omega (arith, ap length i)
written_name _ _ n (plus ds f) e = absurd (no_int (number_of false ds) n e)
written_name _ _ n (minus b ds c f) e = absurd (no_int (number_of true ds) n e)
written_name _ _ n (a_text q v w c f) e = absurd cc
written_name _ _ n (a_sign b c) e = absurd (no_sign b n e)

name_is : (x : Token) (n : Name) → name_of x ≡ Some n → x ≡ t.Name n
name_is (t.Name m) n e = cc
name_is _ n e = absurd cc

token_name : (bytes : List ℕ) (x : Token) (rest : List ℕ) (n : Name) → Begins bytes x rest → name_of x ≡ Some n → length n + length rest ≤ length bytes
token_name bytes x rest n b e =
    let w = written_name b.lexeme b.longest.front n b.longest.written (b.is ∙ ap (λ (z : Token). Some z) (name_is x n e)) in
    omega (arith, w, ap length b.longest.parts, length-append b.longest.front rest)

-- ---- an item's tokens so far, from bytes of this length up to these

abbrev StartsBy : ℕ → List Placed → Type 0
StartsBy start [] = Unit {0}
StartsBy start (p ∷ ps) = length p.from ≤ start

named_end : (x y : Token) (n : Name) → name_if x y ≡ Some n → name_of y ≡ Some n
named_end t.As y n e = e
named_end _ y n e = absurd cc

within_by : (o : Option Name) (source : List ℕ) (start stop : ℕ) → length source + stop ≤ start → ((n : Name) → o ≡ Some n → length n + stop ≤ start) → length (or_source o source) + stop ≤ start
within_by None source start stop h f = h
within_by (Some n) source start stop h f = f n refl

between_within : (from to : List ℕ) (start : ℕ) → length from ≤ start → length to ≤ start → length (between from to) + length to ≤ start
between_within from to start f le = omega (arith, length-take (length from - length to) from)

column_within : (part : List Placed) (q : Placed) (start stop : ℕ) → StartsBy start part → stop ≤ start → length q.from ≤ stop → length q.to ≤ length q.from → ((n : Name) → name_of q.what ≡ Some n → length n + length q.to ≤ length q.from) → length (column (part ++ (q ∷ []))) + length q.to ≤ start
column_within [] q start stop s le f g named = between_within q.from q.to start (omega arith) (omega arith)
column_within (p ∷ ps) q start stop s le f g named =
    let to : behind p.to (ps ++ (q ∷ [])) ≡ q.to = behind_more p.to ps q in
    let h : length (source_of ((p ∷ ps) ++ (q ∷ []))) + length q.to ≤ start = subst (λ (z : List ℕ). length (between p.from z) + length q.to ≤ start) (sym to) (between_within p.from q.to start s (omega arith)) in
    within_by (alias_of ((p ∷ ps) ++ (q ∷ []))) (source_of ((p ∷ ps) ++ (q ∷ []))) start (length q.to) h
    (λ n e. let k = named n (named_end (last_what p ps) q.what n (sym (alias_more p ps q) ∙ e)) in omega arith)

starts_more : (part : List Placed) (q : Placed) (start stop : ℕ) → StartsBy start part → stop ≤ start → length q.from ≤ stop → StartsBy start (part ++ (q ∷ []))
starts_more [] q start stop s le f = omega arith
starts_more (p ∷ ps) q start stop s le f = s

-- ---- all items

token_shorter : (bytes : List ℕ) (x : Token) (rest : List ℕ) → Begins bytes x rest → length rest < length bytes
token_shorter bytes x rest b = let w = written_some b.lexeme b.longest.front b.longest.written in omega (arith, w, ap length b.longest.parts, length-append b.longest.front rest)

blanks_shorter : (bytes : List ℕ) → length (past_blanks bytes) ≤ length bytes
blanks_shorter bytes = let f = blank_front bytes in omega (arith, ap length f.1, length-append f.0 (past_blanks bytes))

-- one token more: it ends the item, or belongs to it
by_token : (x : Token) (a b c : List (List Placed)) (start : ℕ) → room (map column a) ≤ start → room (map column b) ≤ start → room (map column c) ≤ start → room (map column (part_at a b c x)) ≤ start
by_token t.Comma a b c start f g h = f
by_token t.Semicolon a b c start f g h = g
by_token _ a b c start f g h = h

rooms : (rest : List ℕ) (qs : List Placed) (end : List ℕ) (part : List Placed) (start : ℕ) → Tokens rest qs end → StartsBy start part → length (column part) + length rest ≤ start → room (map column (parts part qs)) ≤ start + 1
rooms _ _ _ part start (k.stop rest) s f = omega arith
rooms _ _ _ part start (k.more rest after end x others b o) s f =
    let p : Placed = record { what = x; from = past_blanks rest; to = after } in
    let lt = token_shorter (past_blanks rest) x after b in
    let le = blanks_shorter rest in
    let over : room (map column (parts [] others)) ≤ length after + 1 = rooms after others end [] (length after) o tt (omega arith) in
    let stays : room (map column (parts (part ++ (p ∷ [])) others)) ≤ start + 1 =
    rooms after others end (part ++ (p ∷ [])) start o (starts_more part p start (length rest) s (omega arith) le) (column_within part p start (length rest) s (omega arith) le (omega arith) (λ n e. token_name (past_blanks rest) x after n b e)) in
    by_token x (part ∷ parts [] others) (part ∷ []) (parts (part ++ (p ∷ [])) others) (start + 1) (omega arith) (omega arith) stays

by_return : (x : Token) (a b : List Name) (start : ℕ) → room a ≤ start → room b ≤ start → room (at_return a b x) ≤ start
by_return t.Return a b start f g = f
by_return _ a b start f g = g

columns_within : (bytes : List ℕ) (ps : List Placed) (end : List ℕ) → Tokens bytes ps end → room (columns ps) ≤ length bytes
unfolding columns
columns_within _ _ _ (k.stop bytes) = omega arith
columns_within _ _ _ (k.more bytes rest end x others b o) =
    let lt = token_shorter (past_blanks bytes) x rest b in
    let le = blanks_shorter bytes in
    let one = rooms rest others end [] (length rest) o tt (omega arith) in
    let all = columns_within rest others end o in
    by_return x (map column (parts [] others)) (columns others) (length bytes) (omega arith) (omega arith)

pub within : (source : List ℕ) (y : Statement) → Spelled y source → Within source y
within source y w = record { names = columns w.placed; are = w.columns; room = columns_within source w.placed w.end w.tokens }

pub is_within : (source : List ℕ) (r : Result Statement ParseError) → IsAnswer r (parsed source) → IfOk r (λ y. Within source y)
is_within source (Ok y) e = within source y (is_found source (Ok y) e)
is_within source (Err e) w = tt
