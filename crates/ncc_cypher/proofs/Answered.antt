-- What reading token by token answers is what the source spells.
use Rattle.std.proofs.Common.{◌≡◌, ℕ, ◌+◌, ◌-◌, ◌<◌, Bool, true, false, List, [], ◌∷◌, ◌++◌, suc, length, take, map, Option, Some, None, Result, Ok, Err, refl, sym, ap, subst, ◌∙◌, append_assoc, arith}
use Rattle.std.specs.List.{prefix_len}
use Rattle.std.specs.Prelude.{IfOk, ◌==◌}
use Rattle.std.proofs.lemmas.List.{append-nil, length-append, take-append-drop}
use Rattle.std.proofs.lemmas.Bool.Decides.{nat_tests}
use Rattle.ncc_pack.specs.declared.value.Value.{Value}
use Rattle.ncc_pack.specs.declared.value.Value.TheVariants as v
use Rattle.ncc_cypher.specs.Lexeme.{Lexeme, Writes, a_word, plus, minus, a_text, a_sign, IsNumber, zero, more}
use Rattle.ncc_cypher.specs.declared.token.Token.{Token}
use Rattle.ncc_cypher.specs.declared.tree.Statement.{Statement}
use Rattle.ncc_cypher.specs.declared.error.ParseError.{ParseError}
use Rattle.ncc_cypher.specs.declared.error.ParseError.TheVariants.{Syntax, Memory}
use Rattle.ncc_cypher.specs.declared.error.SyntaxKind.{SyntaxKind}
use Rattle.ncc_cypher.specs.declared.error.SyntaxKind.TheVariants.{BadToken, Unexpected}
use Rattle.ncc_cypher.specs.State.{State}
use Rattle.ncc_cypher.specs.State as s
use Rattle.ncc_cypher.specs.Token as k
use Rattle.ncc_cypher.specs.Token.{Begins, Placed, Tokens, tokens_of, past_blanks, is_blank}
use Rattle.ncc_cypher.specs.Scan.{token_at, lexeme_at}
use Rattle.ncc_cypher.specs.Grammar.{Name, Spells}
use Rattle.ncc_cypher.specs.Columns.{columns}
use Rattle.ncc_cypher.specs.Machine.{step, accepts, then_run, run}
use Rattle.ncc_cypher.specs.Spelled.{Spelled, Continued, Stopped}
use Rattle.ncc_cypher.proofs.Sources.{token_begins, none_begins, tokens_more, goes_further, nothing, Left, all_tokens, has_source}
use Rattle.ncc_cypher.proofs.Sound.{sound}
use Rattle.ncc_cypher.proofs.Complete.{complete, bare, run_on}
use Rattle.ncc_cypher.proofs.Continue.{completed}

-- ---- places

pub blank_front : (bs : List ℕ) → (x : List ℕ) × (bs ≡ x ++ past_blanks bs)
blank_front bs = (take (prefix_len is_blank bs) bs, sym (take-append-drop (prefix_len is_blank bs) bs))

pub token_front : (end : List ℕ) (t : Token) (rest : List ℕ) → Begins (past_blanks end) t rest → (y : List ℕ) × (past_blanks end ≡ y ++ rest) × ((z : List ℕ) × (end ≡ z ++ rest))
token_front end t rest b =
    let f = blank_front end in
    (b.longest.front, b.longest.parts, (f.0 ++ b.longest.front, f.1 ∙ ap (λ (q : List ℕ). f.0 ++ q) b.longest.parts ∙ sym (append_assoc f.0 b.longest.front rest)))

number_some : (ds : List ℕ) → IsNumber ds → 0 < length ds
number_some _ (zero b e) = omega arith
number_some _ (more b bs e f) = omega arith

pub written_some : (x : Lexeme) (w : List ℕ) → Writes x w → 0 < length w
written_some _ _ (a_word b bs e f) = omega arith
written_some _ _ (plus ds e) = number_some ds e
written_some _ _ (minus b ds e f) = omega arith
written_some _ _ (a_text q v w e f) = omega arith
written_some _ _ (a_sign b e) = omega arith

pub shorter : (end : List ℕ) (t : Token) (rest : List ℕ) → token_at (past_blanks end) ≡ Some (t, rest) → length rest < length end
shorter end t rest e =
    let b = token_begins (past_blanks end) t rest e in
    let w = written_some b.lexeme b.longest.front b.longest.written in
    let f = blank_front end in
    omega (arith, w, ap length f.1, length-append f.0 (past_blanks end), ap length b.longest.parts, length-append b.longest.front rest)

pub gap_front : (end : List ℕ) (t : Token) (rest : List ℕ) → token_at (past_blanks end) ≡ Some (t, rest) → (z : List ℕ) × (end ≡ z ++ rest)
gap_front end t rest e = (token_front end t rest (token_begins (past_blanks end) t rest e)).2

pub own_front : (from : List ℕ) (t : Token) (rest : List ℕ) → token_at from ≡ Some (t, rest) → (z : List ℕ) × (from ≡ z ++ rest)
own_front from t rest e = let b = token_begins from t rest e in (b.longest.front, b.longest.parts)

tokens_front : (bytes : List ℕ) (ps : List Placed) (end : List ℕ) → Tokens bytes ps end → (z : List ℕ) × (bytes ≡ z ++ end)
tokens_front _ _ _ (k.stop bytes) = ([], refl)
tokens_front _ _ _ (k.more bytes rest end t others b o) =
    let f = token_front bytes t rest b in
    let r = tokens_front rest others end o in
    (f.2.0 ++ r.0, f.2.1 ∙ ap (λ (q : List ℕ). f.2.0 ++ q) r.1 ∙ sym (append_assoc f.2.0 r.0 end))

-- ---- how far the reading is

pub record Reached (source rest : List ℕ) (x : State) : Type 0 where
  pub placed : List Placed
  pub tokens : Tokens source placed rest
  pub goes : run s.Start (tokens_of placed) ≡ Some x

pub none_run : run s.Start [] ≡ Some s.Start
unfolding run
none_run = refl

abbrev pub nowhere : (source : List ℕ) → Reached source source s.Start
nowhere source = record { placed = []; tokens = k.stop source; goes = none_run }

pub tokens_append : (ps qs : List Placed) → tokens_of (ps ++ qs) ≡ tokens_of ps ++ tokens_of qs
tokens_append [] qs = refl
tokens_append (p ∷ ps) qs = ap (λ (z : List Token). p.what ∷ z) (tokens_append ps qs)

pub one_step : (ts : List Token) (t : Token) (x : State) (o : Option State) → run s.Start ts ≡ Some x → step x t ≡ o → run s.Start (ts ++ (t ∷ [])) ≡ then_run (λ z. Some z) o
unfolding run
one_step ts t x o e f = run_on ts (t ∷ []) s.Start ∙ ap (then_run (λ z. run z (t ∷ []))) e ∙ ap (then_run (λ z. Some z)) f

abbrev pub further : (source rest after : List ℕ) (x y : State) (t : Token) → Reached source rest x → Begins (past_blanks rest) t after → step x t ≡ Some y → Reached source after y
further source rest after x y t r b f =
    let p : Placed = record { what = t; from = past_blanks rest; to = after } in
    record {
      placed = r.placed ++ (p ∷ []);
      tokens = tokens_more source r.placed rest t after r.tokens b;
      goes = ap (run s.Start) (tokens_append r.placed (p ∷ [])) ∙ one_step (tokens_of r.placed) t x (Some y) r.goes f;
    }

-- ---- what is said at the end

state_is : (x y : State) → Some x ≡ Some y → x ≡ y
state_is x y e = cc

statement_is : (x y : Statement) → Some x ≡ Some y → x ≡ y
statement_is x y e = cc

no_state_is : (x : State) → None ≡ Some x → ⊥
no_state_is x e = cc

no_statement_is : (x : Statement) → None ≡ Some x → ⊥
no_statement_is x e = cc

-- a statement's columns don't count for its spelling
any_columns : (y : Statement) (cs : List Value) (ts : List Token) → Spells y ts → Spells (record y { columns = cs }) ts
any_columns y cs ts w = record { choice = w.choice; head = w.head; change = w.change; tail = w.tail; goes = w.goes; same = w.same }

pub is_spelled : (source rest : List ℕ) (x : State) (y : Statement) (names : List Name) → (r : Reached source rest x) → names ≡ columns r.placed → past_blanks rest ≡ [] → accepts x ≡ Some y → Spelled (record y { columns = map v.Text names }) source
is_spelled source rest x y names r c n a = record {
  placed = r.placed;
  end = rest;
  tokens = r.tokens;
  nothing = n;
  spells = any_columns y (map v.Text names) (tokens_of r.placed) (sound (tokens_of r.placed) x y r.goes a);
  columns = ap (map v.Text) c;
}

pub is_continued : (source rest : List ℕ) (placed : List Placed) (x : State) → Tokens source placed rest → run s.Start (tokens_of placed) ≡ Some x → Continued (tokens_of placed)
is_continued source rest placed x o e =
    let c = completed (tokens_of placed) x e (all_tokens source placed rest o) in
    let f = has_source (tokens_of placed ++ c.more) c.all in
    record {
      statement = record c.statement { columns = map v.Text (columns f.placed) };
      source = f.bytes;
      spelled = record { placed = f.placed; end = f.end; tokens = f.tokens; nothing = f.nothing; spells = any_columns c.statement (map v.Text (columns f.placed)) (tokens_of f.placed) (subst (λ (z : List Token). Spells c.statement z) (sym f.same) c.spells); columns = refl };
      more = c.more;
      same = f.same;
    }

-- no spelling goes on where the machine doesn't
pub not_continued : (ts : List Token) → run s.Start ts ≡ None → Continued ts → ⊥
not_continued ts e c =
    let w = complete (tokens_of c.spelled.placed) c.statement c.spelled.spells in
    no_state_is w.end (sym (ap (run s.Start) c.same ∙ run_on ts c.more s.Start ∙ ap (then_run (λ z. run z c.more)) e) ∙ w.goes)

-- a spelled source begins with the tokens read
begins_so : (source rest : List ℕ) (placed : List Placed) (y : Statement) → Tokens source placed rest → (p : Spelled y source) → Left placed p.placed rest p.end
begins_so source rest placed y o p = goes_further source placed rest p.placed p.end o p.tokens (nothing (past_blanks p.end) p.nothing)

pub place_is : (source rest : List ℕ) (placed : List Placed) → Tokens source placed rest → (length source - length (past_blanks rest)) + length (past_blanks rest) ≡ length source
place_is source rest placed o =
    let f = tokens_front source placed rest o in
    let b = blank_front rest in
    omega (arith, ap length f.1, length-append f.0 rest, ap length b.1, length-append b.0 (past_blanks rest))

pub is_unexpected : (source rest after : List ℕ) (x : State) (t : Token) → Reached source rest x → token_at (past_blanks rest) ≡ Some (t, after) → step x t ≡ None → Stopped source (length source - length (past_blanks rest)) Unexpected
is_unexpected source rest after x t r e f =
    let b = token_begins (past_blanks rest) t after e in
    let none = one_step (tokens_of r.placed) t x None r.goes f in
    let p : Placed = record { what = t; from = past_blanks rest; to = after } in
    let o = tokens_more source r.placed rest t after r.tokens b in
    record {
      placed = r.placed;
      end = rest;
      tokens = r.tokens;
      place = place_is source rest r.placed r.tokens;
      before = is_continued source rest r.placed x r.tokens r.goes;
      here = (t, after, b, not_continued (tokens_of r.placed ++ (t ∷ [])) none);
      never = λ y w.
          let l = begins_so source after (r.placed ++ (p ∷ [])) y o w in
          not_continued (tokens_of r.placed ++ (t ∷ [])) none
          (record { statement = y; source = source; spelled = w; more = tokens_of l.left; same = ap tokens_of l.parts ∙ tokens_append (r.placed ++ (p ∷ [])) l.left ∙ ap (λ (z : List Token). z ++ tokens_of l.left) (tokens_append r.placed (p ∷ [])) });
    }

-- ---- where no token begins

pub left_none : (rest : List ℕ) (left : List Placed) (whole : List ℕ) → Tokens rest left whole → token_at (past_blanks rest) ≡ None → (left ≡ []) × (rest ≡ whole)
left_none _ _ _ (k.stop rest) e = (refl, refl)
left_none _ _ _ (k.more rest after whole t others b o) e = absurd (none_begins (past_blanks rest) e t after b)

same_tokens : (source rest : List ℕ) (placed : List Placed) (y : Statement) → Tokens source placed rest → token_at (past_blanks rest) ≡ None → (p : Spelled y source) → (p.placed ≡ placed) × (past_blanks rest ≡ [])
same_tokens source rest placed y o e p =
    let l = begins_so source rest placed y o p in
    let n = left_none rest l.left p.end l.tokens e in
    (l.parts ∙ ap (λ (z : List Placed). placed ++ z) n.0 ∙ append-nil placed, ap past_blanks n.1 ∙ p.nothing)

pub is_bad : (source rest : List ℕ) (x : State) → Reached source rest x → token_at (past_blanks rest) ≡ None → (past_blanks rest ≡ [] → accepts x ≡ None) → Stopped source (length source - length (past_blanks rest)) BadToken
is_bad source rest x r e f = record {
  placed = r.placed;
  end = rest;
  tokens = r.tokens;
  place = place_is source rest r.placed r.tokens;
  before = is_continued source rest r.placed x r.tokens r.goes;
  here = λ t after b. none_begins (past_blanks rest) e t after b;
  never = λ y w.
      let q = same_tokens source rest r.placed y r.tokens e w in
      let c = complete (tokens_of w.placed) y w.spells in
      let i : x ≡ c.end = state_is x c.end (sym r.goes ∙ ap (λ (z : List Placed). run s.Start (tokens_of z)) (sym q.0) ∙ c.goes) in
      no_statement_is (bare y) (sym (f q.1) ∙ ap accepts i ∙ c.is);
}

-- ---- one answer

whole_is : (y z : Statement) → bare y ≡ bare z → y.columns ≡ z.columns → y ≡ z
whole_is y z e f = ap (λ (q : Statement). record q { columns = y.columns }) e ∙ ap (λ (q : List Value). record z { columns = q }) f

pub unique : (source : List ℕ) (y z : Statement) → Spelled y source → Spelled z source → y ≡ z
unique source y z p q =
    let e = same_tokens source p.end p.placed z p.tokens (nothing (past_blanks p.end) p.nothing) q in
    let c = complete (tokens_of p.placed) y p.spells in
    let d = complete (tokens_of q.placed) z q.spells in
    let i : c.end ≡ d.end = state_is c.end d.end (sym c.goes ∙ ap (λ (u : List Placed). run s.Start (tokens_of u)) (sym e.0) ∙ d.goes) in
    let b : bare y ≡ bare z = statement_is (bare y) (bare z) (sym c.is ∙ ap accepts i ∙ d.is) in
    whole_is y z b (p.columns ∙ ap (λ (u : List Placed). map v.Text (columns u)) (sym e.0) ∙ sym q.columns)
