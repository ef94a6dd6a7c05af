-- What moves the machine, for the functions of the parser.
use Rattle.std.proofs.Common.{◌≡◌, ℕ, Bool, true, false, List, [], ◌∷◌, ◌++◌, length, Option, Some, None, Result, Ok, Err, refl, sym, ap, subst, ◌∙◌, append_assoc, arith}
use Rattle.std.specs.Prelude.{◌&&◌, is_some}
use Rattle.std.specs.Str.{bytes_eq}
use Rattle.ncc_pack.specs.declared.value.Value.{Value}
use Rattle.ncc_pack.specs.declared.value.Value.TheVariants as v
use Rattle.ncc_cypher.specs.declared.token.Token.{Token}
use Rattle.ncc_cypher.specs.declared.token.Token.TheVariants as t
use Rattle.ncc_cypher.specs.declared.tree.Term.{Term}
use Rattle.ncc_cypher.specs.declared.tree.Pair.{Pair}
use Rattle.ncc_cypher.specs.declared.tree.Item.{Item}
use Rattle.ncc_cypher.specs.declared.tree.Item.TheVariants as i
use Rattle.ncc_cypher.specs.declared.tree.Change.TheVariants as c
use Rattle.ncc_cypher.specs.declared.tree.Tail.TheVariants as l
use Rattle.ncc_cypher.specs.declared.tree.Statement.{Statement}
use Rattle.ncc_cypher.specs.declared.error.Fault.{Fault}
use Rattle.ncc_cypher.specs.declared.error.SyntaxKind.TheVariants.{BadToken, Unexpected}
use Rattle.ncc_cypher.specs.declared.reader.Reader.{Reader}
use Rattle.ncc_cypher.specs.Grammar.{Name, has, is_count}
use Rattle.ncc_cypher.specs.Columns.{columns}
use Rattle.ncc_cypher.specs.Verb.{Verb}
use Rattle.ncc_cypher.specs.Opening.{Opening}
use Rattle.ncc_cypher.specs.Opening as o
use Rattle.ncc_cypher.specs.Site.{Node, Made, Body, Site}
use Rattle.ncc_cypher.specs.Site as p
use Rattle.ncc_cypher.specs.State.{State}
use Rattle.ncc_cypher.specs.State as s
use Rattle.ncc_cypher.specs.Machine.{step, go, ends, accepts, then_state, is_find, is_bound, scope, a_node, first_name, when}
use Rattle.ncc_cypher.specs.Parsed.{Answer, named_by, ended, goes, whole}
use Rattle.ncc_cypher.specs.Reading.{Ahead, tokens_in, ahead_by, ahead, left, reads, Tells, Stuck, Moves, Ends, kind_of, Whole, NoMore, NoPlus, NoComma, NoAs, NoReturn, NoRight, NoRest, NotCreate, NoOpen, starts_count, count_or, behind_item, called, full, further_columns, column_values}
use Rattle.ncc_cypher.proofs.Ended.{all_columns}

-- the answer where this is the next token, with the source from it on and behind it
abbrev pub at_next : List Name → State → Option Token → List ℕ → List ℕ → Answer
at_next names x o from after = whole names (ahead_by o from after).1 x (ahead_by o from after).0

-- ---- refusals

no_end : (names : List Name) (x : State) (from : List ℕ) → accepts x ≡ None → ended names x from ≡ Err (length from, BadToken)
no_end names x [] e = ap (named_by names) e
no_end names x (b ∷ bs) e = refl

pub stuck_none : (names : List Name) (x : State) (from after : List ℕ) → accepts x ≡ None → at_next names x None from after ≡ Err (length from, BadToken)
unfolding whole
stuck_none names x from after e = no_end names x from e

pub stuck_some : (names : List Name) (x : State) (y : Token) (from after : List ℕ) → step x y ≡ None → at_next names x (Some y) from after ≡ Err (length from, Unexpected)
unfolding whole
stuck_some names x y from after e = ap (goes (λ r. whole names (tokens_in after).1 r (tokens_in after).0) (length from)) e

pub stuck : (names : List Name) (x : State) (o : Option Token) (from after : List ℕ) → Stuck x o → at_next names x o from after ≡ Err (length from, kind_of o)
stuck names x None from after e = stuck_none names x from after e
stuck names x (Some y) from after e = stuck_some names x y from after e

-- ---- the end

pub ends_here : (x : State) (y : Statement) → ends x ≡ Some y → accepts x ≡ Some y
unfolding ends
ends_here (s.Done z) y e = absurd cc
ends_here _ y e = e

pub over_none : (names : List Name) (x : State) (y : Statement) (from after : List ℕ) → length from ≡ 0 → accepts x ≡ Some y → at_next names x None from after ≡ named_by names (Some y)
unfolding whole
over_none names x y [] after n e = ap (named_by names) e
over_none names x y (b ∷ bs) after n e = absurd (omega arith)

pub over_bad : (names : List Name) (x : State) (from after : List ℕ) → (length from ≡ 0 → ⊥) → at_next names x None from after ≡ Err (length from, BadToken)
unfolding whole
over_bad names x [] after n = absurd (n refl)
over_bad names x (b ∷ bs) after n = refl

pub over_so : (names : List Name) (x : State) (y : Statement) (o : Option Token) (from after : List ℕ) → o ≡ None → length from ≡ 0 → accepts x ≡ Some y → at_next names x o from after ≡ named_by names (Some y)
over_so names x y None from after i n e = over_none names x y from after n e
over_so names x y (Some z) from after i n e = absurd cc

pub over_not : (names : List Name) (x : State) (o : Option Token) (from after : List ℕ) → o ≡ None → (length from ≡ 0 → ⊥) → at_next names x o from after ≡ Err (length from, kind_of o)
over_not names x None from after i n = over_bad names x from after n
over_not names x (Some z) from after i n = absurd cc

pub ends_so : (names : List Name) (x : State) (y : Statement) (from after : List ℕ) → ends x ≡ Some y → at_next names x (Some t.Semicolon) from after ≡ whole names (tokens_in after).1 (s.Done y) (tokens_in after).0
unfolding whole
ends_so names x y from after e = ap (λ (z : Option Statement). goes (λ r. whole names (tokens_in after).1 r (tokens_in after).0) (length from) (then_state (λ q. s.Done q) z)) e

-- ---- behind an item

closed_end : (names : List Name) (b : Body) (xs : List Item) (x : Item) (from : List ℕ) → ended names (behind_item b xs x) from ≡ ended names (s.Aliased b (xs ++ (x ∷ []))) from
unfolding ends
closed_end names b xs i.Whole [] = refl
closed_end names b xs (i.Sum e) [] = refl
closed_end names b xs x (c ∷ cs) = refl

closed_step : (b : Body) (xs : List Item) (x : Item) (y : Token) → Whole x (Some y) → NoAs (Some y) → step (behind_item b xs x) y ≡ step (s.Aliased b (xs ++ (x ∷ []))) y
unfolding go ends
closed_step b xs i.Whole t.Dot w n = absurd w
closed_step b xs (i.Sum e) t.Plus w n = absurd w
closed_step b xs x t.As w n = absurd n
closed_step b xs i.Whole y w n = refl
closed_step b xs (i.Sum e) y w n = refl

pub closed_item : (names : List Name) (b : Body) (xs : List Item) (x : Item) (o : Option Token) (from after : List ℕ) → Whole x o → NoAs o → at_next names (behind_item b xs x) o from after ≡ at_next names (s.Aliased b (xs ++ (x ∷ []))) o from after
unfolding whole
closed_item names b xs x None from after w n = closed_end names b xs x from
closed_item names b xs x (Some y) from after w n = ap (goes (λ r. whole names (tokens_in after).1 r (tokens_in after).0) (length from)) (closed_step b xs x y w n)

-- ---- from function to function

-- past one token
pub moved : (names : List Name) (x y : State) (k : Token) (old new : Reader) → old.token ≡ Some k → ahead new ≡ tokens_in old.after → step x k ≡ Some y → reads names x old ≡ reads names y new
unfolding whole
moved names x y k old new e a g =
    ap (λ (z : Option Token). at_next names x z old.from old.after) e ∙ ap (goes (λ r. whole names (tokens_in old.after).1 r (tokens_in old.after).0) (length old.from)) g ∙ ap (λ (z : Ahead). whole names z.1 y z.0) (sym a)

pub then_moves : {A : Type 0} (names : List Name) (x y : State) (f : A → State) (old mid new : Reader) (r : Result A Fault) → reads names x old ≡ reads names y mid → Moves names y f mid new r → Moves names x f old new r
then_moves names x y f old mid new (Ok z) e m = e ∙ m
then_moves names x y f old mid new (Err z) e m = subst (Tells z) (sym e) m

pub err_moves : {A B : Type 0} (names : List Name) (x : State) (f : A → State) (g : B → State) (old mid new : Reader) (e : Fault) (r : Result A Fault) (q : Result B Fault) → r ≡ Err e → q ≡ Err e → Moves names x f old mid r → Moves names x g old new q
err_moves names x f g old mid new e (Ok z) q i k m = absurd cc
err_moves names x f g old mid new e (Err z) (Ok w) i k m = absurd cc
err_moves names x f g old mid new e (Err z) (Err w) i k m = let same : z ≡ w = cc in subst (λ (t : Fault). Tells t (reads names x old)) same m

pub ok_moves : {A : Type 0} (names : List Name) (x : State) (f : A → State) (old new : Reader) (z : A) (r : Result A Fault) → r ≡ Ok z → Moves names x f old new r → reads names x old ≡ reads names (f z) new
ok_moves names x f old new z (Ok w) i m = let same : w ≡ z = cc in m ∙ ap (λ t. reads names (f t) new) same
ok_moves names x f old new z (Err w) i m = absurd cc

pub ok_ends : {A : Type 0} (names : List Name) (f : A → Statement) (z : A) (r : Result A Fault) (a : Answer) → r ≡ Ok z → Ends names f r a → a ≡ named_by names (Some (f z))
ok_ends names f z (Ok w) a i m = let same : w ≡ z = cc in m ∙ ap (λ t. named_by names (Some (f t))) same
ok_ends names f z (Err w) a i m = absurd cc

-- an answer handed on
pub err_tells : {A : Type 0} (names : List Name) (f : A → Statement) (e : Fault) (r : Result A Fault) (a : Answer) → r ≡ Err e → Ends names f r a → Tells e a
err_tells names f e (Ok w) a i m = absurd cc
err_tells names f e (Err w) a i m = let same : w ≡ e = cc in subst (λ (t : Fault). Tells t a) same m

pub moves_tells : {A : Type 0} (names : List Name) (x : State) (f : A → State) (old new : Reader) (e : Fault) (r : Result A Fault) → r ≡ Err e → Moves names x f old new r → Tells e (reads names x old)
moves_tells names x f old new e (Ok w) i m = absurd cc
moves_tells names x f old new e (Err w) i m = let same : w ≡ e = cc in subst (λ (t : Fault). Tells t (reads names x old)) same m

-- ---- states that differ by name alone

pub colon_step : (a : Verb) (n : Option Name) → step (called a n) t.Colon ≡ Some (s.Coloned a n)
unfolding go
colon_step a None = refl
colon_step a (Some n) = refl

braced_step : (n : Node) (y : Token) → NoRight (Some y) → step (s.Braced n) y ≡ step (s.Further n []) y
unfolding go ends
braced_step n t.RightBrace h = absurd h
braced_step n y h = refl

-- behind the first brace a pair is like one behind a comma
pub braced_next : (names : List Name) (n : Node) (o : Option Token) (from after : List ℕ) → NoRight o → at_next names (s.Braced n) o from after ≡ at_next names (s.Further n []) o from after
unfolding whole ends
braced_next names n None [] after h = refl
braced_next names n None (b ∷ bs) after h = refl
braced_next names n (Some y) from after h = ap (goes (λ r. whole names (tokens_in after).1 r (tokens_in after).0) (length from)) (braced_step n y h)

-- ---- where nothing goes on

pub no_more_aliased : (b : Body) (xs : List Item) (o : Option Token) → NoComma o → NoMore (s.Aliased b xs) o
unfolding go
no_more_aliased b xs None h = tt
no_more_aliased b xs (Some t.Comma) h = absurd h
no_more_aliased b xs (Some t.Semicolon) h = tt
no_more_aliased b xs (Some y) h = refl

pub no_more_counted : (b : Body) (o : Option Token) → NoAs o → NoMore (s.Counted b) o
unfolding go
no_more_counted b None h = tt
no_more_counted b (Some t.As) h = absurd h
no_more_counted b (Some t.Semicolon) h = tt
no_more_counted b (Some y) h = refl

pub no_more_named : (b : Body) (o : Option Token) → NoMore (s.CountAliased b) o
unfolding go
no_more_named b None = tt
no_more_named b (Some t.Semicolon) = tt
no_more_named b (Some y) = refl

pub no_more_deleted : (a : Made) (o : Option Token) → NoReturn o → NoMore (s.Deleted a) o
unfolding go
no_more_deleted a None h = tt
no_more_deleted a (Some t.Return) h = absurd h
no_more_deleted a (Some t.Semicolon) h = tt
no_more_deleted a (Some y) h = refl

pub no_more_set : (a : Made) (ps : List Pair) (k : Name) (ts : List Term) (o : Option Token) → NoPlus o → NoComma o → NoReturn o → NoMore (s.After (p.InSet a ps k) ts) o
unfolding go
no_more_set a ps k ts None h i j = tt
no_more_set a ps k ts (Some t.Plus) h i j = absurd h
no_more_set a ps k ts (Some t.Comma) h i j = absurd i
no_more_set a ps k ts (Some t.Return) h i j = absurd j
no_more_set a ps k ts (Some t.Semicolon) h i j = tt
no_more_set a ps k ts (Some y) h i j = refl

pub no_more_closed : (a : Made) (o : Option Token) → NoRest o → NoMore (s.Closed a) o
unfolding go
no_more_closed a None h = tt
no_more_closed a (Some t.Set) h = absurd h
no_more_closed a (Some t.Delete) h = absurd h
no_more_closed a (Some t.Return) h = absurd h
no_more_closed a (Some t.Semicolon) h = tt
no_more_closed a (Some y) h = refl

pub closed_ends : (a : Made) → is_find a.head ≡ false → ends (s.Closed a) ≡ Some (full a.head a.name c.Keep l.Nothing)
unfolding ends
closed_ends a e = rw e refl

pub find_stuck : (a : Made) (o : Option Token) → is_find a.head ≡ true → NoRest o → Stuck (s.Closed a) o
unfolding go ends
find_stuck a None e h = rw e refl
find_stuck a (Some t.Set) e h = absurd h
find_stuck a (Some t.Delete) e h = absurd h
find_stuck a (Some t.Return) e h = absurd h
find_stuck a (Some t.Semicolon) e h = rw e refl
find_stuck a (Some y) e h = refl

-- ---- columns behind RETURN

pub returned_columns : (old new : Reader) → old.token ≡ Some t.Return → ahead new ≡ tokens_in old.after → column_values (further_columns None [] false (left new)) ≡ column_values (columns (left old))
unfolding columns
returned_columns old new e a =
    ap (λ (z : Ahead). column_values (further_columns None [] false z.0)) a ∙ ap column_values (sym (all_columns (tokens_in old.after).0)) ∙ ap (λ (z : Option Token). column_values (columns (ahead_by z old.from old.after).0)) (sym e)

-- ---- the bound name

pub owned_step : (w : Site) (ts : List Term) (n : Option Name) (x : Name) → scope w ≡ n → is_bound n x ≡ true → step (s.Needs w ts) (t.Name x) ≡ Some (s.Owned w ts)
unfolding go
owned_step w ts n x e b = let k : is_bound (scope w) x ≡ true = rw e b in rw k refl

pub set_step : (a : Made) (ps : List Pair) (n : Option Name) (x : Name) → a.name ≡ n → is_bound n x ≡ true → step (s.Setting a ps) (t.Name x) ≡ Some (s.SetOwned a ps)
unfolding go
set_step a ps n x e b = let k : is_bound a.name x ≡ true = rw e b in rw k refl

pub key_step : (n : Node) (ps : List Pair) (k : Name) → has k ps ≡ false → step (s.Further n ps) (t.Name k) ≡ Some (s.Keyed n ps k)
unfolding go
key_step n ps k e = rw e refl

-- the pair of MATCH and MERGE
single_by : (o : Opening) (n : Option Name) (y : Token) → NotCreate o → step (s.Braced (a_node o n)) y ≡ step (s.Further (a_node o n) []) y
unfolding go ends
single_by (o.Create x) n y h = absurd h
single_by (o.Find x) n t.RightBrace h = refl
single_by (o.Merge x) n t.RightBrace h = refl
single_by x n y h = refl

pub single_next : (names : List Name) (n : Node) (o : Option Token) (from after : List ℕ) → NotCreate n.opening → at_next names (s.Braced n) o from after ≡ at_next names (s.Further n []) o from after
unfolding whole ends
single_next names n None [] after h = refl
single_next names n None (b ∷ bs) after h = refl
single_next names n (Some y) from after h = ap (goes (λ r. whole names (tokens_in after).1 r (tokens_in after).0) (length from)) (single_by n.opening n.name y h)

pub then_ends : {A : Type 0} (names : List Name) (f : A → Statement) (r : Result A Fault) (a b : Answer) → a ≡ b → Ends names f r b → Ends names f r a
then_ends names f r a b e m = subst (Ends names f r) (sym e) m

-- ---- items and `count`

either_step : (b : Body) (y : Token) → NoOpen (Some y) → step (s.Either b) y ≡ step (s.Owned (p.InItem b []) []) y
unfolding go ends
either_step b t.Open h = absurd h
either_step b y h = refl

pub either_next : (names : List Name) (b : Body) (o : Option Token) (from after : List ℕ) → NoOpen o → at_next names (s.Either b) o from after ≡ at_next names (s.Owned (p.InItem b []) []) o from after
unfolding whole ends
either_next names b None [] after h = refl
either_next names b None (x ∷ xs) after h = refl
either_next names b (Some y) from after h = ap (goes (λ r. whole names (tokens_in after).1 r (tokens_in after).0) (length from)) (either_step b y h)

by_when : (b : Body) (x : Bool) → first_name x false b ≡ when x (s.Owned (p.InItem b []) [])
by_when b true = refl
by_when b false = refl

by_word : (b : Body) (n : Option Name) (w : Name) (c : Bool) → b.made.name ≡ n → (c && is_some n) ≡ false → first_name (is_bound n w) c b ≡ when (is_bound n w) (s.Owned (p.InItem b []) [])
by_word b None w true e h = rw e refl
by_word b None w false e h = refl
by_word b (Some m) w true e h = absurd cc
by_word b (Some m) w false e h = by_when b (bytes_eq m w)

items_step : (b : Body) (y : Token) → starts_count b.made.name (Some y) ≡ false → step (s.Returning b) y ≡ step (s.Needs (p.InItem b []) []) y
unfolding go ends
items_step b (t.Name w) h = by_word b b.made.name w (is_count w) refl h
items_step b y h = refl

pub items_next : (names : List Name) (b : Body) (o : Option Token) (from after : List ℕ) → starts_count b.made.name o ≡ false → at_next names (s.Returning b) o from after ≡ at_next names (s.Needs (p.InItem b []) []) o from after
unfolding whole ends
items_next names b None [] after h = refl
items_next names b None (x ∷ xs) after h = refl
items_next names b (Some y) from after h = ap (goes (λ r. whole names (tokens_in after).1 r (tokens_in after).0) (length from)) (items_step b y h)

count_by : (b : Body) (n : Option Name) (x c : Bool) → b.made.name ≡ n → (c && is_some n) ≡ true → first_name x c b ≡ Some (count_or x b)
count_by b n x false e h = absurd cc
count_by b None x true e h = absurd cc
count_by b (Some m) true true e h = refl
count_by b (Some m) false true e h = rw e refl

pub count_step : (b : Body) (n : Option Name) (w : Name) → b.made.name ≡ n → starts_count n (Some (t.Name w)) ≡ true → step (s.Returning b) (t.Name w) ≡ Some (count_or (is_bound n w) b)
unfolding go
count_step b n w e h = ap (λ (z : Option Name). first_name (is_bound z w) (is_count w) b) e ∙ count_by b n (is_bound n w) (is_count w) e h

-- ---- columns behind a comma

pub more_columns : (done new : List Value) (last column : Name) (start : List ℕ) (old mid end : Reader) → old.token ≡ Some t.Comma → ahead mid ≡ tokens_in old.after → further_columns None [] false (left mid) ≡ further_columns (Some mid.from) column false (left end) → new ≡ done ++ (v.Text last ∷ [])
    → done ++ column_values (further_columns (Some start) last false (left old)) ≡ new ++ column_values (further_columns (Some mid.from) column false (left end))
unfolding further_columns
more_columns done new last column start old mid end e a c n =
    let here : column_values (further_columns (Some start) last false (left old)) ≡ v.Text last ∷ column_values (further_columns None [] false (left mid)) =
    ap (λ (z : Option Token). column_values (further_columns (Some start) last false (ahead_by z old.from old.after).0)) e ∙ ap (λ (z : Ahead). v.Text last ∷ column_values (further_columns None [] false z.0)) (sym a) in
    ap (λ (z : List Value). done ++ z) (here ∙ ap (λ (z : List Name). v.Text last ∷ column_values z) c) ∙ sym (append_assoc done (v.Text last ∷ []) (column_values (further_columns (Some mid.from) column false (left end)))) ∙ ap (λ (z : List Value). z ++ column_values (further_columns (Some mid.from) column false (left end))) (sym n)
