-- What is printed of a spelled statement spells it again, but for its columns: the longest-token reading of written tokens
-- gives these back, since no two run together where no space stands.
use Rattle.std.proofs.Common.{◌≡◌, ℕ, Bool, true, false, List, [], ◌∷◌, ◌++◌, Option, Some, None, take, get_or, refl, sym, ap, subst}
use Rattle.std.specs.Prelude.{codes, map, Result, Ok, Err, IfOk}
use Rattle.std.specs.List.{prefix_len}
use Rattle.ncc_pack.specs.declared.value.Value.TheVariants as v
use Rattle.ncc_cypher.specs.declared.class.Class.TheVariants as q
use Rattle.ncc_cypher.specs.declared.token.Token.{Token}
use Rattle.ncc_cypher.specs.declared.token.Token.TheVariants as t
use Rattle.ncc_cypher.specs.declared.printing.Shape.{Shape}
use Rattle.ncc_cypher.specs.declared.printing.Shape.TheVariants as k
use Rattle.ncc_cypher.specs.declared.tree.Item.{Item}
use Rattle.ncc_cypher.specs.declared.tree.Head.{Head}
use Rattle.ncc_cypher.specs.declared.tree.Head.TheVariants as h
use Rattle.ncc_cypher.specs.declared.tree.Tail.{Tail}
use Rattle.ncc_cypher.specs.declared.tree.Tail.TheVariants as l
use Rattle.ncc_cypher.specs.declared.tree.Statement.{Statement}
use Rattle.ncc_cypher.specs.Class.{class, is_word}
use Rattle.ncc_cypher.specs.Lexeme as x
use Rattle.ncc_cypher.specs.Lexeme.{Passes}
use Rattle.ncc_cypher.specs.Token.{keyword, or_name, sign_of}
use Rattle.ncc_cypher.specs.Grammar as g
use Rattle.ncc_cypher.specs.Grammar.{Name, Choice, Named, Every, IsHead, IsTail, items_of}
use Rattle.ncc_cypher.specs.Print.{printed, plain, plain_braces, plain_named, written, shape, space, gap, text}
use Rattle.ncc_cypher.specs.Columns.{columns}
use Rattle.ncc_cypher.specs.Spelled.{Spelled, Again}
use Rattle.ncc_cypher.proofs.Lists.{Every_front, Every_back, Every_append}
use Rattle.ncc_cypher.proofs.Lexemes.{passes_front}
use Rattle.ncc_cypher.proofs.Sources.{IsToken, all_tokens}
use Rattle.ncc_cypher.proofs.Glue.{Has, has_none, Clean, clean_none, Reads, Firm, token_reads, sign_firm, space_firm, firm_reads, name_reads, text_reads, int_reads}

-- ---- one token

-- it is read whatever follows, or where no word goes on
abbrev Stands : Shape → List ℕ → List Token → Type 0
Stands k.Word w ts = Reads w ts
Stands k.Name w ts = Reads w ts
Stands _ w ts = Firm w ts

word_reads : (w : List ℕ) (y : Token) → class (get_or w 0 0) ≡ q.Letter → take (prefix_len is_word w) w ≡ w → or_name w (keyword w) ≡ y → Reads w (y ∷ [])
unfolding class
word_reads [] y e f m = absurd cc
word_reads (b ∷ bs) y e f m =
    let p : Passes is_word (b ∷ bs) = subst (Passes is_word) f (passes_front is_word (b ∷ bs)) in
    token_reads (x.word (b ∷ bs)) y (b ∷ bs) (x.a_word b bs e p.1) (ap (λ (z : Token). Some z) m)

token_stands : (y : Token) → IsToken y → Stands (shape y) (written y) (y ∷ [])
unfolding class keyword sign_of
token_stands (t.Int i) f = int_reads i f
token_stands (t.Text b) f = text_reads b
token_stands (t.Name n) f = name_reads n f
token_stands t.Open f = sign_firm 40 t.Open refl refl
token_stands t.Close f = sign_firm 41 t.Close refl refl
token_stands t.LeftBrace f = sign_firm 123 t.LeftBrace refl refl
token_stands t.RightBrace f = sign_firm 125 t.RightBrace refl refl
token_stands t.Colon f = sign_firm 58 t.Colon refl refl
token_stands t.Comma f = sign_firm 44 t.Comma refl refl
token_stands t.Dot f = sign_firm 46 t.Dot refl refl
token_stands t.Equals f = firm_reads (61 ∷ []) (t.Equals ∷ []) (sign_firm 61 t.Equals refl refl)
token_stands t.Plus f = firm_reads (43 ∷ []) (t.Plus ∷ []) (sign_firm 43 t.Plus refl refl)
token_stands t.Dollar f = sign_firm 36 t.Dollar refl refl
token_stands t.Semicolon f = sign_firm 59 t.Semicolon refl refl
token_stands y f = word_reads (written y) y refl refl refl

-- ---- neighbours

-- a word may go on behind these
abbrev IsOpen : Shape → Type 0
IsOpen k.Word = Unit {0}
IsOpen k.Name = Unit {0}
IsOpen _ = ⊥

-- behind them stands a space, or a sign that no word goes on into
next_clean : (m : Shape) → IsOpen m → (y : Token) (rest : List ℕ) → Clean (gap m (shape y) ++ (written y ++ rest))
unfolding class
next_clean k.Word o t.Dot rest = record { word = refl; digit = refl }
next_clean k.Word o y rest = record { word = refl; digit = refl }
next_clean k.Name o t.Dot rest = record { word = refl; digit = refl }
next_clean k.Name o y rest = record { word = refl; digit = refl }
next_clean _ o y rest = absurd o

text_clean : (m : Shape) (ts : List Token) → IsOpen m → Clean (text m ts)
text_clean m [] o = clean_none
text_clean m (y ∷ ys) o = next_clean m o y (text (shape y) ys)

one_more : (m : Shape) (w : List ℕ) (y : Token) (rest : List ℕ) (us : List Token) → Stands m w (y ∷ []) → (IsOpen m → Clean rest) → Has rest us → Has (w ++ rest) (y ∷ us)
one_more k.Word w y rest us f c r = f rest us (c tt) r
one_more k.Name w y rest us f c r = f rest us (c tt) r
one_more _ w y rest us f c r = f rest us r

gap_has : (b : Bool) (m n : Shape) (w : List ℕ) (ts : List Token) → space m n ≡ b → Has w ts → Has (gap m n ++ w) ts
gap_has true m n w ts e r = rw e (space_firm w ts r)
gap_has false m n w ts e r = rw e r

-- the tokens of a text of tokens are these
text_has : (m : Shape) (ts : List Token) → Every IsToken ts → Has (text m ts) ts
text_has m [] f = has_none
text_has m (y ∷ ys) f =
    gap_has (space m (shape y)) m (shape y) (written y ++ text (shape y) ys) (y ∷ ys) refl
    (one_more (shape y) (written y) y (text (shape y) ys) ys (token_stands y f.0) (text_clean (shape y) ys) (text_has (shape y) ys f.1))

-- ---- the plain spelling

abbrev All : List Token → Type 0
All ts = Every IsToken ts

all_front : (a b : List Token) → All (a ++ b) → All a
all_front a b f = Every_front IsToken a b f

all_back : (a b : List Token) → All (a ++ b) → All b
all_back a b f = Every_back IsToken a b f

all_both : (a b : List Token) → All a → All b → All (a ++ b)
all_both a b f e = Every_append IsToken a b f e

count_token : IsToken (t.Name (codes "count"))
unfolding class keyword
count_token = record { lexeme = x.word (codes "count"); bytes = codes "count"; written = x.a_word 99 (111 ∷ 117 ∷ 110 ∷ 116 ∷ []) refl (refl, (refl, (refl, (refl, tt)))); is = refl }

no_bare : {A : Type 0} (y : A) (ys : List A) → y ∷ ys ≡ [] → ⊥
no_bare y ys e = cc

head_all : (b : Bool) (n : Option Name) (y : Head) → IsHead b y → All (g.head b n y) → All (g.head (plain_braces y) n y)
head_all b n (h.Create a []) e f =
    let node = g.node t.Create n (Some a) in
    all_both (node ++ []) (t.Close ∷ []) (all_both node [] (all_front node (g.props b []) (all_front (node ++ g.props b []) (t.Close ∷ []) f)) tt) (all_back (node ++ g.props b []) (t.Close ∷ []) f)
head_all true n (h.Create a (y ∷ ys)) e f = f
head_all false n (h.Create a (y ∷ ys)) e f = absurd (no_bare y ys e.1)
head_all b n h.Alone e f = f
head_all b n (h.Find a None) e f = f
head_all b n (h.Find a (Some y)) e f = f
head_all b n (h.Merge a y) e f = f

item_all : (n : Option Name) (y : Named) → All (g.named n y) → All (g.item n y.item ++ [])
item_all n y f = all_both (g.item n y.item) [] (all_front (g.item n y.item) (g.alias y.name) f) tt

further_all : (n : Option Name) (ns : List Named) → All (g.further (g.named n) t.Comma ns) → All (g.further (g.named n) t.Comma (plain_named (items_of ns)))
further_all n [] f = tt
further_all n (y ∷ ys) f =
    (f.0, all_both (g.item n y.item ++ []) (g.further (g.named n) t.Comma (plain_named (items_of ys))) (item_all n y (all_front (g.named n y) (g.further (g.named n) t.Comma ys) f.1)) (further_all n ys (all_back (g.named n y) (g.further (g.named n) t.Comma ys) f.1)))

parted_all : (n : Option Name) (ns : List Named) → All (g.parted (g.named n) t.Comma ns) → All (g.parted (g.named n) t.Comma (plain_named (items_of ns)))
parted_all n [] f = tt
parted_all n (y ∷ ys) f =
    all_both (g.item n y.item ++ []) (g.further (g.named n) t.Comma (plain_named (items_of ys))) (item_all n y (all_front (g.named n y) (g.further (g.named n) t.Comma ys) f)) (further_all n ys (all_back (g.named n y) (g.further (g.named n) t.Comma ys) f))

tail_all : (o : Choice) (n : Option Name) (x : Head) (y : Tail) → IsTail o n y → All (g.tail o n y) → All (g.tail (plain x y) n y)
tail_all o n x l.Nothing e f = f
tail_all o n x l.Count e f =
    let b : All (g.given n ++ (t.Close ∷ g.alias o.alias)) = f.1.1.1 in
    (f.0, (count_token, (f.1.1.0, all_both (g.given n) (t.Close ∷ []) (all_front (g.given n) (t.Close ∷ g.alias o.alias) b) ((all_back (g.given n) (t.Close ∷ g.alias o.alias) b).0, tt))))
tail_all o n x (l.Items xs) e f = (f.0, subst (λ (z : List Item). All (g.parted (g.named n) t.Comma (plain_named z))) e.2 (parted_all n o.named f.1))

plain_all : (o : Choice) (s : Statement) → IsHead o.braces s.head → IsTail o s.name s.tail → All (g.tokens o s) → All (g.tokens (plain s.head s.tail) s)
plain_all o s a b f =
    let hs = g.head o.braces s.name s.head in
    let cs = g.changes s.name s.change in
    let ts = g.tail o s.name s.tail in
    let body = all_front (hs ++ (cs ++ ts)) (g.semicolon o.semicolon) f in
    let behind = all_back hs (cs ++ ts) body in
    let us = g.tail (plain s.head s.tail) s.name s.tail in
    let ks = g.head (plain_braces s.head) s.name s.head in
    all_both (ks ++ (cs ++ us)) [] (all_both ks (cs ++ us) (head_all o.braces s.name s.head a (all_front hs (cs ++ ts) body)) (all_both cs us (all_front cs ts behind) (tail_all o s.name s.head s.tail b (all_back cs ts behind)))) tt

plain_head : (b : Bool) (y : Head) → IsHead b y → IsHead (plain_braces y) y
plain_head b h.Alone e = tt
plain_head b (h.Create a []) e = (e.0, refl)
plain_head b (h.Create a (y ∷ ys)) e = (e.0, tt)
plain_head b (h.Find a None) e = tt
plain_head b (h.Find a (Some y)) e = e
plain_head b (h.Merge a y) e = e

plain_items : (xs : List Item) → items_of (plain_named xs) ≡ xs
plain_items [] = refl
plain_items (y ∷ ys) = ap (λ (z : List Item). y ∷ z) (plain_items ys)

plain_tail : (o : Choice) (n : Option Name) (x : Head) (y : Tail) → IsTail o n y → IsTail (plain x y) n y
plain_tail o n x l.Nothing e = tt
plain_tail o n x l.Count e = (e.0, refl)
plain_tail o n x (l.Items xs) e = (e.0, e.1, plain_items xs)

again : (s : Statement) (source : List ℕ) → Spelled s source → Again s (printed s)
again s source sp =
    let w = sp.spells in
    let o = w.choice in
    let all : All (g.tokens o s) = subst All (sym w.same) (all_tokens source sp.placed sp.end sp.tokens) in
    let r : Has (printed s) (g.tokens (plain s.head s.tail) s) = text_has k.Start (g.tokens (plain s.head s.tail) s) (plain_all o s w.head w.tail all) in (
      map v.Text (columns r.placed),
      record {
        placed = r.placed;
        end = r.end;
        tokens = r.tokens;
        nothing = r.nothing;
        spells = record { choice = plain s.head s.tail; head = plain_head o.braces s.head w.head; change = w.change; tail = plain_tail o s.name s.head s.tail w.tail; goes = w.goes; same = sym r.same };
        columns = refl;
      },
    )

pub again_of : {E : Type 0} (s : Statement) (source : List ℕ) (r : Result (List ℕ) E) → Spelled s source → IfOk r (λ u. u ≡ printed s) → IfOk r (λ u. Again s u)
again_of s source (Ok u) w e = subst (Again s) (sym e) (again s source w)
again_of s source (Err y) w e = tt
