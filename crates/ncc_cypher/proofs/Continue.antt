-- Each state that tokens lead to can be completed, by tokens that some bytes write.
use Rattle.std.proofs.Common.{◌≡◌, ℕ, zero, suc, ◌+◌, ◌<◌, Bool, true, false, ◌&&◌, ◌||◌, eqb, List, [], ◌∷◌, ◌++◌, length, replicate, Option, Some, None, refl, sym, ap, subst, ◌∙◌, arith}
use Rattle.std.specs.Str.{bytes_eq}
use Rattle.std.specs.Prelude.{codes}
use Rattle.std.proofs.Math.ListN.{length-replicate}
use Rattle.ncc_cypher.specs.declared.token.Token.{Token}
use Rattle.ncc_cypher.specs.declared.token.Token.TheVariants as t
use Rattle.ncc_cypher.specs.declared.tree.Term.{Term}
use Rattle.ncc_cypher.specs.declared.tree.Term.TheVariants as m
use Rattle.ncc_cypher.specs.declared.tree.Pair.{Pair}
use Rattle.ncc_cypher.specs.declared.tree.Head.{Head}
use Rattle.ncc_cypher.specs.declared.tree.Head.TheVariants as h
use Rattle.ncc_cypher.specs.declared.tree.Change.{Change}
use Rattle.ncc_cypher.specs.declared.tree.Change.TheVariants as c
use Rattle.ncc_cypher.specs.declared.tree.Statement.{Statement}
use Rattle.ncc_cypher.specs.declared.class.Class.TheVariants as q
use Rattle.ncc_cypher.specs.Verb as v
use Rattle.ncc_cypher.specs.Site.{Node}
use Rattle.ncc_cypher.specs.Site.{Made}
use Rattle.ncc_cypher.specs.Site.{Body}
use Rattle.ncc_cypher.specs.Site.{Site}
use Rattle.ncc_cypher.specs.Site as p
use Rattle.ncc_cypher.specs.State.{State}
use Rattle.ncc_cypher.specs.State as s
use Rattle.ncc_cypher.specs.Class.{class, is_word}
use Rattle.ncc_cypher.specs.Lexeme as x
use Rattle.ncc_cypher.specs.Lexeme.{Writes, Passes}
use Rattle.ncc_cypher.specs.Token.{keyword, or_name, sign_of}
use Rattle.ncc_cypher.specs.Grammar.{Name, Choice, Every, given, node, head, pattern, props, changes, has, IsBound, Goes, count, Spells}
use Rattle.ncc_cypher.specs.Machine.{when, is_bound, a_body, then_run, run, go, step, ends}
use Rattle.ncc_cypher.proofs.Lists.{itself, Every_front}
use Rattle.ncc_cypher.proofs.Shown.{shown, made_tokens, body_tokens, NotAlone, Fine}
use Rattle.ncc_cypher.proofs.Sources.{IsToken}
use Rattle.ncc_cypher.proofs.Complete.{Read, run_on}
use Rattle.ncc_cypher.proofs.Sound.{seen, sound}

-- ---- a key that none has

abbrev weight : List Pair → ℕ
weight [] = 0
weight (p ∷ ps) = length p.key + weight ps

both_false : (x y : Bool) → y ≡ false → (x && y) ≡ false
both_false true y e = e
both_false false y e = refl

neither : (x y : Bool) → x ≡ false → y ≡ false → (x || y) ≡ false
neither true y e f = absurd cc
neither false true e f = absurd cc
neither false false e f = refl

other_length : (x y : List ℕ) → length x < length y → bytes_eq x y ≡ false
other_length [] [] lt = absurd (omega arith)
other_length [] (y ∷ ys) lt = refl
other_length (x ∷ xs) [] lt = absurd (omega arith)
other_length (x ∷ xs) (y ∷ ys) lt = both_false (eqb x y) (bytes_eq xs ys) (other_length xs ys (omega arith))

fresh : (k : Name) (ps : List Pair) → weight ps < length k → has k ps ≡ false
fresh k [] lt = refl
fresh k (p ∷ ps) lt = neither (bytes_eq p.key k) (has k ps) (other_length p.key k (omega arith)) (fresh k ps (omega arith))

abbrev new_key : List Pair → Name
new_key ps = replicate (suc (weight ps)) 120

is_keyed : (n : Node) (ps : List Pair) → step (s.Further n ps) (t.Name (new_key ps)) ≡ Some (s.Keyed n ps (new_key ps))
unfolding go
is_keyed n ps = let new : has (new_key ps) ps ≡ false = fresh (new_key ps) ps (omega (arith, length-replicate {A = ℕ} (suc (weight ps)) 120)) in rw new refl

-- ---- completions

abbrev a_name : Name
a_name = 120 ∷ []

abbrev returns : List Token
returns = t.Return ∷ t.Null ∷ []

abbrev value : List Token
value = t.Colon ∷ t.Null ∷ t.RightBrace ∷ t.Close ∷ returns

abbrev braces : List Token
braces = t.LeftBrace ∷ t.Name a_name ∷ value

abbrev finish : Site → List Token
finish (p.InPair n ps k) = t.RightBrace ∷ t.Close ∷ returns
finish _ = []

abbrev completion : State → List Token
completion s.Start = returns
completion (s.Begun a) = t.Open ∷ t.Colon ∷ t.Name a_name ∷ braces
completion (s.Opened a) = t.Colon ∷ t.Name a_name ∷ braces
completion (s.Called a n) = t.Colon ∷ t.Name a_name ∷ braces
completion (s.Coloned a n) = t.Name a_name ∷ braces
completion (s.Labelled n) = braces
completion (s.Braced n) = t.Name a_name ∷ value
completion (s.Further n ps) = t.Name (new_key ps) ∷ value
completion (s.Keyed n ps k) = value
completion (s.Needs w ts) = t.Null ∷ finish w
completion (s.Param w ts) = t.Name a_name ∷ finish w
completion (s.Owned w ts) = t.Dot ∷ t.Name a_name ∷ finish w
completion (s.Dotted w ts) = t.Name a_name ∷ finish w
completion (s.After w ts) = finish w
completion (s.Closing a) = t.Close ∷ returns
completion (s.Closed a) = returns
completion (s.Setting a ps) = given a.name ++ (t.Dot ∷ t.Name a_name ∷ t.Equals ∷ t.Null ∷ [])
completion (s.SetOwned a ps) = t.Dot ∷ t.Name a_name ∷ t.Equals ∷ t.Null ∷ []
completion (s.SetDotted a ps) = t.Name a_name ∷ t.Equals ∷ t.Null ∷ []
completion (s.SetKeyed a ps k) = t.Equals ∷ t.Null ∷ []
completion (s.Deleting a) = given a.name
completion (s.DeleteReturn a) = t.Name (codes "count") ∷ t.Open ∷ (given a.name ++ (t.Close ∷ []))
completion (s.Returning b) = t.Null ∷ []
completion (s.Counting b) = t.Open ∷ (given b.made.name ++ (t.Close ∷ []))
completion (s.CountOpened b) = given b.made.name ++ (t.Close ∷ [])
completion (s.CountOwned b) = t.Close ∷ []
completion (s.CountAliasing b) = t.Name a_name ∷ []
completion (s.Aliasing b xs y) = t.Name a_name ∷ []
completion _ = []

record Completed (x : State) : Type 0 where
  pub statement : Statement
  pub is : Read (run x (completion x)) statement

setting_done : (a : Made) (ps : List Pair) (n : Option Name) → a.name ≡ n → IsBound n → (y : Statement) × Read (run (s.Setting a ps) (given n ++ (t.Dot ∷ t.Name a_name ∷ t.Equals ∷ t.Null ∷ []))) y
unfolding run go ends
setting_done a ps None e f = absurd f
setting_done a ps (Some n) e f = let k : is_bound a.name n ≡ true = rw e (itself n) in (_, record { end = _; goes = ap (λ (z : Bool). then_run (λ r. run r (t.Dot ∷ t.Name a_name ∷ t.Equals ∷ t.Null ∷ [])) (when z (s.SetOwned a ps))) k; is = refl })

deleting_done : (a : Made) (n : Option Name) → a.name ≡ n → IsBound n → (y : Statement) × Read (run (s.Deleting a) (given n)) y
unfolding run go ends
deleting_done a None e f = absurd f
deleting_done a (Some n) e f = let k : is_bound a.name n ≡ true = rw e (itself n) in (_, record { end = _; goes = ap (λ (z : Bool). then_run (λ r. run r []) (when z (s.Deleted a))) k; is = refl })

count_done : (b : Body) (n : Option Name) → b.made.name ≡ n → IsBound n → (y : Statement) × Read (run (s.CountOpened b) (given n ++ (t.Close ∷ []))) y
unfolding run go ends
count_done b None e f = absurd f
count_done b (Some n) e f = let k : is_bound b.made.name n ≡ true = rw e (itself n) in (_, record { end = _; goes = ap (λ (z : Bool). then_run (λ r. run r (t.Close ∷ [])) (when z (s.CountOwned b))) k; is = refl })

place_done : (w : Site) (ts : List Term) → (y : Statement) × Read (run (s.After w ts) (finish w)) y
unfolding run go ends
place_done (p.InPair n ps k) ts = (_, record { end = _; goes = refl; is = refl })
place_done (p.InSet a ps k) ts = (_, record { end = _; goes = refl; is = refl })
place_done (p.InItem b xs) ts = (_, record { end = _; goes = refl; is = refl })

as_done : (x : State) → ((y : Statement) × Read (run x (completion x)) y) → Completed x
as_done x r = record { statement = r.0; is = r.1 }

completes : (o : Choice) (x : State) → Fine o x → Completed x
unfolding run go ends
completes o (s.Begun v.Create) f = as_done (s.Begun v.Create) (_, record { end = _; goes = refl; is = refl })
completes o (s.Begun v.Find) f = as_done (s.Begun v.Find) (_, record { end = _; goes = refl; is = refl })
completes o (s.Begun v.Merge) f = as_done (s.Begun v.Merge) (_, record { end = _; goes = refl; is = refl })
completes o (s.Further n ps) f = as_done (s.Further n ps) (_, record { end = _; goes = ap (then_run (λ r. run r value)) (is_keyed n ps); is = refl })
completes o (s.Needs w ts) f = let d = place_done w (ts ++ (m.Null ∷ [])) in as_done (s.Needs w ts) (d.0, record { end = d.1.end; goes = d.1.goes; is = d.1.is })
completes o (s.Param w ts) f = let d = place_done w (ts ++ (m.Param a_name ∷ [])) in as_done (s.Param w ts) (d.0, record { end = d.1.end; goes = d.1.goes; is = d.1.is })
completes o (s.Owned w ts) f = let d = place_done w (ts ++ (m.Prop a_name ∷ [])) in as_done (s.Owned w ts) (d.0, record { end = d.1.end; goes = d.1.goes; is = d.1.is })
completes o (s.Dotted w ts) f = let d = place_done w (ts ++ (m.Prop a_name ∷ [])) in as_done (s.Dotted w ts) (d.0, record { end = d.1.end; goes = d.1.goes; is = d.1.is })
completes o (s.After w ts) f = as_done (s.After w ts) (place_done w ts)
completes o (s.Setting a ps) f = as_done (s.Setting a ps) (setting_done a ps a.name refl f.1)
completes o (s.Deleting a) f = as_done (s.Deleting a) (deleting_done a a.name refl f.1)
completes o (s.DeleteReturn a) f = let d = count_done (a_body a c.Delete) a.name refl f.1 in as_done (s.DeleteReturn a) (d.0, record { end = d.1.end; goes = d.1.goes; is = d.1.is })
completes o (s.Counting b) f = let d = count_done b b.made.name refl f.1 in as_done (s.Counting b) (d.0, record { end = d.1.end; goes = d.1.goes; is = d.1.is })
completes o (s.CountOpened b) f = as_done (s.CountOpened b) (count_done b b.made.name refl f.1)
completes o (s.Closed a) f = as_done (s.Closed a) (_, record { end = _; goes = refl; is = refl })
completes o x f = as_done x (_, record { end = _; goes = refl; is = refl })

-- ---- and these are tokens

sign_token : (b : ℕ) (y : Token) → class b ≡ q.Sign → sign_of b ≡ Some y → IsToken y
sign_token b y e f = record { lexeme = x.sign b; bytes = b ∷ []; written = x.a_sign b e; is = f }

word_token : (b : ℕ) (bs : List ℕ) (y : Token) → class b ≡ q.Letter → Passes is_word bs → or_name (b ∷ bs) (keyword (b ∷ bs)) ≡ y → IsToken y
word_token b bs y e f g = record { lexeme = x.word (b ∷ bs); bytes = b ∷ bs; written = x.a_word b bs e f; is = ap (λ (z : Token). Some z) g }

many : (n : ℕ) → Passes is_word (replicate n 120)
unfolding class
many zero = tt
many (suc n) = (refl, many n)

x_key : (n : ℕ) → IsToken (t.Name (replicate (suc n) 120))
unfolding class keyword
x_key n = word_token 120 (replicate n 120) (t.Name (replicate (suc n) 120)) refl (many n) refl

name_token : IsToken (t.Name a_name)
name_token = x_key 0

count_token : IsToken (t.Name (codes "count"))
unfolding class keyword
count_token = word_token 99 (111 ∷ 117 ∷ 110 ∷ 116 ∷ []) (t.Name (codes "count")) refl (refl, (refl, (refl, (refl, tt)))) refl

null_token : IsToken t.Null
unfolding class keyword
null_token = word_token 110 (117 ∷ 108 ∷ 108 ∷ []) t.Null refl (refl, (refl, (refl, tt))) refl

return_token : IsToken t.Return
unfolding class keyword
return_token = word_token 114 (101 ∷ 116 ∷ 117 ∷ 114 ∷ 110 ∷ []) t.Return refl (refl, (refl, (refl, (refl, (refl, tt))))) refl

pub record Signs : Type 0 where
  pub open_ : IsToken t.Open
  pub close : IsToken t.Close
  pub left : IsToken t.LeftBrace
  pub right : IsToken t.RightBrace
  pub colon : IsToken t.Colon
  pub comma : IsToken t.Comma
  pub dot : IsToken t.Dot
  pub equals : IsToken t.Equals
  pub plus : IsToken t.Plus
  pub dollar : IsToken t.Dollar

pub signs : Signs
unfolding class sign_of
signs = record {
  open_ = sign_token 40 t.Open refl refl;
  close = sign_token 41 t.Close refl refl;
  left = sign_token 123 t.LeftBrace refl refl;
  right = sign_token 125 t.RightBrace refl refl;
  colon = sign_token 58 t.Colon refl refl;
  comma = sign_token 44 t.Comma refl refl;
  dot = sign_token 46 t.Dot refl refl;
  equals = sign_token 61 t.Equals refl refl;
  plus = sign_token 43 t.Plus refl refl;
  dollar = sign_token 36 t.Dollar refl refl;
}

abbrev All : List Token → Type 0
All ts = Every IsToken ts

all_append : (ts us : List Token) → All ts → All us → All (ts ++ us)
all_append [] us f g = g
all_append (y ∷ ts) us f g = (f.0, all_append ts us f.1 g)

all_returns : All returns
all_returns = (return_token, (null_token, tt))

all_value : All value
all_value = (signs.colon, (null_token, (signs.right, (signs.close, all_returns))))

all_braces : All braces
all_braces = (signs.left, (name_token, all_value))

all_finish : (w : Site) → All (finish w)
all_finish (p.InPair n ps k) = (signs.right, (signs.close, all_returns))
all_finish (p.InSet a ps k) = tt
all_finish (p.InItem b xs) = tt

-- the bound name stands in the head
node_given : (y : Token) (n a : Option Name) (us : List Token) → All (node y n a ++ us) → All (given n)
node_given y None a us f = tt
node_given y (Some n) a us f = (f.1.1.0, tt)

head_given : (b : Bool) (n : Option Name) (y : Head) → NotAlone y → All (head b n y) → All (given n)
head_given b n h.Alone na f = absurd na
head_given b n (h.Create a ps) na f = node_given t.Create n (Some a) (props b ps) (Every_front IsToken (pattern b n (h.Create a ps)) (t.Close ∷ []) f)
head_given b n (h.Find a None) na f = node_given t.Match n a (t.Close ∷ []) f
head_given b n (h.Find a (Some w)) na f = node_given t.Match n a (props true (w ∷ [])) (Every_front IsToken (pattern b n (h.Find a (Some w))) (t.Close ∷ []) f)
head_given b n (h.Merge a w) na f = node_given t.Merge n (Some a) (props true (w ∷ [])) (Every_front IsToken (pattern b n (h.Merge a w)) (t.Close ∷ []) f)

made_given : (o : Choice) (a : Made) (us : List Token) → NotAlone a.head → All (made_tokens o a ++ us) → All (given a.name)
made_given o a us na f = head_given o.braces a.name a.head na (Every_front IsToken (made_tokens o a) us f)

not_alone : (n : Option Name) (y : Head) (z : Change) → Goes n y z count → NotAlone y
not_alone n h.Alone c.Keep g = g
not_alone n h.Alone (c.Set ps) g = g
not_alone n h.Alone c.Delete g = g
not_alone n (h.Create a ps) z g = tt
not_alone n (h.Find a w) z g = tt
not_alone n (h.Merge a w) z g = tt

body_given : (o : Choice) (b : Body) (us : List Token) → NotAlone b.made.head → All (body_tokens o b ++ us) → All (given b.made.name)
body_given o b us na f = made_given o b.made (changes b.made.name b.change) na (Every_front IsToken (body_tokens o b) us f)

all_completion : (o : Choice) (y : State) → Fine o y → All (shown o y) → All (completion y)
all_completion o s.Start f g = all_returns
all_completion o (s.Begun a) f g = (signs.open_, (signs.colon, (name_token, all_braces)))
all_completion o (s.Opened a) f g = (signs.colon, (name_token, all_braces))
all_completion o (s.Called a n) f g = (signs.colon, (name_token, all_braces))
all_completion o (s.Coloned a n) f g = (name_token, all_braces)
all_completion o (s.Labelled n) f g = all_braces
all_completion o (s.Braced n) f g = (name_token, all_value)
all_completion o (s.Further n ps) f g = (x_key (weight ps), all_value)
all_completion o (s.Keyed n ps k) f g = all_value
all_completion o (s.Needs w ts) f g = (null_token, all_finish w)
all_completion o (s.Param w ts) f g = (name_token, all_finish w)
all_completion o (s.Owned w ts) f g = (signs.dot, (name_token, all_finish w))
all_completion o (s.Dotted w ts) f g = (name_token, all_finish w)
all_completion o (s.After w ts) f g = all_finish w
all_completion o (s.Closing a) f g = (signs.close, all_returns)
all_completion o (s.Closed a) f g = all_returns
all_completion o (s.Setting a ps) f g = all_append (given a.name) (t.Dot ∷ t.Name a_name ∷ t.Equals ∷ t.Null ∷ []) (made_given o a _ f.0.1 g) (signs.dot, (name_token, (signs.equals, (null_token, tt))))
all_completion o (s.SetOwned a ps) f g = (signs.dot, (name_token, (signs.equals, (null_token, tt))))
all_completion o (s.SetDotted a ps) f g = (name_token, (signs.equals, (null_token, tt)))
all_completion o (s.SetKeyed a ps k) f g = (signs.equals, (null_token, tt))
all_completion o (s.Deleting a) f g = made_given o a _ f.0.1 g
all_completion o (s.DeleteReturn a) f g = (count_token, (signs.open_, all_append (given a.name) (t.Close ∷ []) (body_given o (a_body a c.Delete) _ f.0.1 g) (signs.close, tt)))
all_completion o (s.Returning b) f g = (null_token, tt)
all_completion o (s.Counting b) f g = (signs.open_, all_append (given b.made.name) (t.Close ∷ []) (body_given o b _ (not_alone b.made.name b.made.head b.change f.0.2) g) (signs.close, tt))
all_completion o (s.CountOpened b) f g = all_append (given b.made.name) (t.Close ∷ []) (body_given o b _ (not_alone b.made.name b.made.head b.change f.0.2) g) (signs.close, tt)
all_completion o (s.CountOwned b) f g = (signs.close, tt)
all_completion o (s.CountAliasing b) f g = (name_token, tt)
all_completion o (s.Aliasing b xs y) f g = (name_token, tt)
all_completion o _ f g = tt

-- tokens that lead to a state, and some behind them, spell a statement
pub record Completion (ts : List Token) : Type 0 where
  pub more : List Token
  pub statement : Statement
  pub spells : Spells statement (ts ++ more)
  pub all : All (ts ++ more)

pub completed : (ts : List Token) (y : State) → run s.Start ts ≡ Some y → All ts → Completion ts
completed ts y e f =
    let w = seen ts y e in
    let d = completes w.choice y w.fine in
    let r : run s.Start (ts ++ completion y) ≡ Some d.is.end = run_on ts (completion y) s.Start ∙ ap (then_run (λ z. run z (completion y))) e ∙ d.is.goes in
    record {
      more = completion y;
      statement = d.statement;
      spells = sound (ts ++ completion y) d.is.end d.statement r d.is.is;
      all = all_append ts (completion y) f (all_completion w.choice y w.fine (subst All (sym w.text) f));
    }
