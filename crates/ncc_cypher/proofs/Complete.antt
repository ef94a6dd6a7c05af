-- What is spelled is accepted.
use Rattle.std.proofs.Common.{◌≡◌, Bool, true, false, List, [], ◌∷◌, ◌++◌, Option, Some, None, refl, sym, ap, subst, ◌∙◌, append_assoc}
use Rattle.std.specs.Prelude.{is_some}
use Rattle.std.proofs.lemmas.List.{append-nil}
use Rattle.ncc_cypher.specs.declared.token.Token.{Token}
use Rattle.ncc_cypher.specs.declared.token.Token.TheVariants as t
use Rattle.ncc_cypher.specs.declared.tree.Term.{Term}
use Rattle.ncc_cypher.specs.declared.tree.Term.TheVariants as m
use Rattle.ncc_cypher.specs.declared.tree.Pair.{Pair}
use Rattle.ncc_cypher.specs.declared.tree.Item.{Item}
use Rattle.ncc_cypher.specs.declared.tree.Item.TheVariants as i
use Rattle.ncc_cypher.specs.declared.tree.Head.{Head}
use Rattle.ncc_cypher.specs.declared.tree.Head.TheVariants as h
use Rattle.ncc_cypher.specs.declared.tree.Change.{Change}
use Rattle.ncc_cypher.specs.declared.tree.Change.TheVariants as c
use Rattle.ncc_cypher.specs.declared.tree.Tail.{Tail}
use Rattle.ncc_cypher.specs.declared.tree.Tail.TheVariants as l
use Rattle.ncc_cypher.specs.declared.tree.Statement.{Statement}
use Rattle.ncc_cypher.specs.Verb.{Verb}
use Rattle.ncc_cypher.specs.Verb as v
use Rattle.ncc_cypher.specs.Opening.{Opening}
use Rattle.ncc_cypher.specs.Opening as o
use Rattle.ncc_cypher.specs.Site.{Node}
use Rattle.ncc_cypher.specs.Site.{Made}
use Rattle.ncc_cypher.specs.Site.{Body}
use Rattle.ncc_cypher.specs.Site.{Site}
use Rattle.ncc_cypher.specs.Site as p
use Rattle.ncc_cypher.specs.State.{State}
use Rattle.ncc_cypher.specs.State as s
use Rattle.ncc_cypher.specs.Grammar.{Name, Choice, Named, given, term, further, parted, sum, pair, change, alias, item, named, node, head, props, changes, tail, semicolon, NotEmpty, Every, IsBound, IsTerm, IsSum, IsItem, IsPair, has, AllNew, ArePairs, IsHead, IsChange, IsTail, is_count, items_of, Goes, Kind, items, nothing, kind, Spells}
use Rattle.ncc_cypher.specs.Machine.{when, is_bound, scope, a_node, a_made, a_body, a_statement, alone, is_find, then_state, first_name, opening, go, step, ends, accepts, then_run, run}
use Rattle.ncc_cypher.proofs.Lists.{itself}
use Rattle.ncc_cypher.proofs.Shown.{NotAlone, verb}

-- a run goes on from where it is
goes_on : (ts us : List Token) (o : Option State) → ((x : State) → run x (ts ++ us) ≡ then_run (λ r. run r us) (run x ts)) → then_run (λ r. run r (ts ++ us)) o ≡ then_run (λ r. run r us) (then_run (λ r. run r ts) o)
goes_on ts us None h = refl
goes_on ts us (Some r) h = h r

pub run_on : (ts us : List Token) (x : State) → run x (ts ++ us) ≡ then_run (λ r. run r us) (run x ts)
unfolding run
run_on [] us x = refl
run_on (y ∷ ts) us x = goes_on ts us (step x y) (run_on ts us)

-- from one state to another by these tokens, whatever follows
abbrev Goes_by : State → List Token → State → Type 0
Goes_by x ts r = (us : List Token) → run x (ts ++ us) ≡ run r us

then_by : (x r q : State) (ts us : List Token) → Goes_by x ts r → Goes_by r us q → Goes_by x (ts ++ us) q
then_by x r q ts us a b = λ zs. ap (run x) (append_assoc ts us zs) ∙ a (us ++ zs) ∙ b zs

one : (x r : State) (y : Token) → step x y ≡ Some r → Goes_by x (y ∷ []) r
unfolding run
one x r y e = λ us. ap (then_run (λ z. run z us)) e

-- ---- names

bound_self : (n : Name) → is_bound (Some n) n ≡ true
bound_self n = itself n

-- ---- sums

prop_run : (w : Site) (b : List Term) (q : Name) (n : Option Name) → scope w ≡ n → IsBound n → Goes_by (s.Needs w b) (given n ++ (t.Dot ∷ t.Name q ∷ [])) (s.After w (b ++ (m.Prop q ∷ [])))
unfolding run go
prop_run w b q None e g = absurd g
prop_run w b q (Some n) e g = λ us. let i : is_bound (scope w) n ≡ true = rw e (itself n) in rw i refl

term_run : (w : Site) (b : List Term) (x : Term) → IsTerm (scope w) x → Goes_by (s.Needs w b) (term (scope w) x) (s.After w (b ++ (x ∷ [])))
unfolding run go
term_run w b m.Null f = λ us. refl
term_run w b (m.Bool true) f = λ us. refl
term_run w b (m.Bool false) f = λ us. refl
term_run w b (m.Int n) f = λ us. refl
term_run w b (m.Text n) f = λ us. refl
term_run w b (m.Param n) f = λ us. refl
term_run w b (m.Prop q) f = prop_run w b q (scope w) refl f

terms_run : (w : Site) (b : List Term) (x : Term) (xs : List Term) → IsTerm (scope w) x → Every (IsTerm (scope w)) xs → Goes_by (s.Needs w b) (term (scope w) x ++ further (term (scope w)) t.Plus xs) (s.After w (b ++ (x ∷ xs)))
unfolding run go
terms_run w b x [] f fs = λ us. ap (λ (z : List Token). run (s.Needs w b) (z ++ us)) (append-nil (term (scope w) x)) ∙ term_run w b x f us
terms_run w b x (y ∷ ys) f fs =
    let n : Option Name = scope w in
    let others : List Token = term n y ++ further (term n) t.Plus ys in
    λ us. ap (run (s.Needs w b)) (append_assoc (term n x) (t.Plus ∷ others) us) ∙ term_run w b x f (t.Plus ∷ (others ++ us)) ∙ terms_run w (b ++ (x ∷ [])) y ys fs.0 fs.1 us
    ∙ ap (λ (z : List Term). run (s.After w z) us) (append_assoc b (x ∷ []) (y ∷ ys))

sum_run : (w : Site) (e : List Term) → IsSum (scope w) e → Goes_by (s.Needs w []) (sum (scope w) e) (s.After w e)
sum_run w [] f = absurd f.0
sum_run w (x ∷ xs) f = terms_run w [] x xs f.1.0 f.1.1

-- ---- pairs of a head

keyed_run : (n : Node) (b : List Pair) (k : Name) → has k b ≡ false → step (s.Further n b) (t.Name k) ≡ Some (s.Keyed n b k)
unfolding go
keyed_run n b k new = rw new refl

value_run : (n : Node) (b : List Pair) (x : Pair) → IsPair None x → Goes_by (s.Keyed n b x.key) (t.Colon ∷ sum None x.value.terms) (s.After (p.InPair n b x.key) x.value.terms)
unfolding run go
value_run n b x f = λ us. sum_run (p.InPair n b x.key) x.value.terms f us

pair_run : (n : Node) (b : List Pair) (x : Pair) → has x.key b ≡ false → IsPair None x → Goes_by (s.Further n b) (pair x) (s.After (p.InPair n b x.key) x.value.terms)
unfolding run
pair_run n b x new f = λ us. ap (then_run (λ r. run r (t.Colon ∷ (sum None x.value.terms ++ us)))) (keyed_run n b x.key new) ∙ value_run n b x f us

-- the pairs of CREATE from one on, and the brace
pairs_run : (a : Name) (n : Option Name) (b : List Pair) (x : Pair) (xs : List Pair) → AllNew b (x ∷ xs) → IsPair None x → Every (IsPair None) xs
    → Goes_by (s.Further (a_node (o.Create a) n) b) ((pair x ++ further pair t.Comma xs) ++ (t.RightBrace ∷ [])) (s.Closing (a_made (h.Create a (b ++ (x ∷ xs))) n))
unfolding run go
pairs_run a n b x [] new f fs = λ us. ap (λ (z : List Token). run (s.Further (a_node (o.Create a) n) b) ((z ++ (t.RightBrace ∷ [])) ++ us)) (append-nil (pair x)) ∙ ap (run (s.Further (a_node (o.Create a) n) b)) (append_assoc (pair x) (t.RightBrace ∷ []) us) ∙ pair_run (a_node (o.Create a) n) b x new.0 f (t.RightBrace ∷ us)
pairs_run a n b x (y ∷ ys) new f fs =
    let q : Node = a_node (o.Create a) n in
    let others : List Token = (pair y ++ further pair t.Comma ys) ++ (t.RightBrace ∷ []) in
    λ us.
    let e : ((pair x ++ further pair t.Comma (y ∷ ys)) ++ (t.RightBrace ∷ [])) ++ us ≡ pair x ++ (t.Comma ∷ (others ++ us)) = simp append_assoc in
    ap (run (s.Further q b)) e ∙ pair_run q b x new.0 f (t.Comma ∷ (others ++ us)) ∙ pairs_run a n (b ++ (x ∷ [])) y ys new.1 fs.0 fs.1 us
    ∙ ap (λ (z : List Pair). run (s.Closing (a_made (h.Create a z) n)) us) (append_assoc b (x ∷ []) (y ∷ ys))

-- the first key is like a further one where no pair stands
first_key : (n : Node) (k : Name) (us : List Token) → run (s.Braced n) (t.Name k ∷ us) ≡ run (s.Further n []) (t.Name k ∷ us)
unfolding run go
first_key n k us = refl

created_run : (a : Name) (n : Option Name) (ps : List Pair) → ArePairs ps → Goes_by (s.Braced (a_node (o.Create a) n)) (parted pair t.Comma ps ++ (t.RightBrace ∷ [])) (s.Closing (a_made (h.Create a ps) n))
unfolding run go
created_run a n [] f = λ us. refl
created_run a n (x ∷ xs) f = λ us. pairs_run a n [] x xs f.0 f.1.0 f.1.1 us

-- one pair, of MATCH and MERGE
single_run : (a : Opening) (n : Option Name) (x : Pair) (r : State) → IsPair None x → step (s.After (p.InPair (a_node a n) [] x.key) x.value.terms) t.RightBrace ≡ Some r → Goes_by (s.Braced (a_node a n)) (parted pair t.Comma (x ∷ []) ++ (t.RightBrace ∷ [])) r
unfolding run
single_run a n x r f e = λ us.
    let i : (parted pair t.Comma (x ∷ []) ++ (t.RightBrace ∷ [])) ++ us ≡ pair x ++ (t.RightBrace ∷ us) = ap (λ (z : List Token). (z ++ (t.RightBrace ∷ [])) ++ us) (append-nil (pair x)) ∙ append_assoc (pair x) (t.RightBrace ∷ []) us in
    ap (run (s.Braced (a_node a n))) i ∙ first_key (a_node a n) x.key (t.Colon ∷ (sum None x.value.terms ++ (t.RightBrace ∷ us))) ∙ pair_run (a_node a n) [] x refl f (t.RightBrace ∷ us) ∙ ap (then_run (λ z. run z us)) e

-- ---- heads

node_run : (a : Verb) (n : Option Name) (b : Name) (us : List Token) → run s.Start (node (verb a) n (Some b) ++ us) ≡ run (s.Labelled (a_node (opening a b) n)) us
unfolding run go
node_run v.Create None b us = refl
node_run v.Create (Some n) b us = refl
node_run v.Find None b us = refl
node_run v.Find (Some n) b us = refl
node_run v.Merge None b us = refl
node_run v.Merge (Some n) b us = refl

close_run : (x : Made) (us : List Token) → run (s.Closing x) (t.Close ∷ us) ≡ run (s.Closed x) us
unfolding run go
close_run x us = refl

braced_head : (a : Verb) (n : Option Name) (b : Name) (ps : List Pair) (x : Made) → Goes_by (s.Braced (a_node (opening a b) n)) (parted pair t.Comma ps ++ (t.RightBrace ∷ [])) (s.Closing x) → Goes_by s.Start ((node (verb a) n (Some b) ++ props true ps) ++ (t.Close ∷ [])) (s.Closed x)
unfolding run go
braced_head a n b ps x inner = λ us.
    let inside : List Token = parted pair t.Comma ps ++ (t.RightBrace ∷ []) in
    let e : ((node (verb a) n (Some b) ++ props true ps) ++ (t.Close ∷ [])) ++ us ≡ node (verb a) n (Some b) ++ (t.LeftBrace ∷ (inside ++ (t.Close ∷ us))) = simp append_assoc in
    ap (run s.Start) e ∙ node_run a n b (t.LeftBrace ∷ (inside ++ (t.Close ∷ us))) ∙ inner (t.Close ∷ us) ∙ close_run x us

unlabelled_head : (n : Option Name) (x : Pair) (r : State) → Goes_by (s.Braced (a_node (o.Find None) n)) (parted pair t.Comma (x ∷ []) ++ (t.RightBrace ∷ [])) r → Goes_by s.Start (node t.Match n None ++ props true (x ∷ [])) r
unfolding run go
unlabelled_head None x r inner = λ us. inner us
unlabelled_head (Some n) x r inner = λ us. inner us

head_run : (b : Bool) (n : Option Name) (x : Head) → NotAlone x → IsHead b x → Goes_by s.Start (head b n x) (s.Closed (a_made x n))
unfolding run go
head_run b n h.Alone na f = absurd na
head_run true n (h.Create a ps) na f = braced_head v.Create n a ps (a_made (h.Create a ps) n) (created_run a n ps f.0)
head_run false n (h.Create a ps) na f = λ us. ap (λ (z : List Token). run s.Start ((z ++ (t.Close ∷ [])) ++ us)) (append-nil (node t.Create n (Some a))) ∙ ap (run s.Start) (append_assoc (node t.Create n (Some a)) (t.Close ∷ []) us) ∙ node_run v.Create n a (t.Close ∷ us) ∙ ap (λ (z : List Pair). run (s.Closed (a_made (h.Create a z) n)) us) (sym f.1)
head_run b None (h.Find None None) na f = λ us. refl
head_run b (Some n) (h.Find None None) na f = λ us. refl
head_run b n (h.Find (Some a) None) na f = λ us. ap (run s.Start) (append_assoc (node t.Match n (Some a)) (t.Close ∷ []) us) ∙ node_run v.Find n a (t.Close ∷ us)
head_run b n (h.Find None (Some x)) na f = λ us.
    ap (run s.Start) (append_assoc (node t.Match n None ++ props true (x ∷ [])) (t.Close ∷ []) us) ∙ unlabelled_head n x (s.Closing (a_made (h.Find None (Some x)) n)) (single_run (o.Find None) n x (s.Closing (a_made (h.Find None (Some x)) n)) f refl) (t.Close ∷ us)
head_run b n (h.Find (Some a) (Some x)) na f = braced_head v.Find n a (x ∷ []) (a_made (h.Find (Some a) (Some x)) n) (single_run (o.Find (Some a)) n x (s.Closing (a_made (h.Find (Some a) (Some x)) n)) f refl)
head_run b n (h.Merge a x) na f = braced_head v.Merge n a (x ∷ []) (a_made (h.Merge a x) n) (single_run (o.Merge a) n x (s.Closing (a_made (h.Merge a x) n)) f refl)

-- ---- changes

change_run : (a : Made) (n : Name) (b : List Pair) (x : Pair) → a.name ≡ Some n → IsPair a.name x → Goes_by (s.Setting a b) (change a.name x) (s.After (p.InSet a b x.key) x.value.terms)
unfolding run go
change_run a n b x e f = λ us.
    let i : is_bound a.name n ≡ true = rw e (itself n) in
    let g : change a.name x ++ us ≡ t.Name n ∷ t.Dot ∷ t.Name x.key ∷ t.Equals ∷ (sum a.name x.value.terms ++ us) = ap (λ (z : Option Name). (given z ++ (t.Dot ∷ t.Name x.key ∷ t.Equals ∷ sum a.name x.value.terms)) ++ us) e in
    ap (run (s.Setting a b)) g ∙ ap (λ (z : Bool). then_run (λ r. run r (t.Dot ∷ t.Name x.key ∷ t.Equals ∷ (sum a.name x.value.terms ++ us))) (when z (s.SetOwned a b))) i ∙ sum_run (p.InSet a b x.key) x.value.terms f us

-- the last change stands before the end or a RETURN: the state behind its sum
pub record Last (a : Made) (ps : List Pair) (r : State) : Type 0 where
  pub before : List Pair
  pub x : Pair
  pub all : before ++ (x ∷ []) ≡ ps
  pub is : r ≡ s.After (p.InSet a before x.key) x.value.terms

changes_run : (a : Made) (n : Name) (b : List Pair) (x : Pair) (xs : List Pair) → a.name ≡ Some n → IsPair a.name x → Every (IsPair a.name) xs
    → (r : State) × Goes_by (s.Setting a b) (change a.name x ++ further (change a.name) t.Comma xs) r × Last a (b ++ (x ∷ xs)) r
unfolding run go
changes_run a n b x [] e f fs = (
  s.After (p.InSet a b x.key) x.value.terms,
  λ us. ap (λ (z : List Token). run (s.Setting a b) (z ++ us)) (append-nil (change a.name x)) ∙ change_run a n b x e f us,
  record { before = b; x = x; all = refl; is = refl },
)
changes_run a n b x (y ∷ ys) e f fs =
    let others : List Token = change a.name y ++ further (change a.name) t.Comma ys in
    let w = changes_run a n (b ++ (x ∷ [])) y ys e fs.0 fs.1 in (
      w.0,
      λ us. ap (run (s.Setting a b)) (append_assoc (change a.name x) (t.Comma ∷ others) us) ∙ change_run a n b x e f (t.Comma ∷ (others ++ us)) ∙ w.1 us,
      record { before = w.2.before; x = w.2.x; all = w.2.all ∙ append_assoc b (x ∷ []) (y ∷ ys); is = w.2.is },
    )

-- ---- what is returned

-- a state behind the last item
pub record Accepted (o : Option State) (y : Statement) : Type 0 where
  pub end : State
  pub goes : o ≡ Some end
  pub is : ends end ≡ Some y

-- behind an item, with its name or not
pub record Behind (b : Body) (xs : List Item) (x : Item) (r : State) : Type 0 where
  pub last : ends r ≡ Some (a_statement b (l.Items (xs ++ (x ∷ []))))
  pub comma : step r t.Comma ≡ Some (s.Needs (p.InItem b (xs ++ (x ∷ []))) [])

whole_run : (b : Body) (xs : List Item) (n : Option Name) → b.made.name ≡ n → IsBound n → Goes_by (s.Needs (p.InItem b xs) []) (given n) (s.Owned (p.InItem b xs) [])
unfolding run go
whole_run b xs None e g = absurd g
whole_run b xs (Some n) e g = λ us. let k : is_bound b.made.name n ≡ true = rw e (itself n) in rw k refl

item_run : (b : Body) (xs : List Item) (x : Item) → IsItem b.made.name x → (r : State) × Goes_by (s.Needs (p.InItem b xs) []) (item b.made.name x) r × Behind b xs x r × (step r t.As ≡ Some (s.Aliasing b xs x))
unfolding run go ends
item_run b xs i.Whole f = (s.Owned (p.InItem b xs) [], whole_run b xs b.made.name refl f, record { last = refl; comma = refl }, refl)
item_run b xs (i.Sum e) f = (s.After (p.InItem b xs) e.terms, sum_run (p.InItem b xs) e.terms f, record { last = refl; comma = refl }, refl)

named_run : (b : Body) (xs : List Item) (x : Item) (a : Option Name) → IsItem b.made.name x → (r : State) × Goes_by (s.Needs (p.InItem b xs) []) (item b.made.name x ++ alias a) r × Behind b xs x r
unfolding run go ends
named_run b xs x None f =
    let w = item_run b xs x f in
    (w.0, (λ us. ap (λ (z : List Token). run (s.Needs (p.InItem b xs) []) (z ++ us)) (append-nil (item b.made.name x)) ∙ w.1 us), w.2)
named_run b xs x (Some a) f =
    let w = item_run b xs x f in (
      s.Aliased b (xs ++ (x ∷ [])),
      (λ us. ap (run (s.Needs (p.InItem b xs) [])) (append_assoc (item b.made.name x) (t.As ∷ t.Name a ∷ []) us) ∙ w.1 (t.As ∷ t.Name a ∷ us) ∙ ap (then_run (λ z. run z (t.Name a ∷ us))) w.3),
      record { last = refl; comma = refl },
    )

items_run : (b : Body) (ys : List Item) (x : Named) (xs : List Named) → IsItem b.made.name x.item → Every (IsItem b.made.name) (items_of xs)
    → Accepted (run (s.Needs (p.InItem b ys) []) (named b.made.name x ++ further (named b.made.name) t.Comma xs)) (a_statement b (l.Items (ys ++ (x.item ∷ items_of xs))))
unfolding run
items_run b ys x [] f fs = let w = named_run b ys x.item x.name f in record { end = w.0; goes = w.1 []; is = w.2.last }
items_run b ys x (z ∷ zs) f fs =
    let n : Option Name = b.made.name in
    let others : List Token = named n z ++ further (named n) t.Comma zs in
    let w = named_run b ys x.item x.name f in
    let r = items_run b (ys ++ (x.item ∷ [])) z zs fs.0 fs.1 in
    record {
      end = r.end;
      goes = w.1 (t.Comma ∷ others) ∙ ap (then_run (λ q. run q others)) w.2.comma ∙ r.goes;
      is = r.is ∙ ap (λ (q : List Item). Some (a_statement b (l.Items q))) (append_assoc ys (x.item ∷ []) (z.item ∷ items_of zs));
    }

abbrev no_state : Option State
no_state = None

some_state : {P : Type 0} (x : State) → no_state ≡ Some x → P
some_state x e = absurd cc

abbrev no_end : Option Statement
no_end = None

some_end : {P : Type 0} (y : Statement) → no_end ≡ Some y → P
some_end y e = absurd cc

from_run : (x r : State) (us : List Token) (y : Statement) → run x us ≡ run r us → Accepted (run r us) y → Accepted (run x us) y
from_run x r us y e w = record { end = w.end; goes = e ∙ w.goes; is = w.is }

-- the bound name that is `count` too is read as the name, where no parenthesis follows
abbrev NoOpen : List Token → Type 0
NoOpen (t.Open ∷ us) = ⊥
NoOpen _ = Unit {0}

either_run : (b : Body) (us : List Token) (y : Statement) → NoOpen us → Accepted (run (s.Owned (p.InItem b []) []) us) y → Accepted (run (s.Either b) us) y
unfolding run go ends
either_run b [] y f w =
    let e : s.Owned (p.InItem b []) [] ≡ w.end = cc in
    record { end = s.Either b; goes = refl; is = ap ends e ∙ w.is }
either_run b (t.Open ∷ us) y f w = absurd f
either_run b (_ ∷ us) y f w = record { end = w.end; goes = w.goes; is = w.is }

abbrev NoOpenSecond : List Token → Type 0
NoOpenSecond [] = Unit {0}
NoOpenSecond (x ∷ us) = NoOpen us

name_first : (b : Body) (x : Name) (us : List Token) (y : Statement) (q z : Bool) → is_bound b.made.name x ≡ q → is_count x ≡ z → NoOpen us → Accepted (then_run (λ r. run r us) (when q (s.Owned (p.InItem b []) []))) y → Accepted (then_run (λ r. run r us) (first_name q z b)) y
name_first b x us y true true eq ez f w = either_run b us y f w
name_first b x us y true false eq ez f w = w
name_first b x us y false z eq ez f w = some_state w.end w.goes

-- behind RETURN the first token is read as at an item
returning_run : (b : Body) (us : List Token) (y : Statement) → NoOpenSecond us → Accepted (run (s.Needs (p.InItem b []) []) us) y → Accepted (run (s.Returning b) us) y
unfolding run go ends
returning_run b [] y f w =
    let e : s.Needs (p.InItem b []) [] ≡ w.end = cc in
    some_end y (ap ends e ∙ w.is)
returning_run b (t.Name x ∷ us) y f w = name_first b x us y (is_bound b.made.name x) (is_count x) refl refl f w
returning_run b (_ ∷ us) y f w = record { end = w.end; goes = w.goes; is = w.is }

further_no_open : (n : Option Name) (xs : List Named) → NoOpen (further (named n) t.Comma xs)
further_no_open n [] = tt
further_no_open n (x ∷ xs) = tt

alias_no_open : (a : Option Name) (us : List Token) → NoOpen us → NoOpen (alias a ++ us)
alias_no_open None us f = f
alias_no_open (Some a) us f = tt

more_no_open : (n : Option Name) (ts : List Term) (us : List Token) → NoOpen us → NoOpen (further (term n) t.Plus ts ++ us)
more_no_open n [] us f = f
more_no_open n (x ∷ xs) us f = tt

term_second : (n : Option Name) (x : Term) (us : List Token) → IsTerm n x → NoOpen us → NoOpenSecond (term n x ++ us)
term_second n m.Null us g f = f
term_second n (m.Bool true) us g f = f
term_second n (m.Bool false) us g f = f
term_second n (m.Int k) us g f = f
term_second n (m.Text k) us g f = f
term_second n (m.Param k) us g f = tt
term_second None (m.Prop k) us g f = absurd g
term_second (Some n) (m.Prop k) us g f = tt

sum_second : (n : Option Name) (ts : List Term) (us : List Token) → IsSum n ts → NoOpen us → NoOpenSecond (sum n ts ++ us)
sum_second n [] us g f = absurd g.0
sum_second n (x ∷ xs) us g f = subst NoOpenSecond (sym (append_assoc (term n x) (further (term n) t.Plus xs) us)) (term_second n x (further (term n) t.Plus xs ++ us) g.1.0 (more_no_open n xs us f))

item_second : (n : Option Name) (x : Item) (us : List Token) → IsItem n x → NoOpen us → NoOpenSecond (item n x ++ us)
item_second None i.Whole us g f = absurd g
item_second (Some n) i.Whole us g f = f
item_second n (i.Sum e) us g f = sum_second n e.terms us g f

named_second : (n : Option Name) (x : Named) (us : List Token) → IsItem n x.item → NoOpen us → NoOpenSecond (named n x ++ us)
named_second n x us g f = subst NoOpenSecond (sym (append_assoc (item n x.item) (alias x.name) us)) (item_second n x.item (alias x.name ++ us) g (alias_no_open x.name us f))

items_named : (b : Body) (ns : List Named) (xs : List Item) → NotEmpty xs → Every (IsItem b.made.name) xs → items_of ns ≡ xs → Accepted (run (s.Needs (p.InItem b []) []) (parted (named b.made.name) t.Comma ns)) (a_statement b (l.Items xs)) × NoOpenSecond (parted (named b.made.name) t.Comma ns)
items_named b [] [] ne f e = absurd ne
items_named b [] (x ∷ xs) ne f e = absurd cc
items_named b (n ∷ ns) xs ne f e =
    let g : Every (IsItem b.made.name) (n.item ∷ items_of ns) = subst (Every (IsItem b.made.name)) (sym e) f in (
      subst (λ (z : List Item). Accepted (run (s.Needs (p.InItem b []) []) (named b.made.name n ++ further (named b.made.name) t.Comma ns)) (a_statement b (l.Items z))) e (items_run b [] n ns g.0 g.1),
      named_second b.made.name n (further (named b.made.name) t.Comma ns) g.0 (further_no_open b.made.name ns),
    )

-- the items behind RETURN
all_items : (b : Body) (o : Choice) (xs : List Item) → IsTail o b.made.name (l.Items xs) → Accepted (run (s.Needs (p.InItem b []) []) (parted (named b.made.name) t.Comma o.named)) (a_statement b (l.Items xs)) × NoOpenSecond (parted (named b.made.name) t.Comma o.named)
all_items b o xs f = items_named b o.named xs f.0 f.1 f.2

-- ---- `count`

counted_run : (b : Body) (n : Option Name) (a : Option Name) → b.made.name ≡ n → IsBound n → Accepted (run (s.CountOpened b) (given n ++ (t.Close ∷ alias a))) (a_statement b l.Count)
unfolding run go ends
counted_run b None a e f = absurd f
counted_run b (Some n) None e f = let k : is_bound b.made.name n ≡ true = rw e (itself n) in record { end = s.Counted b; goes = rw k refl; is = refl }
counted_run b (Some n) (Some a) e f = let k : is_bound b.made.name n ≡ true = rw e (itself n) in record { end = s.CountAliased b; goes = rw k refl; is = refl }

count_word : (b : Body) (n : Option Name) (w : Name) (us : List Token) (q : Bool) → b.made.name ≡ n → IsBound n → is_bound b.made.name w ≡ q → is_count w ≡ true → run (s.Returning b) (t.Name w ∷ t.Open ∷ us) ≡ run (s.CountOpened b) us
unfolding run go
count_word b n w us true e f eq c = rw (eq, c) refl
count_word b (Some n) w us false e f eq c = let k : is_some b.made.name ≡ true = ap is_some e in rw (eq, c) (rw k refl)
count_word b None w us false e f eq c = absurd f

count_run : (b : Body) (o : Choice) → IsTail o b.made.name l.Count → Accepted (run (s.Returning b) (t.Name o.word ∷ t.Open ∷ (given b.made.name ++ (t.Close ∷ alias o.alias)))) (a_statement b l.Count)
count_run b o f =
    let w = counted_run b b.made.name o.alias refl f.0 in
    record { end = w.end; goes = count_word b b.made.name o.word (given b.made.name ++ (t.Close ∷ alias o.alias)) (is_bound b.made.name o.word) refl f.0 refl f.1 ∙ w.goes; is = w.is }

-- the tail behind a state that RETURN leaves
tail_run : (b : Body) (o : Choice) (x : Tail) (r : State) → (kind x ≡ nothing → ends r ≡ Some (a_statement b l.Nothing)) → step r t.Return ≡ Some (s.Returning b) → IsTail o b.made.name x → Accepted (run r (tail o b.made.name x)) (a_statement b x)
unfolding run
tail_run b o l.Nothing r e g f = record { end = r; goes = refl; is = e refl }
tail_run b o l.Count r e g f = let w = count_run b o f in record { end = w.end; goes = ap (then_run (λ q. run q (t.Name o.word ∷ t.Open ∷ (given b.made.name ++ (t.Close ∷ alias o.alias))))) g ∙ w.goes; is = w.is }
tail_run b o (l.Items xs) r e g f =
    let a = all_items b o xs f in
    let w = returning_run b (parted (named b.made.name) t.Comma o.named) (a_statement b (l.Items xs)) a.1 a.0 in
    record { end = w.end; goes = ap (then_run (λ q. run q (parted (named b.made.name) t.Comma o.named))) g ∙ w.goes; is = w.is }

-- ---- behind the head

kept : (n : Option Name) (x : Head) → NotAlone x → Goes n x c.Keep nothing → is_find x ≡ false
kept n h.Alone na g = absurd na
kept n (h.Create a ps) na g = refl
kept n (h.Find a q) na g = absurd g
kept n (h.Merge a q) na g = refl

kept_ends : (a : Made) → is_find a.head ≡ false → ends (s.Closed a) ≡ Some (a_statement (a_body a c.Keep) l.Nothing)
unfolding ends
kept_ends a e = rw e refl

closed_return : (a : Made) → step (s.Closed a) t.Return ≡ Some (s.Returning (a_body a c.Keep))
unfolding go
closed_return a = refl

kind_is : (n : Option Name) (x : Head) (y : Change) (z k : Kind) → z ≡ k → Goes n x y z → Goes n x y k
kind_is n x y z k e g = subst (λ (q : Kind). Goes n x y q) e g

set_ends : (a : Made) (ps : List Pair) (r : State) → Last a ps r → (ends r ≡ Some (a_statement (a_body a (c.Set ps)) l.Nothing)) × (step r t.Return ≡ Some (s.Returning (a_body a (c.Set ps))))
unfolding go ends
set_ends a ps r w =
    (ap ends w.is ∙ ap (λ (z : List Pair). Some (a_statement (a_body a (c.Set z)) l.Nothing)) w.all, ap (λ (z : State). step z t.Return) w.is ∙ ap (λ (z : List Pair). Some (s.Returning (a_body a (c.Set z)))) w.all)

set_start : (a : Made) (n : Option Name) (us : List Token) → a.name ≡ n → IsBound n → run (s.Closed a) (t.Set ∷ us) ≡ run (s.Setting a []) us
unfolding run go
set_start a None us e f = absurd f
set_start a (Some n) us e f = let k : is_some a.name ≡ true = ap is_some e in rw k refl

set_run : (a : Made) (n : Option Name) (ps : List Pair) → a.name ≡ n → IsBound n → NotEmpty ps → Every (IsPair a.name) ps → (r : State) × Goes_by (s.Closed a) (t.Set ∷ parted (change a.name) t.Comma ps) r × Last a ps r
set_run a None ps e f ne is = absurd f
set_run a (Some n) [] e f ne is = absurd ne
set_run a (Some n) (x ∷ xs) e f ne is =
    let w = changes_run a n [] x xs e is.0 is.1 in
    (w.0, (λ us. set_start a (Some n) (parted (change a.name) t.Comma (x ∷ xs) ++ us) e f ∙ w.1 us), w.2)

delete_run : (a : Made) (n : Option Name) → a.name ≡ n → IsBound n → is_find a.head ≡ true → Goes_by (s.Closed a) (t.Delete ∷ given n) (s.Deleted a)
unfolding run go
delete_run a None e f g = absurd f
delete_run a (Some n) e f g = λ us. let k : is_some a.name ≡ true = ap is_some e in let i : is_bound a.name n ≡ true = rw e (itself n) in rw (g, k) (rw i refl)

finds : (n : Option Name) (x : Head) (k : Kind) → NotAlone x → Goes n x c.Delete k → is_find x ≡ true
finds n h.Alone k na g = absurd na
finds n (h.Create a ps) k na g = absurd g
finds n (h.Find a q) k na g = refl
finds n (h.Merge a q) k na g = absurd g

no_items : (n : Option Name) (x : Head) → NotAlone x → Goes n x c.Delete items → ⊥
no_items n h.Alone na g = na
no_items n (h.Create a ps) na g = g
no_items n (h.Find a q) na g = g
no_items n (h.Merge a q) na g = g

deleted_run : (a : Made) (o : Choice) (x : Tail) → NotAlone a.head → Goes a.name a.head c.Delete (kind x) → IsTail o a.name x → Accepted (run (s.Deleted a) (tail o a.name x)) (a_statement (a_body a c.Delete) x)
unfolding run go ends
deleted_run a o l.Nothing na g f = record { end = s.Deleted a; goes = refl; is = refl }
deleted_run a o l.Count na g f =
    let w = counted_run (a_body a c.Delete) a.name o.alias refl f.0 in
    record { end = w.end; goes = rw f.1 w.goes; is = w.is }
deleted_run a o (l.Items xs) na g f = absurd (no_items a.name a.head na g)

by_then : (x r : State) (ts us : List Token) (y : Statement) → Goes_by x ts r → Accepted (run r us) y → Accepted (run x (ts ++ us)) y
by_then x r ts us y a w = record { end = w.end; goes = a us ∙ w.goes; is = w.is }

rest_run : (a : Made) (o : Choice) (y : Change) (x : Tail) → NotAlone a.head → IsChange a.name y → IsTail o a.name x → Goes a.name a.head y (kind x) → Accepted (run (s.Closed a) (changes a.name y ++ tail o a.name x)) (a_statement (a_body a y) x)
rest_run a o c.Keep x na f g w = tail_run (a_body a c.Keep) o x (s.Closed a) (λ e. kept_ends a (kept a.name a.head na (kind_is a.name a.head c.Keep (kind x) nothing e w))) (closed_return a) g
rest_run a o (c.Set ps) x na f g w =
    let r = set_run a a.name ps refl f.0 f.1 f.2 in
    let e = set_ends a ps r.0 r.2 in
    by_then (s.Closed a) r.0 (t.Set ∷ parted (change a.name) t.Comma ps) (tail o a.name x) (a_statement (a_body a (c.Set ps)) x) r.1 (tail_run (a_body a (c.Set ps)) o x r.0 (λ q. e.0) e.1 g)
rest_run a o c.Delete x na f g w =
    by_then (s.Closed a) (s.Deleted a) (t.Delete ∷ given a.name) (tail o a.name x) (a_statement (a_body a c.Delete) x) (delete_run a a.name refl f (finds a.name a.head (kind x) na w)) (deleted_run a o x na w g)

-- ---- whole statements

alone_run : (n : Option Name) (o : Choice) (xs : List Item) → n ≡ None → IsTail o n (l.Items xs) → Accepted (run s.Start (t.Return ∷ parted (named n) t.Comma o.named)) (a_statement (a_body (a_made h.Alone n) c.Keep) (l.Items xs))
unfolding run go
alone_run None o xs e f = let w = all_items alone o xs f in record { end = w.0.end; goes = w.0.goes; is = w.0.is }
alone_run (Some n) o xs e f = absurd cc

parts_run : (o : Choice) (x : Head) (n : Option Name) (y : Change) (z : Tail) → IsHead o.braces x → IsChange n y → IsTail o n z → Goes n x y (kind z) → Accepted (run s.Start (head o.braces n x ++ (changes n y ++ tail o n z))) (a_statement (a_body (a_made x n) y) z)
parts_run o h.Alone n c.Keep l.Nothing f g k w = absurd w
parts_run o h.Alone n c.Keep l.Count f g k w = absurd w
parts_run o h.Alone n c.Keep (l.Items xs) f g k w = alone_run n o xs w k
parts_run o h.Alone n (c.Set ps) z f g k w = absurd w
parts_run o h.Alone n c.Delete z f g k w = absurd w
parts_run o (h.Create a ps) n y z f g k w = by_then s.Start (s.Closed (a_made (h.Create a ps) n)) (head o.braces n (h.Create a ps)) (changes n y ++ tail o n z) (a_statement (a_body (a_made (h.Create a ps) n) y) z) (head_run o.braces n (h.Create a ps) tt f) (rest_run (a_made (h.Create a ps) n) o y z tt g k w)
parts_run o (h.Find a q) n y z f g k w = by_then s.Start (s.Closed (a_made (h.Find a q) n)) (head o.braces n (h.Find a q)) (changes n y ++ tail o n z) (a_statement (a_body (a_made (h.Find a q) n) y) z) (head_run o.braces n (h.Find a q) tt f) (rest_run (a_made (h.Find a q) n) o y z tt g k w)
parts_run o (h.Merge a q) n y z f g k w = by_then s.Start (s.Closed (a_made (h.Merge a q) n)) (head o.braces n (h.Merge a q)) (changes n y ++ tail o n z) (a_statement (a_body (a_made (h.Merge a q) n) y) z) (head_run o.braces n (h.Merge a q) tt f) (rest_run (a_made (h.Merge a q) n) o y z tt g k w)

-- the statement without its columns
abbrev pub bare : Statement → Statement
bare y = record y { columns = [] }

pub record Read (o : Option State) (y : Statement) : Type 0 where
  pub end : State
  pub goes : o ≡ Some end
  pub is : accepts end ≡ Some y

accepts_is : (x : State) (y : Statement) → ends x ≡ Some y → accepts x ≡ Some y
unfolding ends
accepts_is (s.Done z) y e = some_end y e
accepts_is _ y e = e

semicolon_run : (q : Bool) (ts : List Token) (y : Statement) → Accepted (run s.Start ts) y → Read (run s.Start (ts ++ semicolon q)) y
unfolding run
semicolon_run false ts y w = record { end = w.end; goes = ap (run s.Start) (append-nil ts) ∙ w.goes; is = accepts_is w.end y w.is }
semicolon_run true ts y w = record { end = s.Done y; goes = run_on ts (t.Semicolon ∷ []) s.Start ∙ ap (then_run (λ r. run r (t.Semicolon ∷ []))) w.goes ∙ ap (λ (z : Option Statement). then_run (λ r. Some r) (then_state (λ q. s.Done q) z)) w.is; is = refl }

-- what is spelled is accepted, but for the columns
pub complete : (ts : List Token) (y : Statement) → Spells y ts → Read (run s.Start ts) (bare y)
complete ts y sp =
    let o = sp.choice in
    let w = parts_run o y.head y.name y.change y.tail sp.head sp.change sp.tail sp.goes in
    subst (λ (z : List Token). Read (run s.Start z) (bare y)) sp.same (semicolon_run o.semicolon (head o.braces y.name y.head ++ (changes y.name y.change ++ tail o y.name y.tail)) (bare y) w)
