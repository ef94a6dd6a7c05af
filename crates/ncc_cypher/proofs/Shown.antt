-- What a state shows of the tokens read so far, and what is right in it.
use Rattle.std.proofs.Common.{◌≡◌, true, false, List, [], ◌∷◌, ◌++◌, Option, Some}
use Rattle.ncc_cypher.specs.declared.token.Token.{Token}
use Rattle.ncc_cypher.specs.declared.token.Token.TheVariants as t
use Rattle.ncc_cypher.specs.declared.tree.Term.{Term}
use Rattle.ncc_cypher.specs.declared.tree.Pair.{Pair}
use Rattle.ncc_cypher.specs.declared.tree.Head.{Head}
use Rattle.ncc_cypher.specs.declared.tree.Head.TheVariants as h
use Rattle.ncc_cypher.specs.declared.tree.Change.TheVariants as d
use Rattle.ncc_cypher.specs.declared.tree.Statement.{Statement}
use Rattle.ncc_cypher.specs.Verb.{Verb}
use Rattle.ncc_cypher.specs.Verb as v
use Rattle.ncc_cypher.specs.Opening.{Opening}
use Rattle.ncc_cypher.specs.Opening as o
use Rattle.ncc_cypher.specs.Site.{Node}
use Rattle.ncc_cypher.specs.Site.{Made}
use Rattle.ncc_cypher.specs.Site.{Body}
use Rattle.ncc_cypher.specs.Site.{Site}
use Rattle.ncc_cypher.specs.Site as p
use Rattle.ncc_cypher.specs.State.{State}
use Rattle.ncc_cypher.specs.State as s
use Rattle.ncc_cypher.specs.Grammar.{Name, Choice, given, term, parted, sum, pair, change, alias, item, named, node, head, pattern, changes, tokens, NotEmpty, Every, IsBound, IsTerm, IsSum, IsItem, IsPair, has, ArePairs, IsHead, IsChange, IsTail, is_count, items_of, Goes, Kind, kind, count, items}
use Rattle.ncc_cypher.specs.Machine.{scope, a_body}
use Rattle.ncc_cypher.proofs.Lists.{each_then}

abbrev pub verb : Verb → Token
verb v.Create = t.Create
verb v.Find = t.Match
verb v.Merge = t.Merge

abbrev pub opened : Opening → Option Name → List Token
opened (o.Create a) n = node t.Create n (Some a)
opened (o.Find a) n = node t.Match n a
opened (o.Merge a) n = node t.Merge n (Some a)

abbrev pub node_tokens : Node → List Token
node_tokens n = opened n.opening n.name

abbrev pub made_tokens : Choice → Made → List Token
made_tokens c a = head c.braces a.name a.head

abbrev pub body_tokens : Choice → Body → List Token
body_tokens c b = made_tokens c b.made ++ changes b.made.name b.change

abbrev pub so_far : Choice → Site → List Token
so_far c (p.InPair n ps k) = node_tokens n ++ (t.LeftBrace ∷ (each_then pair t.Comma ps ++ (t.Name k ∷ t.Colon ∷ [])))
so_far c (p.InSet a ps k) = made_tokens c a ++ (t.Set ∷ (each_then (change a.name) t.Comma ps ++ (given a.name ++ (t.Dot ∷ t.Name k ∷ t.Equals ∷ []))))
so_far c (p.InItem b xs) = body_tokens c b ++ (t.Return ∷ each_then (named b.made.name) t.Comma c.named)

abbrev pub terms_then : Site → List Term → List Token
terms_then w ts = each_then (term (scope w)) t.Plus ts

abbrev pub shown : Choice → State → List Token
shown c s.Start = []
shown c (s.Begun a) = verb a ∷ []
shown c (s.Opened a) = verb a ∷ t.Open ∷ []
shown c (s.Called a n) = verb a ∷ t.Open ∷ t.Name n ∷ []
shown c (s.Coloned a n) = verb a ∷ t.Open ∷ (given n ++ (t.Colon ∷ []))
shown c (s.Labelled n) = node_tokens n
shown c (s.Braced n) = node_tokens n ++ (t.LeftBrace ∷ [])
shown c (s.Further n ps) = node_tokens n ++ (t.LeftBrace ∷ each_then pair t.Comma ps)
shown c (s.Keyed n ps k) = node_tokens n ++ (t.LeftBrace ∷ (each_then pair t.Comma ps ++ (t.Name k ∷ [])))
shown c (s.Needs w ts) = so_far c w ++ terms_then w ts
shown c (s.Param w ts) = so_far c w ++ (terms_then w ts ++ (t.Dollar ∷ []))
shown c (s.Owned w ts) = so_far c w ++ (terms_then w ts ++ given (scope w))
shown c (s.Dotted w ts) = so_far c w ++ (terms_then w ts ++ (given (scope w) ++ (t.Dot ∷ [])))
shown c (s.After w ts) = so_far c w ++ sum (scope w) ts
shown c (s.Closing a) = pattern c.braces a.name a.head
shown c (s.Closed a) = made_tokens c a
shown c (s.Setting a ps) = made_tokens c a ++ (t.Set ∷ each_then (change a.name) t.Comma ps)
shown c (s.SetOwned a ps) = made_tokens c a ++ (t.Set ∷ (each_then (change a.name) t.Comma ps ++ given a.name))
shown c (s.SetDotted a ps) = made_tokens c a ++ (t.Set ∷ (each_then (change a.name) t.Comma ps ++ (given a.name ++ (t.Dot ∷ []))))
shown c (s.SetKeyed a ps k) = made_tokens c a ++ (t.Set ∷ (each_then (change a.name) t.Comma ps ++ (given a.name ++ (t.Dot ∷ t.Name k ∷ []))))
shown c (s.Deleting a) = made_tokens c a ++ (t.Delete ∷ [])
shown c (s.Deleted a) = body_tokens c (a_body a d.Delete)
shown c (s.DeleteReturn a) = body_tokens c (a_body a d.Delete) ++ (t.Return ∷ [])
shown c (s.Returning b) = body_tokens c b ++ (t.Return ∷ [])
shown c (s.Either b) = body_tokens c b ++ (t.Return ∷ given b.made.name)
shown c (s.Counting b) = body_tokens c b ++ (t.Return ∷ t.Name c.word ∷ [])
shown c (s.CountOpened b) = body_tokens c b ++ (t.Return ∷ t.Name c.word ∷ t.Open ∷ [])
shown c (s.CountOwned b) = body_tokens c b ++ (t.Return ∷ t.Name c.word ∷ t.Open ∷ given b.made.name)
shown c (s.Counted b) = body_tokens c b ++ (t.Return ∷ t.Name c.word ∷ t.Open ∷ (given b.made.name ++ (t.Close ∷ [])))
shown c (s.CountAliasing b) = body_tokens c b ++ (t.Return ∷ t.Name c.word ∷ t.Open ∷ (given b.made.name ++ (t.Close ∷ t.As ∷ [])))
shown c (s.CountAliased b) = body_tokens c b ++ (t.Return ∷ t.Name c.word ∷ t.Open ∷ (given b.made.name ++ (t.Close ∷ alias c.alias)))
shown c (s.Aliasing b xs x) = so_far c (p.InItem b xs) ++ (item b.made.name x ++ (t.As ∷ []))
shown c (s.Aliased b xs) = body_tokens c b ++ (t.Return ∷ parted (named b.made.name) t.Comma c.named)
shown c (s.Done y) = tokens c y

abbrev pub NotAlone : Head → Type 0
NotAlone h.Alone = ⊥
NotAlone _ = Unit {0}

abbrev pub IsFind : Head → Type 0
IsFind (h.Find a x) = Unit {0}
IsFind _ = ⊥

abbrev pub FineMade : Choice → Made → Type 0
FineMade c a = IsHead c.braces a.head × NotAlone a.head

-- only CREATE has more pairs than one
abbrev pub FewPairs : Opening → List Pair → Type 0
FewPairs (o.Create a) ps = Unit {0}
FewPairs _ ps = ps ≡ []

abbrev pub FineNode : Node → List Pair → Type 0
FineNode n ps = ArePairs ps × FewPairs n.opening ps

abbrev pub FineBody : Choice → Body → Kind → Type 0
FineBody c b k = IsHead c.braces b.made.head × IsChange b.made.name b.change × Goes b.made.name b.made.head b.change k

abbrev pub FineSet : Choice → Made → List Pair → Type 0
FineSet c a ps = FineMade c a × IsBound a.name × Every (IsPair a.name) ps

abbrev pub FinePlace : Choice → Site → Type 0
FinePlace c (p.InPair n ps k) = FineNode n ps × (has k ps ≡ false)
FinePlace c (p.InSet a ps k) = FineSet c a ps
FinePlace c (p.InItem b xs) = FineBody c b items × Every (IsItem b.made.name) xs × (items_of c.named ≡ xs)

abbrev pub FineTerms : Choice → Site → List Term → Type 0
FineTerms c w ts = FinePlace c w × Every (IsTerm (scope w)) ts

abbrev pub FineDelete : Choice → Made → Type 0
FineDelete c a = FineMade c a × IsBound a.name × IsFind a.head

abbrev pub FineCount : Choice → Body → Type 0
FineCount c b = FineBody c b count × IsBound b.made.name × (is_count c.word ≡ true)

-- all the parts of a statement are right
abbrev pub Right : Choice → Statement → Type 0
Right c y = IsHead c.braces y.head × IsChange y.name y.change × IsTail c y.name y.tail × Goes y.name y.head y.change (kind y.tail)

abbrev pub Fine : Choice → State → Type 0
Fine c (s.Further n ps) = FineNode n ps
Fine c (s.Keyed n ps k) = FineNode n ps × (has k ps ≡ false)
Fine c (s.Needs w ts) = FineTerms c w ts
Fine c (s.Param w ts) = FineTerms c w ts
Fine c (s.Owned w ts) = FineTerms c w ts × IsBound (scope w)
Fine c (s.Dotted w ts) = FineTerms c w ts × IsBound (scope w)
Fine c (s.After w ts) = FinePlace c w × IsSum (scope w) ts
Fine c (s.Closing a) = FineMade c a
Fine c (s.Closed a) = FineMade c a
Fine c (s.Setting a ps) = FineSet c a ps
Fine c (s.SetOwned a ps) = FineSet c a ps
Fine c (s.SetDotted a ps) = FineSet c a ps
Fine c (s.SetKeyed a ps k) = FineSet c a ps
Fine c (s.Deleting a) = FineDelete c a
Fine c (s.Deleted a) = FineDelete c a
Fine c (s.DeleteReturn a) = FineDelete c a
Fine c (s.Returning b) = FineBody c b items × FineBody c b count
Fine c (s.Either b) = FineBody c b items × FineCount c b × (given b.made.name ≡ t.Name c.word ∷ [])
Fine c (s.Counting b) = FineCount c b
Fine c (s.CountOpened b) = FineCount c b
Fine c (s.CountOwned b) = FineCount c b
Fine c (s.Counted b) = FineCount c b
Fine c (s.CountAliasing b) = FineCount c b
Fine c (s.CountAliased b) = FineCount c b
Fine c (s.Aliasing b xs x) = FinePlace c (p.InItem b xs) × IsItem b.made.name x
Fine c (s.Aliased b xs) = FinePlace c (p.InItem b xs) × NotEmpty xs
Fine c (s.Done y) = Right c y × (c.semicolon ≡ true)
Fine c _ = Unit {0}

-- a state behind one more token
pub record Shows (c : Choice) (x : State) (y : Token) (r : State) : Type 0 where
  pub choice : Choice
  pub text : shown choice r ≡ shown c x ++ (y ∷ [])
  pub fine : Fine choice r
