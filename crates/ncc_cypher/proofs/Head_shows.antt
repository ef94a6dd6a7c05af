-- The head: one token more shows one token more.
use Rattle.std.proofs.Common.{◌≡◌, Bool, true, false, not, List, [], ◌∷◌, ◌++◌, Option, Some, None, refl, sym, ap, subst, ◌∙◌, append_assoc}
use Rattle.std.proofs.lemmas.List.{append-nil}
use Rattle.ncc_cypher.specs.declared.token.Token.{Token}
use Rattle.ncc_cypher.specs.declared.token.Token.TheVariants as t
use Rattle.ncc_cypher.specs.declared.tree.Pair.{Pair}
use Rattle.ncc_cypher.specs.declared.tree.Head.{Head}
use Rattle.ncc_cypher.specs.declared.tree.Head.TheVariants as h
use Rattle.ncc_cypher.specs.Verb.{Verb}
use Rattle.ncc_cypher.specs.Verb as v
use Rattle.ncc_cypher.specs.Opening.{Opening}
use Rattle.ncc_cypher.specs.Opening as o
use Rattle.ncc_cypher.specs.Site.{Node}
use Rattle.ncc_cypher.specs.Site.{Made}
use Rattle.ncc_cypher.specs.Site as p
use Rattle.ncc_cypher.specs.State.{State}
use Rattle.ncc_cypher.specs.State as s
use Rattle.ncc_cypher.specs.Grammar.{Name, Choice, given, pair, node, head, pattern, IsPair, has, ArePairs}
use Rattle.ncc_cypher.specs.Machine.{when, a_node, a_made, at_start, at_verb, unlabelled, at_opened, opening, at_coloned, bare, at_labelled, no_pair, at_braced, at_further, at_keyed, with_pair, more_pairs, behind_pair, at_closing, then_state, alone}
use Rattle.ncc_cypher.proofs.Lists.{each_then, each_then_more, parted_last, pairs_more}
use Rattle.ncc_cypher.proofs.Shown.{verb, opened, node_tokens, shown, NotAlone, FineMade, FewPairs, FineNode, Fine, Shows}

pub never : {P : Type 0} (r : State) → None ≡ Some r → P
never r e = absurd cc

some_is : (a r : State) → Some a ≡ Some r → a ≡ r
some_is a r e = cc

pub goes_to : (k : Choice) (x : State) (y : Token) (a r : State) (d : Choice) → Some a ≡ Some r → shown d a ≡ shown k x ++ (y ∷ []) → Fine d a → Shows k x y r
goes_to k x y a r d e text fine = subst (λ (z : State). Shows k x y z) (some_is a r e) (record { choice = d; text = text; fine = fine })

-- a test that lets on
pub let_on : (b : Bool) (a r : State) → when b a ≡ Some r → (b ≡ true) × (Some a ≡ Some r)
let_on true a r e = (refl, e)
let_on false a r e = never r e

abbrev pub braces : Bool → Choice → Choice
braces b k = record k { braces = b }

abbrev pub no_items : Choice → Choice
no_items k = record k { named = [] }

pub start_shows : (k : Choice) (y : Token) (r : State) → at_start y ≡ Some r → Shows k s.Start y r
start_shows k t.Return r e = goes_to k s.Start t.Return (s.Needs (p.InItem alone []) []) r (no_items k) e refl (((tt, tt, refl), tt, refl), tt)
start_shows k t.Create r e = goes_to k s.Start t.Create (s.Begun v.Create) r k e refl tt
start_shows k t.Match r e = goes_to k s.Start t.Match (s.Begun v.Find) r k e refl tt
start_shows k t.Merge r e = goes_to k s.Start t.Merge (s.Begun v.Merge) r k e refl tt
start_shows k _ r e = never r e

pub verb_shows : (k : Choice) (a : Verb) (y : Token) (r : State) → at_verb a y ≡ Some r → Shows k (s.Begun a) y r
verb_shows k a t.Open r e = goes_to k (s.Begun a) t.Open (s.Opened a) r k e refl tt
verb_shows k a _ r e = never r e

-- a state behind the parenthesis, with the name or none
abbrev at_name : Verb → Option Name → State → Type 0
at_name a n x = (k : Choice) → shown k x ≡ verb a ∷ t.Open ∷ given n

found_then : (n : Option Name) (y : Token) → (node t.Match n None) ++ (y ∷ []) ≡ (t.Match ∷ t.Open ∷ given n) ++ (y ∷ [])
found_then None y = refl
found_then (Some n) y = refl

unlabelled_shows : (k : Choice) (a : Verb) (n : Option Name) (x : State) (y : Token) (r : State) → at_name a n x → unlabelled a n y ≡ Some r → Shows k x y r
unlabelled_shows k a n x t.Colon r at e = goes_to k x t.Colon (s.Coloned a n) r k e (rw (at k) refl) tt
unlabelled_shows k v.Find n x t.LeftBrace r at e = goes_to k x t.LeftBrace (s.Braced (a_node (o.Find None) n)) r k e (found_then n t.LeftBrace ∙ ap (λ (z : List Token). z ++ (t.LeftBrace ∷ [])) (sym (at k))) tt
unlabelled_shows k v.Create n x t.LeftBrace r at e = never r e
unlabelled_shows k v.Merge n x t.LeftBrace r at e = never r e
unlabelled_shows k v.Find n x t.Close r at e = goes_to k x t.Close (s.Closed (a_made (h.Find None None) n)) r k e (found_then n t.Close ∙ ap (λ (z : List Token). z ++ (t.Close ∷ [])) (sym (at k))) (tt, tt)
unlabelled_shows k v.Create n x t.Close r at e = never r e
unlabelled_shows k v.Merge n x t.Close r at e = never r e
unlabelled_shows k a n x _ r at e = never r e

pub opened_shows : (k : Choice) (a : Verb) (y : Token) (r : State) → at_opened a y ≡ Some r → Shows k (s.Opened a) y r
opened_shows k a (t.Name n) r e = goes_to k (s.Opened a) (t.Name n) (s.Called a n) r k e refl tt
opened_shows k a y r e = unlabelled_shows k a None (s.Opened a) y r (λ d. refl) e

pub called_shows : (k : Choice) (a : Verb) (n : Name) (y : Token) (r : State) → unlabelled a (Some n) y ≡ Some r → Shows k (s.Called a n) y r
called_shows k a n y r e = unlabelled_shows k a (Some n) (s.Called a n) y r (λ d. refl) e

opening_shows : (a : Verb) (n : Option Name) (b : Name) → opened (opening a b) n ≡ verb a ∷ t.Open ∷ (given n ++ (t.Colon ∷ t.Name b ∷ []))
opening_shows v.Create n b = refl
opening_shows v.Find n b = refl
opening_shows v.Merge n b = refl

pub coloned_shows : (k : Choice) (a : Verb) (n : Option Name) (y : Token) (r : State) → at_coloned a n y ≡ Some r → Shows k (s.Coloned a n) y r
coloned_shows k a n (t.Name b) r e = goes_to k (s.Coloned a n) (t.Name b) (s.Labelled (a_node (opening a b) n)) r k e (opening_shows a n b ∙ simp append_assoc) tt
coloned_shows k a n _ r e = never r e

bare_shows : (k : Choice) (a : Opening) (n : Option Name) (r : State) → then_state (λ x. s.Closed (a_made x n)) (bare a) ≡ Some r → Shows k (s.Labelled (a_node a n)) t.Close r
bare_shows k (o.Create a) None r e = goes_to k (s.Labelled (a_node (o.Create a) None)) t.Close (s.Closed (a_made (h.Create a []) None)) r (braces false k) e refl (((tt, tt), refl), tt)
bare_shows k (o.Create a) (Some n) r e = goes_to k (s.Labelled (a_node (o.Create a) (Some n))) t.Close (s.Closed (a_made (h.Create a []) (Some n))) r (braces false k) e refl (((tt, tt), refl), tt)
bare_shows k (o.Find a) n r e = goes_to k (s.Labelled (a_node (o.Find a) n)) t.Close (s.Closed (a_made (h.Find a None) n)) r k e refl (tt, tt)
bare_shows k (o.Merge a) n r e = never r e

pub labelled_shows : (k : Choice) (n : Node) (y : Token) (r : State) → at_labelled n y ≡ Some r → Shows k (s.Labelled n) y r
labelled_shows k n t.LeftBrace r e = goes_to k (s.Labelled n) t.LeftBrace (s.Braced n) r k e refl tt
labelled_shows k n t.Close r e = bare_shows k n.opening n.name r e
labelled_shows k n _ r e = never r e

few : (a : Opening) → FewPairs a []
few (o.Create a) = tt
few (o.Find a) = refl
few (o.Merge a) = refl

no_pair_shows : (k : Choice) (a : Opening) (n : Option Name) (r : State) → then_state (λ x. s.Closing (a_made x n)) (no_pair a) ≡ Some r → Shows k (s.Braced (a_node a n)) t.RightBrace r
no_pair_shows k (o.Create a) n r e = goes_to k (s.Braced (a_node (o.Create a) n)) t.RightBrace (s.Closing (a_made (h.Create a []) n)) r (braces true k) e (simp append_assoc) (((tt, tt), tt), tt)
no_pair_shows k (o.Find a) n r e = never r e
no_pair_shows k (o.Merge a) n r e = never r e

pub braced_shows : (k : Choice) (n : Node) (y : Token) (r : State) → at_braced n y ≡ Some r → Shows k (s.Braced n) y r
braced_shows k n (t.Name q) r e = goes_to k (s.Braced n) (t.Name q) (s.Keyed n [] q) r k e (simp append_assoc) (((tt, tt), few n.opening), refl)
braced_shows k n t.RightBrace r e = no_pair_shows k n.opening n.name r e
braced_shows k n _ r e = never r e

not_true : (b : Bool) → not b ≡ true → b ≡ false
not_true true e = absurd cc
not_true false e = refl

pub further_shows : (k : Choice) (n : Node) (ps : List Pair) (y : Token) (r : State) → Fine k (s.Further n ps) → at_further n ps y ≡ Some r → Shows k (s.Further n ps) y r
further_shows k n ps (t.Name q) r fine e =
    let l = let_on (not (has q ps)) (s.Keyed n ps q) r e in
    goes_to k (s.Further n ps) (t.Name q) (s.Keyed n ps q) r k l.1 (simp append_assoc) (fine, not_true (has q ps) l.0)
further_shows k n ps _ r fine e = never r e

pub keyed_shows : (k : Choice) (n : Node) (ps : List Pair) (q : Name) (y : Token) (r : State) → Fine k (s.Keyed n ps q) → at_keyed n ps q y ≡ Some r → Shows k (s.Keyed n ps q) y r
keyed_shows k n ps q t.Colon r fine e = goes_to k (s.Keyed n ps q) t.Colon (s.Needs (p.InPair n ps q) []) r k e (append-nil _ ∙ simp append_assoc) (fine, tt)
keyed_shows k n ps q _ r fine e = never r e

-- behind a pair: a further one, or the brace
last_shows : (k : Choice) (a : Opening) (n : Option Name) (ps : List Pair) (x : Pair) → FewPairs a ps → pattern true n (with_pair a ps x) ≡ opened a n ++ (t.LeftBrace ∷ (each_then pair t.Comma ps ++ (pair x ++ (t.RightBrace ∷ []))))
last_shows k (o.Create a) None ps x fp = rw (parted_last pair t.Comma ps x) (simp append_assoc)
last_shows k (o.Create a) (Some n) ps x fp = rw (parted_last pair t.Comma ps x) (simp append_assoc)
last_shows k (o.Find a) None ps x fp = rw fp (simp append_assoc)
last_shows k (o.Find a) (Some n) ps x fp = rw fp (simp append_assoc)
last_shows k (o.Merge a) None ps x fp = rw fp (simp append_assoc)
last_shows k (o.Merge a) (Some n) ps x fp = rw fp (simp append_assoc)

last_fine : (k : Choice) (a : Opening) (n : Option Name) (ps : List Pair) (x : Pair) → ArePairs ps → has x.key ps ≡ false → IsPair None x → FineMade (braces true k) (a_made (with_pair a ps x) n)
last_fine k (o.Create a) n ps x are new is = ((pairs_more ps x are new is, tt), tt)
last_fine k (o.Find a) n ps x are new is = (is, tt)
last_fine k (o.Merge a) n ps x are new is = (is, tt)

comma_shows : (k : Choice) (a : Opening) (n : Option Name) (ps : List Pair) (x : Pair) (old r : State) → shown k old ≡ opened a n ++ (t.LeftBrace ∷ (each_then pair t.Comma ps ++ pair x)) → ArePairs ps → has x.key ps ≡ false → IsPair None x
    → more_pairs a (s.Further (a_node a n) (ps ++ (x ∷ []))) ≡ Some r → Shows k old t.Comma r
comma_shows k (o.Create a) None ps x old r text are new is e = goes_to k old t.Comma (s.Further (a_node (o.Create a) None) (ps ++ (x ∷ []))) r k e (rw (each_then_more pair t.Comma ps x, text) (simp append_assoc)) (pairs_more ps x are new is, tt)
comma_shows k (o.Create a) (Some n) ps x old r text are new is e = goes_to k old t.Comma (s.Further (a_node (o.Create a) (Some n)) (ps ++ (x ∷ []))) r k e (rw (each_then_more pair t.Comma ps x, text) (simp append_assoc)) (pairs_more ps x are new is, tt)
comma_shows k (o.Find a) n ps x old r text are new is e = never r e
comma_shows k (o.Merge a) n ps x old r text are new is e = never r e

pub pair_shows : (k : Choice) (n : Node) (ps : List Pair) (x : Pair) (y : Token) (old r : State) → shown k old ≡ node_tokens n ++ (t.LeftBrace ∷ (each_then pair t.Comma ps ++ pair x)) → FineNode n ps → has x.key ps ≡ false → IsPair None x → behind_pair n ps x y ≡ Some r → Shows k old y r
pair_shows k n ps x t.RightBrace old r text fine new is e =
    goes_to k old t.RightBrace (s.Closing (a_made (with_pair n.opening ps x) n.name)) r (braces true k) e (last_shows k n.opening n.name ps x fine.1 ∙ rw text (simp append_assoc)) (last_fine k n.opening n.name ps x fine.0 new is)
pair_shows k n ps x t.Comma old r text fine new is e = comma_shows k n.opening n.name ps x old r text fine.0 new is e
pair_shows k n ps x _ old r text fine new is e = never r e

head_closes : (b : Bool) (n : Option Name) (x : Head) → NotAlone x → head b n x ≡ pattern b n x ++ (t.Close ∷ [])
head_closes b n h.Alone f = absurd f
head_closes b n (h.Create a ps) f = refl
head_closes b n (h.Find a None) f = refl
head_closes b n (h.Find a (Some q)) f = refl
head_closes b n (h.Merge a q) f = refl

pub closing_shows : (k : Choice) (a : Made) (y : Token) (r : State) → Fine k (s.Closing a) → at_closing a y ≡ Some r → Shows k (s.Closing a) y r
closing_shows k a t.Close r fine e = goes_to k (s.Closing a) t.Close (s.Closed a) r k e (head_closes k.braces a.name a.head fine.1) fine
closing_shows k a _ r fine e = never r e
