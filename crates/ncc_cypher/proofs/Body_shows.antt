-- Behind the head: one token more shows one token more.
use Rattle.std.proofs.Common.{◌≡◌, Bool, true, false, ◌&&◌, List, [], ◌∷◌, ◌++◌, Option, Some, None, refl, sym, ap, ◌∙◌, append_assoc}
use Rattle.std.specs.Prelude.{is_some}
use Rattle.std.proofs.lemmas.List.{append-nil}
use Rattle.ncc_cypher.specs.declared.token.Token.{Token}
use Rattle.ncc_cypher.specs.declared.token.Token.TheVariants as t
use Rattle.ncc_cypher.specs.declared.tree.Term.{Term}
use Rattle.ncc_cypher.specs.declared.tree.Term.TheVariants as m
use Rattle.ncc_cypher.specs.declared.tree.Pair.{Pair}
use Rattle.ncc_cypher.specs.declared.tree.Item.{Item}
use Rattle.ncc_cypher.specs.declared.tree.Item.TheVariants as i
use Rattle.ncc_cypher.specs.declared.tree.Head.{Head}
use Rattle.ncc_cypher.specs.declared.tree.Head.TheVariants as h
use Rattle.ncc_cypher.specs.declared.tree.Change.TheVariants as c
use Rattle.ncc_cypher.specs.Site.{Made}
use Rattle.ncc_cypher.specs.Site.{Body}
use Rattle.ncc_cypher.specs.Site.{Site}
use Rattle.ncc_cypher.specs.Site as p
use Rattle.ncc_cypher.specs.State.{State}
use Rattle.ncc_cypher.specs.State as s
use Rattle.ncc_cypher.specs.Grammar.{Name, Choice, Named, given, term, sum, change, item, named, NotEmpty, IsBound, IsTerm, IsItem, IsPair, is_count, items_of, Goes, count, items, nothing}
use Rattle.ncc_cypher.specs.Machine.{is_bound, scope, a_pair, a_sum, a_body, is_find, at_closed, at_setting, at_set_owned, at_set_dotted, at_set_keyed, behind_change, at_deleting, at_deleted, at_delete_return, at_needs, at_param, at_dotted, behind_item, behind_name, at_owned, behind_sum, at_after, first_name, at_returning, at_counting, at_either, at_count_opened, at_count_owned, at_counted, at_count_aliasing, at_aliasing, at_aliased}
use Rattle.ncc_cypher.proofs.Lists.{each_then, each_then_more, parted_last, parted_then, not_empty, Every_more, items_more, same_name}
use Rattle.ncc_cypher.proofs.Shown.{made_tokens, body_tokens, so_far, terms_then, shown, NotAlone, IsFind, FineSet, FinePlace, FineTerms, Fine, Shows}
use Rattle.ncc_cypher.proofs.Head_shows.{never, goes_to, let_on, no_items, pair_shows}

-- ---- names and kinds

pub bound_is : (n : Option Name) (x : Name) → is_bound n x ≡ true → (given n ≡ t.Name x ∷ []) × IsBound n
bound_is None x e = absurd cc
bound_is (Some n) x e = (ap (λ (z : Name). t.Name z ∷ []) (same_name n x e), tt)

some_name : (n : Option Name) → is_some n ≡ true → IsBound n
some_name None e = absurd cc
some_name (Some n) e = tt

all_true : (a b : Bool) → (a && b) ≡ true → (a ≡ true) × (b ≡ true)
all_true true true e = (refl, refl)
all_true true false e = absurd cc
all_true false b e = absurd cc

finds : (x : Head) → is_find x ≡ true → IsFind x
finds h.Alone e = absurd cc
finds (h.Create a ps) e = absurd cc
finds (h.Find a q) e = tt
finds (h.Merge a q) e = absurd cc

keep_goes : (n : Option Name) (x : Head) → NotAlone x → Goes n x c.Keep items × Goes n x c.Keep count
keep_goes n h.Alone f = absurd f
keep_goes n (h.Create a ps) f = (tt, tt)
keep_goes n (h.Find a q) f = (tt, tt)
keep_goes n (h.Merge a q) f = (tt, tt)

set_goes : (n : Option Name) (x : Head) (ps : List Pair) → NotAlone x → Goes n x (c.Set ps) items × Goes n x (c.Set ps) count × Goes n x (c.Set ps) nothing
set_goes n h.Alone ps f = absurd f
set_goes n (h.Create a qs) ps f = (tt, tt, tt)
set_goes n (h.Find a q) ps f = (tt, tt, tt)
set_goes n (h.Merge a q) ps f = (tt, tt, tt)

delete_goes : (n : Option Name) (x : Head) → IsFind x → Goes n x c.Delete count × Goes n x c.Delete nothing
delete_goes n h.Alone f = absurd f
delete_goes n (h.Create a ps) f = absurd f
delete_goes n (h.Find a q) f = (tt, tt)
delete_goes n (h.Merge a q) f = absurd f

-- ---- behind the head, and changes

pub closed_shows : (k : Choice) (a : Made) (y : Token) (r : State) → Fine k (s.Closed a) → at_closed a y ≡ Some r → Shows k (s.Closed a) y r
closed_shows k a t.Set r fine e =
    let l = let_on (is_some a.name) (s.Setting a []) r e in
    goes_to k (s.Closed a) t.Set (s.Setting a []) r k l.1 refl (fine, some_name a.name l.0, tt)
closed_shows k a t.Delete r fine e =
    let l = let_on (is_find a.head && is_some a.name) (s.Deleting a) r e in
    let b = all_true (is_find a.head) (is_some a.name) l.0 in
    goes_to k (s.Closed a) t.Delete (s.Deleting a) r k l.1 refl (fine, some_name a.name b.1, finds a.head b.0)
closed_shows k a t.Return r fine e =
    let g = keep_goes a.name a.head fine.1 in
    goes_to k (s.Closed a) t.Return (s.Returning (a_body a c.Keep)) r k e (simp append-nil) ((fine.0, tt, g.0), (fine.0, tt, g.1))
closed_shows k a _ r fine e = never r e

pub setting_shows : (k : Choice) (a : Made) (ps : List Pair) (y : Token) (r : State) → Fine k (s.Setting a ps) → at_setting a ps y ≡ Some r → Shows k (s.Setting a ps) y r
setting_shows k a ps (t.Name x) r fine e =
    let l = let_on (is_bound a.name x) (s.SetOwned a ps) r e in
    let b = bound_is a.name x l.0 in
    goes_to k (s.Setting a ps) (t.Name x) (s.SetOwned a ps) r k l.1 (rw b.0 (simp append_assoc)) fine
setting_shows k a ps _ r fine e = never r e

pub set_owned_shows : (k : Choice) (a : Made) (ps : List Pair) (y : Token) (r : State) → Fine k (s.SetOwned a ps) → at_set_owned a ps y ≡ Some r → Shows k (s.SetOwned a ps) y r
set_owned_shows k a ps t.Dot r fine e = goes_to k (s.SetOwned a ps) t.Dot (s.SetDotted a ps) r k e (simp append_assoc) fine
set_owned_shows k a ps _ r fine e = never r e

pub set_dotted_shows : (k : Choice) (a : Made) (ps : List Pair) (y : Token) (r : State) → Fine k (s.SetDotted a ps) → at_set_dotted a ps y ≡ Some r → Shows k (s.SetDotted a ps) y r
set_dotted_shows k a ps (t.Name q) r fine e = goes_to k (s.SetDotted a ps) (t.Name q) (s.SetKeyed a ps q) r k e (simp append_assoc) fine
set_dotted_shows k a ps _ r fine e = never r e

pub set_keyed_shows : (k : Choice) (a : Made) (ps : List Pair) (q : Name) (y : Token) (r : State) → Fine k (s.SetKeyed a ps q) → at_set_keyed a ps q y ≡ Some r → Shows k (s.SetKeyed a ps q) y r
set_keyed_shows k a ps q t.Equals r fine e = goes_to k (s.SetKeyed a ps q) t.Equals (s.Needs (p.InSet a ps q) []) r k e (append-nil _ ∙ simp append_assoc) (fine, tt)
set_keyed_shows k a ps q _ r fine e = never r e

change_shows : (k : Choice) (a : Made) (ps : List Pair) (x : Pair) (y : Token) (old r : State) → shown k old ≡ made_tokens k a ++ (t.Set ∷ (each_then (change a.name) t.Comma ps ++ change a.name x)) → FineSet k a ps → IsPair a.name x → behind_change a (ps ++ (x ∷ [])) y ≡ Some r → Shows k old y r
change_shows k a ps x t.Comma old r text fine is e =
    goes_to k old t.Comma (s.Setting a (ps ++ (x ∷ []))) r k e (rw (each_then_more (change a.name) t.Comma ps x, text) (simp append_assoc)) (fine.0, fine.1, Every_more (IsPair a.name) ps x fine.2 is)
change_shows k a ps x t.Return old r text fine is e =
    let g = set_goes a.name a.head (ps ++ (x ∷ [])) fine.0.1 in
    let every = Every_more (IsPair a.name) ps x fine.2 is in
    let some = not_empty ps x in
    goes_to k old t.Return (s.Returning (a_body a (c.Set (ps ++ (x ∷ []))))) r k e (rw (parted_last (change a.name) t.Comma ps x, text) (simp append_assoc)) ((fine.0.0, (fine.1, some, every), g.0), (fine.0.0, (fine.1, some, every), g.1))
change_shows k a ps x _ old r text fine is e = never r e

pub deleting_shows : (k : Choice) (a : Made) (y : Token) (r : State) → Fine k (s.Deleting a) → at_deleting a y ≡ Some r → Shows k (s.Deleting a) y r
deleting_shows k a (t.Name x) r fine e =
    let l = let_on (is_bound a.name x) (s.Deleted a) r e in
    let b = bound_is a.name x l.0 in
    goes_to k (s.Deleting a) (t.Name x) (s.Deleted a) r k l.1 (rw b.0 (simp append_assoc)) fine
deleting_shows k a _ r fine e = never r e

pub deleted_shows : (k : Choice) (a : Made) (y : Token) (r : State) → Fine k (s.Deleted a) → at_deleted a y ≡ Some r → Shows k (s.Deleted a) y r
deleted_shows k a t.Return r fine e = goes_to k (s.Deleted a) t.Return (s.DeleteReturn a) r k e refl fine
deleted_shows k a _ r fine e = never r e

-- with how `count` is written
abbrev pub word : Name → Choice → Choice
word x k = record k { word = x }

abbrev pub alias_of : Name → Choice → Choice
alias_of x k = record k { alias = Some x }

pub delete_return_shows : (k : Choice) (a : Made) (y : Token) (r : State) → Fine k (s.DeleteReturn a) → at_delete_return a y ≡ Some r → Shows k (s.DeleteReturn a) y r
delete_return_shows k a (t.Name x) r fine e =
    let l = let_on (is_count x) (s.Counting (a_body a c.Delete)) r e in
    goes_to k (s.DeleteReturn a) (t.Name x) (s.Counting (a_body a c.Delete)) r (word x k) l.1 (simp append_assoc) ((fine.0.0, fine.1, (delete_goes a.name a.head fine.2).0), fine.1, l.0)
delete_return_shows k a _ r fine e = never r e

-- ---- sums

-- a state behind one more term
term_shows : (k : Choice) (w : Site) (ts : List Term) (x : Term) (y : Token) (old r : State) → shown k old ++ (y ∷ []) ≡ so_far k w ++ (terms_then w ts ++ term (scope w) x) → FineTerms k w ts → IsTerm (scope w) x → Some (s.After w (ts ++ (x ∷ []))) ≡ Some r → Shows k old y r
term_shows k w ts x y old r text fine is e = goes_to k old y (s.After w (ts ++ (x ∷ []))) r k e (ap (λ (z : List Token). so_far k w ++ z) (parted_last (term (scope w)) t.Plus ts x) ∙ sym text) (fine.0, (not_empty ts x, Every_more (IsTerm (scope w)) ts x fine.1 is))

pub needs_shows : (k : Choice) (w : Site) (ts : List Term) (y : Token) (r : State) → Fine k (s.Needs w ts) → at_needs w ts y ≡ Some r → Shows k (s.Needs w ts) y r
needs_shows k w ts t.Null r fine e = term_shows k w ts m.Null t.Null (s.Needs w ts) r (simp append_assoc) fine tt e
needs_shows k w ts t.True r fine e = term_shows k w ts (m.Bool true) t.True (s.Needs w ts) r (simp append_assoc) fine tt e
needs_shows k w ts t.False r fine e = term_shows k w ts (m.Bool false) t.False (s.Needs w ts) r (simp append_assoc) fine tt e
needs_shows k w ts (t.Int n) r fine e = term_shows k w ts (m.Int n) (t.Int n) (s.Needs w ts) r (simp append_assoc) fine tt e
needs_shows k w ts (t.Text b) r fine e = term_shows k w ts (m.Text b) (t.Text b) (s.Needs w ts) r (simp append_assoc) fine tt e
needs_shows k w ts t.Dollar r fine e = goes_to k (s.Needs w ts) t.Dollar (s.Param w ts) r k e (simp append_assoc) fine
needs_shows k w ts (t.Name x) r fine e =
    let l = let_on (is_bound (scope w) x) (s.Owned w ts) r e in
    let b = bound_is (scope w) x l.0 in
    goes_to k (s.Needs w ts) (t.Name x) (s.Owned w ts) r k l.1 (ap (λ (z : List Token). so_far k w ++ (terms_then w ts ++ z)) b.0 ∙ simp append_assoc) (fine, b.1)
needs_shows k w ts _ r fine e = never r e

pub param_shows : (k : Choice) (w : Site) (ts : List Term) (y : Token) (r : State) → Fine k (s.Param w ts) → at_param w ts y ≡ Some r → Shows k (s.Param w ts) y r
param_shows k w ts (t.Name x) r fine e = term_shows k w ts (m.Param x) (t.Name x) (s.Param w ts) r (simp append_assoc) fine tt e
param_shows k w ts _ r fine e = never r e

pub dotted_shows : (k : Choice) (w : Site) (ts : List Term) (y : Token) (r : State) → Fine k (s.Dotted w ts) → at_dotted w ts y ≡ Some r → Shows k (s.Dotted w ts) y r
dotted_shows k w ts (t.Name x) r fine e = term_shows k w ts (m.Prop x) (t.Name x) (s.Dotted w ts) r (simp append_assoc) fine.0 fine.1 e
dotted_shows k w ts _ r fine e = never r e

-- with one more item, and its name
abbrev pub item_named : Item → Option Name → Choice → Choice
item_named x n k = record k { named = k.named ++ (record { item = x; name = n } ∷ []) }

item_fine : (k : Choice) (b : Body) (xs : List Item) (x : Item) (n : Option Name) → FinePlace k (p.InItem b xs) → IsItem b.made.name x → FinePlace (item_named x n k) (p.InItem b (xs ++ (x ∷ [])))
item_fine k b xs x n fine is = (fine.0, Every_more (IsItem b.made.name) xs x fine.1 is, items_more k.named (record { item = x; name = n }) ∙ ap (λ (z : List Item). z ++ (x ∷ [])) fine.2)

item_shows : (k : Choice) (b : Body) (xs : List Item) (x : Item) (y : Token) (old r : State) → shown k old ≡ so_far k (p.InItem b xs) ++ item b.made.name x → FinePlace k (p.InItem b xs) → IsItem b.made.name x → behind_item b xs x y ≡ Some r → Shows k old y r
item_shows k b xs x t.Comma old r text fine is e =
    goes_to k old t.Comma (s.Needs (p.InItem b (xs ++ (x ∷ []))) []) r (item_named x None k) e
    (append-nil _ ∙ ap (λ (z : List Token). body_tokens k b ++ (t.Return ∷ z)) (each_then_more (named b.made.name) t.Comma k.named (record { item = x; name = None })) ∙ rw text (simp (append_assoc, append-nil)))
    (item_fine k b xs x None fine is, tt)
item_shows k b xs x t.As old r text fine is e = goes_to k old t.As (s.Aliasing b xs x) r k e (rw text (simp append_assoc)) (fine, is)
item_shows k b xs x _ old r text fine is e = never r e

name_shows : (k : Choice) (w : Site) (ts : List Term) (y : Token) (r : State) → Fine k (s.Owned w ts) → behind_name w ts y ≡ Some r → Shows k (s.Owned w ts) y r
name_shows k (p.InItem b xs) [] y r fine e = item_shows k b xs i.Whole y (s.Owned (p.InItem b xs) []) r refl fine.0.0 fine.1 e
name_shows k (p.InItem b xs) (x ∷ ts) y r fine e = never r e
name_shows k (p.InPair n ps q) ts y r fine e = never r e
name_shows k (p.InSet a ps q) ts y r fine e = never r e

pub owned_shows : (k : Choice) (w : Site) (ts : List Term) (y : Token) (r : State) → Fine k (s.Owned w ts) → at_owned w ts y ≡ Some r → Shows k (s.Owned w ts) y r
owned_shows k w ts t.Dot r fine e = goes_to k (s.Owned w ts) t.Dot (s.Dotted w ts) r k e (simp append_assoc) fine
owned_shows k w ts y r fine e = name_shows k w ts y r fine e

sum_shows : (k : Choice) (w : Site) (ts : List Term) (y : Token) (r : State) → Fine k (s.After w ts) → behind_sum w ts y ≡ Some r → Shows k (s.After w ts) y r
sum_shows k (p.InPair n ps q) ts y r fine e = pair_shows k n ps (a_pair q ts) y (s.After (p.InPair n ps q) ts) r (simp append_assoc) fine.0.0 fine.0.1 fine.1 e
sum_shows k (p.InSet a ps q) ts y r fine e = change_shows k a ps (a_pair q ts) y (s.After (p.InSet a ps q) ts) r (simp append_assoc) fine.0 fine.1 e
sum_shows k (p.InItem b xs) ts y r fine e = item_shows k b xs (a_sum ts) y (s.After (p.InItem b xs) ts) r refl fine.0 fine.1 e

pub after_shows : (k : Choice) (w : Site) (ts : List Term) (y : Token) (r : State) → Fine k (s.After w ts) → at_after w ts y ≡ Some r → Shows k (s.After w ts) y r
after_shows k w ts t.Plus r fine e =
    goes_to k (s.After w ts) t.Plus (s.Needs w ts) r k e (ap (λ (z : List Token). so_far k w ++ z) (parted_then (term (scope w)) t.Plus ts fine.1.0) ∙ sym (append_assoc (so_far k w) (sum (scope w) ts) (t.Plus ∷ []))) (fine.0, fine.1.1)
after_shows k w ts y r fine e = sum_shows k w ts y r fine e

-- ---- what is returned

-- a state that shows the same tokens
like : (k d : Choice) (x old : State) (y : Token) (r : State) → shown d x ≡ shown k old → Shows d x y r → Shows k old y r
like k d x old y r e w = record { choice = w.choice; text = w.text ∙ ap (λ (z : List Token). z ++ (y ∷ [])) e; fine = w.fine }

first_shows : (k : Choice) (b : Body) (x : Name) (q z : Bool) (r : State) → is_bound b.made.name x ≡ q → is_count x ≡ z → Fine k (s.Returning b) → first_name q z b ≡ Some r → Shows k (s.Returning b) (t.Name x) r
first_shows k b x true true r eq ez fine e =
    let n = bound_is b.made.name x eq in
    goes_to k (s.Returning b) (t.Name x) (s.Either b) r (word x k) e (rw n.0 (simp append_assoc)) (fine.0, (fine.1, n.1, ez), n.0)
first_shows k b x true false r eq ez fine e =
    let n = bound_is b.made.name x eq in
    goes_to k (s.Returning b) (t.Name x) (s.Owned (p.InItem b []) []) r (no_items k) e (rw n.0 (simp append_assoc)) (((fine.0, tt, refl), tt), n.1)
first_shows k b x false true r eq ez fine e =
    let l = let_on (is_some b.made.name) (s.Counting b) r e in
    goes_to k (s.Returning b) (t.Name x) (s.Counting b) r (word x k) l.1 (simp append_assoc) (fine.1, some_name b.made.name l.0, ez)
first_shows k b x false false r eq ez fine e = never r e

pub returning_shows : (k : Choice) (b : Body) (y : Token) (r : State) → Fine k (s.Returning b) → at_returning b y ≡ Some r → Shows k (s.Returning b) y r
returning_shows k b (t.Name x) r fine e = first_shows k b x (is_bound b.made.name x) (is_count x) r refl refl fine e
returning_shows k b y r fine e = like k (no_items k) (s.Needs (p.InItem b []) []) (s.Returning b) y r (append-nil _) (needs_shows (no_items k) (p.InItem b []) [] y r ((fine.0, tt, refl), tt) e)

pub either_shows : (k : Choice) (b : Body) (y : Token) (r : State) → Fine k (s.Either b) → at_either b y ≡ Some r → Shows k (s.Either b) y r
either_shows k b t.Open r fine e = goes_to k (s.Either b) t.Open (s.CountOpened b) r k e (rw fine.2 (simp append_assoc)) fine.1
either_shows k b y r fine e = like k (no_items k) (s.Owned (p.InItem b []) []) (s.Either b) y r (simp append_assoc) (owned_shows (no_items k) (p.InItem b []) [] y r (((fine.0, tt, refl), tt), fine.1.1) e)

pub counting_shows : (k : Choice) (b : Body) (y : Token) (r : State) → Fine k (s.Counting b) → at_counting b y ≡ Some r → Shows k (s.Counting b) y r
counting_shows k b t.Open r fine e = goes_to k (s.Counting b) t.Open (s.CountOpened b) r k e (simp append_assoc) fine
counting_shows k b _ r fine e = never r e

pub count_opened_shows : (k : Choice) (b : Body) (y : Token) (r : State) → Fine k (s.CountOpened b) → at_count_opened b y ≡ Some r → Shows k (s.CountOpened b) y r
count_opened_shows k b (t.Name x) r fine e =
    let l = let_on (is_bound b.made.name x) (s.CountOwned b) r e in
    let n = bound_is b.made.name x l.0 in
    goes_to k (s.CountOpened b) (t.Name x) (s.CountOwned b) r k l.1 (rw n.0 (simp append_assoc)) fine
count_opened_shows k b _ r fine e = never r e

pub count_owned_shows : (k : Choice) (b : Body) (y : Token) (r : State) → Fine k (s.CountOwned b) → at_count_owned b y ≡ Some r → Shows k (s.CountOwned b) y r
count_owned_shows k b t.Close r fine e = goes_to k (s.CountOwned b) t.Close (s.Counted b) r k e (simp append_assoc) fine
count_owned_shows k b _ r fine e = never r e

pub counted_shows : (k : Choice) (b : Body) (y : Token) (r : State) → Fine k (s.Counted b) → at_counted b y ≡ Some r → Shows k (s.Counted b) y r
counted_shows k b t.As r fine e = goes_to k (s.Counted b) t.As (s.CountAliasing b) r k e (simp append_assoc) fine
counted_shows k b _ r fine e = never r e

pub count_aliasing_shows : (k : Choice) (b : Body) (y : Token) (r : State) → Fine k (s.CountAliasing b) → at_count_aliasing b y ≡ Some r → Shows k (s.CountAliasing b) y r
count_aliasing_shows k b (t.Name x) r fine e = goes_to k (s.CountAliasing b) (t.Name x) (s.CountAliased b) r (alias_of x k) e (simp append_assoc) fine
count_aliasing_shows k b _ r fine e = never r e

pub aliasing_shows : (k : Choice) (b : Body) (xs : List Item) (x : Item) (y : Token) (r : State) → Fine k (s.Aliasing b xs x) → at_aliasing b xs x y ≡ Some r → Shows k (s.Aliasing b xs x) y r
aliasing_shows k b xs x (t.Name a) r fine e =
    goes_to k (s.Aliasing b xs x) (t.Name a) (s.Aliased b (xs ++ (x ∷ []))) r (item_named x (Some a) k) e
    (ap (λ (z : List Token). body_tokens k b ++ (t.Return ∷ z)) (parted_last (named b.made.name) t.Comma k.named (record { item = x; name = Some a })) ∙ simp append_assoc)
    (item_fine k b xs x (Some a) fine.0 fine.1, not_empty xs x)
aliasing_shows k b xs x _ r fine e = never r e

pub some_named : (ns : List Named) (xs : List Item) → items_of ns ≡ xs → NotEmpty xs → NotEmpty ns
some_named [] [] e f = f
some_named [] (x ∷ xs) e f = absurd cc
some_named (n ∷ ns) xs e f = tt

pub aliased_shows : (k : Choice) (b : Body) (xs : List Item) (y : Token) (r : State) → Fine k (s.Aliased b xs) → at_aliased b xs y ≡ Some r → Shows k (s.Aliased b xs) y r
aliased_shows k b xs t.Comma r fine e =
    goes_to k (s.Aliased b xs) t.Comma (s.Needs (p.InItem b xs) []) r k e
    (append-nil _ ∙ ap (λ (z : List Token). body_tokens k b ++ (t.Return ∷ z)) (parted_then (named b.made.name) t.Comma k.named (some_named k.named xs fine.0.2 fine.1)) ∙ simp append_assoc)
    (fine.0, tt)
aliased_shows k b xs _ r fine e = never r e
