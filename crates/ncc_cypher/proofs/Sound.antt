-- What the machine accepts is spelled so.
use Rattle.std.proofs.Common.{◌≡◌, Bool, true, false, not, List, [], ◌∷◌, ◌++◌, Option, Some, None, refl, sym, ap, subst, ◌∙◌, append_assoc}
use Rattle.std.proofs.lemmas.List.{append-nil}
use Rattle.ncc_cypher.specs.declared.token.Token.{Token}
use Rattle.ncc_cypher.specs.declared.token.Token.TheVariants as t
use Rattle.ncc_cypher.specs.declared.tree.Term.{Term}
use Rattle.ncc_cypher.specs.declared.tree.Pair.{Pair}
use Rattle.ncc_cypher.specs.declared.tree.Item.{Item}
use Rattle.ncc_cypher.specs.declared.tree.Item.TheVariants as i
use Rattle.ncc_cypher.specs.declared.tree.Head.{Head}
use Rattle.ncc_cypher.specs.declared.tree.Head.TheVariants as h
use Rattle.ncc_cypher.specs.declared.tree.Change.TheVariants as c
use Rattle.ncc_cypher.specs.declared.tree.Tail.TheVariants as l
use Rattle.ncc_cypher.specs.declared.tree.Statement.{Statement}
use Rattle.ncc_cypher.specs.Site.{Made}
use Rattle.ncc_cypher.specs.Site.{Body}
use Rattle.ncc_cypher.specs.Site.{Site}
use Rattle.ncc_cypher.specs.Site as p
use Rattle.ncc_cypher.specs.State.{State}
use Rattle.ncc_cypher.specs.State as s
use Rattle.ncc_cypher.specs.Grammar.{Name, Choice, change, item, named, head, changes, tail, tokens, IsItem, IsPair, Goes, nothing, Spells}
use Rattle.ncc_cypher.specs.Machine.{when, a_pair, a_sum, a_body, a_statement, is_find, then_state, go, step, ends, accepts, end_of_sum, end_of_name, then_run, run}
use Rattle.ncc_cypher.proofs.Lists.{parted_last, not_empty, Every_more, items_more}
use Rattle.ncc_cypher.proofs.Shown.{so_far, shown, NotAlone, IsFind, FinePlace, Right, Fine, Shows}
use Rattle.ncc_cypher.proofs.Head_shows.{start_shows, verb_shows, opened_shows, called_shows, coloned_shows, labelled_shows, braced_shows, further_shows, keyed_shows, closing_shows, never}
use Rattle.ncc_cypher.proofs.Body_shows.{closed_shows, setting_shows, set_owned_shows, set_dotted_shows, set_keyed_shows, deleting_shows, deleted_shows, delete_return_shows, needs_shows, param_shows, dotted_shows, owned_shows, after_shows, returning_shows, either_shows, counting_shows, count_opened_shows, count_owned_shows, counted_shows, count_aliasing_shows, aliasing_shows, aliased_shows, item_named}

go_shows : (k : Choice) (x : State) (y : Token) (r : State) → Fine k x → go x y ≡ Some r → Shows k x y r
unfolding go
go_shows k s.Start y r f e = start_shows k y r e
go_shows k (s.Begun a) y r f e = verb_shows k a y r e
go_shows k (s.Opened a) y r f e = opened_shows k a y r e
go_shows k (s.Called a n) y r f e = called_shows k a n y r e
go_shows k (s.Coloned a n) y r f e = coloned_shows k a n y r e
go_shows k (s.Labelled n) y r f e = labelled_shows k n y r e
go_shows k (s.Braced n) y r f e = braced_shows k n y r e
go_shows k (s.Further n ps) y r f e = further_shows k n ps y r f e
go_shows k (s.Keyed n ps q) y r f e = keyed_shows k n ps q y r f e
go_shows k (s.Needs w ts) y r f e = needs_shows k w ts y r f e
go_shows k (s.Param w ts) y r f e = param_shows k w ts y r f e
go_shows k (s.Owned w ts) y r f e = owned_shows k w ts y r f e
go_shows k (s.Dotted w ts) y r f e = dotted_shows k w ts y r f e
go_shows k (s.After w ts) y r f e = after_shows k w ts y r f e
go_shows k (s.Closing a) y r f e = closing_shows k a y r f e
go_shows k (s.Closed a) y r f e = closed_shows k a y r f e
go_shows k (s.Setting a ps) y r f e = setting_shows k a ps y r f e
go_shows k (s.SetOwned a ps) y r f e = set_owned_shows k a ps y r f e
go_shows k (s.SetDotted a ps) y r f e = set_dotted_shows k a ps y r f e
go_shows k (s.SetKeyed a ps q) y r f e = set_keyed_shows k a ps q y r f e
go_shows k (s.Deleting a) y r f e = deleting_shows k a y r f e
go_shows k (s.Deleted a) y r f e = deleted_shows k a y r f e
go_shows k (s.DeleteReturn a) y r f e = delete_return_shows k a y r f e
go_shows k (s.Returning b) y r f e = returning_shows k b y r f e
go_shows k (s.Either b) y r f e = either_shows k b y r f e
go_shows k (s.Counting b) y r f e = counting_shows k b y r f e
go_shows k (s.CountOpened b) y r f e = count_opened_shows k b y r f e
go_shows k (s.CountOwned b) y r f e = count_owned_shows k b y r f e
go_shows k (s.Counted b) y r f e = counted_shows k b y r f e
go_shows k (s.CountAliasing b) y r f e = count_aliasing_shows k b y r f e
go_shows k (s.CountAliased b) y r f e = never r e
go_shows k (s.Aliasing b xs x) y r f e = aliasing_shows k b xs x y r f e
go_shows k (s.Aliased b xs) y r f e = aliased_shows k b xs y r f e
go_shows k (s.Done x) y r f e = never r e

-- ---- ends

-- the tokens of a statement before its semicolon
abbrev pub body_of : Choice → Statement → List Token
body_of k y = head k.braces y.name y.head ++ (changes y.name y.change ++ tail k y.name y.tail)

-- the state shows the whole statement
pub record Ended (k : Choice) (x : State) (y : Statement) : Type 0 where
  pub choice : Choice
  pub text : body_of choice y ≡ shown k x
  pub right : Right choice y

no_statement : {P : Type 0} (y : Statement) → None ≡ Some y → P
no_statement y e = absurd cc

same_statement : (a y : Statement) → Some a ≡ Some y → a ≡ y
same_statement a y e = cc

ended_at : (k d : Choice) (x : State) (a y : Statement) → Some a ≡ Some y → body_of d a ≡ shown k x → Right d a → Ended k x y
ended_at k d x a y e text right = subst (λ (z : Statement). Ended k x z) (same_statement a y e) (record { choice = d; text = text; right = right })

abbrev no_alias : Choice → Choice
no_alias k = record k { alias = None }

abbrev just : Item → Choice → Choice
just x k = record k { named = record { item = x; name = None } ∷ [] }

items_end : (k : Choice) (b : Body) (xs : List Item) (x : Item) (old : State) (y : Statement) → shown k old ≡ so_far k (p.InItem b xs) ++ item b.made.name x → FinePlace k (p.InItem b xs) → IsItem b.made.name x → Some (a_statement b (l.Items (xs ++ (x ∷ [])))) ≡ Some y → Ended k old y
items_end k b xs x old y text fine is e =
    ended_at k (item_named x None k) old (a_statement b (l.Items (xs ++ (x ∷ [])))) y e
    (ap (λ (z : List Token). head k.braces b.made.name b.made.head ++ (changes b.made.name b.change ++ (t.Return ∷ z))) (parted_last (named b.made.name) t.Comma k.named (record { item = x; name = None })) ∙ rw text (simp (append_assoc, append-nil)))
    (fine.0.0, fine.0.1, (not_empty xs x, Every_more (IsItem b.made.name) xs x fine.1 is, items_more k.named (record { item = x; name = None }) ∙ ap (λ (z : List Item). z ++ (x ∷ [])) fine.2), fine.0.2)

name_ends : (k : Choice) (w : Site) (ts : List Term) (y : Statement) → Fine k (s.Owned w ts) → end_of_name w ts ≡ Some y → Ended k (s.Owned w ts) y
name_ends k (p.InItem b xs) [] y f e = items_end k b xs i.Whole (s.Owned (p.InItem b xs) []) y refl f.0.0 f.1 e
name_ends k (p.InItem b xs) (x ∷ ts) y f e = no_statement y e
name_ends k (p.InPair n ps q) ts y f e = no_statement y e
name_ends k (p.InSet a ps q) ts y f e = no_statement y e

set_nothing : (n : Option Name) (x : Head) (ps : List Pair) → NotAlone x → Goes n x (c.Set ps) nothing
set_nothing n h.Alone ps f = absurd f
set_nothing n (h.Create a qs) ps f = tt
set_nothing n (h.Find a q) ps f = tt
set_nothing n (h.Merge a q) ps f = tt

sum_ends : (k : Choice) (w : Site) (ts : List Term) (y : Statement) → Fine k (s.After w ts) → end_of_sum w ts ≡ Some y → Ended k (s.After w ts) y
sum_ends k (p.InPair n ps q) ts y f e = no_statement y e
sum_ends k (p.InSet a ps q) ts y f e =
    let x : Pair = a_pair q ts in
    ended_at k k (s.After (p.InSet a ps q) ts) (a_statement (a_body a (c.Set (ps ++ (x ∷ [])))) l.Nothing) y e
    (ap (λ (z : List Token). head k.braces a.name a.head ++ ((t.Set ∷ z) ++ [])) (parted_last (change a.name) t.Comma ps x) ∙ simp (append_assoc, append-nil))
    (f.0.0.0, (f.0.1, not_empty ps x, Every_more (IsPair a.name) ps x f.0.2 f.1), tt, set_nothing a.name a.head (ps ++ (x ∷ [])) f.0.0.1)
sum_ends k (p.InItem b xs) ts y f e = items_end k b xs (a_sum ts) (s.After (p.InItem b xs) ts) y refl f.0 f.1 e

keep_nothing : (n : Option Name) (x : Head) → NotAlone x → is_find x ≡ false → Goes n x c.Keep nothing
keep_nothing n h.Alone f e = absurd f
keep_nothing n (h.Create a qs) f e = tt
keep_nothing n (h.Find a q) f e = absurd cc
keep_nothing n (h.Merge a q) f e = tt

closed_ends : (k : Choice) (a : Made) (b : Bool) (y : Statement) → is_find a.head ≡ b → Fine k (s.Closed a) → when (not b) (a_statement (a_body a c.Keep) l.Nothing) ≡ Some y → Ended k (s.Closed a) y
closed_ends k a true y is f e = no_statement y e
closed_ends k a false y is f e = ended_at k k (s.Closed a) (a_statement (a_body a c.Keep) l.Nothing) y e (append-nil _) (f.0, tt, tt, keep_nothing a.name a.head f.1 is)

finds_is : (n : Option Name) (x : Head) → IsFind x → Goes n x c.Delete nothing
finds_is n h.Alone f = absurd f
finds_is n (h.Create a qs) f = absurd f
finds_is n (h.Find a q) f = tt
finds_is n (h.Merge a q) f = absurd f

pub end_shows : (k : Choice) (x : State) (y : Statement) → Fine k x → ends x ≡ Some y → Ended k x y
unfolding ends
end_shows k (s.Owned w ts) y f e = name_ends k w ts y f e
end_shows k (s.After w ts) y f e = sum_ends k w ts y f e
end_shows k (s.Closed a) y f e = closed_ends k a (is_find a.head) y refl f e
end_shows k (s.Deleted a) y f e = ended_at k k (s.Deleted a) (a_statement (a_body a c.Delete) l.Nothing) y e (simp append-nil) (f.0.0, f.1, tt, finds_is a.name a.head f.2)
end_shows k (s.Either b) y f e = ended_at k (just i.Whole k) (s.Either b) (a_statement b (l.Items (i.Whole ∷ []))) y e (simp (append_assoc, append-nil)) (f.0.0, f.0.1, (tt, (f.1.1, tt), refl), f.0.2)
end_shows k (s.Counted b) y f e = ended_at k (no_alias k) (s.Counted b) (a_statement b l.Count) y e (simp append_assoc) (f.0.0, f.0.1, (f.1, f.2), f.0.2)
end_shows k (s.CountAliased b) y f e = ended_at k k (s.CountAliased b) (a_statement b l.Count) y e (simp append_assoc) (f.0.0, f.0.1, (f.1, f.2), f.0.2)
end_shows k (s.Aliased b xs) y f e = ended_at k k (s.Aliased b xs) (a_statement b (l.Items xs)) y e (simp append_assoc) (f.0.0.0, f.0.0.1, (f.1, f.0.1, f.0.2), f.0.0.2)
end_shows k _ y f e = no_statement y e

abbrev closed_by : Bool → Choice → Choice
closed_by b k = record k { semicolon = b }

done_shows : (k : Choice) (x : State) (r : State) (o : Option Statement) → ends x ≡ o → Fine k x → then_state (λ y. s.Done y) o ≡ Some r → Shows k x t.Semicolon r
done_shows k x r None is f e = never r e
done_shows k x r (Some y) is f e =
    let d = end_shows k x y f is in
    let same : s.Done y ≡ r = cc in
    subst (λ (z : State). Shows k x t.Semicolon z) same (record { choice = closed_by true d.choice; text = ap (λ (z : List Token). z ++ (t.Semicolon ∷ [])) d.text; fine = (d.right, refl) })

step_shows : (k : Choice) (x : State) (y : Token) (r : State) → Fine k x → step x y ≡ Some r → Shows k x y r
step_shows k x t.Semicolon r f e = done_shows k x r (ends x) refl f e
step_shows k x y r f e = go_shows k x y r f e

pub then_some : (f : State → Option State) (o : Option State) (r : State) → then_run f o ≡ Some r → (q : State) × (o ≡ Some q) × (f q ≡ Some r)
then_some f None r e = never r e
then_some f (Some q) r e = (q, refl, e)

-- what the state behind tokens shows: these
pub record Seen (ts : List Token) (r : State) : Type 0 where
  pub choice : Choice
  pub text : shown choice r ≡ ts
  pub fine : Fine choice r

run_shows : (k : Choice) (x : State) (ts : List Token) (r : State) → Fine k x → run x ts ≡ Some r → Seen (shown k x ++ ts) r
unfolding run
run_shows k x [] r f e =
    let same : x ≡ r = cc in
    subst (λ (z : State). Seen (shown k x ++ []) z) same (record { choice = k; text = sym (append-nil (shown k x)); fine = f })
run_shows k x (y ∷ ts) r f e =
    let q = then_some (λ z. run z ts) (step x y) r e in
    let w = step_shows k x y q.0 f q.1 in
    let n = run_shows w.choice q.0 ts r w.fine q.2 in
    subst (λ (z : List Token). Seen z r) (ap (λ (z : List Token). z ++ ts) w.text ∙ append_assoc (shown k x) (y ∷ []) ts) n

abbrev first : Choice
first = record { braces = false; named = []; word = []; alias = None; semicolon = false }

pub seen : (ts : List Token) (r : State) → run s.Start ts ≡ Some r → Seen ts r
seen ts r e = run_shows first s.Start ts r tt e

spelled_so : (k : Choice) (y : Statement) (ts : List Token) → Right k y → tokens k y ≡ ts → Spells y ts
spelled_so k y ts right e = record { choice = k; head = right.0; change = right.1; tail = right.2; goes = right.3; same = e }

accepted : (k : Choice) (x : State) (y : Statement) → Fine k x → ends x ≡ Some y → Spells y (shown k x)
accepted k x y f e =
    let d = end_shows k x y f e in
    spelled_so (closed_by false d.choice) y (shown k x) d.right (append-nil _ ∙ d.text)

accept_shows : (k : Choice) (x : State) (y : Statement) → Fine k x → accepts x ≡ Some y → Spells y (shown k x)
accept_shows k (s.Done z) y f e =
    let same : z ≡ y = cc in
    subst (λ (q : Statement). Spells q (shown k (s.Done z))) same (spelled_so k z (shown k (s.Done z)) f.0 refl)
accept_shows k x y f e = accepted k x y f e

-- what is accepted is spelled
pub sound : (ts : List Token) (x : State) (y : Statement) → run s.Start ts ≡ Some x → accepts x ≡ Some y → Spells y ts
sound ts x y e a =
    let w = seen ts x e in
    subst (λ (z : List Token). Spells y z) w.text (accept_shows w.choice x y w.fine a)
