-- Steps of the loops that run steps.
use Rattle.std.proofs.Common.{◌≡◌, ℕ, ◌+◌, ◌<◌, ◌≤◌, ℤ, pos, false, List, [], ◌∷◌, ◌++◌, length, map, drop, get_or, Option, Some, None}
use Rattle.std.proofs.Common.{Ok, Err, Bor, is_some, option_copied, refl, sym, ap, ap₂, ◌∙◌, append_assoc, append-nil}
use Rattle.std.proofs.lemmas.List.{drop_more, drop_all}
use Rattle.ncc_cypher.specs.declared.tree.Pair.{Pair}
use Rattle.ncc_cypher.specs.declared.tree.Head.{Head}
use Rattle.ncc_cypher.specs.declared.tree.Head.TheVariants as h
use Rattle.ncc_pack.specs.declared.value.Value.{Value}
use Rattle.ncc_store.specs.declared.node.StoredNode.{StoredNode}
use Rattle.ncc_store.specs.declared.step.Step.{Step}
use Rattle.ncc_store.specs.declared.scalar.Scalar.{Scalar}
use Rattle.ncc_store.specs.declared.fault.RunError.{RunError}
use Rattle.ncc_store.specs.declared.fault.RunError.TheVariants.{Fault, Memory}
use Rattle.ncc_store.specs.declared.fault.RunFault.{RunFault}
use Rattle.ncc_store.specs.Answers.{Gives}
use Rattle.ncc_store.specs.Props.{Props, put}
use Rattle.ncc_store.specs.Sum.{Answer, ◌>>=◌, sum}
use Rattle.ncc_store.specs.Graph.{Graph, find, without}
use Rattle.ncc_store.specs.Exec.{pairs, changed, node_set, set_one, set, deleted, nodes_of, Ended, step, call_of, behind, exec}
use Rattle.ncc_store.proofs.Placed.{without_none}

-- where one answer fails, so does another
pub passes : {X Y Z W : Type 0} (view : X → Y) (see : Z → W) (e : RunError) (a : Answer Y) (b : Answer W) → Gives view (Err e) a
    → ((f : RunFault) → a ≡ Err f → b ≡ Err f) → Gives see (Err e) b
passes view see (Fault f) a b h k = k f h
passes view see Memory a b h k = tt

pub next_at : {A : Type 0} (xs : List A) (i : ℕ) (x d : A) → i < length xs → x ≡ get_or xs i d → drop i xs ≡ x ∷ drop (i + 1) xs
next_at xs i x d lt is = drop_more xs i d lt ∙ ap (λ (y : _). y ∷ drop (i + 1) xs) (sym is)

pub next_is : {A : Type 0} (xs : List A) (i : ℕ) (x : A) → i < length xs → x ≡ get_or xs i x → drop i xs ≡ x ∷ drop (i + 1) xs
next_is xs i x lt is = next_at xs i x x lt is

-- ---- pairs

module _ (params : Props) (list : List Pair) (i : ℕ) (p : Pair) (ps : Props) (all : Answer Props) (lt : i < length list) (is : p
    ≡ get_or list i p) (so_far : pairs params ps (drop i list) ≡ all) where
  pairs_fail : (f : RunFault) → sum params [] p.value ≡ Err f → all ≡ Err f
  unfolding pairs
  pairs_fail f e = sym so_far ∙ ap (pairs params ps) (next_is list i p lt is)
      ∙ ap (λ (a : Answer Scalar). a >>= λ x. pairs params (put ps p.key x) (drop (i + 1) list)) e

  pub pairs_more : (x : Scalar) (key : List ℕ) (new : Props) → sum params [] p.value ≡ Ok x → key ≡ p.key → new ≡ put ps key x
      → pairs params new (drop (i + 1) list) ≡ all
  unfolding pairs
  pairs_more x key new e k n =
      ap (λ (qs : Props). pairs params qs (drop (i + 1) list)) (n ∙ ap (λ (q : List ℕ). put ps q x) k)
      ∙ sym (ap (λ (a : Answer Scalar). a >>= λ y. pairs params (put ps p.key y) (drop (i + 1) list)) e)
      ∙ sym (ap (pairs params ps) (next_is list i p lt is)) ∙ so_far

  pub pairs_end : (e : RunError) → Gives (λ x. x) (Err e) (sum params [] p.value) → Gives {X = Props} (λ qs. qs) (Err e) all
  pairs_end e g = passes (λ x. x) (λ qs. qs) e (sum params [] p.value) all g pairs_fail

pub pairs_done : (params : Props) (list : List Pair) (i : ℕ) (ps dict : Props) (all : Answer Props) → length list ≤ i → dict ≡ ps
    → pairs params ps (drop i list) ≡ all → all ≡ Ok dict
unfolding pairs
pairs_done params list i ps dict all le d h = sym h ∙ ap (pairs params ps) (drop_all i list le) ∙ ap Ok (sym d)

-- ---- the changes of SET

module _ (params : Props) (cs : List Pair) (i : ℕ) (c : Pair) (ps : Props) (all : Answer Props) (lt : i < length cs) (is : c
    ≡ get_or cs i c) (so_far : changed params (drop i cs) ps ≡ all) where
  changes_fail : (f : RunFault) → sum params ps c.value ≡ Err f → all ≡ Err f
  unfolding changed
  changes_fail f e = sym so_far ∙ ap (λ (ds : List Pair). changed params ds ps) (next_is cs i c lt is)
      ∙ ap (λ (a : Answer Scalar). a >>= λ x. changed params (drop (i + 1) cs) (put ps c.key x)) e

  pub changes_more : (x : Scalar) (key : List ℕ) (new : Props) → sum params ps c.value ≡ Ok x → key ≡ c.key → new ≡ put ps key x
      → changed params (drop (i + 1) cs) new ≡ all
  unfolding changed
  changes_more x key new e k n =
      ap (changed params (drop (i + 1) cs)) (n ∙ ap (λ (q : List ℕ). put ps q x) k)
      ∙ sym (ap (λ (a : Answer Scalar). a >>= λ y. changed params (drop (i + 1) cs) (put ps c.key y)) e)
      ∙ sym (ap (λ (ds : List Pair). changed params ds ps) (next_is cs i c lt is)) ∙ so_far

pub changes_end : (params : Props) (cs : List Pair) (i : ℕ) (c : Pair) (ps : Props) (n : StoredNode) (e : RunError) → i < length cs
    → c ≡ get_or cs i c → changed params (drop i cs) ps ≡ changed params cs n.props
    → Gives (λ x. x) (Err e) (sum params ps c.value) → Gives {X = StoredNode} (λ m. m) (Err e) (node_set params cs n)
changes_end params cs i c ps n e lt is h g =
    passes (λ x. x) (λ m. m) e (sum params ps c.value) (node_set params cs n) g
    (λ f k. ap (λ (a : Answer Props). a >>= λ qs. Ok (record n { props = qs })) (changes_fail params cs i c ps
    (changed params cs n.props) lt is h f k))

pub changes_all : (params : Props) (cs : List Pair) (i : ℕ) (ps : Props) (n : StoredNode) → length cs ≤ i
    → changed params (drop i cs) ps ≡ changed params cs n.props → changed params cs n.props ≡ Ok ps
unfolding changed
changes_all params cs i ps n le h = sym h ∙ ap (λ (ds : List Pair). changed params ds ps) (drop_all i cs le)

pub changes_done : (params : Props) (cs : List Pair) (i : ℕ) (ps : Props) (n m : StoredNode) → length cs ≤ i
    → changed params (drop i cs) ps ≡ changed params cs n.props → m.id ≡ n.id → m.label ≡ n.label → m.props ≡ ps
    → node_set params cs n ≡ Ok m
unfolding changed
changes_done params cs i ps n m le h id label props =
    let done : changed params cs n.props ≡ Ok ps = changes_all params cs i ps n le h in
    let same : ◌≡◌ {A = StoredNode} (record n { props = ps }) m =
    ap₂ (λ (j : ℤ) (l : List ℕ). record { id = j; label = l; props = ps }) (sym id) (sym label)
    ∙ ap (λ (qs : Props). record { id = m.id; label = m.label; props = qs }) (sym props) in
    ap (λ (a : Answer Props). a >>= λ qs. Ok (record n { props = qs })) done ∙ ap Ok same

-- ---- SET row by row

set_next : (params : Props) (cs : List Pair) (g : Graph) (is : List ℤ) (i : ℕ) (q id : ℤ) → i < length is → id ≡ get_or is i (pos 0)
    → q ≡ id
    → set params cs g (drop i is) ≡ (set_one params cs g (find q g.nodes) >>= λ k. set params cs k (drop (i + 1) is))
unfolding set
set_next params cs g is i q id lt at e =
    ap (set params cs g) (next_at is i id (pos 0) lt at) ∙ ap (λ (j : ℤ). set_one params cs g (find j g.nodes) >>= λ k. set params cs k
    (drop (i + 1) is)) (sym e)

pub set_more : (params : Props) (cs : List Pair) (g new : Graph) (is : List ℤ) (i : ℕ) (q id : ℤ) (all : Answer Graph) → i < length is
    → id ≡ get_or is i (pos 0) → q ≡ id → set params cs g (drop i is) ≡ all
    → set_one params cs g (find q g.nodes) ≡ Ok new → set params cs new (drop (i + 1) is) ≡ all
set_more params cs g new is i q id all lt at e h k =
    sym (ap (λ (a : Answer Graph). a >>= λ x. set params cs x (drop (i + 1) is)) k) ∙ sym (set_next params cs g is i q id lt at e) ∙ h

pub set_end : {Y : Type 0} (view : Y → Graph) (see : Y → Graph) (params : Props) (cs : List Pair) (g : Graph) (is : List ℤ) (i : ℕ)
    (q id : ℤ) (all : Answer Graph) (e : RunError) → i < length is → id ≡ get_or is i (pos 0) → q ≡ id → set params cs g (drop i is) ≡ all
    → Gives view (Err e) (set_one params cs g (find q g.nodes)) → Gives see (Err e) all
set_end view see params cs g is i q id all e lt at k h gives =
    passes view see e (set_one params cs g (find q g.nodes)) all gives (λ f w. sym h ∙ set_next params cs g is i q id lt at k
    ∙ ap (λ (a : Answer Graph). a >>= λ x. set params cs x (drop (i + 1) is)) w)

pub set_done : (params : Props) (cs : List Pair) (g : Graph) (is : List ℤ) (i : ℕ) (all : Answer Graph) → length is ≤ i
    → set params cs g (drop i is) ≡ all → all ≡ Ok g
unfolding set
set_done params cs g is i all le h = sym h ∙ ap (set params cs g) (drop_all i is le)

-- ---- DELETE row by row

pub deleted_more : (g new all : Graph) (is : List ℤ) (i : ℕ) (q id : ℤ) → i < length is → id ≡ get_or is i (pos 0) → q ≡ id → new
    ≡ record g { nodes = without q g.nodes } → deleted g (drop i is) ≡ all → deleted new (drop (i + 1) is) ≡ all
unfolding deleted
deleted_more g new all is i q id lt at e n h =
    ap (λ (x : Graph). deleted x (drop (i + 1) is)) (n ∙ ap (λ (j : ℤ). record g { nodes = without j g.nodes }) e)
    ∙ sym (ap (deleted g) (next_at is i id (pos 0) lt at)) ∙ h

pub deleted_done : (g all : Graph) (is : List ℤ) (i : ℕ) → length is ≤ i → deleted g (drop i is) ≡ all → g ≡ all
unfolding deleted
deleted_done g all is i le h = sym (ap (deleted g) (drop_all i is le)) ∙ h

none_here : (r : Option (Bor StoredNode)) (o : Option StoredNode) → is_some r ≡ false → option_copied r ≡ o → o ≡ None
none_here None o n e = sym e
none_here (Some b) o n e = absurd (cc)

-- no node has the id
pub none_deleted : (g : Graph) (q id : ℤ) (r : Option (Bor StoredNode)) → q ≡ id → is_some r ≡ false → option_copied r ≡ find q g.nodes
    → g ≡ record g { nodes = without id g.nodes }
none_deleted g q id r same n e = ap (λ (ns : List StoredNode). record g { nodes = ns })
    (sym (without_none id g.nodes (ap (λ (j : ℤ). find j g.nodes) (sym same) ∙ none_here r (find q g.nodes) n e)))

pub not_alone : (b : Head) (g : Graph) (is : List ℤ) → (b ≡ h.Alone → ⊥) → map (λ id. find id g.nodes) is ≡ nodes_of b g is
not_alone h.Alone g is n = absurd (n refl)
not_alone (h.Create l ps) g is n = refl
not_alone (h.Find l p) g is n = refl
not_alone (h.Merge l p) g is n = refl

-- ---- step by step

behind_more : (front : List (List (List Value))) (rows : List (List Value)) (r : Answer Ended)
    → behind front (r >>= λ e. Ok (record { rows = rows ∷ e.rows; graph = e.graph })) ≡ behind (front ++ rows ∷ []) r
behind_more front rows (Ok e) = ap (λ (rs : List (List (List Value))). Ok (record { rows = rs; graph = e.graph }))
    (sym (append_assoc front (rows ∷ []) e.rows))
behind_more front rows (Err f) = refl

module _ (front : List (List (List Value))) (g : Graph) (ss : List Step) (i : ℕ) (s : Step) (all : Answer Ended) (lt : i < length ss)
    (is : s ≡ get_or ss i s) (so_far : behind front (exec g (map call_of (drop i ss))) ≡ all) where
  steps_next : exec g (map call_of (drop i ss)) ≡ (step g (call_of s) >>= λ r. exec r.1 (map call_of (drop (i + 1) ss)) >>= λ e. Ok
      (record { rows = r.0 ∷ e.rows; graph = e.graph }))
  unfolding exec
  steps_next = ap (λ (xs : List Step). exec g (map call_of xs)) (next_is ss i s lt is)

  pub steps_more : (rows : List (List Value)) (new : Graph) → step g (call_of s) ≡ Ok (rows, new)
      → behind (front ++ rows ∷ []) (exec new (map call_of (drop (i + 1) ss))) ≡ all
  steps_more rows new e =
      sym (behind_more front rows (exec new (map call_of (drop (i + 1) ss))))
      ∙ sym (ap (λ (a : Answer (List (List Value) × Graph)). behind front (a >>= λ r. exec r.1 (map call_of (drop (i + 1) ss)) >>= λ x.
      Ok (record { rows = r.0 ∷ x.rows; graph = x.graph }))) e)
      ∙ sym (ap (behind front) steps_next) ∙ so_far

  pub steps_end : {X Y : Type 0} (view : X → List (List Value) × Graph) (see : Y → Ended) (e : RunError)
      → Gives view (Err e) (step g (call_of s)) → Gives see (Err e) all
  steps_end view see e gives =
      passes view see e (step g (call_of s)) all gives
      (λ f k. sym so_far ∙ ap (behind front) steps_next ∙ ap (λ (a : Answer (List (List Value) × Graph)). behind front
      (a >>= λ r. exec r.1 (map call_of (drop (i + 1) ss)) >>= λ x. Ok (record { rows = r.0 ∷ x.rows; graph = x.graph }))) k)

pub steps_done : (front : List (List (List Value))) (g : Graph) (ss : List Step) (i : ℕ) (all : Answer Ended) → length ss ≤ i
    → behind front (exec g (map call_of (drop i ss))) ≡ all → all ≡ Ok (record { rows = front; graph = g })
unfolding exec
steps_done front g ss i all le h =
    sym h ∙ ap (λ (xs : List Step). behind front (exec g (map call_of xs))) (drop_all i ss le)
    ∙ ap (λ (rs : List (List (List Value))). Ok (record { rows = rs; graph = g })) (append-nil front)
