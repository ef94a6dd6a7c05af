-- Runs one after the other, and what each call of a run leaves.
use Rattle.std.proofs.Common.{◌≡◌, ℕ, suc, List, [], ◌∷◌, ◌++◌, length, Result, Ok, Err, refl, sym, ap, subst, ◌∙◌, ◌⊎◌, inl, inr}
use Rattle.ncc_pack.specs.declared.value.Value.{Value}
use Rattle.ncc_cypher.specs.declared.tree.Statement.{Statement}
use Rattle.ncc_cypher.specs.declared.error.SyntaxKind.{SyntaxKind}
use Rattle.ncc_cypher.specs.Parsed.{parsed}
use Rattle.ncc_store.specs.declared.call.Call.{Call}
use Rattle.ncc_store.specs.declared.ran.Ran.{Ran}
use Rattle.ncc_store.specs.declared.fault.RunError.{RunError}
use Rattle.ncc_store.specs.declared.fault.RunError.TheVariants.{Fault, Memory}
use Rattle.ncc_store.specs.Answers.{Gives}
use Rattle.ncc_store.specs.Delta.{applied}
use Rattle.ncc_store.specs.Graph.{Graph}
use Rattle.ncc_store.specs.Props.{Props}
use Rattle.ncc_store.specs.Sum.{Answer, ◌>>=◌}
use Rattle.ncc_store.specs.Rows.{returned}
use Rattle.ncc_store.specs.Exec.{Ended, Headed, behind, exec, step, run, run_parsed, head, change, nodes_of}

abbrev pub Given : Type 0
Given = List (List Value)

-- ---- two lists of calls

behind_nothing : (r : Answer Ended) → r ≡ behind [] r
behind_nothing (Ok e) = refl
behind_nothing (Err f) = refl

abbrev onto : Given → Answer Ended → Answer Ended
onto rows r = r >>= λ e. Ok (record { rows = rows ∷ e.rows; graph = e.graph })

onto_behind : (rows : Given) (front : List Given) (r : Answer Ended) → onto rows (behind front r) ≡ behind (rows ∷ front) r
onto_behind rows front (Ok e) = refl
onto_behind rows front (Err f) = refl

onto_all : (rows : Given) (r : Answer Ended) (ys : List Call) → onto rows (r >>= λ e. behind e.rows (exec e.graph ys))
    ≡ (onto rows r >>= λ e. behind e.rows (exec e.graph ys))
onto_all rows (Ok e) ys = onto_behind rows e.rows (exec e.graph ys)
onto_all rows (Err f) ys = refl

abbrev each_on : Answer (Given × Graph) → List Call → Answer Ended
each_on a xs = a >>= λ r. onto r.0 (exec r.1 xs)

join_step : (a : Answer (Given × Graph)) (xs ys : List Call) → ((h : Graph) → exec h (xs ++ ys)
    ≡ (exec h xs >>= λ e. behind e.rows (exec e.graph ys))) → each_on a (xs ++ ys) ≡ (each_on a xs >>= λ e. behind e.rows (exec e.graph ys))
join_step (Ok r) xs ys again = ap (onto r.0) (again r.1) ∙ onto_all r.0 (exec r.1 xs) ys
join_step (Err f) xs ys again = refl

pub exec_nil : (g : Graph) → exec g [] ≡ Ok (record { rows = []; graph = g })
unfolding exec
exec_nil g = refl

pub exec_cons : (g : Graph) (x : Call) (xs : List Call) → exec g (x ∷ xs) ≡ each_on (step g x) xs
unfolding exec
exec_cons g x xs = refl

pub runs_join : (g : Graph) (xs ys : List Call) → exec g (xs ++ ys) ≡ (exec g xs >>= λ e. behind e.rows (exec e.graph ys))
runs_join g [] ys = behind_nothing (exec g ys) ∙ sym (ap (λ (a : Answer Ended). a >>= λ e. behind e.rows (exec e.graph ys)) (exec_nil g))
runs_join g (x ∷ xs) ys =
    exec_cons g x (xs ++ ys) ∙ join_step (step g x) xs ys (λ h. runs_join h xs ys)
    ∙ sym (ap (λ (a : Answer Ended). a >>= λ e. behind e.rows (exec e.graph ys)) (exec_cons g x xs))

-- what goes on is the run of all
pub goes_on : (g h : Graph) (calls before : List Call) (rows : List Given) (r : Result Ran RunError) → exec g before
    ≡ Ok (record { rows = rows; graph = h })
    → Gives (λ x. record { rows = x.rows; graph = applied x.delta g }) r (exec h calls)
    → Gives (λ x. record { rows = rows ++ x.rows; graph = applied x.delta g }) r (exec g (before ++ calls))
goes_on g h calls before rows r e gives = go r gives where
  joined : exec g (before ++ calls) ≡ behind rows (exec h calls)
  joined = runs_join g before calls ∙ ap (λ (a : Answer Ended). a >>= λ x. behind x.rows (exec x.graph calls)) e

  go : (q : Result Ran RunError) → Gives (λ x. record { rows = x.rows; graph = applied x.delta g }) q (exec h calls)
      → Gives (λ x. record { rows = rows ++ x.rows; graph = applied x.delta g }) q (exec g (before ++ calls))
  go (Ok x) k = joined ∙ ap (behind rows) k
  go (Err (Fault f)) k = joined ∙ ap (behind rows) k
  go (Err Memory) k = tt

-- ---- what made an answer

pub bound : {A B : Type 0} (a : Answer A) (f : A → Answer B) (y : B) → (a >>= f) ≡ Ok y → (x : A) × ((a ≡ Ok x) × (f x ≡ Ok y))
bound (Ok x) f y e = (x, (refl, e))
bound (Err k) f y e = absurd (cc)

ok_same : {A : Type 0} (x y : A) → ◌≡◌ {A = Answer A} (Ok x) (Ok y) → x ≡ y
ok_same x y e = cc

-- the first call of a run, and the run of the others
pub record First (g : Graph) (x : Call) (xs : List Call) (e : Ended) : Type 0 where
  pub rows : Given
  pub graph : Graph
  pub rest : Ended
  pub step : step g x ≡ Ok (rows, graph)
  pub others : exec graph xs ≡ Ok rest
  pub same : ◌≡◌ {A = Ended} (record { rows = rows ∷ rest.rows; graph = rest.graph }) e

pub first_of : (g : Graph) (x : Call) (xs : List Call) (e : Ended) → exec g (x ∷ xs) ≡ Ok e → First g x xs e
first_of g x xs e is =
    let one = bound (step g x) (λ r. onto r.0 (exec r.1 xs)) e (sym (exec_cons g x xs) ∙ is) in
    let two = bound (exec one.0.1 xs) (λ y. Ok (record { rows = one.0.0 ∷ y.rows; graph = y.graph })) e one.1.1 in
    record {
      rows = one.0.0;
      graph = one.0.1;
      rest = two.0;
      step = one.1.0;
      others = two.1.0;
      same =
          let s : ◌≡◌ {A = Ended} (record { rows = one.0.0 ∷ two.0.rows; graph = two.0.graph }) e = (let t = two.1.1 in cc) in s;
    }

pub nothing_run : (g : Graph) (e : Ended) → exec g [] ≡ Ok e → ◌≡◌ {A = Ended} (record { rows = []; graph = g }) e
nothing_run g e is = let t : ◌≡◌ {A = Answer Ended} (Ok (record { rows = []; graph = g })) (Ok e) = sym (exec_nil g) ∙ is in cc

-- a run has one list of rows a call
pub one_list : (g : Graph) (calls : List Call) (e : Ended) → exec g calls ≡ Ok e → length e.rows ≡ length calls
one_list g [] e is = ap (λ (x : Ended). length x.rows) (sym (nothing_run g e is))
one_list g (x ∷ xs) e is =
    let f = first_of g x xs e is in
    ap (λ (y : Ended). length y.rows) (sym f.same) ∙ grown (one_list f.graph xs f.rest f.others) where
      grown : {n m : ℕ} → n ≡ m → suc n ≡ suc m
      grown k = ap (λ (i : ℕ). suc i) k

-- what each call keeps, a run keeps
pub stays : (P : Graph → Type 0) → ((g h : Graph) (call : Call) (rows : Given) → P g → step g call ≡ Ok (rows, h) → P h)
    → (g : Graph) (calls : List Call) (e : Ended) → P g → exec g calls ≡ Ok e → P e.graph
stays P keeps g [] e p is = subst (λ (x : Ended). P x.graph) (nothing_run g e is) p
stays P keeps g (x ∷ xs) e p is =
    let f = first_of g x xs e is in
    subst (λ (y : Ended). P y.graph) f.same (stays P keeps f.graph xs f.rest (keeps g f.graph x f.rows p f.step) f.others)

-- the parts of a statement that ran
pub record Parts (g : Graph) (params : Props) (x : Statement) (rows : Given) (after : Graph) : Type 0 where
  pub headed : Headed
  pub head : head params g x.head ≡ Ok headed
  pub change : change params x.change headed ≡ Ok after
  pub returned : returned params x.tail (nodes_of x.head after headed.1) ≡ Ok rows

pub parts_of : (g : Graph) (params : Props) (x : Statement) (rows : Given) (after : Graph) → run g params x ≡ Ok (rows, after)
    → Parts g params x rows after
parts_of g params x rows after is =
    let one = bound (head params g x.head) (λ r. change params x.change r >>= λ h. returned params x.tail (nodes_of x.head h r.1) >>=
    λ rs. Ok (rs, h)) (rows, after) is in
    let two = bound (change params x.change one.0) (λ h. returned params x.tail (nodes_of x.head h one.0.1) >>= λ rs. Ok (rs, h))
    (rows, after) one.1.1 in
    let three = bound (returned params x.tail (nodes_of x.head two.0 one.0.1)) (λ rs. Ok (rs, two.0)) (rows, after) two.1.1 in
    let pair : ◌≡◌ {A = Answer (Given × Graph)} (Ok (three.0, two.0)) (Ok (rows, after)) = three.1.1 in
    let same_rows : three.0 ≡ rows = ap (λ (p : Given × Graph). p.0) (ok_same (three.0, two.0) (rows, after) pair) in
    let same_graph : two.0 ≡ after = ap (λ (p : Given × Graph). p.1) (ok_same (three.0, two.0) (rows, after) pair) in
    record {
      headed = one.0;
      head = one.1.0;
      change = subst (λ h. change params x.change one.0 ≡ Ok h) same_graph two.1.0;
      returned = subst (λ h. returned params x.tail (nodes_of x.head h one.0.1) ≡ Ok rows) same_graph (three.1.0 ∙ ap Ok same_rows);
    }

-- a call that ran: it did nothing, or its statement ran
pub call_ran : (g : Graph) (call : Call) (rows : Given) (after : Graph) → step g call ≡ Ok (rows, after) → ((rows ≡ []) × (g ≡ after)) ⊎
    ((x : Statement) × ((parsed call.source ≡ Ok x) × (run g call.params x ≡ Ok (rows, after))))
call_ran g call rows after is = go (parsed call.source) refl is where
  go : (r : Result Statement (ℕ × SyntaxKind)) → parsed call.source ≡ r → run_parsed g call.params r ≡ Ok (rows, after)
      → ((rows ≡ []) × (g ≡ after)) ⊎ ((x : Statement) × ((parsed call.source ≡ Ok x) × (run g call.params x ≡ Ok (rows, after))))
  go (Ok x) e k = inr (x, (e, k))
  go (Err f) e k = let pair : ◌≡◌ {A = Answer (Given × Graph)} (Ok ([], g)) (Ok (rows, after)) = k in
      inl (
        sym (ap (λ (p : Given × Graph). p.0) (ok_same ([], g) (rows, after) pair)),
        ap (λ (p : Given × Graph). p.1)
            (ok_same ([], g) (rows, after) pair),
      )

-- the statement of a call ran
pub ran_of : (g : Graph) (call : Call) (x : Statement) (rows : Given) (after : Graph) → parsed call.source ≡ Ok x → step g call
    ≡ Ok (rows, after) → run g call.params x ≡ Ok (rows, after)
ran_of g call x rows after p is = sym (ap (run_parsed g call.params) p) ∙ is

pub step_of : (g : Graph) (call : Call) (x : Statement) → parsed call.source ≡ Ok x → step g call ≡ run g call.params x
step_of g call x p = ap (run_parsed g call.params) p
