-- Steps that are run anew, or the last alone behind what the others left.
use Rattle.std.proofs.Common.{◌≡◌, ℕ, zero, suc, ◌-◌, List, [], ◌∷◌, ◌++◌, length, Some, Result, Ok, Err, IfOk, map}
use Rattle.std.proofs.Common.{refl, ap, sym, ◌∙◌, subst, arith, length-append}
use Rattle.std.specs.Prelude.{slice_get}
use Rattle.std.proofs.lemmas.List.{length-map}
use Rattle.ncc_store.specs.declared.call.Call.{Call}
use Rattle.ncc_store.specs.declared.step.Step.{Step}
use Rattle.ncc_store.specs.declared.fault.RunFault.{RunFault}
use Rattle.ncc_store.specs.declared.fault.RunError.{RunError}
use Rattle.ncc_store.specs.declared.fault.RunError.TheVariants.{Fault}
use Rattle.ncc_store.specs.declared.ran.Delta.{Delta}
use Rattle.ncc_store.specs.declared.ran.Ran.{Ran}
use Rattle.ncc_store.specs.Answers.{Gives}
use Rattle.ncc_store.specs.Delta.{IsOver, applied}
use Rattle.ncc_store.specs.Exec.{Ended, call_of, exec}
use Rattle.ncc_store.specs.Graph.{Graph}
use Rattle.ncc_store.specs.Laws.{GoesOn}
use Rattle.ncc_store.specs.Sum.{Answer}
use Rattle.ncc_store.proofs.Joined.{one_list}
use Rattle.ncc_tx.specs.declared.entry.Item.{Item}
use Rattle.ncc_tx.specs.State.{state}
use Rattle.ncc_apply.specs.Meant.{alike}
use Rattle.ncc_apply.specs.Shelf.{Shown as Shelved, Stands as ShelfStands}
use Rattle.ncc_session.specs.declared.ask.Fact.TheVariants.{Rows, Faulted}
use Rattle.ncc_session.specs.Question.{Question, Row, run}
use Rattle.ncc_clients.specs.Run.{last_rows, ran, tells}
use Rattle.ncc_world.specs.declared.answer.Reply as declared
use Rattle.ncc_world.specs.declared.answer.Reply.TheVariants as answer
use Rattle.ncc_world.specs.Earlier.{Left, LeftBy}
use Rattle.ncc_world.specs.Parts.{KeepsNothing, LeftIn, RunsToLast}

-- ---- the last rows

get_last : (xs : List (List Row)) (y : List Row) → slice_get (xs ++ (y ∷ [])) (length xs) ≡ Some y
get_last [] y = refl
get_last (x ∷ xs) y = get_last xs y

last_behind : (front : List (List Row)) (rows : List (List Row)) → length rows ≡ 1 → last_rows (front ++ rows) ≡ last_rows rows
last_behind front [] one = absurd (omega (arith, one))
last_behind front (y ∷ []) one =
    let n : length (front ++ (y ∷ [])) - 1 ≡ length front = omega (arith, length-append front (y ∷ [])) in
    let last : slice_get (front ++ (y ∷ [])) (length (front ++ (y ∷ [])) - 1) ≡ Some y =
    ap (λ k. slice_get (front ++ (y ∷ [])) k) n ∙ get_last front y in
    rw (last, last_rows) refl
last_behind front (y ∷ z ∷ rows) one = absurd (omega (arith, one))

-- ---- the last step alone

-- one call gives one list of rows
one_each : (g : Graph) (call : Call) (rows : List (List Row)) (after : Graph)
    → exec g (call ∷ []) ≡ Ok (record { rows = rows; graph = after }) → length rows ≡ 1
one_each g call rows after e = one_list g (call ∷ []) (record { rows = rows; graph = after }) e

gives_last : (g : Graph) (delta : Delta) (before : List Call) (call : Call) (front : List (List Row)) (result : Result Ran RunError)
    → Gives (λ r. record { rows = r.rows; graph = applied r.delta g }) result (exec (applied delta g) (call ∷ []))
    → IfOk result (λ r. last_rows (front ++ r.rows) ≡ last_rows r.rows)
gives_last g delta before call front (Ok r) e =
    last_behind front r.rows (one_each (applied delta g) call r.rows (applied r.delta g) e)
gives_last g delta before call front (Err e) h = tt

pub last_runs : (g : Graph) (delta : Delta) (before calls last : List Call) (call : Call) (result : Result Ran RunError)
    → calls ≡ before ++ call ∷ [] → last ≡ call ∷ [] → Left g before delta
    → Gives (λ r. record { rows = r.rows; graph = applied r.delta g }) result (exec (applied delta g) last)
    → IfOk result (λ r. IsOver g r.delta) → GoesOn g delta last result → RunsToLast g calls result
last_runs g delta before calls last call result e f left exact over all = (
  left.rows,
  subst (λ (cs : List Call). Gives (λ r. record { rows = left.rows ++ r.rows; graph = applied r.delta g }) result (exec g cs))
      (ap (λ (cs : List Call). before ++ cs) f ∙ sym e) (all before left.rows left.ran),
  gives_last g delta before call left.rows result
      (subst (λ (cs : List Call). Gives (λ r. record { rows = r.rows; graph = applied r.delta g }) result (exec (applied delta g) cs))
      f exact),
  over,
)

pub all_run : (g : Graph) (calls : List Call) (result : Result Ran RunError)
    → Gives (λ r. record { rows = r.rows; graph = applied r.delta g }) result (exec g calls)
    → IfOk result (λ r. IsOver g r.delta) → RunsToLast g calls result
all_run g calls result exact over = ([], exact, same result, over) where
  same : (x : Result Ran RunError) → IfOk x (λ r. last_rows ([] ++ r.rows) ≡ last_rows r.rows)
  same (Ok r) = refl
  same (Err e) = tt

-- ---- lists that a shelf stands for leave one store

pub same_state : (shelf : Shelved) (g h : List Item) → ShelfStands shelf g → ShelfStands shelf h → state g ≡ state h
same_state shelf g h a b = (alike shelf g h a b).state

pub same_length : (shelf : Shelved) (g h : List Item) → ShelfStands shelf g → ShelfStands shelf h → length g ≡ length h
same_length shelf g h a b = (alike shelf g h a b).length

-- ---- what is kept

pub keeps_nothing : (list : List Item) (q : Question) (a : declared.Reply) → KeepsNothing a → LeftIn list q a
keeps_nothing list q answer.Waits h = tt
keeps_nothing list q answer.Proposes h = tt
keeps_nothing list q (answer.Tells fact earlier) h = subst (LeftBy list q fact) (sym h) tt

-- what a member tells
pub ran_rows : (at : ℕ) (rows : List Row) (list : List Item) (calls : List Call) (r : Ran) (result : Result Ran RunError) → result ≡ Ok r
    → at ≡ length list → rows ≡ last_rows r.rows → RunsToLast (state list) calls result
    → tells (Rows at rows) ≡ tells (ran (length list) (exec (state list) calls))
ran_rows at rows list calls r result is here e k =
    let runs : RunsToLast (state list) calls (Ok r) = subst (RunsToLast (state list) calls) is k in
    ap (λ n. tells (Rows n rows)) here
    ∙ ap (λ (x : List Row). tells (Rows (length list) x)) (e ∙ sym runs.2)
    ∙ ap (λ (x : Answer Ended). tells (ran (length list) x)) (sym runs.1)

pub ran_fault : (at : ℕ) (fault : RunFault) (list : List Item) (calls : List Call) (result : Result Ran RunError)
    → result ≡ Err (Fault fault) → at ≡ length list → RunsToLast (state list) calls result
    → tells (Faulted at fault) ≡ tells (ran (length list) (exec (state list) calls))
ran_fault at fault list calls result is here k =
    let runs : RunsToLast (state list) calls (Err (Fault fault)) = subst (RunsToLast (state list) calls) is k in
    ap (λ n. tells (Faulted n fault)) here ∙ ap (λ (x : Answer Ended). tells (ran (length list) x)) (sym runs.1)

pub left_rows : (at : ℕ) (rows : List Row) (list : List Item) (calls : List Call) (r : Ran) (result : Result Ran RunError) → result ≡ Ok r
    → at ≡ length list → RunsToLast (state list) calls result
    → LeftBy list (run calls) (Rows at rows) (Some (record { at = at; delta = r.delta }))
left_rows at rows list calls r result is here k =
    let runs : RunsToLast (state list) calls (Ok r) = subst (RunsToLast (state list) calls) is k in
    record {
      calls = calls;
      asks = refl;
      rows = rows;
      told = refl;
      here = here;
      left = record { rows = runs.0 ++ r.rows; ran = runs.1; over = runs.3 };
    }

-- the calls of some steps of which the last is known
pub alone_is : (steps last : List Step) (before : List Call) (call : Call) (n : ℕ) (step : Step) → map call_of steps ≡ before ++ call ∷ []
    → n ≡ length steps - 1 → slice_get steps n ≡ Some step → last ≡ step ∷ [] → map call_of last ≡ call ∷ []
alone_is steps last before call n step e f g h =
    let last_call : slice_get (map call_of steps) (length (map call_of steps) - 1) ≡ Some call =
    ap (λ (cs : List Call). slice_get cs (length cs - 1)) e ∙ last_of before call in
    let same : slice_get (map call_of steps) n ≡ Some (call_of step) = get_map steps n step g in
    let at : n ≡ length (map call_of steps) - 1 = omega (arith, f, length-map steps call_of) in
    let both : Some (call_of step) ≡ Some call = sym same ∙ ap (λ k. slice_get (map call_of steps) k) at ∙ last_call in
    let one : call_of step ≡ call = cc in
    ap (map call_of) h ∙ ap (λ (x : Call). x ∷ []) one where
      end_of : (xs : List Call) (y : Call) → slice_get (xs ++ (y ∷ [])) (length xs) ≡ Some y
      end_of [] y = refl
      end_of (x ∷ xs) y = end_of xs y

      last_of : (xs : List Call) (y : Call) → slice_get (xs ++ (y ∷ [])) (length (xs ++ (y ∷ [])) - 1) ≡ Some y
      last_of xs y =
          let n : length (xs ++ (y ∷ [])) - 1 ≡ length xs = omega (arith, length-append xs (y ∷ [])) in
          ap (λ k. slice_get (xs ++ (y ∷ [])) k) n ∙ end_of xs y

      get_map : (xs : List Step) (i : ℕ) (x : Step) → slice_get xs i ≡ Some x → slice_get (map call_of xs) i ≡ Some (call_of x)
      get_map [] i x e = absurd (cc)
      get_map (y ∷ xs) zero x e = let same : y ≡ x = cc in ap (λ (z : Step). Some (call_of z)) same
      get_map (y ∷ xs) (suc i) x e = get_map xs i x e
