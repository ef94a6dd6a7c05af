-- What holds of every run, in Cypher's words.
use Rattle.std.specs.Prelude.{◌≡◌, ◌≤ℤ◌, false, IsTrue, List, [], ◌∷◌, ◌++◌, length, Result, Ok}
use Rattle.std.specs.List.{All}
use Rattle.ncc_pack.specs.declared.value.Value.{Value}
use Rattle.ncc_cypher.specs.declared.tree.Head.TheVariants as h
use Rattle.ncc_cypher.specs.declared.tree.Change.TheVariants as c
use Rattle.ncc_cypher.specs.declared.tree.Pair.{Pair}
use Rattle.ncc_cypher.specs.declared.tree.Statement.{Statement}
use Rattle.ncc_cypher.specs.Parsed.{parsed}
use Rattle.ncc_cypher.specs.Writing.{writes}
use Rattle.ncc_store.specs.declared.call.Call.{Call}
use Rattle.ncc_store.specs.declared.ran.Delta.{Delta}
use Rattle.ncc_store.specs.declared.ran.Ran.{Ran}
use Rattle.ncc_store.specs.declared.fault.RunError.{RunError}
use Rattle.ncc_store.specs.Answers.{Gives}
use Rattle.ncc_store.specs.Delta.{IsOver, IsLeast, applied}
use Rattle.ncc_store.specs.Exec.{Ended, behind, exec, step}
use Rattle.ncc_store.specs.Graph.{Graph, IsGraph, IsPlaced}
use Rattle.ncc_store.specs.Props.{Name}
use Rattle.ncc_store.specs.Rows.{rows_keep}
use Rattle.ncc_store.specs.Sum.{◌>>=◌}

-- running one list of calls and then another is running both
abbrev pub RunsJoin : Type 0
RunsJoin = (g : Graph) (xs ys : List Call) → exec g (xs ++ ys) ≡ (exec g xs >>= λ e. behind e.rows (exec e.graph ys))

-- what goes on from an earlier delta is the run of all: of calls that gave some rows and left that store, and of these
abbrev pub GoesOn : Graph → Delta → List Call → Result Ran RunError → Type 0
GoesOn g earlier calls result = (before : List Call) (rows : List (List (List Value)))
    → exec g before ≡ Ok (record { rows = rows; graph = applied earlier g })
    → Gives (λ r. record { rows = rows ++ r.rows; graph = applied r.delta g }) result (exec g (before ++ calls))

-- a run has one list of rows a call
abbrev pub OneListACall : Type 0
OneListACall = (g : Graph) (calls : List Call) (e : Ended) → exec g calls ≡ Ok e → length e.rows ≡ length calls

-- the next id never falls
abbrev pub NextNeverFalls : Type 0
NextNeverFalls = (g : Graph) (calls : List Call) (e : Ended) → exec g calls ≡ Ok e → g.next ≤ℤ e.graph.next

-- ids stay in order, and below the next one
abbrev pub StaysPlaced : Type 0
StaysPlaced = (g : Graph) (calls : List Call) (e : Ended) → IsPlaced g → exec g calls ≡ Ok e → IsPlaced e.graph

-- a statement that does not write leaves the store
abbrev pub ReadingChangesNothing : Type 0
ReadingChangesNothing = (g after : Graph) (call : Call) (x : Statement) (rows : List (List Value)) → parsed call.source ≡ Ok x
    → writes x ≡ false → step g call ≡ Ok (rows, after) → after ≡ g

-- a MERGE without SET that ran makes nothing where it is run again, and gives the same rows
abbrev pub MergesOnce : Type 0
MergesOnce = (g after : Graph) (call : Call) (x : Statement) (label : Name) (pair : Pair) (rows : List (List Value))
    → parsed call.source ≡ Ok x → x.head ≡ h.Merge label pair → x.change ≡ c.Keep → step g call ≡ Ok (rows, after)
    → step after call ≡ Ok (rows, after)

-- the rows of each call fit, and keep the limits of one step
abbrev pub RowsKeep : Type 0
RowsKeep = (g : Graph) (calls : List Call) (e : Ended) → IsPlaced g → exec g calls ≡ Ok e → All (λ rows. IsTrue (rows_keep rows)) e.rows

-- between two stores there is one least delta
abbrev pub OneDelta : Type 0
OneDelta = (g : Graph) (a b : Delta) → IsGraph g → IsOver g a → IsOver g b → IsLeast g a → IsLeast g b
    → applied a g ≡ applied b g → a ≡ b
