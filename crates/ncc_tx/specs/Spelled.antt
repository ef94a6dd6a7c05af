-- The one spelling of an entry: the shortest of its value. A Noop is null. A transaction is the list of its steps, each a
-- source and parameters, and of the rows that were told, one list of rows for each step, where a row is a list.
use Rattle.std.specs.Prelude.{◌≡◌, ℕ, ◌+◌, nat_eq, Bool, true, false, ◌&&◌, IsTrue, List, [], ◌∷◌, ◌++◌, length, map, Option, Some}
use Rattle.std.specs.Prelude.{None, Result, Ok, Err}
use Rattle.ncc_pack.specs.declared.value.Value.{Value}
use Rattle.ncc_pack.specs.declared.value.Value.TheVariants as v
use Rattle.ncc_pack.specs.declared.error.PackError.TheVariants as p
use Rattle.ncc_pack.specs.Fits.{fits}
use Rattle.ncc_pack.specs.Short.{short}
use Rattle.ncc_pack.specs.Reading.{read_value}
use Rattle.ncc_cypher.specs.declared.tree.Statement.{Statement}
use Rattle.ncc_cypher.specs.Parsed.{parsed}
use Rattle.ncc_store.specs.declared.step.Step.{Step}
use Rattle.ncc_store.specs.Exec.{call_of}
use Rattle.ncc_store.specs.declared.call.Call.{Call}
use Rattle.ncc_tx.specs.declared.shape.Shape.{Shape}
use Rattle.ncc_tx.specs.declared.shape.Shape.TheVariants as h
use Rattle.ncc_tx.specs.declared.entry.Entry.{Entry}
use Rattle.ncc_tx.specs.declared.entry.Entry.TheVariants as e
use Rattle.ncc_tx.specs.declared.entry.EntryError.{EntryError}
use Rattle.ncc_tx.specs.declared.entry.EntryError.TheVariants.{Pack, BadShape, BadStatement, Memory}

abbrev pub call_value : Call → Value
call_value c = v.List (v.Text c.source ∷ v.Dict c.params ∷ [])

abbrev pub rows_value : List (List Value) → Value
rows_value rows = v.List (map v.List rows)

abbrev pub calls_value : List Call → Value
calls_value calls = v.List (map call_value calls)

abbrev pub told_value : List (List (List Value)) → Value
told_value told = v.List (map rows_value told)

abbrev pub pair_value : Value × Value → Value
pair_value p = v.List (p.0 ∷ p.1 ∷ [])

abbrev pub shape_value : Shape → Value
shape_value h.Noop = v.Null
shape_value (h.Tx calls told) = pair_value (calls_value calls, told_value told)

-- one list of rows for each step, and a value that fits
abbrev pub whole : Shape → Bool
whole h.Noop = true
whole (h.Tx calls told) = nat_eq (length calls) (length told) && fits (shape_value (h.Tx calls told))

abbrev pub shape_of : Entry → Shape
shape_of e.Noop = h.Noop
shape_of (e.Tx steps told) = h.Tx (map call_of steps) told

abbrev pub entry_fits : Entry → Bool
entry_fits x = whole (shape_of x)

abbrev pub spelled : Entry → List ℕ
spelled x = short (shape_value (shape_of x))

-- ---- reading

-- what a value is of, where it is of something
abbrev pub Reads : {A : Type 0} → (A → Value) → Value → Option A → Type 0
Reads {A} make x None = (y : A) → x ≡ make y → ⊥
Reads make x (Some y) = x ≡ make y

-- one list of rows for each step
abbrev pub paired : Shape → Bool
paired h.Noop = true
paired (h.Tx calls told) = nat_eq (length calls) (length told)

-- the shape that a value is of, where it is of one
abbrev pub ReadsShape : Value → Option Shape → Type 0
ReadsShape x None = (s : Shape) → IsTrue (paired s) → x ≡ shape_value s → ⊥
ReadsShape x (Some s) = IsTrue (paired s) × (x ≡ shape_value s)

-- these bytes are the one spelling of this shape
pub record IsShape (s : Shape) (bytes : List ℕ) : Type 0 where
  pub whole : IsTrue (whole s)
  pub same : bytes ≡ short (shape_value s)

-- the source spells a statement
abbrev pub Parses : Call → Type 0
Parses c = (s : Statement) × (parsed c.source ≡ Ok s)

-- the calls before this one parse, and it does not
pub data Fails : ℕ → List Call → Type 0 where
  here : (c : Call) (cs : List Call) → (Parses c → ⊥) → Fails 0 (c ∷ cs)
  there : (n : ℕ) (c : Call) (cs : List Call) → Parses c → Fails n cs → Fails (n + 1) (c ∷ cs)

-- the steps of these calls, or why there are none
abbrev pub IsStepsOf : List Call → Result (List Step) EntryError → Type 0
IsStepsOf calls (Ok ss) = map call_of ss ≡ calls
IsStepsOf calls (Err (BadStatement n)) = Fails n calls
IsStepsOf calls (Err Memory) = Unit {0}
IsStepsOf calls (Err e) = ⊥

-- these steps, unless memory runs out
abbrev pub StepsOrMemory : List Step → Result (List Step) EntryError → Type 0
StepsOrMemory ss (Err Memory) = Unit {0}
StepsOrMemory ss r = r ≡ Ok ss

-- why bytes are no entry: they begin with no value; or with one that is of no shape, or not in its one spelling, or
-- followed by more; or the first source that does not parse
abbrev pub Refuses : List ℕ → EntryError → Type 0
Refuses bytes (Pack p.Memory) = ⊥
Refuses bytes (Pack x) = read_value bytes ≡ Err x
Refuses bytes BadShape = (x : Value) × (rest : List ℕ) × (read_value bytes ≡ Ok (x, rest)) × ((s : Shape) → IsShape s bytes → ⊥)
Refuses bytes (BadStatement n) = (calls : List Call) × (told : List (List (List Value))) × IsShape (h.Tx calls told) bytes × Fails n calls
Refuses bytes Memory = Unit {0}

-- the first, unless memory runs out
abbrev pub EntryOrMemory : Result Entry EntryError → Result Entry EntryError → Type 0
EntryOrMemory (Err Memory) r = Unit {0}
EntryOrMemory (Err e) r = r ≡ Err e
EntryOrMemory (Ok x) r = r ≡ Ok x
