-- Three works: one adds to a counter, one puts a pair, and one gets a pair's value.
use Rattle.std.specs.Prelude.{◌≡◌, ◌≢◌, ◌≤◌, ℕ, zero, suc, ℤ, pos, Bool, true, false, length, List, [], ◌∷◌, codes}
use Rattle.ncc_pack.specs.declared.value.Value.{Value}
use Rattle.ncc_pack.specs.declared.value.Value.TheVariants as v
use Rattle.ncc_driver.specs.declared.work.WorkStep.{WorkStep}
use Rattle.ncc_driver.specs.declared.work.WorkStep.TheVariants.{Run, Commit}
use Rattle.ncc_driver.specs.Work.{Row}

abbrev pub key_at : List ℕ → List ℕ × Value
key_at key = (codes "k", v.Text key)

-- null counts as 0
abbrev pub counted : Value → Value
counted v.Null = v.Int (pos 0)
counted value = value

-- the first value of the first row; 0 where there is none
abbrev pub old_in : List Row → Value
old_in [] = v.Int (pos 0)
old_in ([] ∷ rows) = v.Int (pos 0)
old_in ((value ∷ values) ∷ rows) = counted value

-- makes the counter where there is none, and reads it
abbrev pub reads_counter : List ℕ → WorkStep
reads_counter key = Run (codes "MERGE (n:Counter {k: $k}) RETURN n.v") (key_at key ∷ [])

-- sets it to what was read and so much more
abbrev pub raises_counter : List ℕ → ℤ → Value → WorkStep
raises_counter key by old =
    Run (codes "MATCH (n:Counter {k: $k}) SET n.v = $old + $d RETURN n.v")
    (key_at key ∷ (codes "old", old) ∷ (codes "d", v.Int by) ∷ [])

abbrev pub add_steps : List ℕ → ℤ → List (List Row) → WorkStep
add_steps key by [] = reads_counter key
add_steps key by (rows ∷ []) = raises_counter key by (old_in rows)
add_steps key by _ = Commit

abbrev pub puts_pair : List ℕ → List ℕ → WorkStep
puts_pair key value = Run (codes "MERGE (n:Pair {k: $k}) SET n.v = $v") (key_at key ∷ (codes "v", v.Text value) ∷ [])

abbrev pub put_steps : List ℕ → List ℕ → List (List Row) → WorkStep
put_steps key value [] = puts_pair key value
put_steps key value _ = Commit

abbrev pub gets_pair : List ℕ → WorkStep
gets_pair key = Run (codes "MATCH (n:Pair {k: $k}) RETURN n.v") (key_at key ∷ [])

abbrev pub get_steps : List ℕ → List (List Row) → WorkStep
get_steps key [] = gets_pair key
get_steps key _ = Commit

-- An adder behind no step, behind one, whose value it keeps, and behind more.
abbrev pub AddStands : ℕ → Value → List (List Row) → Type 0
AddStands zero old told = told ≡ []
AddStands (suc zero) old told = (rows : List Row) × (told ≡ rows ∷ []) × (old ≡ old_in rows)
AddStands _ old told = 2 ≤ length told

-- The others tell only whether there was a step.
abbrev pub RanStands : Bool → List (List Row) → Type 0
RanStands false told = told ≡ []
RanStands true told = told ≢ []
