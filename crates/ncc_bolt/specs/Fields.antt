-- The fields of a message (Bolt 4.4, "Messages"): the kinds that they may have, and what each holds.
use Rattle.std.specs.Prelude.{◌≡◌, ℕ, List, [], ◌∷◌, ◌++◌}
use Rattle.ncc_pack.specs.declared.value.Value.{Value}
use Rattle.ncc_pack.specs.declared.value.Value.TheVariants as v
use Rattle.ncc_pack.specs.Spells.{spells}

-- the kinds of fields
pub data Kind : Type 0 where
  dictionary : Kind
  text : Kind
  list : Kind

-- the pairs of a dictionary
abbrev pub Pairs : Type 0
Pairs = List (List ℕ × Value)

-- what a field of a kind holds
abbrev pub Held : Kind → Type 0
Held dictionary = Pairs
Held text = List ℕ
Held list = List Value

-- the value that a field of a kind is
abbrev pub value : (k : Kind) → Held k → Value
value dictionary ps = v.Dict ps
value text t = v.Text t
value list xs = v.List xs

-- one field of each kind
abbrev pub Fields : List Kind → Type 0
Fields [] = Unit {0}
Fields (k ∷ ks) = Held k × Fields ks

-- each field spelled, one behind the other
abbrev pub SpellsFields : (ks : List Kind) → Fields ks → List ℕ → Type 0
SpellsFields [] fields b = b ≡ []
SpellsFields (k ∷ ks) fields b =
    (c : List ℕ) × (e : List ℕ) × spells (value k fields.0) c × SpellsFields ks fields.1 e × (b ≡ c ++ e)
