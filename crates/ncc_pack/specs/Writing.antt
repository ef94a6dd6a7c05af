-- What writing gives (a spelling, as PackStream version 1, "Representation", has it), and what its parts ask.
use Rattle.std.specs.Prelude.{◌≡◌, ℕ, List, ◌++◌, map, IsTrue}
use Rattle.ncc_pack.specs.declared.value.Value.{Value}
use Rattle.ncc_pack.specs.declared.value.NodeValue.{NodeValue}
use Rattle.ncc_pack.specs.Spells.{spells, IsHead, lists}
use Rattle.ncc_pack.specs.Fits.{fit, fit_pair, fits_list, fits_dict, fits_node, fits_within}

-- one list begins another
abbrev pub Begins : List ℕ → List ℕ → Type 0
Begins front whole = (more : List ℕ) × (whole ≡ front ++ more)

-- bytes grew by a spelling of a value
abbrev pub Spelled : Value → List ℕ → List ℕ → Type 0
Spelled x old new = (b : List ℕ) × spells x b × (new ≡ old ++ b)

-- bytes grew by what stands before the items of a list of so many
abbrev pub HeadSpelled : ℕ → List ℕ → List ℕ → Type 0
HeadSpelled n old new = (h : List ℕ) × IsHead lists n h × (new ≡ old ++ h)

-- a value, the items of a list, the pairs of a dictionary and a node that fit within some number of levels
unfoldable pub SomeValue : Value → Type 0
SomeValue x = (d : ℕ) × IsTrue (fits_within x d)

unfoldable pub SomeList : List Value → Type 0
SomeList xs = (d : ℕ) × IsTrue (fits_list (map fit xs) d)

unfoldable pub SomeDict : List (List ℕ × Value) → Type 0
SomeDict ps = (d : ℕ) × IsTrue (fits_dict (map fit_pair ps) d)

unfoldable pub SomeNode : NodeValue → Type 0
SomeNode n = (d : ℕ) × IsTrue (fits_node n d)
