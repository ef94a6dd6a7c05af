-- Which values are texts (PackStream version 1, "Data types", String), as the labels of a node are.
use Rattle.std.specs.Prelude.{Bool, true, false, List}
use Rattle.std.specs.List.{list_all}
use Rattle.ncc_pack.specs.declared.value.Value.{Value}
use Rattle.ncc_pack.specs.declared.value.Value.TheVariants as v

abbrev pub is_text : Value → Bool
is_text (v.Text t) = true
is_text _ = false

-- every value of a list is one
abbrev pub texts_alone : List Value → Bool
texts_alone values = list_all is_text values
