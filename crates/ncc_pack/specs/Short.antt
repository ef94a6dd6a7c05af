-- The shortest spelling of a value (PackStream version 1, "Representation"): the fewest bytes for each integer and each size.
use Rattle.std.specs.Prelude.{ℕ, ◌+◌, ℤ, pos, negsuc, int_le, int_lt, Bool, true, false, ◌&&◌, if◌then◌else◌, nat_lt, List, [], ◌∷◌, ◌++◌}
use Rattle.std.specs.Prelude.{length}
use Rattle.std.specs.Int.{w8, w16, w32, w64, to_be_bytes, cast_unsigned}
use Rattle.ncc_pack.specs.declared.value.Value.{Value, fold-Value}
use Rattle.ncc_pack.specs.declared.value.NodeValue.{NodeValue, fold-NodeValue}
use Rattle.ncc_pack.specs.declared.value.Value.TheOpen.{Value-F, NodeValue-F}
use Rattle.ncc_pack.specs.Markers.{null_marker, false_marker, true_marker, int1_marker, int2_marker, int4_marker, int8_marker}
use Rattle.ncc_pack.specs.Markers.{node_marker, node_tag}
use Rattle.ncc_pack.specs.Spells.{Kind, texts, lists, dicts, bytes_mark}

-- a size in the fewest bytes behind a marker
abbrev pub wide_head : ℕ → ℕ → List ℕ
wide_head mark n =
    if nat_lt n 0x100 then mark ∷ n ∷ [] else (if nat_lt n 0x1_0000 then (mark + 1) ∷ to_be_bytes w16 n else (mark + 2) ∷ to_be_bytes w32 n)

-- in the marker where it fits there
unfoldable pub head : Kind → ℕ → List ℕ
head kind n = if nat_lt n 16 then (kind.tiny + n) ∷ [] else wide_head kind.wide n

-- -16 to 127 in the marker, and else in the fewest of one, two, four or eight bytes
unfoldable pub integer : ℤ → List ℕ
integer z =
    if int_le (negsuc 15) z && int_lt z (pos 128) then cast_unsigned w8 z ∷ []
    else (if int_le (negsuc 127) z && int_lt z (pos 128) then int1_marker ∷ cast_unsigned w8 z ∷ []
    else (if int_le (negsuc 0x7FFF) z && int_lt z (pos 0x8000) then int2_marker ∷ to_be_bytes w16 (cast_unsigned w16 z)
    else (if int_le (negsuc 0x7FFF_FFFF) z && int_lt z (pos 0x8000_0000) then int4_marker ∷ to_be_bytes w32 (cast_unsigned w32 z)
    else int8_marker ∷ to_be_bytes w64 (cast_unsigned w64 z))))

unfoldable pub text : List ℕ → List ℕ
text t = head texts (length t) ++ t

unfoldable pub bytes : List ℕ → List ℕ
bytes b = wide_head bytes_mark (length b) ++ b

abbrev pub concat : List (List ℕ) → List ℕ
concat [] = []
concat (x ∷ xs) = x ++ concat xs

abbrev pub pairs : List (List ℕ × List ℕ) → List ℕ
pairs [] = []
pairs (p ∷ ps) = text p.0 ++ p.1 ++ pairs ps

-- lists, dictionaries and nodes of what is spelled
unfoldable pub list : List (List ℕ) → List ℕ
list xs = head lists (length xs) ++ concat xs

unfoldable pub dict : List (List ℕ × List ℕ) → List ℕ
dict ps = head dicts (length ps) ++ pairs ps

abbrev pub boolean : Bool → List ℕ
boolean false = false_marker ∷ []
boolean true = true_marker ∷ []

abbrev pub short_step : Value-F (List ℕ) (List ℕ) → List ℕ
short_step Value-F.Null = null_marker ∷ []
short_step (Value-F.Bool b) = boolean b
short_step (Value-F.Int z) = integer z
short_step (Value-F.Bytes b) = bytes b
short_step (Value-F.Text t) = text t
short_step (Value-F.List xs) = list xs
short_step (Value-F.Dict ps) = dict ps
short_step (Value-F.Node n) = n

abbrev pub node_step : NodeValue-F (List ℕ) (List ℕ) → List ℕ
node_step n = node_marker ∷ node_tag ∷ integer n.id ++ list n.labels ++ dict n.props

abbrev pub short : Value → List ℕ
short = fold-Value (List ℕ) (List ℕ) short_step node_step

abbrev pub short_node : NodeValue → List ℕ
short_node = fold-NodeValue (List ℕ) (List ℕ) short_step node_step

abbrev pub short_pair : List ℕ × Value → List ℕ × List ℕ
short_pair p = (p.0, short p.1)
