-- What each marker byte says (PackStream version 1, "Representation").
use Rattle.std.specs.Prelude.{ℕ, ◌+◌, ◌-◌, pos, negsuc, true, false, if◌then◌else◌, nat_lt, ◌==◌}
use Rattle.ncc_pack.specs.Markers.{null_marker, float_marker, false_marker, true_marker, int1_marker, int2_marker, int4_marker}
use Rattle.ncc_pack.specs.Markers.{int8_marker, node_marker}
use Rattle.ncc_pack.specs.Spells.{texts, lists, dicts, bytes_mark}
use Rattle.ncc_pack.specs.declared.mark.Mark.{Mark}
use Rattle.ncc_pack.specs.declared.mark.Mark.TheVariants.{Null, Bool, Small, Int1, Int2, Int4, Int8, Bytes, Text, List, Dict, Node, Float}
use Rattle.ncc_pack.specs.declared.mark.Mark.TheVariants.{Bad}
use Rattle.ncc_pack.specs.declared.mark.Size.TheVariants.{Here, One, Two, Four}

-- markers with a size behind them, and the node's
abbrev pub sized_marker : ℕ → Mark
sized_marker m =
    if m == bytes_mark then Bytes One else (if m == bytes_mark + 1 then Bytes Two else (if m == bytes_mark + 2 then Bytes Four
    else (if m == texts.wide then Text One else (if m == texts.wide + 1 then Text Two else (if m == texts.wide + 2 then Text Four
    else (if m == lists.wide then List One else (if m == lists.wide + 1 then List Two else (if m == lists.wide + 2 then List Four
    else (if m == dicts.wide then Dict One else (if m == dicts.wide + 1 then Dict Two else (if m == dicts.wide + 2 then Dict Four
    else (if m == node_marker then Node else Bad))))))))))))

-- markers of null, the booleans and wide integers
abbrev pub plain_marker : ℕ → Mark
plain_marker m =
    if m == null_marker then Null else (if m == float_marker then Float
    else (if m == false_marker then Bool false else (if m == true_marker then Bool true
    else (if m == int1_marker then Int1 else (if m == int2_marker then Int2
    else (if m == int4_marker then Int4 else (if m == int8_marker then Int8
    else sized_marker m)))))))

-- the last markers are the small integers below 0
unfoldable pub marker : ℕ → Mark
marker m =
    if nat_lt m texts.tiny then Small (pos m)
    else (if nat_lt m lists.tiny then Text (Here (m - texts.tiny))
    else (if nat_lt m dicts.tiny then List (Here (m - lists.tiny))
    else (if nat_lt m (dicts.tiny + 16) then Dict (Here (m - dicts.tiny))
    else (if nat_lt 0xEF m then Small (negsuc (255 - m))
    else plain_marker m))))
