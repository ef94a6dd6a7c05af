-- The marker bytes of values that hold no size, and the node's (PackStream version 1, "Representation"; the tag is that of Bolt 4.4,
-- "Structure semantics", Node). What marks texts, lists, dictionaries and bytes stands beside their spellings.
use Rattle.std.specs.Prelude.{ℕ}

abbrev pub null_marker : ℕ
null_marker = 0xC0

abbrev pub float_marker : ℕ
float_marker = 0xC1

abbrev pub false_marker : ℕ
false_marker = 0xC2

abbrev pub true_marker : ℕ
true_marker = 0xC3

-- before an integer in one, two, four and eight bytes

abbrev pub int1_marker : ℕ
int1_marker = 0xC8

abbrev pub int2_marker : ℕ
int2_marker = 0xC9

abbrev pub int4_marker : ℕ
int4_marker = 0xCA

abbrev pub int8_marker : ℕ
int8_marker = 0xCB

-- a structure of three fields, and the tag of a node

abbrev pub node_marker : ℕ
node_marker = 0xB3

abbrev pub node_tag : ℕ
node_tag = 0x4E
