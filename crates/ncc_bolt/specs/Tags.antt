-- The tag of each message, and the marker of a structure (Bolt 4.4, "Messages"; PackStream version 1, "Structure").
use Rattle.std.specs.Prelude.{ℕ, ◌+◌}

-- what a client sends

abbrev pub hello_tag : ℕ
hello_tag = 0x01

abbrev pub goodbye_tag : ℕ
goodbye_tag = 0x02

abbrev pub reset_tag : ℕ
reset_tag = 0x0F

abbrev pub run_tag : ℕ
run_tag = 0x10

abbrev pub begin_tag : ℕ
begin_tag = 0x11

abbrev pub commit_tag : ℕ
commit_tag = 0x12

abbrev pub rollback_tag : ℕ
rollback_tag = 0x13

abbrev pub discard_tag : ℕ
discard_tag = 0x2F

abbrev pub pull_tag : ℕ
pull_tag = 0x3F

abbrev pub route_tag : ℕ
route_tag = 0x66

-- what a server sends

abbrev pub success_tag : ℕ
success_tag = 0x70

abbrev pub record_tag : ℕ
record_tag = 0x71

abbrev pub ignored_tag : ℕ
ignored_tag = 0x7E

abbrev pub failure_tag : ℕ
failure_tag = 0x7F

-- the marker of a structure with so many fields, of which there are at most 15
abbrev pub structure : ℕ → ℕ
structure n = 0xB0 + n

abbrev pub first_structure : ℕ
first_structure = 0xB0

abbrev pub last_structure : ℕ
last_structure = 0xBF
