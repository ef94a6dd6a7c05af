-- The limits on sizes and on nesting. PackStream version 1 ("Representation") has sizes of up to 32 bits; these are ours.
use Rattle.std.specs.Prelude.{ℕ}

-- the greatest size of a text, of bytes, of a list and of a dictionary
abbrev pub max_size : ℕ
max_size = 16_777_216

-- how many lists, dictionaries and nodes may stand inside one another
abbrev pub max_depth : ℕ
max_depth = 32

-- for how many elements a size alone makes room
abbrev pub ahead : ℕ
ahead = 16
