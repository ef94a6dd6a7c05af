-- Properties and parameters: pairs of a key and a value. The properties of a node stand by ascending bytes of their keys.
use Rattle.std.specs.Prelude.{ℕ, Bool, true, false, ◌&&◌, IsTrue, List, Option, Some, None}
use Rattle.std.specs.declared.cmp.Ordering.{Ordering}
use Rattle.std.specs.Ordering.{nat_cmp}
use Rattle.std.specs.Cmp.Lexicographic.{slice_cmp}
use Rattle.std.specs.List.{All}
use Rattle.std.specs.List.Sorted.{IsStrictlySortedBy}
use Rattle.std.specs.Str.{bytes_eq}
use Rattle.std.specs.Map.{lookup, remove_entry, keys_of}
use Rattle.std.specs.BTreeMap.{insert_entry, is_at}
use Rattle.ncc_pack.specs.declared.value.Value.{Value}
use Rattle.ncc_pack.specs.declared.value.Value.TheVariants as v
use Rattle.ncc_pack.specs.Fits.{fits}
use Rattle.ncc_store.specs.declared.scalar.Scalar.{Scalar}
use Rattle.ncc_store.specs.declared.scalar.Scalar.TheVariants as s
use Rattle.ncc_store.specs.Scalar.{scalar, value_of}

abbrev pub Name : Type 0
Name = List ℕ

abbrev pub Props : Type 0
Props = List (Name × Value)

-- the order of keys: by their bytes
abbrev pub name_cmp : Name → Name → Ordering
name_cmp a b = slice_cmp nat_cmp a b

abbrev pub IsKeyed : Props → Type 0
IsKeyed ps = IsStrictlySortedBy name_cmp (keys_of ps)

-- the value at a key
abbrev pub at_key : Name → Props → Option Value
at_key k ps = lookup (bytes_eq k) ps

abbrev pub or_null : Option Scalar → Scalar
or_null (Some x) = x
or_null None = s.Null

abbrev pub held : Option Value → Scalar
held (Some v) = or_null (scalar v)
held None = s.Null

-- a property of a node: null where it is missing
unfoldable pub prop : Name → Props → Scalar
prop k ps = held (at_key k ps)

-- with a value at a key, in the keys' order: null takes the property out
unfoldable pub put : Props → Name → Scalar → Props
put ps k s.Null = remove_entry (is_at (name_cmp k)) ps
put ps k x = insert_entry name_cmp ps k (value_of x)

abbrev pub is_there : Option Scalar → Bool
is_there None = false
is_there (Some s.Null) = false
is_there (Some x) = true

-- a truth value, an integer or a text
abbrev pub is_plain : Value → Bool
is_plain x = is_there (scalar x)

abbrev pub ArePlain : Props → Type 0
ArePlain ps = All (λ p. IsTrue (is_plain p.1)) ps

-- a key and a value that each fit
abbrev pub pair_fits : Name × Value → Bool
pair_fits p = fits (v.Text p.0) && fits p.1
