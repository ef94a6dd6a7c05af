-- What a sum can be: null, a truth value, an integer or a text.
use Rattle.std.specs.Prelude.{ℕ, ℤ, ◌+ℤ◌, nat_le, Bool, false, ◌++◌, length, if◌then◌else◌, List, Option, Some, None, Result, Ok, Err}
use Rattle.std.specs.Bool.{beq}
use Rattle.std.specs.Ordering.{int_eq}
use Rattle.std.specs.Str.{bytes_eq}
use Rattle.ncc_pack.specs.declared.value.Value.{Value, out-Value}
use Rattle.ncc_pack.specs.declared.value.NodeValue.{NodeValue}
use Rattle.ncc_pack.specs.declared.value.Value.TheVariants as v
use Rattle.ncc_pack.specs.declared.value.Value.TheOpen.{Value-F}
use Rattle.ncc_pack.specs.Fits.{fits_i64}
use Rattle.ncc_store.specs.declared.scalar.Scalar.{Scalar}
use Rattle.ncc_store.specs.declared.scalar.Scalar.TheVariants as s
use Rattle.ncc_store.specs.declared.fault.RunFault.{RunFault}
use Rattle.ncc_store.specs.declared.fault.RunFault.TheVariants as f

abbrev pub scalar_in : Value-F Value NodeValue → Option Scalar
scalar_in Value-F.Null = Some s.Null
scalar_in (Value-F.Bool b) = Some (s.Bool b)
scalar_in (Value-F.Int z) = Some (s.Int z)
scalar_in (Value-F.Text t) = Some (s.Text t)
scalar_in _ = None

-- bytes, lists, dictionaries and nodes are none
abbrev pub scalar : Value → Option Scalar
scalar x = scalar_in (out-Value x)

abbrev pub value_of : Scalar → Value
value_of s.Null = v.Null
value_of (s.Bool b) = v.Bool b
value_of (s.Int z) = v.Int z
value_of (s.Text t) = v.Text t

-- equal in kind and value; null equals nothing
abbrev pub same : Scalar → Scalar → Bool
same (s.Bool a) (s.Bool b) = beq a b
same (s.Int a) (s.Int b) = int_eq a b
same (s.Text a) (s.Text b) = bytes_eq a b
same _ _ = false

-- the greatest length of a text that `+` makes, in bytes
abbrev pub max_text : ℕ
max_text = 262_144

abbrev pub sum_of : ℤ → Result Scalar RunFault
sum_of z = if fits_i64 z then Ok (s.Int z) else Err f.Overflow

abbrev pub joined : List ℕ → Result Scalar RunFault
joined t = if nat_le (length t) max_text then Ok (s.Text t) else Err f.TooLong

-- `+`: null with anything is null, two integers are added, and two texts joined
abbrev pub plus : Scalar → Scalar → Result Scalar RunFault
plus s.Null y = Ok s.Null
plus x s.Null = Ok s.Null
plus (s.Int a) (s.Int b) = sum_of (a +ℤ b)
plus (s.Text a) (s.Text b) = joined (a ++ b)
plus _ _ = Err f.WrongKind
