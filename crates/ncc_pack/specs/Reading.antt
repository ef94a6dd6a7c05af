-- Reading from left to right (PackStream version 1, "Representation"), up to the first fault that stands in the bytes.
use Rattle.std.specs.Prelude.{◌≡◌, ℕ, zero, suc, ◌+◌, ◌-◌, ℤ, List, [], ◌∷◌, ◌++◌, length, take, drop, is_some, Result, Ok, Err, nat_lt}
use Rattle.std.specs.Prelude.{◌==◌, ◌||◌, if◌then◌else◌}
use Rattle.std.specs.Int.{Width, w8, w16, w32, w64, byte_len, from_be_bytes, cast_signed}
use Rattle.std.specs.List.{list_any}
use Rattle.std.specs.Str.{bytes_eq}
use Rattle.std.specs.Str.Lossy.{utf8_valid_len, utf8_error_len}
use Rattle.ncc_pack.specs.declared.value.Value.{Value}
use Rattle.ncc_pack.specs.declared.value.Value.TheVariants as v
use Rattle.ncc_pack.specs.declared.value.NodeValue.{NodeValue}
use Rattle.ncc_pack.specs.declared.error.PackError.{PackError}
use Rattle.ncc_pack.specs.declared.error.PackError.TheVariants.{Short, BadMarker, BadUtf8, RepeatedKey, KeyNotText, TooDeep, TooLong}
use Rattle.ncc_pack.specs.declared.error.PackError.TheVariants.{Memory}
use Rattle.ncc_pack.specs.declared.error.PackError.TheVariants as e
use Rattle.ncc_pack.specs.declared.mark.Mark.{Mark}
use Rattle.ncc_pack.specs.declared.mark.Mark.TheVariants as k
use Rattle.ncc_pack.specs.declared.mark.Size.{Size}
use Rattle.ncc_pack.specs.declared.mark.Size.TheVariants.{Here, One, Two, Four}
use Rattle.ncc_pack.specs.Marker.{marker}
use Rattle.ncc_pack.specs.Markers.{node_tag}
use Rattle.ncc_pack.specs.Limits.{max_size, max_depth}

infixl 10 ◌>>=◌
abbrev pub ◌>>=◌ : {A B : Type 0} → Result A PackError → (A → Result B PackError) → Result B PackError
(Ok x) >>= f = f x
(Err e) >>= f = Err e

-- what is read, and the bytes after it
abbrev pub Read : Type 0 → Type 0
Read A = Result (A × List ℕ) PackError

-- What a call answered is what reading gives, unless memory ran out.
abbrev pub Fails : {Y : Type 0} → PackError → Result Y PackError → Type 0
Fails Memory read = Unit {0}
Fails e read = read ≡ Err e

abbrev pub Gives : {X Y : Type 0} → (X → Y) → Result X PackError → Result Y PackError → Type 0
Gives view (Ok x) read = read ≡ Ok (view x)
Gives view (Err e) read = Fails e read

-- A place is that of the first byte of what is left: the length of all the bytes less that of those left.

-- ---- numbers and sizes

abbrev pub number_at : Width → List ℕ → Read ℕ
number_at w bytes = if nat_lt (length bytes) (byte_len w) then Err Short else Ok
    (from_be_bytes w (take (byte_len w) bytes), drop (byte_len w) bytes)

abbrev pub integer_at : Width → List ℕ → Read ℤ
integer_at w bytes = number_at w bytes >>= λ n. Ok (cast_signed w n.0, n.1)

-- a size whose bytes so far pass the limit is too long
unfoldable pub size_at : ℕ → Size → List ℕ → Read ℕ
size_at at (Here n) bytes = Ok (n, bytes)
size_at at One bytes = number_at w8 bytes
size_at at Two bytes = number_at w16 bytes
size_at at Four bytes =
    if nat_lt max_size (from_be_bytes w32 (take 4 (bytes ++ 0 ∷ 0 ∷ 0 ∷ 0 ∷ []))) then Err (TooLong at) else number_at w32 bytes

-- ---- bytes and texts

unfoldable pub bytes_at : ℕ → List ℕ → Read (List ℕ)
bytes_at n bytes = if nat_lt (length bytes) n then Err Short else Ok (take n bytes, drop n bytes)

-- how many bytes the sequence has whose first bytes these are
abbrev pub sequence_len : List ℕ → ℕ
sequence_len [] = 0
sequence_len (b ∷ bytes) = if nat_lt b 0x80 then 1 else (if nat_lt b 0xE0 then 2 else (if nat_lt b 0xF0 then 3 else 4))

-- the fault of a text of n bytes whose bytes end too early: ill-formed already, or with no room for its last sequence, or short
abbrev pub cut_text : ℕ → ℕ → List ℕ → PackError
cut_text total n bytes = let good = utf8_valid_len bytes in
    if is_some (utf8_error_len (drop good bytes)) || nat_lt n (good + sequence_len (drop good bytes)) then BadUtf8
    (total - (length bytes - good)) else Short

unfoldable pub text_at : ℕ → ℕ → List ℕ → Read (List ℕ)
text_at total n bytes =
    if nat_lt (length bytes) n then Err (cut_text total n bytes)
    else (let good = utf8_valid_len (take n bytes) in
    if good == n then Ok (take n bytes, drop n bytes) else Err (BadUtf8 (total - (length bytes - good))))

-- ---- where one kind alone may stand

-- the marker of another kind
abbrev pub other_kind : ℕ → Mark → PackError
other_kind at k.Float = e.Float at
other_kind at _ = BadMarker at

-- what begins with a marker, whose place is told
abbrev pub marked : {A : Type 0} → ℕ → (ℕ → Mark → List ℕ → Read A) → List ℕ → Read A
marked total f [] = Err Short
marked total f (m ∷ bytes) = f (total - length (m ∷ bytes)) (marker m) bytes

abbrev pub id_by : ℕ → Mark → List ℕ → Read ℤ
id_by at (k.Small z) bytes = Ok (z, bytes)
id_by at k.Int1 bytes = integer_at w8 bytes
id_by at k.Int2 bytes = integer_at w16 bytes
id_by at k.Int4 bytes = integer_at w32 bytes
id_by at k.Int8 bytes = integer_at w64 bytes
id_by at mark bytes = Err (other_kind at mark)

unfoldable pub id_at : ℕ → List ℕ → Read ℤ
id_at total bytes = marked total id_by bytes

abbrev pub label_by : ℕ → ℕ → Mark → List ℕ → Read Value
label_by total at (k.Text s) bytes = size_at at s bytes >>= λ n. text_at total n.0 n.1 >>= λ t. Ok (v.Text t.0, t.1)
label_by total at mark bytes = Err (other_kind at mark)

unfoldable pub label_at : ℕ → List ℕ → Read Value
label_at total bytes = marked total (label_by total) bytes

abbrev pub key_by : ℕ → ℕ → Mark → List ℕ → Read (List ℕ)
key_by total at (k.Text s) bytes = size_at at s bytes >>= λ n. text_at total n.0 n.1
key_by total at _ bytes = Err (KeyNotText at)

unfoldable pub key_at : ℕ → List ℕ → Read (List ℕ)
key_at total bytes = marked total (key_by total) bytes

-- ---- items and pairs

unfoldable pub items_at : {A : Type 0} → (List ℕ → Read A) → ℕ → List ℕ → Read (List A)
items_at one zero bytes = Ok ([], bytes)
items_at one (suc n) bytes = one bytes >>= λ first. items_at one n first.1 >>= λ others. Ok (first.0 ∷ others.0, others.1)

-- pairs behind those with the earlier keys
unfoldable pub pairs_at : {A : Type 0} → ℕ → (List ℕ → Read A) → List (List ℕ) → ℕ → List ℕ → Read (List (List ℕ × A))
pairs_at total value earlier zero bytes = Ok ([], bytes)
pairs_at total value earlier (suc n) bytes = key_at total bytes >>= λ key.
    if list_any (bytes_eq key.0) earlier then Err (RepeatedKey (total - length bytes)) else
    (value key.1 >>= λ x. pairs_at total value (earlier ++ key.0 ∷ []) n x.1 >>= λ more. Ok ((key.0, x.0) ∷ more.0, more.1))

-- ---- what holds values

-- how that is read whose marker stands at a place
pub record Holders : Type 0 where
  pub list : ℕ → Size → List ℕ → Read (List Value)
  pub dict : ℕ → Size → List ℕ → Read (List (List ℕ × Value))
  pub node : ℕ → List ℕ → Read NodeValue

abbrev pub by_mark : ℕ → Holders → ℕ → Mark → List ℕ → Read Value
by_mark total hold at k.Null bytes = Ok (v.Null, bytes)
by_mark total hold at (k.Bool b) bytes = Ok (v.Bool b, bytes)
by_mark total hold at (k.Small z) bytes = Ok (v.Int z, bytes)
by_mark total hold at k.Int1 bytes = integer_at w8 bytes >>= λ n. Ok (v.Int n.0, n.1)
by_mark total hold at k.Int2 bytes = integer_at w16 bytes >>= λ n. Ok (v.Int n.0, n.1)
by_mark total hold at k.Int4 bytes = integer_at w32 bytes >>= λ n. Ok (v.Int n.0, n.1)
by_mark total hold at k.Int8 bytes = integer_at w64 bytes >>= λ n. Ok (v.Int n.0, n.1)
by_mark total hold at (k.Bytes s) bytes = size_at at s bytes >>= λ n. bytes_at n.0 n.1 >>= λ t. Ok (v.Bytes t.0, t.1)
by_mark total hold at (k.Text s) bytes = size_at at s bytes >>= λ n. text_at total n.0 n.1 >>= λ t. Ok (v.Text t.0, t.1)
by_mark total hold at (k.List s) bytes = hold.list at s bytes >>= λ xs. Ok (v.List xs.0, xs.1)
by_mark total hold at (k.Dict s) bytes = hold.dict at s bytes >>= λ ps. Ok (v.Dict ps.0, ps.1)
by_mark total hold at k.Node bytes = hold.node at bytes >>= λ n. Ok (v.Node n.0, n.1)
by_mark total hold at k.Float bytes = Err (e.Float at)
by_mark total hold at k.Bad bytes = Err (BadMarker at)

unfoldable pub value_with : ℕ → Holders → List ℕ → Read Value
value_with total hold bytes = marked total (by_mark total hold) bytes

-- the labels and the properties of a node
abbrev pub labels_by : ℕ → ℕ → Mark → List ℕ → Read (List Value)
labels_by total at (k.List s) bytes = size_at at s bytes >>= λ n. items_at (label_at total) n.0 n.1
labels_by total at mark bytes = Err (other_kind at mark)

unfoldable pub labels_at : ℕ → List ℕ → Read (List Value)
labels_at total bytes = marked total (labels_by total) bytes

abbrev pub props_by : Holders → ℕ → Mark → List ℕ → Read (List (List ℕ × Value))
props_by hold at (k.Dict s) bytes = hold.dict at s bytes
props_by hold at mark bytes = Err (other_kind at mark)

unfoldable pub props_at : ℕ → Holders → List ℕ → Read (List (List ℕ × Value))
props_at total hold bytes = marked total (props_by hold) bytes

-- the tag of a node
unfoldable pub tag_at : ℕ → List ℕ → Result (List ℕ) PackError
tag_at total [] = Err Short
tag_at total (t ∷ bytes) = if t == node_tag then Ok bytes else Err (BadMarker (total - length (t ∷ bytes)))

unfoldable pub fields_at : ℕ → Holders → List ℕ → Read NodeValue
fields_at total hold bytes = tag_at total bytes >>= λ after. id_at total after >>= λ id. labels_at total id.1 >>= λ labels.
    props_at total hold labels.1 >>= λ props. Ok (record { id = id.0; labels = labels.0; props = props.0 }, props.1)

-- With so many levels left, a list or a dictionary takes one, and a node two, since its labels are a list.
unfoldable pub list_of : ℕ → Holders → ℕ → Size → List ℕ → Read (List Value)
list_of total inside at s bytes = size_at at s bytes >>= λ n. items_at (value_with total inside) n.0 n.1

unfoldable pub dict_of : ℕ → Holders → ℕ → Size → List ℕ → Read (List (List ℕ × Value))
dict_of total inside at s bytes = size_at at s bytes >>= λ n. pairs_at total (value_with total inside) [] n.0 n.1

abbrev pub node_of : ℕ → ℕ → Holders → ℕ → List ℕ → Read NodeValue
node_of total zero inside at bytes = Err (TooDeep at)
node_of total (suc d) inside at bytes = fields_at total inside bytes

unfoldable pub within : ℕ → ℕ → Holders
within total zero = record {
  list = λ at s bytes. Err (TooDeep at);
  dict = λ at s bytes. Err (TooDeep at);
  node =
      λ at bytes. Err (TooDeep at);
}
within total (suc d) = record {
  list = list_of total (within total d);
  dict = dict_of total (within total d);
  node =
      node_of total d (within total d);
}

-- the value that bytes begin with, among so many bytes in all, with so many levels left
abbrev pub value_at : ℕ → ℕ → List ℕ → Read Value
value_at total d bytes = value_with total (within total d) bytes

-- the value that bytes begin with
abbrev pub read_value : List ℕ → Read Value
read_value bytes = value_at (length bytes) max_depth bytes
