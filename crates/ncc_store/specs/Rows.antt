-- The rows that Cypher's RETURN gives, and the limits on them.
use Rattle.std.specs.Prelude.{ℕ, ◌+◌, nat_le, pos, Bool, ◌&&◌, if◌then◌else◌, List, [], ◌∷◌, length, Option, Some, None, Ok, Err}
use Rattle.std.specs.List.{list_all}
use Rattle.ncc_pack.specs.declared.value.Value.{Value}
use Rattle.ncc_pack.specs.declared.value.Value.TheVariants as v
use Rattle.ncc_pack.specs.Short.{short}
use Rattle.ncc_pack.specs.Fits.{fits}
use Rattle.ncc_cypher.specs.declared.tree.Item.{Item}
use Rattle.ncc_cypher.specs.declared.tree.Item.TheVariants as i
use Rattle.ncc_cypher.specs.declared.tree.Tail.{Tail}
use Rattle.ncc_cypher.specs.declared.tree.Tail.TheVariants as l
use Rattle.ncc_store.specs.declared.node.StoredNode.{StoredNode}
use Rattle.ncc_store.specs.declared.fault.RunFault.TheVariants as f
use Rattle.ncc_store.specs.Scalar.{value_of}
use Rattle.ncc_store.specs.Props.{Props}
use Rattle.ncc_store.specs.Sum.{Answer, ◌>>=◌, sum}

-- how many rows RETURN may give
abbrev pub max_rows : ℕ
max_rows = 10_000

-- how many bytes of short spellings its rows may have, each spelled as a list
abbrev pub max_bytes : ℕ
max_bytes = 16_777_216

-- and one row
abbrev pub max_row : ℕ
max_row = 1_048_000

-- the node of a row; a RETURN that stands alone has a row without one
abbrev pub Row : Type 0
Row = Option StoredNode

abbrev pub props_of : Row → Props
props_of None = []
props_of (Some n) = n.props

-- a node as a value: its label in a list, and its properties
abbrev pub whole : Row → Value
whole None = v.Null
whole (Some n) = v.Node (record { id = n.id; labels = v.Text n.label ∷ []; props = n.props })

abbrev pub item : Props → Row → Item → Answer Value
item params n i.Whole = Ok (whole n)
item params n (i.Sum e) = sum params (props_of n) e >>= λ x. Ok (value_of x)

-- the items from left to right
unfoldable pub items : Props → Row → List Item → Answer (List Value)
items params n [] = Ok []
items params n (i ∷ is) = item params n i >>= λ x. items params n is >>= λ xs. Ok (x ∷ xs)

abbrev pub row_len : List Value → ℕ
row_len xs = length (short (v.List xs))

-- a row that fits and is short enough
abbrev pub row_keeps : List Value → Bool
row_keeps xs = fits (v.List xs) && nat_le (row_len xs) max_row

abbrev pub short_enough : List Value → Answer (List Value)
short_enough xs = if row_keeps xs then Ok xs else Err f.TooLong

abbrev pub row : Props → List Item → Row → Answer (List Value)
row params is n = items params n is >>= short_enough

-- so many rows, and bytes of them, are within the limits
abbrev pub few : ℕ → ℕ → Bool
few count bytes = nat_le count max_rows && nat_le bytes max_bytes

-- the bytes of rows, each spelled as a list
abbrev pub rows_len : List (List Value) → ℕ
rows_len [] = 0
rows_len (r ∷ rs) = row_len r + rows_len rs

-- the rows of one step: each fits and is short enough, and they are few enough
abbrev pub rows_keep : List (List Value) → Bool
rows_keep rs = list_all row_keeps rs && few (length rs) (rows_len rs)

-- the rows one by one, behind so many with so many bytes
unfoldable pub rows : Props → List Item → ℕ → ℕ → List Row → Answer (List (List Value))
rows params is count bytes [] = Ok []
rows params is count bytes (n ∷ ns) = row params is n >>= λ r.
    if few (count + 1) (bytes + row_len r) then (rows params is (count + 1) (bytes + row_len r) ns >>= λ rs. Ok (r ∷ rs))
    else Err f.TooManyRows

-- what a statement returns over its rows: nothing without RETURN, one row with their number for `count`
abbrev pub returned : Props → Tail → List Row → Answer (List (List Value))
returned params l.Nothing ns = Ok []
returned params l.Count ns = Ok ((v.Int (pos (length ns)) ∷ []) ∷ [])
returned params (l.Items is) ns = rows params is 0 0 ns
