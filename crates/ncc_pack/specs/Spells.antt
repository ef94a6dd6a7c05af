-- Which bytes spell a value: a case for each marker (PackStream version 1, "Representation"). It is apart from reading and writing.
use Rattle.std.specs.Prelude.{◌≡◌, ℕ, zero, suc, ◌+◌, ◌-◌, ◌<◌, ◌≤◌, ◌^◌, ℤ, pos, negsuc, true, false, List, [], ◌∷◌, ◌++◌, length}
use Rattle.std.specs.Prelude.{IsUtf8, IsTrue}
use Rattle.std.specs.Int.{w8, w16, w32, w64, to_be_bytes, cast_signed}
use Rattle.ncc_pack.specs.declared.value.Value.{Value}
use Rattle.ncc_pack.specs.declared.value.Value.TheVariants as v
use Rattle.ncc_pack.specs.declared.value.NodeValue.{NodeValue}
use Rattle.ncc_pack.specs.Limits.{max_size, max_depth}
use Rattle.ncc_pack.specs.Keys.{distinct}
use Rattle.ncc_pack.specs.Markers.{null_marker, false_marker, true_marker, int1_marker, int2_marker, int4_marker, int8_marker}
use Rattle.ncc_pack.specs.Markers.{node_marker, node_tag}

-- what marks a kind: the marker that has a small size in it, and the marker before a size of one byte
pub record Kind : Type 0 where
  pub tiny : ℕ
  pub wide : ℕ

abbrev pub texts : Kind
texts = record { tiny = 0x80; wide = 0xD0 }

abbrev pub lists : Kind
lists = record { tiny = 0x90; wide = 0xD4 }

abbrev pub dicts : Kind
dicts = record { tiny = 0xA0; wide = 0xD8 }

-- the marker before one byte of size of bytes, which have no small size in a marker
abbrev pub bytes_mark : ℕ
bytes_mark = 0xCC

-- a marker and a size in one, two or four bytes
pub data IsWide (mark : ℕ) (n : ℕ) : List ℕ → Type 0 where
  one : n < 2 ^ 8 → IsWide mark n (mark ∷ to_be_bytes w8 n)
  two : n < 2 ^ 16 → IsWide mark n ((mark + 1) ∷ to_be_bytes w16 n)
  four : n ≤ max_size → IsWide mark n ((mark + 2) ∷ to_be_bytes w32 n)

-- the bytes before a text, a list or a dictionary of a size
pub data IsHead (kind : Kind) (n : ℕ) : List ℕ → Type 0 where
  tiny : n < 16 → IsHead kind n ((kind.tiny + n) ∷ [])
  wide : (h : List ℕ) → IsWide kind.wide n h → IsHead kind n h

-- integers: every width is allowed
pub data SpellsInt : ℤ → List ℕ → Type 0 where
  positive : (n : ℕ) → n < 128 → SpellsInt (pos n) (n ∷ [])
  negative : (n : ℕ) → n < 16 → SpellsInt (negsuc n) ((255 - n) ∷ [])
  int1 : (n : ℕ) → n < 2 ^ 8 → SpellsInt (cast_signed w8 n) (int1_marker ∷ to_be_bytes w8 n)
  int2 : (n : ℕ) → n < 2 ^ 16 → SpellsInt (cast_signed w16 n) (int2_marker ∷ to_be_bytes w16 n)
  int4 : (n : ℕ) → n < 2 ^ 32 → SpellsInt (cast_signed w32 n) (int4_marker ∷ to_be_bytes w32 n)
  int8 : (n : ℕ) → n < 2 ^ 64 → SpellsInt (cast_signed w64 n) (int8_marker ∷ to_be_bytes w64 n)

-- a text: a head and UTF-8
abbrev pub SpellsText : List ℕ → List ℕ → Type 0
SpellsText t b = (h : List ℕ) × IsHead texts (length t) h × IsUtf8 t × (b ≡ h ++ t)

-- one spelling after another
abbrev pub Each : {A : Type 0} → (A → List ℕ → Type 0) → List A → List ℕ → Type 0
Each R [] b = b ≡ []
Each R (x ∷ xs) b = (c : List ℕ) × (e : List ℕ) × R x c × Each R xs e × (b ≡ c ++ e)

-- a list of a size: its head, and one item after another
abbrev pub Listed : {A : Type 0} → Kind → (A → List ℕ → Type 0) → List A → List ℕ → Type 0
Listed kind R xs b = (h : List ℕ) × (items : List ℕ) × IsHead kind (length xs) h × Each R xs items × (b ≡ h ++ items)

-- a key and its value
abbrev pub Pair : (Value → List ℕ → Type 0) → List ℕ × Value → List ℕ → Type 0
Pair R p b = (c : List ℕ) × (e : List ℕ) × SpellsText p.0 c × R p.1 e × (b ≡ c ++ e)

-- a label is a text
pub data Label : Value → List ℕ → Type 0 where
  label : (t b : List ℕ) → SpellsText t b → Label (v.Text t) b

-- the spellings of what holds values
pub record Holding : Type 1 where
  pub list : List Value → List ℕ → Type 0
  pub dict : List (List ℕ × Value) → List ℕ → Type 0
  pub node : NodeValue → List ℕ → Type 0

pub data Spells (hold : Holding) : Value → List ℕ → Type 0 where
  null : Spells hold v.Null (null_marker ∷ [])
  no : Spells hold (v.Bool false) (false_marker ∷ [])
  yes : Spells hold (v.Bool true) (true_marker ∷ [])
  int : (z : ℤ) (b : List ℕ) → SpellsInt z b → Spells hold (v.Int z) b
  bytes : (t h : List ℕ) → IsWide bytes_mark (length t) h → Spells hold (v.Bytes t) (h ++ t)
  text : (t b : List ℕ) → SpellsText t b → Spells hold (v.Text t) b
  list : (xs : List Value) (b : List ℕ) → hold.list xs b → Spells hold (v.List xs) b
  dict : (ps : List (List ℕ × Value)) (b : List ℕ) → hold.dict ps b → Spells hold (v.Dict ps) b
  node : (n : NodeValue) (b : List ℕ) → hold.node n b → Spells hold (v.Node n) b

-- a node's three fields: its id, its labels as a list of texts, its properties
abbrev pub Fields : Holding → NodeValue → List ℕ → Type 0
Fields inside n b = (i : List ℕ) × (l : List ℕ) × (p : List ℕ) × SpellsInt n.id i × Listed lists Label n.labels l × inside.dict n.props p
    × (b ≡ node_marker ∷ node_tag ∷ i ++ l ++ p)

-- with one level more than a node needs for its labels
abbrev pub Node : ℕ → Holding → NodeValue → List ℕ → Type 0
Node zero inside n b = ⊥
Node (suc d) inside n b = Fields inside n b

-- What may nest so many levels deep: a list or a dictionary takes one of them, and a node two, since its labels are a list inside it.
unfoldable pub levels : ℕ → Holding
levels zero = record { list = λ xs b. ⊥; dict = λ ps b. ⊥; node = λ n b. ⊥ }
levels (suc d) = record {
  list = Listed lists (Spells (levels d));
  dict = λ ps b. Listed dicts (Pair (Spells (levels d))) ps b × IsTrue (distinct [] ps);
  node = Node d (levels d);
}

-- the spellings of a value
abbrev pub spells : Value → List ℕ → Type 0
spells = Spells (levels max_depth)
