-- What bytes begin with, from left to right up to the first wrong field. Places count from the first byte of the size.
use Rattle.std.specs.Prelude.{◌≡◌, ℕ, ◌+◌, ◌-◌, ◌≤◌, ◌<◌, Bool, true, false, ◌&&◌, not, nat_eq, nat_le, nat_lt, if◌then◌else◌}
use Rattle.std.specs.Prelude.{List, [], ◌∷◌, ◌++◌, length, take, drop, slice_index, Option, Some, None, Result, Ok, Err}
use Rattle.ncc_tx.specs.declared.entry.Item.{Item}
use Rattle.ncc_tx.specs.declared.field.ItemField.{ItemField}
use Rattle.ncc_tx.specs.Fields.{IsWrong, offset}
use Rattle.ncc_tx.specs.Items.{items_bytes}
use Rattle.ncc_tx.specs.Kept.{AllAllowed, term_limit}
use Rattle.ncc_raft.specs.Carried.{max_frame}
use Rattle.ncc_wire.specs.declared.error.FrameError.{FrameError}
use Rattle.ncc_wire.specs.declared.error.FrameError.TheVariants.{BadField, BadKind, OtherCluster, Rest, Short, TooLong}
use Rattle.ncc_wire.specs.declared.kind.Kind.{Kind}
use Rattle.ncc_wire.specs.declared.kind.Kind.TheVariants as k
use Rattle.ncc_wire.specs.declared.listing.Listing.{Listing}
use Rattle.ncc_wire.specs.Kinds.{Field, fields, in_eight, in_four, kind_with, members, told, width, widths}

infixl 10 ◌>>=◌
abbrev pub ◌>>=◌ : {A B : Type 0} → Result A FrameError → (A → Result B FrameError) → Result B FrameError
(Ok x) >>= f = f x
(Err e) >>= f = Err e

-- ---- fields

-- the number that a field at a place has
abbrev pub number_at : Field → ℕ → List ℕ → ℕ
number_at f at frame = told f.wide (take (width f.wide) (drop at frame))

-- It is inside the frame, and its number is one that it may hold; else it is wrong.
unfoldable pub field_at : Field → ℕ → List ℕ → Result ℕ FrameError
field_at f at frame =
    if nat_le (at + width f.wide) (length frame) && nat_le f.least (number_at f at frame) && nat_le (number_at f at frame) f.greatest
    then Ok (number_at f at frame) else Err (BadField at)

-- one field behind the other
abbrev pub fields_at : List Field → ℕ → List ℕ → Result (List ℕ) FrameError
fields_at [] at frame = Ok []
fields_at (f ∷ fs) at frame = do
  n ← field_at f at frame
  ns ← fields_at fs (at + width f.wide) frame
  Ok (n ∷ ns)

-- ---- from the size to the last field

abbrev pub size_at_front : List ℕ → ℕ
size_at_front bytes = told in_four (take 4 bytes)

-- the frame at the front, with its size; nothing behind the size is looked at
unfoldable pub whole_at : List ℕ → Result (List ℕ) FrameError
whole_at bytes =
    if nat_lt (length bytes) 4 then Err Short
    else if nat_lt max_frame (size_at_front bytes) then Err (TooLong (size_at_front bytes))
    else if nat_lt (length bytes) (4 + size_at_front bytes) then Err Short
    else Ok (take (4 + size_at_front bytes) bytes)

abbrev pub cluster_in : List ℕ → ℕ
cluster_in frame = told in_eight (take 8 (drop 4 frame))

abbrev pub kind_or_fault : Option Kind → Result Kind FrameError
kind_or_fault (Some kind) = Ok kind
kind_or_fault None = Err (BadKind 12)

-- the cluster has to be this one, and then comes the kind
unfoldable pub kind_at : ℕ → List ℕ → Result Kind FrameError
kind_at cluster frame =
    if nat_lt (length frame) 12 then Err (BadField 4)
    else if not (nat_eq (cluster_in frame) cluster) then Err (OtherCluster (cluster_in frame))
    else if nat_lt (length frame) 13 then Err (BadField 12)
    else kind_or_fault (kind_with (slice_index frame 12))

-- a frame as far as its fields go: sender and receiver, and the numbers behind them
pub record Front : Type 0 where
  pub frame : List ℕ
  pub kind : Kind
  pub between : List ℕ
  pub numbers : List ℕ

abbrev pub front_at : ℕ → List ℕ → Result Front FrameError
front_at cluster bytes = do
  frame ← whole_at bytes
  kind ← kind_at cluster frame
  between ← fields_at members 13 frame
  numbers ← fields_at (fields kind) 15 frame
  Ok (record { frame = frame; kind = kind; between = between; numbers = numbers })

-- ---- items

-- no items
abbrev pub unlisted : Listing
unlisted = record { count = 0; rising = false; least = 0; greatest = 0 }

-- an Append's terms rise from that of the item before on, up to the message's; a Batch's are terms
abbrev pub listing : Kind → List ℕ → Listing
listing k.Append (t ∷ p ∷ q ∷ c ∷ n ∷ []) = record { count = n; rising = true; least = q; greatest = t }
listing k.Batch (first ∷ n ∷ []) = record { count = n; rising = false; least = 0; greatest = term_limit - 1 }
listing kind numbers = unlisted

-- the place behind the last field
abbrev pub behind_fields : Kind → ℕ
behind_fields kind = 15 + widths (fields kind)

-- the least term of what stands behind an item with this term
abbrev pub next_least : Bool → ℕ → ℕ → ℕ
next_least true least term = term
next_least false least term = least

-- and behind items
abbrev pub least_behind : Bool → ℕ → List Item → ℕ
least_behind rising least [] = least
least_behind rising least (i ∷ is) = least_behind rising (next_least rising least i.term) is

abbrev pub AreWithin : Bool → ℕ → ℕ → List Item → Type 0
AreWithin rising least greatest [] = Unit {0}
AreWithin rising least greatest (i ∷ is) =
    (least ≤ i.term) × (i.term ≤ greatest) × AreWithin rising (next_least rising least i.term) greatest is

-- these bytes begin with items that may stand there
pub record Stand (o : Listing) (bytes : List ℕ) (items : List Item) : Type 0 where
  pub rest : List ℕ
  pub same : bytes ≡ items_bytes items ++ rest
  pub terms : AreWithin o.rising o.least o.greatest items
  pub entries : AllAllowed items

-- some items stand there, fewer than are listed, and the field so many bytes behind the first of these bytes is wrong
pub record Breaks (o : Listing) (bytes : List ℕ) (place : ℕ) : Type 0 where
  pub front : List Item
  pub stand : Stand o bytes front
  pub fewer : length front < o.count
  pub field : ItemField
  pub wrong : IsWrong (least_behind o.rising o.least front) o.greatest stand.rest field
  pub place_is : place ≡ length (items_bytes front) + offset field

-- the items of a frame, and what is behind its fields
abbrev pub listed : Front → Listing
listed f = listing f.kind f.numbers

abbrev pub behind : Front → List ℕ
behind f = drop (behind_fields f.kind) f.frame

-- why bytes begin with no frame of this cluster: a field before the items, an item, or bytes behind the last field
pub data Refuses : ℕ → List ℕ → FrameError → Type 0 where
  at_field : (cluster : ℕ) (bytes : List ℕ) (e : FrameError) → front_at cluster bytes ≡ Err e → Refuses cluster bytes e
  at_item : (cluster : ℕ) (bytes : List ℕ) (f : Front) (place : ℕ) → front_at cluster bytes ≡ Ok f → Breaks (listed f) (behind f) place
      → Refuses cluster bytes (BadField (behind_fields f.kind + place))
  at_end : (cluster : ℕ) (bytes : List ℕ) (f : Front) (items : List Item) → front_at cluster bytes ≡ Ok f
      → Stand (listed f) (behind f) items → length items ≡ (listed f).count
      → behind_fields f.kind + length (items_bytes items) < length f.frame
      → Refuses cluster bytes (Rest (behind_fields f.kind + length (items_bytes items)))
