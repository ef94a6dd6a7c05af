-- What is promised of an answer.
use Rattle.std.specs.Prelude.{◌≡◌, ℕ, ◌+◌, List, ◌∷◌, [], ◌++◌, length, drop, Result, Ok, Err}
use Rattle.ncc_raft.specs.declared.message.Body.{Body}
use Rattle.ncc_raft.specs.declared.message.Body.TheVariants.{VoteAsk, VoteReply, Append, AppendReply, Pull, Batch}
use Rattle.ncc_raft.specs.declared.message.Envelope.{Envelope}
use Rattle.ncc_tx.specs.declared.entry.Item.{Item}
use Rattle.ncc_tx.specs.Items.{items_bytes}
use Rattle.ncc_wire.specs.declared.error.FrameError.{FrameError}
use Rattle.ncc_wire.specs.declared.error.FrameError.TheVariants.{BadField, Memory}
use Rattle.ncc_wire.specs.declared.kind.Kind.{Kind}
use Rattle.ncc_wire.specs.declared.listing.Listing.{Listing}
use Rattle.ncc_wire.specs.Kinds.{fields}
use Rattle.ncc_wire.specs.Frames.{IsFrame, flag_of, kind_of}
use Rattle.ncc_wire.specs.Reading.{Breaks, Front, Refuses, Stand, behind, behind_fields, fields_at, front_at, listed, listing}

-- these bytes begin with the frame of this envelope in this cluster
pub record BeginsWith (cluster : ℕ) (bytes : List ℕ) (e : Envelope) : Type 0 where
  pub frame : List ℕ
  pub rest : List ℕ
  pub is : IsFrame cluster e frame
  pub same : bytes ≡ frame ++ rest

abbrev pub Answer : Type 0
Answer = Result (Envelope × ℕ) FrameError

-- the answer is this one, unless memory runs out
abbrev pub FrameOrMemory : Answer → Answer → Type 0
FrameOrMemory (Err Memory) r = Unit {0}
FrameOrMemory (Err e) r = r ≡ Err e
FrameOrMemory (Ok x) r = r ≡ Ok x

-- a refusal has its cause in the bytes; want of memory alone has none
abbrev pub IsCaused : ℕ → List ℕ → FrameError → Type 0
IsCaused cluster bytes Memory = Unit {0}
IsCaused cluster bytes e = Refuses cluster bytes e

-- ---- the parts of an answer

-- the numbers behind sender and receiver
abbrev pub numbers : Body → List ℕ
numbers (VoteAsk t p l) = t ∷ p ∷ l ∷ []
numbers (VoteReply t granted) = t ∷ flag_of granted ∷ []
numbers (Append t p q c items) = t ∷ p ∷ q ∷ c ∷ length items ∷ []
numbers (AppendReply t has p) = t ∷ flag_of has ∷ p ∷ []
numbers (Pull have) = have ∷ []
numbers (Batch first items) = first ∷ length items ∷ []

abbrev pub items_of : Body → List Item
items_of (Append t p q c items) = items
items_of (Batch first items) = items
items_of body = []

-- a body without items, or the first wrong field
abbrev pub HasFields : Kind → List ℕ → Result Body FrameError → Type 0
HasFields kind frame (Ok b) = (kind_of b ≡ kind) × (fields_at (fields kind) 15 frame ≡ Ok (numbers b)) × (items_of b ≡ [])
HasFields kind frame (Err e) = fields_at (fields kind) 15 frame ≡ Err e

-- items, and the place behind them, or the first wrong field
abbrev pub HasItems : Listing → ℕ → List ℕ → Result (List Item × ℕ) FrameError → Type 0
HasItems o at bytes (Ok x) = Stand o bytes x.0 × (length x.0 ≡ o.count) × (x.1 ≡ at + length (items_bytes x.0))
HasItems o at bytes (Err Memory) = Unit {0}
HasItems o at bytes (Err e) = (place : ℕ) × Breaks o bytes place × (e ≡ BadField (at + place))

-- the body of a kind, and the place behind it
pub record HasBody (kind : Kind) (frame : List ℕ) (b : Body) (end : ℕ) : Type 0 where
  pub kind_is : kind_of b ≡ kind
  pub fields_are : fields_at (fields kind) 15 frame ≡ Ok (numbers b)
  pub stand : Stand (listing kind (numbers b)) (drop (behind_fields kind) frame) (items_of b)
  pub number : length (items_of b) ≡ (listing kind (numbers b)).count
  pub end_is : end ≡ behind_fields kind + length (items_bytes (items_of b))

-- the first wrong field of a body
pub data BodyBreaks : Kind → List ℕ → FrameError → Type 0 where
  in_fields : (kind : Kind) (frame : List ℕ) (e : FrameError) → fields_at (fields kind) 15 frame ≡ Err e → BodyBreaks kind frame e
  in_items : (kind : Kind) (frame ns : List ℕ) (place : ℕ) → fields_at (fields kind) 15 frame ≡ Ok ns
      → Breaks (listing kind ns) (drop (behind_fields kind) frame) place → BodyBreaks kind frame (BadField (behind_fields kind + place))

abbrev pub BodyRead : Kind → List ℕ → Result (Body × ℕ) FrameError → Type 0
BodyRead kind frame (Ok x) = HasBody kind frame x.0 x.1
BodyRead kind frame (Err Memory) = Unit {0}
BodyRead kind frame (Err e) = BodyBreaks kind frame e

-- the envelope is read off the fields and the items, and nothing is behind them
pub record Reads (cluster : ℕ) (bytes : List ℕ) (e : Envelope) (n : ℕ) : Type 0 where
  pub front : Front
  pub front_is : front_at cluster bytes ≡ Ok front
  pub kind_is : front.kind ≡ kind_of e.body
  pub between_is : front.between ≡ e.from ∷ e.to ∷ []
  pub numbers_are : front.numbers ≡ numbers e.body
  pub stand : Stand (listed front) (behind front) (items_of e.body)
  pub number : length (items_of e.body) ≡ (listed front).count
  pub whole : behind_fields front.kind + length (items_bytes (items_of e.body)) ≡ length front.frame
  pub length_is : n ≡ length front.frame

abbrev pub Judges : ℕ → List ℕ → Answer → Type 0
Judges cluster bytes (Ok x) = Reads cluster bytes x.0 x.1
Judges cluster bytes (Err e) = IsCaused cluster bytes e
