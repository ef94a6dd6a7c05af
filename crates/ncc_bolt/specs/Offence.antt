-- What a refusal of a message says of the bytes themselves: in terms of spellings alone, apart from how they are read (Bolt 4.4,
-- "Messages"). S is the relation of a request, or of a response, to its bytes.
use Rattle.std.specs.Prelude.{◌≡◌, ◌≢◌, ◌⊎◌, ◌+◌, ◌<◌, ℕ, List, [], ◌∷◌, ◌++◌, length, Some, Result, Err}
use Rattle.ncc_pack.specs.declared.value.Value.{Value}
use Rattle.ncc_pack.specs.declared.error.PackError.{PackError}
use Rattle.ncc_pack.specs.declared.error.PackError.TheVariants as p
use Rattle.ncc_pack.specs.Spells.{spells}
use Rattle.ncc_pack.specs.Offence.{AreBytes, EndsInKey, place_of, StandsAt}
use Rattle.ncc_bolt.specs.declared.error.MessageError.{MessageError}
use Rattle.ncc_bolt.specs.declared.error.MessageError.TheVariants.{Pack, UnknownTag, WrongFields, WrongKind, Rest, Memory}
use Rattle.ncc_bolt.specs.Tags.{structure}

-- a message begins the bytes
abbrev pub BeginsMessage : {M : Type 0} → (M → List ℕ → Type 0) → List ℕ → Type 0
BeginsMessage S b = (m : _) × (front : List ℕ) × (rest : List ℕ) × S m front × (b ≡ front ++ rest)

-- some bytes behind these make them a message
abbrev pub MayBecome : {M : Type 0} → (M → List ℕ → Type 0) → List ℕ → Type 0
MayBecome S b = (more : List ℕ) × (m : _) × S m (b ++ more)

-- They end within a field. What is before it may become a message, but this field not: it ends within a key each of whose endings its
-- dictionary has already, or it begins a value of another kind, with which there is no message.
pub record EndsInField {M : Type 0} (S : M → List ℕ → Type 0) (b : List ℕ) : Type 0 where
  pub before : List ℕ
  pub field : List ℕ
  pub is : b ≡ before ++ field
  pub may : MayBecome S before
  pub ends : EndsInKey field ⊎ ((more : List ℕ) × (x : Value) × spells x (field ++ more) × ¬ (MayBecome S (before ++ (field ++ more))))

-- a field is no value: what is before it may become a message, and its bytes are refused as those of a value are
pub record FaultInField {M : Type 0} (S : M → List ℕ → Type 0) (fault : PackError) (b : List ℕ) : Type 0 where
  pub before : List ℕ
  pub field : List ℕ
  pub at : ℕ
  pub is : b ≡ before ++ field
  pub may : MayBecome S before
  pub place : place_of fault ≡ Some (length before + at)
  pub stands : StandsAt field fault at

-- the first byte is the marker of no message
pub record BadStart {M : Type 0} (S : M → List ℕ → Type 0) (fault : PackError) (b : List ℕ) : Type 0 where
  pub marker : ℕ
  pub rest : List ℕ
  pub is : b ≡ marker ∷ rest
  pub fault_is : fault ≡ p.BadMarker 0
  pub none : ¬ (MayBecome S (marker ∷ []))

abbrev pub ExplainsFault : {M : Type 0} → (M → List ℕ → Type 0) → PackError → List ℕ → Type 0
ExplainsFault S p.Short b = MayBecome S b ⊎ (EndsInField S b ⊎ ((n : ℕ) × (b ≡ structure n ∷ [])))
ExplainsFault S fault b = FaultInField S fault b ⊎ BadStart S fault b

-- with its tag a message has another number of fields
pub record OtherFields {M : Type 0} (S : M → List ℕ → Type 0) (tag n : ℕ) (b : List ℕ) : Type 0 where
  pub rest : List ℕ
  pub is : b ≡ structure n ∷ tag ∷ rest
  pub none : ¬ (MayBecome S (structure n ∷ tag ∷ []))
  pub count : ℕ
  pub some : MayBecome S (structure count ∷ tag ∷ [])

-- no number of fields makes a message with the tag
pub record NoTag {M : Type 0} (S : M → List ℕ → Type 0) (tag : ℕ) (b : List ℕ) : Type 0 where
  pub n : ℕ
  pub rest : List ℕ
  pub is : b ≡ structure n ∷ tag ∷ rest
  pub none : (count : ℕ) → ¬ (MayBecome S (structure count ∷ tag ∷ []))

-- At the place begins a value of another kind: what is before it may become a message, and with it no more.
pub record OtherKind {M : Type 0} (S : M → List ℕ → Type 0) (at : ℕ) (b : List ℕ) : Type 0 where
  pub before : List ℕ
  pub field : List ℕ
  pub after : List ℕ
  pub is : b ≡ before ++ (field ++ after)
  pub place : length before ≡ at
  pub may : MayBecome S before
  pub value : Value
  pub spelled : spells value field
  pub none : ¬ (MayBecome S (before ++ field))

-- a message ends at the place, and bytes follow
pub record Follows {M : Type 0} (S : M → List ℕ → Type 0) (at : ℕ) (b : List ℕ) : Type 0 where
  pub message : M
  pub front : List ℕ
  pub after : List ℕ
  pub is : b ≡ front ++ after
  pub place : length front ≡ at
  pub spelled : S message front
  pub some : 0 < length after

-- what a refusal says of the bytes
abbrev pub Explains : {M : Type 0} → (M → List ℕ → Type 0) → MessageError → List ℕ → Type 0
Explains S (Pack fault) b = ExplainsFault S fault b
Explains S (UnknownTag tag) b = NoTag S tag b
Explains S (WrongFields tag n) b = OtherFields S tag n b
Explains S (WrongKind tag field at) b = OtherKind S at b
Explains S (Rest at) b = Follows S at b
Explains S Memory b = ⊥

-- ---- what holds of a reading

-- Bytes are too short exactly so wherever no message is there, and more bytes may make one.
abbrev pub ShortExactly : {M : Type 0} → (M → List ℕ → Type 0) → (List ℕ → Result M MessageError) → Type 0
ShortExactly S read = (b : List ℕ) → AreBytes b → MayBecome S b → ¬ (BeginsMessage S b) → read b ≡ Err (Pack p.Short)

-- Another refusal says that no more bytes make a message.
abbrev pub NeverElse : {M : Type 0} → (M → List ℕ → Type 0) → (List ℕ → Result M MessageError) → Type 0
NeverElse S read = (b : List ℕ) (e : MessageError) → AreBytes b → read b ≡ Err e → e ≢ Pack p.Short → ¬ (MayBecome S b)

-- Each refusal has its cause in the bytes.
abbrev pub Explained : {M : Type 0} → (M → List ℕ → Type 0) → (List ℕ → Result M MessageError) → Type 0
Explained S read = (b : List ℕ) (e : MessageError) → AreBytes b → read b ≡ Err e → Explains S e b
