-- What a refusal says of the bytes themselves: in terms of spellings alone, apart from how they are read (PackStream version 1,
-- "Representation").
use Rattle.std.specs.Prelude.{◌≡◌, ◌⊎◌, ◌<◌, ◌≤◌, ℕ, List, [], ◌∷◌, ◌++◌, length, take, slice_index, IsUtf8}
use Rattle.std.specs.Prelude.{Option, None, Some, Err}
use Rattle.ncc_pack.specs.declared.value.Value.{Value}
use Rattle.ncc_pack.specs.declared.error.PackError.{PackError}
use Rattle.ncc_pack.specs.declared.error.PackError.TheVariants.{Short, Float, BadMarker, BadUtf8, RepeatedKey}
use Rattle.ncc_pack.specs.declared.error.PackError.TheVariants.{KeyNotText, TooDeep, TooLong, Memory}
use Rattle.ncc_pack.specs.Markers.{float_marker}
use Rattle.ncc_pack.specs.Reading.{read_value}
use Rattle.ncc_pack.specs.Spells.{SpellsText, spells}

-- each of a list of numbers is a byte
abbrev pub AreBytes : List ℕ → Type 0
AreBytes b = (i : ℕ) → slice_index b i < 256

-- bytes begin with a spelling of a value
abbrev pub BeginsValue : List ℕ → Type 0
BeginsValue b = (x : Value) × (front : List ℕ) × (rest : List ℕ) × spells x front × (b ≡ front ++ rest)

-- some bytes behind these make them begin with one
abbrev pub MayBegin : List ℕ → Type 0
MayBegin b = (more : List ℕ) × BeginsValue (b ++ more)

-- They end within a text, and in its place another text would do. So they end within a key each of whose endings is a key that its
-- dictionary has already: of one byte there are no more than 128 keys.
pub record EndsInKey (b : List ℕ) : Type 0 where
  pub before : List ℕ
  pub cut : List ℕ
  pub is : b ≡ before ++ cut
  pub ends : (t : List ℕ) × (more : List ℕ) × SpellsText t (cut ++ more)
  pub other : (t : List ℕ) × (key : List ℕ) × SpellsText t key × MayBegin (before ++ key)

-- the place that a refusal names
abbrev pub place_of : PackError → Option ℕ
place_of Short = None
place_of (Float at) = Some at
place_of (BadMarker at) = Some at
place_of (BadUtf8 at) = Some at
place_of (RepeatedKey at) = Some at
place_of (KeyNotText at) = Some at
place_of (TooDeep at) = Some at
place_of (TooLong at) = Some at
place_of Memory = None

-- what goes on: a beginning of a value, or, where the fault is in a text, of a key
abbrev pub MayGoOn : PackError → List ℕ → Type 0
MayGoOn Short b = MayBegin b ⊎ EndsInKey b
MayGoOn (BadUtf8 at) b = MayBegin b ⊎ EndsInKey b
MayGoOn _ b = MayBegin b

-- which bytes a refusal calls an offence: a marker, a marker and a size, a key, or the rest of a text, which no character begins
abbrev pub Offends : PackError → List ℕ → Type 0
Offends Short o = ⊥
Offends (Float at) o = o ≡ float_marker ∷ []
Offends (BadMarker at) o = length o ≡ 1
Offends (BadUtf8 at) o = (0 < length o) × ((w : ℕ) → 0 < w → w ≤ length o → ¬ (IsUtf8 (take w o)))
Offends (RepeatedKey at) o = (key : List ℕ) × SpellsText key o
Offends (KeyNotText at) o = length o ≡ 1
Offends (TooDeep at) o = length o ≡ 1
Offends (TooLong at) o = (0 < length o) × (length o ≤ 5)
Offends Memory o = ⊥

-- where a text is refused, a letter might have stood
abbrev pub TakesLetter : PackError → List ℕ → Type 0
TakesLetter (BadUtf8 at) b = MayGoOn (BadUtf8 at) (b ++ 0x61 ∷ [])
TakesLetter _ b = Unit {0}

-- At its place stands an offence: what is before it may go on, and with it no more.
pub record StandsAt (b : List ℕ) (refusal : PackError) (at : ℕ) : Type 0 where
  pub before : List ℕ
  pub offence : List ℕ
  pub after : List ℕ
  pub parts : b ≡ before ++ (offence ++ after)
  pub place : length before ≡ at
  pub goes_on : MayGoOn refusal before
  pub letter : TakesLetter refusal before
  pub ends : ¬ (MayBegin (before ++ offence))
  pub offends : Offends refusal offence

-- reading gives a refusal, and it names a place
abbrev pub RefusedAt : List ℕ → PackError → ℕ → Type 0
RefusedAt b refusal at = (read_value b ≡ Err refusal) × (place_of refusal ≡ Some at)
