-- Which texts are those of bookmarks: those that `text_of` spells, in base64 with the standard alphabet of RFC 4648, section 4.
use Rattle.std.specs.Prelude.{◌≡◌, ◌≢◌, ◌<◌, ◌^◌, ◌⊎◌, ℕ, List}
use Rattle.std.specs.declared.result.Result.{Result}
use Rattle.std.specs.declared.result.Result.TheVariants.{Err}
use Rattle.ncc_bookmark.specs.Point.{Point, Fits}
use Rattle.ncc_bookmark.specs.Spelling.{text_of}
use Rattle.ncc_bookmark.specs.declared.bookmark.BookmarkError.{BookmarkError}
use Rattle.ncc_bookmark.specs.declared.bookmark.BookmarkError.TheVariants.{Memory}

-- a text of no bookmark, whatever its cluster
abbrev pub IsNoText : List ℕ → Type 0
IsNoText text = (b : Point) → Fits b → text ≢ text_of b

-- a text of a bookmark of this other cluster
abbrev pub IsTextElsewhere : List ℕ → ℕ → ℕ → Type 0
IsTextElsewhere text cluster id =
    (id ≢ cluster) × (place : ℕ) × (place < 2 ^ 64) × (text ≡ text_of (record { cluster = id; place = place }))

-- the answer is this, unless memory runs out
abbrev pub GivesOrMemory : Result Point BookmarkError → Result Point BookmarkError → Type 0
GivesOrMemory answer expected = (answer ≡ expected) ⊎ (answer ≡ Err Memory)
