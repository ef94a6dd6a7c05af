-- The point that a text names, as a function, through the decoding of base64 in the standard alphabet of RFC 4648, section 4.
use Rattle.std.specs.Prelude.{ℕ, ◌^◌, Bool, ◌&&◌, List, take, drop, Option, Some, None, nat_lt, ◌==◌, bytes_eq, if◌then◌else◌}
use Rattle.std.specs.Int.{w64, from_be_bytes}
use Rattle.std.specs.declared.result.Result.{Result}
use Rattle.std.specs.declared.result.Result.TheVariants.{Ok, Err}
use Rattle.base64.specs.Engines.{standard}
use Rattle.base64.specs.GeneralPurpose.{decode_of}
use Rattle.base64.specs.declared.decode.DecodeError.{DecodeError}
use Rattle.ncc_bookmark.specs.Point.{Point}
use Rattle.ncc_bookmark.specs.Spelling.{text_of}
use Rattle.ncc_bookmark.specs.declared.bookmark.BookmarkError.{BookmarkError}
use Rattle.ncc_bookmark.specs.declared.bookmark.BookmarkError.TheVariants.{BadForm, OtherCluster}

-- the numbers at their places among the decoded bytes
abbrev pub point_in : List ℕ → Point
point_in bytes = record { cluster = from_be_bytes w64 (take 8 (drop 1 bytes)); place = from_be_bytes w64 (take 8 (drop 9 bytes)) }

-- the text is that of the point, whose numbers have 64 bits
abbrev pub is_text_of : Point → List ℕ → Bool
is_text_of point text = (nat_lt point.cluster (2 ^ 64) && nat_lt point.place (2 ^ 64)) && bytes_eq (text_of point) text

-- the point that a text names of whose back this is the decoding: a point has one text
abbrev pub point_by : Result (List ℕ) DecodeError → List ℕ → Option Point
point_by (Err _) text = None
point_by (Ok bytes) text = if is_text_of (point_in bytes) text then Some (point_in bytes) else None

-- the point that a text names, by what stands behind `ncc:`
unfoldable pub point_named : List ℕ → Option Point
point_named text = point_by (decode_of standard (drop 4 text)) text

-- what the reading of a text for a cluster gives
abbrev pub reading_for : ℕ → Option Point → Result Point BookmarkError
reading_for cluster None = Err BadForm
reading_for cluster (Some point) = if point.cluster == cluster then Ok point else Err (OtherCluster point.cluster)

abbrev pub reading_of : List ℕ → ℕ → Result Point BookmarkError
reading_of text cluster = reading_for cluster (point_named text)
