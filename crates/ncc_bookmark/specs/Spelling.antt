-- The one text of a bookmark: `ncc:` and the base64, in the standard alphabet of RFC 4648, section 4, of 18 bytes.
use Rattle.std.specs.Prelude.{ℕ, List, [], ◌∷◌, ◌++◌, codes}
use Rattle.std.specs.Int.{w64, to_be_bytes}
use Rattle.base64.specs.Engines.{standard}
use Rattle.base64.specs.GeneralPurpose.{encode_of}
use Rattle.ncc_bookmark.specs.Point.{Point}

-- the form 1, the cluster and the place as eight bytes each, the greatest first, and a zero
unfoldable pub payload : Point → List ℕ
payload point = (1 ∷ []) ++ (to_be_bytes w64 point.cluster ++ (to_be_bytes w64 point.place ++ (0 ∷ [])))

unfoldable pub text_of : Point → List ℕ
text_of point = codes "ncc:" ++ encode_of standard (payload point)
