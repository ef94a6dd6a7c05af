-- What ends a run of plain bytes.
use Rattle.std.specs.Prelude.{◌≡◌, ◌<◌, ℕ, false, List, [], length, Some, None}
use Rattle.std.specs.Str.{IsUtf8}
use Rattle.ncc_cypher.specs.declared.text.Stop.{Stop}
use Rattle.ncc_cypher.specs.declared.text.Stop.TheVariants.{Quote, Escape, Bad}
use Rattle.ncc_cypher.specs.Body.{body_at, with_front}

abbrev pub StopsAt : ℕ → List ℕ → Stop → Type 0
StopsAt q bs (Quote rest) = (body_at q false bs ≡ Some ([], rest.now)) × IsUtf8 rest.now
StopsAt q bs (Escape c rest) =
    (body_at q false bs ≡ with_front c.now (body_at q false rest.now)) × (length rest.now < length bs) × IsUtf8 rest.now
StopsAt q bs Bad = body_at q false bs ≡ None
