-- What a session's state keeps: what it will send has a spelling.
use Rattle.std.specs.Prelude.{ℕ, Bool, true, ◌&&◌, nat_le, List, [], ◌∷◌, ◌++◌, length, Option, Some, None}
use Rattle.ncc_pack.specs.declared.value.Value.{Value}
use Rattle.ncc_pack.specs.declared.value.Value.TheVariants as v
use Rattle.ncc_pack.specs.Fits.{fits}
use Rattle.ncc_route.specs.declared.table.Table.{Table}
use Rattle.ncc_driver.specs.declared.standing.Core.{Core}
use Rattle.ncc_driver.specs.Config.{texts_fit}
use Rattle.ncc_driver.specs.declared.answers.Told.{Told}
use Rattle.ncc_driver.specs.declared.answers.Told.TheVariants as m
use Rattle.ncc_driver.specs.Work.{Row, rows_fit}

abbrev pub addresses_fit : Table → Bool
addresses_fit table = texts_fit table.write && texts_fit table.read && texts_fit table.route

abbrev pub table_fits : Option Table → Bool
table_fits (Some table) = addresses_fit table
table_fits None = true

-- Bookmarks, at most 256, and addresses are texts with a spelling, the rows fit, and the delay is at most 30,000 milliseconds.
abbrev pub core_keeps : Core → Bool
core_keeps core =
    texts_fit core.bookmarks && nat_le (length core.bookmarks) 256 && texts_fit core.route && table_fits core.table
    && fits (v.Text core.address) && rows_fit core.rows && nat_le core.delay 30_000

-- ---- what an answer tells

-- an address that was picked
abbrev pub as_text : Option (List ℕ) → Option Value
as_text (Some text) = Some (v.Text text)
as_text None = None

-- What an answer tells fits: a row behind these of the same answer, the addresses of a table, a bookmark, and a code.
abbrev pub told_fits : List Row → Told → Bool
told_fits rows (m.Row fields) = rows_fit (rows ++ fields ∷ [])
told_fits rows (m.Routed table) = addresses_fit table
told_fits rows (m.Committed bookmark) = fits (v.Text bookmark)
told_fits rows (m.Failed code) = fits (v.Text code)
told_fits rows _ = true
