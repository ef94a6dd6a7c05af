-- What is told, what is proposed, and what is said of works that have ended, has a spelling.
use Rattle.std.specs.Prelude.{Bool, true, IsTrue, List}
use Rattle.std.specs.List.{All}
use Rattle.ncc_store.specs.Rows.{rows_keep}
use Rattle.ncc_tx.specs.Items.{entry_allowed}
use Rattle.ncc_tx.specs.declared.entry.Item.{Item}
use Rattle.ncc_session.specs.declared.ask.Fact.{Fact}
use Rattle.ncc_session.specs.declared.ask.Fact.TheVariants.{Rows}
use Rattle.ncc_driver.specs.Fitting.{end_fits}
use Rattle.ncc_clients.specs.declared.told.Told.{Told}
use Rattle.ncc_world.specs.declared.seen.WorkSeen.{WorkSeen}

-- the rows of a fact keep the limits of one step: each fits, and they are few and short enough
abbrev pub rows_fit : Fact → Bool
rows_fit (Rows at rows) = rows_keep rows
rows_fit _ = true

-- so do those of all that was told
abbrev pub AllFit : List Told → Type 0
AllFit told = All (λ t. IsTrue (rows_fit t.fact)) told

-- what is said of the end of each work has a spelling: its rows as one list of rows, its bookmark, and its code
abbrev pub WorksFit : List WorkSeen → Type 0
WorksFit works = All (λ w. IsTrue (end_fits w.result)) works

-- each of these entries has a spelling that is short enough for a log
abbrev pub AllAllowed : List Item → Type 0
AllAllowed items = All (λ i. IsTrue (entry_allowed i.entry)) items
