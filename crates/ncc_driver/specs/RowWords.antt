-- The word that rows are. No public clause speaks of it.
use Rattle.std.specs.Prelude.{ℕ, List, [], ◌∷◌, Option, Some, None, if◌then◌else◌}
use Rattle.ncc_pack.specs.declared.value.Value.TheVariants as v
use Rattle.ncc_driver.specs.Work.{Row}
use Rattle.ncc_driver.specs.RowText.{is_word}

-- of one row of one text
abbrev pub word_of : List Row → Option (List ℕ)
word_of ((v.Text text ∷ []) ∷ []) = if is_word text then Some text else None
word_of _ = None
