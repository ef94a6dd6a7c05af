-- Rows that a transaction keeps, one list a step: each keeps the limits of a row.
use Rattle.std.specs.Prelude.{Bool, List}
use Rattle.std.specs.List.{list_all}
use Rattle.ncc_pack.specs.declared.value.Value.{Value}
use Rattle.ncc_store.specs.Rows.{row_keeps}

abbrev pub all_keep : List (List (List Value)) → Bool
all_keep told = list_all (λ rows. list_all row_keeps rows) told
