-- How the parts of the code are seen.
use Rattle.std.specs.Prelude.{List, map}
use Rattle.std.specs.Borrow.{Bor}
use Rattle.ncc_pack.specs.declared.value.Value.{Value}
use Rattle.ncc_store.specs.Props.{Name, Props}

-- entries of a map by texts that are borrowed, with values that are owned, or borrowed too
abbrev pub owned : List (Bor Name × Value) → Props
owned es = map {B = Name × Value} (λ (e : Bor Name × Value). (e.0.now, e.1)) es

abbrev pub shared : List (Bor Name × Bor Value) → Props
shared es = map {B = Name × Value} (λ (e : Bor Name × Bor Value). (e.0.now, e.1.now)) es
