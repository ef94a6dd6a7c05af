-- What a call answers: what it stands for, or want of memory.
use Rattle.std.specs.Prelude.{◌≡◌, Result, Ok, Err}
use Rattle.ncc_store.specs.declared.fault.RunError.{RunError}
use Rattle.ncc_store.specs.declared.fault.RunError.TheVariants.{Fault, Memory}
use Rattle.ncc_store.specs.Sum.{Answer}

-- exactly this answer or this fault, unless memory ran out
abbrev pub Gives : {X Y : Type 0} → (X → Y) → Result X RunError → Answer Y → Type 0
Gives view (Ok x) r = r ≡ Ok (view x)
Gives view (Err (Fault f)) r = r ≡ Err f
Gives view (Err Memory) r = Unit {0}
