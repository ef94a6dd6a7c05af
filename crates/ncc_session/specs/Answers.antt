-- What a check of the code answers: what it stands for, or want of memory.
use Rattle.std.specs.Prelude.{◌≡◌, Result, Ok, Err}
use Rattle.ncc_session.specs.declared.refusal.Refusal.{Refusal}
use Rattle.ncc_session.specs.declared.refusal.Halt.{Halt}
use Rattle.ncc_session.specs.declared.refusal.Halt.TheVariants.{Refused, Memory}

-- exactly this answer or this refusal, unless memory ran out
abbrev pub Gives : {X Y : Type 0} → (X → Y) → Result X Halt → Result Y Refusal → Type 0
Gives view (Ok x) r = r ≡ Ok (view x)
Gives view (Err (Refused f)) r = r ≡ Err f
Gives view (Err Memory) r = Unit {0}
