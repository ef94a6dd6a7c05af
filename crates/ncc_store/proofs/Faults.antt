-- A fault that a part meets is the fault of the whole.
use Rattle.std.proofs.Common.{◌≡◌, Err}
use Rattle.ncc_store.specs.declared.fault.RunFault.{RunFault}
use Rattle.ncc_store.specs.declared.fault.RunError.{RunError}
use Rattle.ncc_store.specs.declared.fault.RunError.TheVariants.{Fault, Memory}
use Rattle.ncc_store.specs.Sum.{Answer}
use Rattle.ncc_store.specs.Answers.{Gives}

pub hands_on : {X Y Z W : Type 0} (f : X → Y) (g : Z → W) (e : RunError) (part : Answer Y) (whole : Answer W)
    → ((fault : RunFault) → part ≡ Err fault → whole ≡ Err fault) → Gives f (Err e) part → Gives g (Err e) whole
hands_on f g (Fault fault) part whole h is = h fault is
hands_on f g Memory part whole h is = tt
