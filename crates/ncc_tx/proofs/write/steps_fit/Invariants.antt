use Rattle.std.proofs.Common.{◌≡◌, true, take}
use Rattle.std.specs.List.{list_all}
use Rattle.ncc_pack.specs.Fits.{fits_within}
use Rattle.ncc_store.specs.Exec.{call_of}
use Rattle.ncc_tx.specs.Spelled.{call_value}
use Rattle.ncc_tx.proofs.write.steps_fit.Given as goal

abbrev pub invariant-loop-step : goal.invariant-loop-step
invariant-loop-step l = list_all (λ s. fits_within (call_value (call_of s)) 30) (take l.step-index l.step-items) ≡ true
