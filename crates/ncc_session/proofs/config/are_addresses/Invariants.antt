use Rattle.std.proofs.Common.{◌≡◌, true, take}
use Rattle.ncc_session.specs.Config.{addresses_fit}
use Rattle.ncc_session.proofs.config.are_addresses.Given as goal

-- the values so far are addresses that fit
abbrev pub invariant-loop-value : goal.invariant-loop-value
invariant-loop-value l = addresses_fit (take l.value-index l.value-items) ≡ true
