use Rattle.std.proofs.Common.{◌≡◌, List}
use Rattle.std.specs.Prelude.{Some}
use Rattle.ncc_driver.specs.Answers.{Served, servers_in}
use Rattle.ncc_driver.proofs.TableParts.{AddressesLeft}
use Rattle.ncc_driver.proofs.answers.addresses_of.Given as goal

-- what is left makes the same whole
abbrev pub invariant-loop-value : goal.invariant-loop-value
invariant-loop-value l =
    (whole : List Served) → servers_in l.servers ≡ Some whole → AddressesLeft l.role l.value-index l.servers whole l.all
