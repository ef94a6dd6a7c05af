-- The exit status of a client.
use Rattle.std.specs.Prelude.{ℕ}
use Rattle.ncc_client.specs.declared.status.ClientStatus.{ClientStatus}
use Rattle.ncc_client.specs.declared.status.ClientStatus.TheVariants.{Done, BadWords, Failed, WriteFault, Memory}

abbrev pub number_of : ClientStatus → ℕ
number_of Done = 0
number_of BadWords = 2
number_of (Failed error) = 3
number_of WriteFault = 5
number_of Memory = 7
