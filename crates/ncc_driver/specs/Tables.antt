-- What the parts of a table make. No public clause speaks of it.
use Rattle.std.specs.Prelude.{◌≡◌, ℕ, List, [], Option, Some, bytes_eq, if◌then◌else◌}
use Rattle.ncc_pack.specs.declared.value.Value.{Value}
use Rattle.ncc_driver.specs.Answers.{Served, servers_in}

-- the addresses of an entry where it has this role
abbrev pub of_role : List ℕ → Served → List Value
of_role role server = if bytes_eq role server.0 then server.1 else []

-- The values are these entries.
abbrev pub AreServers : List Value → Option (List Served) → Type 0
AreServers values found = (servers : List Served) × (servers_in values ≡ Some servers) × (found ≡ Some servers)
