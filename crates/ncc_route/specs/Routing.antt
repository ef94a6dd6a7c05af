-- Which addresses a routing table holds for each role (Bolt 4.4, ROUTE), until when it may be used, and which address is picked.
use Rattle.std.specs.Prelude.{ℕ, ◌+◌, ◌-◌, ◌^◌, ◌%◌, ◌==◌, not, min, List, [], ◌∷◌, ◌++◌, length, map, filter, Option, slice_get}
use Rattle.std.specs.List.{enumerate_from}
use Rattle.ncc_pack.specs.declared.value.Value.{Value}
use Rattle.ncc_route.specs.declared.members.Members.{Members}
use Rattle.ncc_route.specs.declared.table.Table.{Table}
use Rattle.ncc_route.specs.declared.table.Role.{Role}
use Rattle.ncc_route.specs.declared.table.Role.TheVariants.{Write, Read, Route}

-- the core that leads, where cores are numbered from 1: none for the number 0, and none for a number above theirs
abbrev pub leading : ℕ → List Value → List Value
leading leader cores = map (λ p. p.1) (filter (λ p. p.0 == leader) (enumerate_from 1 cores))

-- the other cores, by number
abbrev pub following : ℕ → List Value → List Value
following leader cores = map (λ p. p.1) (filter (λ p. not (p.0 == leader)) (enumerate_from 1 cores))

-- these, or those where there are none
abbrev pub or_else : List Value → List Value → List Value
or_else [] those = those
or_else (x ∷ xs) those = x ∷ xs

-- the other cores and then the replicas, and the leader where there are none of these
abbrev pub readers : ℕ → Members → List Value
readers leader members = or_else (following leader members.cores ++ members.replicas) (leading leader members.cores)

-- the table of these members, with this leader, got at this moment, for so many milliseconds
abbrev pub table : Members → ℕ → ℕ → ℕ → Table
table members leader at ttl = record {
  got = at;
  ttl = ttl;
  write = leading leader members.cores;
  read = readers leader members;
  route = members.cores;
}

-- the first moment at which a table may no longer be used; it stays at the greatest u64
abbrev pub ends : Table → ℕ
ends t = min (t.got + t.ttl) (2 ^ 64 - 1)

-- the addresses for a role
abbrev pub addresses : Role → Table → List Value
addresses Write t = t.write
addresses Read t = t.read
addresses Route t = t.route

-- the one that a word picks
abbrev pub picked : ℕ → List Value → Option Value
picked word all = slice_get all (word % length all)
