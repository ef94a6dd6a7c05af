-- A member that an address names has a number from 1 on.
use Rattle.std.proofs.Common.{◌≡◌, ℕ, suc, ◌+◌, ◌≤◌, Bool, true, false, cond, List, [], ◌∷◌, Option, Some, None, arith}
use Rattle.ncc_pack.specs.declared.value.Value.{Value}
use Rattle.ncc_clients.specs.Members.{Cluster, addresses}
use Rattle.ncc_clients.specs.Drives.{is_named, named_from, member_named}

named_by : (b : Bool) (first member : ℕ) (rest : Option ℕ) → (rest ≡ Some member → suc first ≤ member)
    → cond b (Some first) rest ≡ Some member → first ≤ member
named_by true first member rest f e = let same : first ≡ member = cc in omega (arith, same)
named_by false first member rest f e = let low : suc first ≤ member = f e in omega (arith, low)

named_from_on : (first : ℕ) (names : List Value) (address : List ℕ) (member : ℕ) → named_from first names address ≡ Some member
    → first ≤ member
unfolding named_from
named_from_on first [] address member e = absurd (cc)
named_from_on first (x ∷ xs) address member e =
    named_by (is_named x address) first member (named_from (suc first) xs address) (named_from_on (suc first) xs address member) e

pub named_some : {S : Type 0} (C : Cluster S) (address : List ℕ) (member : ℕ) → member_named C address ≡ Some member → 1 ≤ member
named_some C address member e = named_from_on 1 (addresses (C.cores + C.replicas) 1) address member e
