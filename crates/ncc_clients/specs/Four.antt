-- What clients rest on: four facts of the members of a cluster, over every run. Whatever replicates its log so that these hold serves
-- its clients as promised.
use Rattle.std.specs.Prelude.{◌≡◌, ℕ, ◌-◌, ◌<◌, false, List, ◌++◌, slice_get, Some}
use Rattle.std.specs.List.{AllByRecursion}
use Rattle.ncc_tx.specs.declared.entry.Entry.{Entry}
use Rattle.ncc_tx.specs.declared.entry.Item.{Item}
use Rattle.ncc_clients.specs.Members.{Cluster, elsewhere, placed, applied, at_of}
use Rattle.ncc_clients.specs.Run.{Run, Client, begun, accepted}
use Rattle.ncc_clients.specs.Moment.{Lives, Proposes, Small, Path}

abbrev pub Begins : List Item → List Item → Type 0
Begins front whole = (rest : List Item) × (front ++ rest ≡ whole)

-- a proposal that was accepted: the entry of this connection, at a place and in a term
pub record Accepts {S : Type 0} (C : Cluster S) (r : Run S) (i : ℕ) (c : Client) (entry : Entry) (place term : ℕ) (after : S) : Type 0 where
  pub proposes : Proposes C r i c entry
  pub accepts : C.propose r.members c.member entry ≡ placed place term after

pub record Four {S : Type 0} (C : Cluster S) (start : S) : Type 0 where
  -- Every applied list begins the history, which only grows.
  pub begins : (r s : Run S) → Path C (begun start) r → Path C r s → AllByRecursion (λ list. Begins list s.history) (C.lists r.members)
  pub grows : (r s : Run S) → Path C (begun start) r → Small C r s → Begins r.history s.history
  -- A member's applied list only grows, as long as it has a connection that has not ended.
  pub stays : (r s : Run S) (i : ℕ) (c : Client) → Path C (begun start) r → Lives C r i c → Small C r s
      → Begins (applied C r.members c.member) (applied C s.members c.member)
  -- Where an applied list has at the place of an accepted proposal an item of its term, then or later, that item has its entry.
  pub keeps : (r s : Run S) (i : ℕ) (c : Client) (entry : Entry) (place term : ℕ) (after : S) (member : ℕ) (item : Item)
      → Path C (begun start) r → Accepts C r i c entry place term after → Path C (accepted C r i c place term after) s
      → slice_get (applied C s.members member) (place - 1) ≡ Some item → item.term ≡ term → item.entry ≡ entry
  -- An accepted proposal stands behind all that its member has applied before, and no two of them have one place and one term.
  pub behind : (r : Run S) (i : ℕ) (c : Client) (entry : Entry) (place term : ℕ) (after : S) → Path C (begun start) r
      → Accepts C r i c entry place term after → at_of C r.members c.member < place
  pub apart : (r s : Run S) (i j : ℕ) (c d : Client) (x y : Entry) (place term : ℕ) (after later : S) → Path C (begun start) r
      → Accepts C r i c x place term after → Path C (accepted C r i c place term after) s → Accepts C s j d y place term later → ⊥
  -- Who does not lead refuses, and no other says so.
  pub leads : (s : S) (member : ℕ) (entry : Entry) → C.leads s member ≡ false → C.propose s member entry ≡ elsewhere
  pub refuses : (s : S) (member : ℕ) (entry : Entry) → C.propose s member entry ≡ elsewhere → C.leads s member ≡ false
