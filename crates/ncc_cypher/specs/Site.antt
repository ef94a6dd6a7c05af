-- Where a sum stands: in a pair between braces, in a change of SET, or in an item of RETURN; with what was read before.
use Rattle.std.specs.Prelude.{List, ℕ, Option}
use Rattle.ncc_cypher.specs.declared.tree.Pair.{Pair}
use Rattle.ncc_cypher.specs.declared.tree.Item.{Item}
use Rattle.ncc_cypher.specs.declared.tree.Head.{Head}
use Rattle.ncc_cypher.specs.declared.tree.Change.{Change}
use Rattle.ncc_cypher.specs.Opening.{Opening}

-- a head up to its label
pub record Node : Type 0 where
  pub opening : Opening
  pub name : Option (List ℕ)

-- a whole head, and the name that it binds
pub record Made : Type 0 where
  pub head : Head
  pub name : Option (List ℕ)

-- a head and what is done to its nodes
pub record Body : Type 0 where
  pub made : Made
  pub change : Change

pub data Site : Type 0 where
  InPair : Node → List Pair → List ℕ → Site
  InSet : Made → List Pair → List ℕ → Site
  InItem : Body → List Item → Site
