-- What was read of a statement. Each state is named for the last that was read, or for what has to follow.
use Rattle.std.specs.Prelude.{List, ℕ, Option}
use Rattle.ncc_cypher.specs.declared.tree.Term.{Term}
use Rattle.ncc_cypher.specs.declared.tree.Pair.{Pair}
use Rattle.ncc_cypher.specs.declared.tree.Item.{Item}
use Rattle.ncc_cypher.specs.declared.tree.Statement.{Statement}
use Rattle.ncc_cypher.specs.Verb.{Verb}
use Rattle.ncc_cypher.specs.Site.{Node, Made, Body, Site}

-- Further: a comma behind a pair of CREATE. Needs: a term has to follow. Owned: the bound name, where a term or an item
-- may begin with it. After: a term. Closing: the closing brace. Returning: RETURN behind a head. Either: a word that is the
-- bound name and `count` too. Done: the semicolon
pub data State : Type 0 where
  Start : State
  Begun : Verb → State
  Opened : Verb → State
  Called : Verb → List ℕ → State
  Coloned : Verb → Option (List ℕ) → State
  Labelled : Node → State
  Braced : Node → State
  Further : Node → List Pair → State
  Keyed : Node → List Pair → List ℕ → State
  Needs : Site → List Term → State
  Param : Site → List Term → State
  Owned : Site → List Term → State
  Dotted : Site → List Term → State
  After : Site → List Term → State
  Closing : Made → State
  Closed : Made → State
  Setting : Made → List Pair → State
  SetOwned : Made → List Pair → State
  SetDotted : Made → List Pair → State
  SetKeyed : Made → List Pair → List ℕ → State
  Deleting : Made → State
  Deleted : Made → State
  DeleteReturn : Made → State
  Returning : Body → State
  Either : Body → State
  Counting : Body → State
  CountOpened : Body → State
  CountOwned : Body → State
  Counted : Body → State
  CountAliasing : Body → State
  CountAliased : Body → State
  Aliasing : Body → List Item → Item → State
  Aliased : Body → List Item → State
  Done : Statement → State
