-- A step of a source has the statement that the source spells.
use Rattle.std.proofs.Common.{◌≡◌, Result, Ok, Err}
use Rattle.ncc_cypher.specs.declared.tree.Statement.{Statement}
use Rattle.ncc_cypher.specs.declared.error.ParseError.{ParseError}
use Rattle.ncc_cypher.specs.declared.error.ParseError.TheVariants.{Syntax, Memory}
use Rattle.ncc_cypher.specs.Spelled.{IsOrMemory}
use Rattle.ncc_store.specs.declared.step.Step.{Step}
use Rattle.ncc_store.specs.Steps.{IsOf}

abbrev okay : Statement → Result Statement ParseError
okay s = Ok s

abbrev failed : ParseError → Result Statement ParseError
failed e = Err e

abbrev refused : ParseError → Result Step ParseError
refused e = Err e

pub same : (x y : Statement) → IsOrMemory (okay x) (okay y) → x ≡ y
same x y e = cc

pub never : (e : ParseError) (y : Statement) → IsOrMemory (failed e) (okay y) → IsOf (λ s. s.statement) y (refused e)
never (Syntax at kind) y e = absurd (cc)
never Memory y e = tt
