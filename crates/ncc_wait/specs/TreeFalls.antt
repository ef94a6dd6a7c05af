-- Each side of a fork is shorter than the fork.
use Rattle.std.specs.Prelude.{◌≤◌, max, length}
use Rattle.std.proofs.Common.{arith, length-append}
use Rattle.ncc_wait.specs.declared.tree.Node.{Node}
use Rattle.ncc_wait.specs.declared.tree.Node.TheVariants.{Empty, One, Fork}
use Rattle.ncc_wait.specs.declared.tree.Tree.TheDeep.{deep-Node}
use Rattle.ncc_wait.specs.Tree.{IsTree, below}

pub sides_fall : (n : Node) → IsTree n → max (deep-Node n) 0 ≤ length (below n)
sides_fall Empty h = omega arith
sides_fall (One p) h = omega arith
sides_fall (Fork s low high) h = omega (arith, length-append low.value high.value, h.some_low, h.some_high)
