use Rattle.std.proofs.Common.{◌≡◌, List, ℕ, length, sym, ap, subst, arith}
use Rattle.ncc_cypher.specs.declared.error.Fault.{Fault}
use Rattle.ncc_cypher.specs.Reading.{Tells, reads}
use Rattle.ncc_cypher.proofs.Moves.{over_so, over_not}
use Rattle.ncc_cypher.proofs.reader.Reader.over.Goals as goal

pub returns-then-is_empty-clause-ends : goal.returns-then-is_empty-clause-ends
returns-then-is_empty-clause-ends c = λ names x y e o.
    let r = c.args.self.now in
    let n : length r.from ≡ 0 = grind arith in
    over_so names x y r.token r.from r.after c.in-None.is n e

pub returns-else-is_empty-clause-ends : goal.returns-else-is_empty-clause-ends
returns-else-is_empty-clause-ends c = λ names x y e o.
    let r = c.args.self.now in
    let n : length r.from ≡ 0 → ⊥ = λ z. grind arith in
    subst (λ (f : Fault). Tells f (reads names x r)) (sym c.refused.ensures.exact) (over_not names x r.token r.from r.after c.in-None.is n)
