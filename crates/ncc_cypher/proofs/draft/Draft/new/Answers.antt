use Rattle.std.proofs.Common.{◌≡◌, false, replicate}
use Rattle.std.specs.BTreeSet.{contains_text}
use Rattle.ncc_cypher.proofs.Slots.{empty}
use Rattle.ncc_cypher.proofs.draft.Draft.new.Goals as goal

pub invariant_of-result : goal.invariant_of-result
invariant_of-result c = λ q.
    let taken : c.new-2.result.items ≡ replicate 0 false = search in
    let numbers : c.new-3.result.items ≡ replicate 0 0 = search in
    let other : contains_text c.new-4.result q ≡ false = search in
    empty _ _ 0 _ _ q taken numbers other c.new.ensures.empty
