use Rattle.std.proofs.Common.{◌≡◌, false, replicate}
use Rattle.std.specs.BTreeSet.{contains_text}
use Rattle.ncc_cypher.proofs.Slots.{empty, filled}
use Rattle.ncc_cypher.proofs.draft.Draft.with_places.Goals as goal

pub invariant_of-result : goal.invariant_of-result
invariant_of-result c = λ q.
    let taken : c.resize.new.self.items ≡ replicate c.args.count false
    = filled false c.args.count _ _ _ c.new-taken.ensures.items c.new-taken.ensures.len c.in_ok-resize.ensures.items in
    let numbers : c.resize-2.new.self.items ≡ replicate c.args.count 0
    = filled 0 c.args.count _ _ _ c.new-numbers.ensures.items c.new-numbers.ensures.len c.in_ok-resize-2.ensures.items in
    let other : contains_text c.new-2.result q ≡ false = search in
    empty _ _ c.args.count _ _ q taken numbers other c.new.ensures.empty
