use Rattle.ncc_world.proofs.Firstly.{AreFirst}
use Rattle.ncc_world.proofs.one_list.OneList.new.Given as goal

-- so many members that have applied nothing
abbrev pub invariant-loop-index : goal.invariant-loop-index
invariant-loop-index l = AreFirst l.setup l.index l.members.items l.members.shelves.items l.members.seen
