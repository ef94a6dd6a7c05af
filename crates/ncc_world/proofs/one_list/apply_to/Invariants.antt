use Rattle.std.proofs.Common.{◌≡◌, take}
use Rattle.ncc_apply.specs.Shelf.{Stands}
use Rattle.ncc_world.proofs.one_list.apply_to.Given as goal

abbrev pub invariant-loop-place : goal.invariant-loop-place
invariant-loop-place l = record {
  shelf : Stands l.fn.shelf (take l.fn.from l.items) → Stands l.shelf (take l.place l.items);
  seen : Stands l.fn.shelf (take l.fn.from l.items) → l.fn.seen.at ≡ l.fn.from → l.seen ≡ record l.fn.seen { at = l.place };
}
