use Rattle.std.proofs.lemmas.List.Sorted.{non_decreasing_from_is_sorted}
use Rattle.ncc_base.proofs.Moments.{decided}
use Rattle.ncc_base.proofs.mem_clock.do_not_fall.Goals as goal

pub returns : goal.returns
returns c =
    decided c.is_sorted.result c.args.moments.now
    (non_decreasing_from_is_sorted c.args.moments.now c.is_sorted.result c.is_sorted.ensures.cases)
