use Rattle.std.proofs.Common.{◌≡◌, List, [], drop, ap, arith}
use Rattle.std.proofs.lemmas.List.{ext_get_or, drop_all}
use Rattle.ncc_base.specs.declared.mem_disk.Range.{Range}
use Rattle.ncc_base.specs.MemDisk.{is_written}
use Rattle.ncc_base.proofs.mem_disk.settle.Goals as goal

pub returns-clause-items : goal.returns-clause-items
returns-clause-items c =
    let ranges = c.args.ranges.now in
    let left : drop c.loop-range.range-index ranges ≡ [] = drop_all c.loop-range.range-index ranges (omega (
      arith,
      c.loop-range-test.false,
    )) in
    ext_get_or 0 c.loop-range.stable.items c.args.seen.now (omega (arith, c.loop-range.invariant.0, c.loop-range.stable.ok))
    (λ p le. c.loop-range.invariant.2 p (ap (λ (l : List Range). is_written p l) left))
