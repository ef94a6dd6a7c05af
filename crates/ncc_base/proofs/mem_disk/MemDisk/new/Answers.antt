use Rattle.std.proofs.Common.{◌∙◌, sym, arith}
use Rattle.ncc_base.specs.declared.mem_disk.Setting.TheVariants.{Sound}
use Rattle.ncc_base.proofs.Kept.{device_from, kept_from}
use Rattle.ncc_base.proofs.mem_disk.MemDisk.new.Goals as goal

pub invariant_of-result : goal.invariant_of-result
invariant_of-result c = (
  kept_from _ _ _ _ _ _ (c.new-2.ensures.items ∙ sym c.new.ensures.items) (c.new-3.ensures.items
      ∙ sym c.new.ensures.items) c.new-4.ensures.items c.new-5.ensures.items c.new-6.ensures.items,
  omega (arith, c.new-3.ensures.len),
)

pub returns : goal.returns
returns c = record { device = device_from _ _ _ Sound 0 _ c.new.ensures.items c.new-5.ensures.items }
