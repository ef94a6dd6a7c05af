use Rattle.std.proofs.Common.{◌≡◌, ◌∙◌, ◌+◌, ◌-◌, ℕ, List, length, drop, take, ap, sym, arith, length-drop}
use Rattle.std.proofs.lemmas.List.{length-take-le}
use Rattle.ncc_base.specs.MemDisk.{byte_at}
use Rattle.ncc_base.proofs.Places.{taken_over, part_is}
use Rattle.ncc_base.proofs.mem_disk.take_over.Goals as goal

pub returns : goal.returns
returns c p =
    let a = c.min-first.result in
    let n = c.min-count.result in
    let one : a + n - a ≡ n = omega arith in
    let ys = c.copy_from_slice.new.self in
    let is : ys ≡ take n (drop a c.args.from.now) = c.copy_from_slice.ensures.after ∙ ap (λ (m : ℕ). take m (drop a c.args.from.now)) one in
    ap (λ (l : List ℕ). byte_at l p) (part_is a (a + n - a) c.args.to.now ys (one
    ∙ sym (ap (λ (l : List ℕ). length l) is
    ∙ length-take-le n (drop a c.args.from.now) (omega (arith, c.min-count.ensures, length-drop a c.args.from.now)))))
    ∙ taken_over c.args.range.now a n c.args.to.now c.args.from.now ys c.requires c.min-first.ensures c.min-count.ensures is p
