use Rattle.std.proofs.Common.{◌∙◌, ◌∷◌, ◌++◌, ◌+◌, ◌-◌, [], ℕ, List, ap, sym, arith, append_assoc}
use Rattle.std.proofs.lemmas.List.{append-nil}
use Rattle.ncc_base.specs.MemDisk.{drawn}
use Rattle.ncc_base.proofs.Drawn.{drawn_more, drawn_none}
use Rattle.ncc_base.proofs.mem_disk.draw.Goals as goal

pub loop-place-preserved : goal.loop-place-preserved
loop-place-preserved c =
    let rest : List ℕ = drawn c.draw_byte.new.words c.args.stable.now c.args.ranges.now (c.loop-place.place + 1)
    (c.args.size - (c.loop-place.place + 1)) in
    ap (λ (l : List ℕ). l ++ rest) c.in_ok-push.ensures.items
    ∙ append_assoc c.loop-place.left.items (c.draw_byte.result ∷ []) rest
    ∙ ap (λ (l : List ℕ). c.loop-place.left.items ++ l)
    (drawn_more c.loop-place.words c.draw_byte.new.words c.args.stable.now c.args.ranges.now c.loop-place.place c.args.size
    c.draw_byte.result c.loop-place-test.true c.draw_byte.ensures)
    ∙ c.loop-place.invariant

pub returns : goal.returns
returns c =
    sym (append-nil c.loop-place.left.items)
    ∙ sym (ap (λ (l : List ℕ). c.loop-place.left.items ++ l)
    (drawn_none c.loop-place.words c.args.stable.now c.args.ranges.now c.loop-place.place (c.args.size - c.loop-place.place)
    (omega (arith, c.loop-place-test.false))))
    ∙ c.loop-place.invariant
