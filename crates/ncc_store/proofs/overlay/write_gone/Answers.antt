use Rattle.std.proofs.Common.{rules, ℤ, pos, get_or, SFits, to_z-of_z, w64, refl}
use Rattle.ncc_store.proofs.Earlier.{gone_on, gone_end}
use Rattle.ncc_store.proofs.overlay.write_gone.Goals as goal

pub loop-id-preserved : goal.loop-id-preserved
loop-id-preserved c =
    let id : ℤ = get_or c.args.gone.now c.loop-id.id-index (pos 0) in
    let fits : SFits w64 id = search rules in
    gone_on c.loop-id.written.entries c.insert.new.self.entries _ c.args.gone.now c.loop-id.id-index id _ c.loop-id-test.true refl
    (to_z-of_z fits) c.in_ok-insert.ensures.entries c.loop-id.invariant

pub returns : goal.returns
returns c = gone_end c.loop-id.written.entries _ c.args.gone.now c.loop-id.id-index c.loop-id-test.false c.loop-id.invariant
