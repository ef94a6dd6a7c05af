use Rattle.std.proofs.Common.{rules, SFits, to_z-of_z, w64, ◌∙◌}
use Rattle.ncc_store.proofs.Writes.{starts}
use Rattle.ncc_store.proofs.overlay.Overlay.new.Goals as goal

pub returns : goal.returns
returns c =
    let fits : SFits w64 c.next.result = search rules in
    starts c.args.base.now _ c.new.result.entries (to_z-of_z fits ∙ c.next.ensures.next) c.new.ensures.empty
