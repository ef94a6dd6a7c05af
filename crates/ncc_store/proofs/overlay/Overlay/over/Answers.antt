use Rattle.std.proofs.Common.{rules, SFits, to_z-of_z, w64}
use Rattle.ncc_store.proofs.Earlier.{starts_over, entries_made}
use Rattle.ncc_store.proofs.overlay.Overlay.over.Goals as goal

pub invariant_of-result : goal.invariant_of-result
invariant_of-result c =
    let fits : SFits w64 c.args.earlier.next = search rules in
    (starts_over c.args.base.now c.args.earlier c.next-low.ensures.legal c.requires _ _ (to_z-of_z fits)
    (entries_made c.args.earlier c.new-written.result.entries c.write_put.new.written.entries c.write_gone.new.written.entries
    c.as_slice.result.now c.new-written.ensures.empty c.in_ok-write_put.ensures c.in_ok-write_gone.ensures c.as_slice.ensures.same)).0

pub returns : goal.returns
returns c =
    let fits : SFits w64 c.args.earlier.next = search rules in
    (starts_over c.args.base.now c.args.earlier c.next-low.ensures.legal c.requires _ _ (to_z-of_z fits)
    (entries_made c.args.earlier c.new-written.result.entries c.write_put.new.written.entries c.write_gone.new.written.entries
    c.as_slice.result.now c.new-written.ensures.empty c.in_ok-write_put.ensures c.in_ok-write_gone.ensures c.as_slice.ensures.same)).1
