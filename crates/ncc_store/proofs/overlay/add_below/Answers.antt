use Rattle.std.proofs.Common.{option_copied}
use Rattle.ncc_store.specs.Exec.{taken}
use Rattle.ncc_store.specs.Pattern.{wanted_of}
use Rattle.ncc_store.proofs.Scanned.{below_more, below_done}
use Rattle.ncc_store.proofs.overlay.add_below.Goals as goal

pub loop-below-preserved : goal.loop-below-preserved
loop-below-preserved c =
    below_more (taken (option_copied c.args.label) (wanted_of c.args.wanted.now)) c.args.written.now.entries c.args.nodes.now
    c.loop-below.below-index c.below-item.result (option_copied c.seen.result) c.add_taken.new.found.items c.loop-below.found.items _
    c.loop-below-test.true c.below-item.is c.in_ok-add_taken.ensures c.seen.ensures.seen c.loop-below.invariant

pub returns : goal.returns
returns c = below_done (taken (option_copied c.args.label) (wanted_of c.args.wanted.now)) c.args.written.now.entries c.args.nodes.now
    c.loop-below.below-index c.loop-below.found.items _ c.loop-below-test.false c.loop-below.invariant
