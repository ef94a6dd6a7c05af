use Rattle.std.proofs.Common.{◌++◌, ◌+◌, ap, arith, sym, ◌∙◌, subst, IsTrue}
use Rattle.ncc_apply.specs.View.{stamp_of}
use Rattle.ncc_tx.specs.Items.{entry_allowed}
use Rattle.ncc_tx.specs.State.{stamps}
use Rattle.ncc_tx.specs.declared.entry.Item.{Item}
use Rattle.ncc_replay.specs.Report.{place_lines}
use Rattle.ncc_replay.proofs.Spelling.{allowed_fits, none_are_left, place_written, stamp_at_place}
use Rattle.ncc_replay.proofs.report.append_places.Goals as goal

pub append_stamped-requires : goal.append_stamped-requires
append_stamped-requires c =
    let item : Item = c.index-history-index.result in
    allowed_fits item.entry (subst (λ (x : Item). IsTrue (entry_allowed x.entry)) (sym c.index-history-index.is)
    (c.requires c.loop-index.index item c.loop-index-test.true))

pub loop-index-preserved : goal.loop-index-preserved
loop-index-preserved c = λ r st e.
    let i = c.loop-index.index in
    let history = c.args.history.now in
    let stamp = stamp_at_place history i c.loop-index-test.true in
    place_written i history c.index-history-index.result stamp.0 c.loop-index.into c.append_stamped.new.into
    (c.args.into.now ++ place_lines 1 history (stamps history)) c.loop-index-test.true c.index-history-index.is stamp.1
    (c.in_ok-append_stamped.ensures r stamp.0 st (ap (λ h. stamp_of (i + 1) (stamps h)) (sym e) ∙ stamp.1))
    (c.loop-index.invariant r st e)

pub returns : goal.returns
returns c = λ r st e.
    let i = c.loop-index.index in
    let history = c.args.history.now in
    none_are_left i (i + 1) history (stamps history) c.loop-index.into (c.args.into.now ++ place_lines 1 history (stamps history))
    (omega (arith, c.loop-index-test.false)) (c.loop-index.invariant r st e)
