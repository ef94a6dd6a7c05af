use Rattle.std.proofs.Common.{List, ap, ◌∙◌}
use Rattle.ncc_session.specs.Question.{Row}
use Rattle.ncc_session.specs.Turns.{rows_at}
use Rattle.ncc_session.specs.Core.{place_of, tx_of}
use Rattle.ncc_session.proofs.Keeping.{share_keeps}
use Rattle.ncc_session.proofs.Pulling.{pulled_rows}
use Rattle.ncc_session.proofs.pulls.pull_rows.Goals as goal

pub put_records-requires : goal.put_records-requires
put_records-requires c =
    share_keeps c.args.tx.told c.as_slice.result.now c.args.wish.number c.args.wish.next c.args.wish.count c.rows_from-left.result.now
    c.share-rows.result.now c.args.tx.keep c.as_slice.ensures.same c.rows_from-left.ensures.rows c.share-rows.ensures

pub returns-clause-ok : goal.returns-clause-ok
returns-clause-ok c =
    pulled_rows (place_of c.args.core.now) (place_of c.go_on.new.core) (tx_of c.args.tx) (tx_of c.note.new.tx) c.args.keep c.args.wish
    c.rows_from-left.result.now c.share-rows.result.now c.more_than-more.result c.args.out.now c.put_records.new.out c.go_on.new.out
    (c.rows_from-left.ensures.rows ∙ ap (λ (told : List (List Row)). rows_at told c.args.wish.number c.args.wish.next) c.as_slice.ensures.same)
    c.share-rows.ensures c.more_than-more.ensures c.in_ok-put_records.ensures.ok c.note.ensures
    c.go_on.result c.go_on.ensures.ok
