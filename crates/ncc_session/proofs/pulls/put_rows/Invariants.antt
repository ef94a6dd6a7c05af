use Rattle.std.proofs.Common.{◌≡◌, ◌++◌, take, map}
use Rattle.ncc_bolt.specs.declared.message.Response.TheVariants as s
use Rattle.ncc_session.specs.Question.{bytes_of}
use Rattle.ncc_session.specs.Replies.{reply}
use Rattle.ncc_session.proofs.pulls.put_rows.Given as goal

abbrev pub invariant-loop-row : goal.invariant-loop-row
invariant-loop-row l = l.out ≡ l.fn.out ++ bytes_of (map (λ row. reply (s.Row row)) (take l.row-index l.rows))
