use Rattle.std.proofs.Common.{ap, sym, ◌∙◌, drop}
use Rattle.ncc_replay.specs.Reading.{words_in}
use Rattle.ncc_replay.proofs.RaftLines.{deliver_bad}
use Rattle.ncc_replay.proofs.Words.{some_words}
use Rattle.ncc_replay.proofs.raft_line.deliver.Goals as goal

pub returns-then-is_some-clause-none : goal.returns-then-is_some-clause-none
returns-then-is_some-clause-none c =
    deliver_bad (words_in c.args.rest)
    (λ message small e. some_words c.in_ok-message.rest (sym c.is_some.ensures ∙ c.if-is_some.true) (ap (drop 1)
    (sym c.in_ok-message.ensures.some.1 ∙ e)))
