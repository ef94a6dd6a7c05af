use Rattle.std.proofs.Common.{ap, sym, ◌∙◌, drop}
use Rattle.ncc_replay.proofs.Words.{some_words}
use Rattle.ncc_replay.proofs.raft_line.one.Goals as goal

pub returns-then-is_some-clause-none : goal.returns-then-is_some-clause-none
returns-then-is_some-clause-none c = λ member small e.
    some_words c.in_ok-member.rest (sym c.is_some.ensures ∙ c.if-is_some.true) (ap (drop 1) (sym c.in_ok-member.ensures.some.1 ∙ e))
