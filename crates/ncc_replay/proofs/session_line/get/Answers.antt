use Rattle.std.proofs.Common.{ap, sym, ◌∙◌, drop}
use Rattle.ncc_replay.specs.Reading.{words_in}
use Rattle.ncc_replay.proofs.Lines.{cause_is}
use Rattle.ncc_replay.proofs.SessionLines.{get_bad}
use Rattle.ncc_replay.proofs.Words.{some_words}
use Rattle.ncc_replay.proofs.session_line.get.Goals as goal

pub returns-then-is_some-clause-bad : goal.returns-then-is_some-clause-bad
returns-then-is_some-clause-bad c = λ cause h. (
  sym (cause_is _ cause h),
  get_bad (words_in c.args.rest) (λ key word e. some_words c.in-Some.rest (sym c.is_some.ensures ∙ c.if-is_some.true) (ap (drop 1)
      (sym c.in-Some.ensures.some.1 ∙ e))),
)
