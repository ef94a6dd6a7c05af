use Rattle.std.proofs.Common.{ap, sym, ◌∙◌, drop}
use Rattle.ncc_replay.specs.Reading.{words_in}
use Rattle.ncc_replay.proofs.Lines.{cause_is}
use Rattle.ncc_replay.proofs.SessionLines.{add_bad}
use Rattle.ncc_replay.proofs.Words.{some_words}
use Rattle.ncc_replay.proofs.session_line.add.Goals as goal

pub returns-then-is_some-clause-bad : goal.returns-then-is_some-clause-bad
returns-then-is_some-clause-bad c = λ cause h. (
  sym (cause_is _ cause h),
  add_bad (words_in c.args.rest) (λ key by word fits e.
      some_words c.in-Some-next_signed.rest (sym c.is_some.ensures ∙ c.if-is_some.true)
      (ap (drop 1) (sym c.in-Some-next_signed.ensures.some.1 ∙ ap (drop 1) (sym c.in-Some.ensures.some.1 ∙ e)))),
)
