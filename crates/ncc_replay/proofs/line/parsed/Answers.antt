use Rattle.std.proofs.Common.{ap, ◌∙◌}
use Rattle.std.specs.Result.{result_ok}
use Rattle.std.proofs.lemmas.Fmt.{parse-decimal}
use Rattle.ncc_replay.proofs.Words.{decimal_utf8}
use Rattle.ncc_replay.proofs.line.parsed.Goals as goal

pub returns-in_default : goal.returns-in_default
returns-in_default c = λ n h e. absurd (c.in_default.ensures.cases.0 (decimal_utf8 n c.args.word.now h e))

pub returns : goal.returns
returns c = λ n h e.
    c.ok.ensures.value ∙ ap result_ok (parse-decimal 64 n c.in-Ok.text.now c.parse.result h h (c.in-Ok.ensures.cases.0
    ∙ e) c.parse.ensures.value.0)
