use Rattle.std.proofs.Common.{ap, ◌∙◌, rules, w64}
use Rattle.std.specs.Result.{result_ok}
use Rattle.std.proofs.lemmas.Fmt.{parse-signed_decimal}
use Rattle.ncc_replay.proofs.Numbers.{signed_utf8}
use Rattle.ncc_replay.proofs.session_line.signed_in.Goals as goal

pub returns-in_default : goal.returns-in_default
returns-in_default c = λ n h e. absurd (c.in_default.ensures.cases.0 (signed_utf8 n c.args.word.now h e))

pub returns : goal.returns
returns c = λ n h e.
    c.ok.ensures.value ∙ ap result_ok (parse-signed_decimal w64 n c.in-Ok.text.now c.parse.result (search rules) h (c.in-Ok.ensures.cases.0
    ∙ e) c.parse.ensures.value.0)
