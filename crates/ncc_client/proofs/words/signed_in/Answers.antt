use Rattle.std.proofs.Common.{ap, ◌∙◌, rules, w64}
use Rattle.std.specs.Result.{result_ok}
use Rattle.std.proofs.lemmas.Fmt.{parse-signed_decimal}
use Rattle.ncc_client.proofs.words.signed_in.Goals as goal

pub returns : goal.returns
returns c = λ z h e.
    c.ok.ensures.value ∙ ap result_ok (parse-signed_decimal w64 z c.args.word.now c.parse.result (search rules) h e c.parse.ensures.value.0)
