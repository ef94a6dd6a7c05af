use Rattle.std.proofs.Common.{◌≡◌, List, [], ℕ, Some, None, sym, ap, ◌∙◌}
use Rattle.ncc_cypher.specs.Token.{past_blanks}
use Rattle.ncc_cypher.specs.Scan.{token_at, read}
use Rattle.ncc_cypher.specs.Reading.{tokens_in, ahead_by}
use Rattle.ncc_cypher.proofs.Ahead.{tokens_some, tokens_none}
use Rattle.ncc_cypher.proofs.reader.Reader.at.Goals as goal

pub returns-in-Some-clause-ahead : goal.returns-in-Some-clause-ahead
returns-in-Some-clause-ahead c =
    let e : token_at (past_blanks c.args.text.now) ≡ Some (c.in-Some.token, c.in-Some.rest.now) = ap token_at (sym c.past_blanks-from.ensures) ∙ sym c.token_at.ensures.token ∙ ap read c.in-Some.is in
    let t : tokens_in c.args.text.now ≡ ahead_by (Some c.in-Some.token) (past_blanks c.args.text.now) c.in-Some.rest.now = tokens_some c.args.text.now c.in-Some.token c.in-Some.rest.now e in
    let u : tokens_in c.args.text.now ≡ ahead_by (Some c.in-Some.token) c.past_blanks-from.result.now c.in-Some.rest.now = t ∙ ap (λ (z : List ℕ). ahead_by (Some c.in-Some.token) z c.in-Some.rest.now) (sym c.past_blanks-from.ensures) in
    cc

pub returns-in-None-clause-ahead : goal.returns-in-None-clause-ahead
returns-in-None-clause-ahead c =
    let e : token_at (past_blanks c.args.text.now) ≡ None = ap token_at (sym c.past_blanks-from.ensures) ∙ sym c.token_at.ensures.token ∙ ap read c.in-None.is in
    let u : tokens_in c.args.text.now ≡ ([], past_blanks c.args.text.now) = tokens_none c.args.text.now e in
    cc
