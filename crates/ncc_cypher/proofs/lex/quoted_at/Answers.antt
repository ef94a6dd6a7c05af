use Rattle.std.proofs.Common.{◌≡◌, List, ℕ, Option, sym, ap, ◌∙◌, Some, None, drop, arith}
use Rattle.std.specs.Prelude.{false}
use Rattle.ncc_cypher.specs.Body.{body_at}
use Rattle.ncc_cypher.specs.Piece.{rest_of, rest_read}
use Rattle.ncc_cypher.proofs.Tokens_read.{quote_text, quote_none, quote_is, has_body}
use Rattle.ncc_cypher.proofs.lex.quoted_at.Goals as goal

pub past-body-requires-clause-ascii : goal.past-body-requires-clause-ascii
past-body-requires-clause-ascii c = let q = quote_is c.args.quote c.requires.quote in omega (arith, q, c.requires.first)

pub past_body-requires : goal.past_body-requires
past_body-requires c = quote_is c.args.quote c.requires.quote

pub new-requires-clause-quote : goal.new-requires-clause-quote
new-requires-clause-quote c = quote_is c.args.quote c.requires.quote

pub new-requires-clause-body : goal.new-requires-clause-body
new-requires-clause-body c =
    let b : rest_of (body_at c.args.quote false c.past-body.result.now) ≡ Some c.in-Some.rest.now = sym c.past_body.ensures.value ∙ ap rest_read c.in-Some.is in
    has_body (body_at c.args.quote false c.past-body.result.now) c.in-Some.rest.now b

pub returns-in-Some-clause-token : goal.returns-in-Some-clause-token
returns-in-Some-clause-token c =
    let b : rest_of (body_at c.args.quote false (drop 1 c.args.text.now)) ≡ Some c.in-Some.rest.now = ap (λ (z : List ℕ). rest_of (body_at c.args.quote false z)) (sym c.past-body.ensures) ∙ sym c.past_body.ensures.value ∙ ap rest_read c.in-Some.is in
    quote_text c.args.text.now c.args.quote c.past-body.result.now c.in-Some.rest.now c.new.result c.requires.some c.requires.first c.requires.quote c.past-body.ensures c.new.ensures.same b

pub returns-in-None-clause-token : goal.returns-in-None-clause-token
returns-in-None-clause-token c =
    let b : rest_of (body_at c.args.quote false (drop 1 c.args.text.now)) ≡ None = ap (λ (z : List ℕ). rest_of (body_at c.args.quote false z)) (sym c.past-body.ensures) ∙ sym c.past_body.ensures.value ∙ ap rest_read c.in-None.is in
    quote_none c.args.text.now c.args.quote c.requires.some c.requires.first c.requires.quote b
