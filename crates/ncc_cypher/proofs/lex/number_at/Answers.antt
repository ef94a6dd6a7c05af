use Rattle.std.proofs.Common.{◌<◌, ℤ, Some, None, ap, ◌∙◌, arith, length}
use Rattle.std.proofs.lemmas.Int.{to_z-of_z}
use mir.Syntax.{w64}
use Rattle.ncc_cypher.specs.declared.token.Token.TheVariants.{Int}
use Rattle.std.specs.Prelude.{false}
use Rattle.ncc_cypher.proofs.Tokens_read.{number_gives, number_fits}
use Rattle.ncc_cypher.proofs.lex.number_at.Goals as goal

pub returns-in-Some-clause-token : goal.returns-in-Some-clause-token
returns-in-Some-clause-token c =
    let lt : 0 < length c.digits_front.result.0.now = grind arith in
    let d = c.digits_front.ensures.some lt in
    ap (λ (z : ℤ). Some (Int z, c.digits_front.result.1.now)) (to_z-of_z w64 c.in-Some.n (number_fits false c.digits_front.result.0.now c.in-Some.n c.in-Some.ensures))
    ∙ number_gives c.args.text.now c.digits_front.result.0.now c.digits_front.result.1.now (Some c.in-Some.n) c.requires.some c.requires.digit d c.in-Some.ensures

pub returns-in-None-clause-token : goal.returns-in-None-clause-token
returns-in-None-clause-token c =
    let lt : 0 < length c.digits_front.result.0.now = grind arith in
    let d = c.digits_front.ensures.some lt in
    number_gives c.args.text.now c.digits_front.result.0.now c.digits_front.result.1.now None c.requires.some c.requires.digit d c.in-None.ensures
