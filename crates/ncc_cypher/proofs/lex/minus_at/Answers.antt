use Rattle.std.proofs.Common.{◌≡◌, ◌<◌, ◌-◌, ◌∷◌, ℕ, ℤ, List, Some, None, ap, ◌∙◌, arith, length, drop, take, get_or}
use Rattle.std.proofs.lemmas.Int.{to_z-of_z}
use mir.Syntax.{w64}
use Rattle.ncc_cypher.specs.declared.token.Token.TheVariants.{Int}
use Rattle.ncc_cypher.specs.Number.{number_of}
use Rattle.ncc_cypher.specs.Scan.{digits_at}
use Rattle.std.specs.Prelude.{true}
use Rattle.ncc_cypher.proofs.Tokens_read.{minus_gives, minus_lacks, number_fits, minus_is, minus_cut, one_more}
use Rattle.ncc_cypher.proofs.lex.minus_at.Goals as goal

pub past-requires-clause-ascii : goal.past-requires-clause-ascii
past-requires-clause-ascii c = let e = minus_is _ c.requires.minus in omega (arith, e)

pub returns-then-is_empty-clause-token : goal.returns-then-is_empty-clause-token
returns-then-is_empty-clause-token c =
    let n : length c.digits_front.result.0.now ≡ 0 = grind arith in
    let d : digits_at (drop 1 c.args.text.now) ≡ None = rw c.past.ensures at (c.digits_front.ensures.none n) in
    minus_lacks c.args.text.now c.requires.some c.requires.minus d

pub before-requires : goal.before-requires
before-requires c = one_more c.args.text.now c.digits_front.result.0.now c.digits_front.result.1.now c.requires.some (rw c.past.ensures at c.digits_front.ensures.parts)

pub minus_number-requires-clause-minus : goal.minus_number-requires-clause-minus
minus_number-requires-clause-minus c =
    let e : take (length c.args.text.now - length c.digits_front.result.1.now) c.args.text.now ≡ get_or c.args.text.now 0 0 ∷ c.digits_front.result.0.now = minus_cut c.args.text.now c.digits_front.result.0.now c.digits_front.result.1.now c.requires.some (rw c.past.ensures at c.digits_front.ensures.parts) in
    rw (c.before-2.ensures, e) (minus_is _ c.requires.minus)

pub minus_number-requires-clause-digits : goal.minus_number-requires-clause-digits
minus_number-requires-clause-digits c =
    let e : take (length c.args.text.now - length c.digits_front.result.1.now) c.args.text.now ≡ get_or c.args.text.now 0 0 ∷ c.digits_front.result.0.now = minus_cut c.args.text.now c.digits_front.result.0.now c.digits_front.result.1.now c.requires.some (rw c.past.ensures at c.digits_front.ensures.parts) in
    rw (c.before-2.ensures, e) c.digits_front.ensures.digits

pub returns-in-Some-clause-token : goal.returns-in-Some-clause-token
returns-in-Some-clause-token c =
    let lt : 0 < length c.digits_front.result.0.now = grind arith in
    let d : digits_at (drop 1 c.args.text.now) ≡ Some (c.digits_front.result.0.now, c.digits_front.result.1.now) = rw c.past.ensures at (c.digits_front.ensures.some lt) in
    let e : take (length c.args.text.now - length c.digits_front.result.1.now) c.args.text.now ≡ get_or c.args.text.now 0 0 ∷ c.digits_front.result.0.now = minus_cut c.args.text.now c.digits_front.result.0.now c.digits_front.result.1.now c.requires.some (rw c.past.ensures at c.digits_front.ensures.parts) in
    let k : Some c.in-Some.n ≡ number_of true c.digits_front.result.0.now = c.in-Some.ensures ∙ ap (λ (z : List ℕ). number_of true (drop 1 z)) (c.before-2.ensures ∙ e) in
    ap (λ (z : ℤ). Some (Int z, c.digits_front.result.1.now)) (to_z-of_z w64 c.in-Some.n (number_fits true c.digits_front.result.0.now c.in-Some.n k))
    ∙ minus_gives c.args.text.now c.digits_front.result.0.now c.digits_front.result.1.now (Some c.in-Some.n) c.requires.some c.requires.minus d k

pub returns-in-None-clause-token : goal.returns-in-None-clause-token
returns-in-None-clause-token c =
    let lt : 0 < length c.digits_front.result.0.now = grind arith in
    let d : digits_at (drop 1 c.args.text.now) ≡ Some (c.digits_front.result.0.now, c.digits_front.result.1.now) = rw c.past.ensures at (c.digits_front.ensures.some lt) in
    let e : take (length c.args.text.now - length c.digits_front.result.1.now) c.args.text.now ≡ get_or c.args.text.now 0 0 ∷ c.digits_front.result.0.now = minus_cut c.args.text.now c.digits_front.result.0.now c.digits_front.result.1.now c.requires.some (rw c.past.ensures at c.digits_front.ensures.parts) in
    let k : None ≡ number_of true c.digits_front.result.0.now = c.in-None.ensures ∙ ap (λ (z : List ℕ). number_of true (drop 1 z)) (c.before-2.ensures ∙ e) in
    minus_gives c.args.text.now c.digits_front.result.0.now c.digits_front.result.1.now None c.requires.some c.requires.minus d k
