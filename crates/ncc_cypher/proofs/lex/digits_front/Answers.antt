use Rattle.std.proofs.Common.{◌≡◌, ◌<◌, length, get_or, arith}
use Rattle.std.proofs.lemmas.Str.{IsCharBoundary-after_ascii}
use Rattle.ncc_cypher.specs.declared.class.Class.TheVariants.{Zero, Digit}
use Rattle.ncc_cypher.specs.Class.{class}
use Rattle.ncc_cypher.proofs.Tokens_read.{zero_digits, more_digits, zero_is}
use Rattle.ncc_cypher.proofs.lex.digits_front.Goals as goal

pub split_at-requires : goal.split_at-requires
split_at-requires c =
    let z : class (get_or c.args.text.now 0 0) ≡ Zero = cc in
    let e : get_or c.args.text.now 0 0 ≡ 48 = zero_is _ z in
    IsCharBoundary-after_ascii c.args.text.now 0 c.utf8.text (grind arith) (omega arith)

pub returns-in-Zero-clause-digits : goal.returns-in-Zero-clause-digits
returns-in-Zero-clause-digits c =
    let z : class (get_or c.args.text.now 0 0) ≡ Zero = cc in
    let lt : 0 < length c.args.text.now = grind arith in
    rw c.split_at.ensures.front ((zero_digits c.args.text.now lt z).1)

pub returns-in-Digit-clause-digits : goal.returns-in-Digit-clause-digits
returns-in-Digit-clause-digits c =
    let z : class (get_or c.args.text.now 0 0) ≡ Digit = cc in
    let lt : 0 < length c.args.text.now = grind arith in
    rw c.digits_split.ensures.front ((more_digits c.args.text.now lt z).1)
