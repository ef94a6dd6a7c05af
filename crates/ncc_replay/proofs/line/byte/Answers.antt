use Rattle.std.proofs.Common.{arith}
use Rattle.ncc_replay.proofs.Digits.{byte_is}
use Rattle.ncc_replay.proofs.line.byte.Goals as goal

pub returns-clause-some : goal.returns-clause-some
returns-clause-some c =
    let high = c.in_ok-high.ensures.some in
    let low = c.in_ok-low.ensures.some in (
      omega (arith, high.0, low.0),
      byte_is c.in_ok-high.high c.in_ok-low.low c.args.high c.args.low high.0 low.0 high.1 low.1,
    )
