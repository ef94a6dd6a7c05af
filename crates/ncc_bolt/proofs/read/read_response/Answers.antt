use Rattle.std.proofs.Common.{sym, subst, List, ℕ, arith}
use Rattle.ncc_bolt.specs.Messages.{SpellsResponse}
use Rattle.ncc_bolt.proofs.Joined.{response_okay, response_only, response_short}
use Rattle.ncc_bolt.proofs.read.read_response.Goals as goal

pub returns-clause-found : goal.returns-clause-found
returns-clause-found c = response_okay c.response_in.result c.args.message.now (λ i. omega (
  arith,
  c.type_inv.message i,
)) c.response_in.ensures.exact

pub returns-clause-only : goal.returns-clause-only
returns-clause-only c = response_only c.response_in.result c.args.message.now c.response_in.ensures.exact

pub returns-clause-again : goal.returns-clause-again
returns-clause-again c = λ m f e. response_only c.response_in.result c.args.message.now c.response_in.ensures.exact m
    (subst (λ (z : List ℕ). SpellsResponse m z) (sym e) (response_short m f))
