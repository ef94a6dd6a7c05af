use Rattle.std.proofs.Common.{sym, subst, List, ℕ, arith}
use Rattle.ncc_bolt.specs.Messages.{SpellsRequest}
use Rattle.ncc_bolt.proofs.Joined.{request_okay, request_only, request_short}
use Rattle.ncc_bolt.proofs.read.read_request.Goals as goal

pub returns-clause-found : goal.returns-clause-found
returns-clause-found c = request_okay c.request_in.result c.args.message.now (λ i. omega (
  arith,
  c.type_inv.message i,
)) c.request_in.ensures.exact

pub returns-clause-only : goal.returns-clause-only
returns-clause-only c = request_only c.request_in.result c.args.message.now c.request_in.ensures.exact

pub returns-clause-again : goal.returns-clause-again
returns-clause-again c = λ m f e. request_only c.request_in.result c.args.message.now c.request_in.ensures.exact m
    (subst (λ (z : List ℕ). SpellsRequest m z) (sym e) (request_short m f))
