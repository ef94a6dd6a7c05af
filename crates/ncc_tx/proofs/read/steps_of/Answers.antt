use Rattle.std.proofs.Common.{◌≡◌, map, sym, ap, ◌∙◌, Ok, Err, arith}
use Rattle.std.proofs.lemmas.Grind.{common_steps}
use Rattle.ncc_store.specs.Exec.{call_of}
use Rattle.ncc_tx.proofs.Steps.{never, fails_here, none_here, stands_more, same_steps}
use Rattle.ncc_tx.proofs.read.steps_of.Goals as goal

pub returns-in-Err-Syntax-clause-is : goal.returns-in-Err-Syntax-clause-is
returns-in-Err-Syntax-clause-is c =
    let (_, _, so_far) = c.loop-call.invariant in
    let wrong = rw c.in-Err-Syntax.field-0-is at c.in-Err-Syntax.ensures.exact in
    fails_here c.args.calls c.loop-call.steps _ c.next.new.self.rest.items _ c.in-Some.call so_far c.in-Some.ensures.steps.0
    (never c.in-Some.call _ _ _ c.as_str.ensures.same wrong)

pub returns-in-Err-Syntax-clause-only : goal.returns-in-Err-Syntax-clause-only
returns-in-Err-Syntax-clause-only c = λ ss e.
    let (_, _, so_far) = c.loop-call.invariant in
    let wrong = rw c.in-Err-Syntax.field-0-is at c.in-Err-Syntax.ensures.exact in
    absurd (none_here c.args.calls c.loop-call.steps _ c.next.new.self.rest.items _ c.in-Some.call so_far c.in-Some.ensures.steps.0
    (never c.in-Some.call _ _ _ c.as_str.ensures.same wrong) ss e)

pub loop-call-preserved : goal.loop-call-preserved
loop-call-preserved c =
    let (_, _, so_far) = c.loop-call.invariant in (
      tt,
      tt,
      stands_more c.args.calls c.loop-call.steps _ c.next.new.self.rest.items _ c.in-Some.call _ c.in-Ok.step c.push.new.self
          so_far c.in-Some.ensures.steps.0 c.as_str.ensures.same c.in-Ok.ensures.parts c.in_ok-push-in-Ok.ensures.ok,
    )

pub returns-clause-only : goal.returns-clause-only
returns-clause-only c = λ ss e.
    let (_, _, so_far) = c.loop-call.invariant in
    let all : map call_of c.loop-call.steps ≡ c.args.calls = grind (arith, common_steps) in
    ap Ok (same_steps c.loop-call.steps ss (all ∙ sym e))
