use Rattle.ncc_store.specs.Exec.{call_of}
use Rattle.ncc_session.specs.Core.{place_of}
use Rattle.ncc_session.proofs.Entering.{entered_not}
use Rattle.ncc_session.proofs.facts.after_enter.Goals as goal

pub returns-in_default : goal.returns-in_default
returns-in_default c = record {
  ok = entered_not c.fail.result (place_of c.args.core.now) (place_of c.fail.new.core) c.args.write (call_of c.args.step)
      c.args.fact.now c.refusal.result c.args.out.now c.fail.new.out c.in_default.not-Entered c.refusal.ensures c.fail.ensures.ok;
  err = c.fail.ensures.err;
}
