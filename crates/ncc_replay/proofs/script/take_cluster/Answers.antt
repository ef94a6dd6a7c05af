use Rattle.std.proofs.Common.{subst, refl, [], Some}
use Rattle.ncc_world.specs.Happening.{start_of}
use Rattle.ncc_replay.specs.Script.{says}
use Rattle.ncc_replay.specs.Progress.{EndsSo}
use Rattle.ncc_replay.proofs.Scripts.{cluster_ends, error_is}
use Rattle.ncc_replay.proofs.script.take_cluster.Goals as goal

pub returns-in-Err-clause-bad : goal.returns-in-Err-clause-bad
returns-in-Err-clause-bad c = λ e h all rest g.
    subst (EndsSo all) (error_is _ e h) (cluster_ends all rest c.args.number c.args.line.now c.in-Err.cause c.requires
    (c.in-Err.ensures.bad c.in-Err.cause refl) g)

pub returns-in-Ok-new-clause-ok : goal.returns-in-Ok-new-clause-ok
returns-in-Ok-new-clause-ok c = λ all rest g. record {
  setup = c.in-Ok.setup;
  run = start_of c.in-Ok.setup;
  done = [];
  setup_is = c.in-Ok-new.ensures.setup;
  stands = c.in-Ok-new.ensures.begun;
  goes_on = λ es t end lines. g (record { setup = Some c.in-Ok.setup; events = es }) (Some t) end
      (says c.args.number c.args.line.now rest c.in-Ok.setup es t end c.requires c.in-Ok.ensures.says lines);
}
