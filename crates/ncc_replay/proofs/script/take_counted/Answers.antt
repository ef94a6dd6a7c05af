use Rattle.std.proofs.Common.{subst, ◌∷◌}
use Rattle.ncc_replay.specs.Progress.{GoesOn}
use Rattle.ncc_replay.proofs.script.take_counted.Goals as goal

pub returns-in-Header-clause-bad : goal.returns-in-Header-clause-bad
returns-in-Header-clause-bad c = λ e h all rest g. c.take_header.ensures.bad e h all rest
    (subst (GoesOn all ((c.args.number, c.args.line.now) ∷ rest)) c.in-Header.is g)

pub returns-in-Cluster-clause-bad : goal.returns-in-Cluster-clause-bad
returns-in-Cluster-clause-bad c = λ e h all rest g. c.take_cluster.ensures.bad e h all rest
    (subst (GoesOn all ((c.args.number, c.args.line.now) ∷ rest)) c.in-Cluster.is g)
