use Rattle.ncc_replay.specs.Reading.{words_in}
use Rattle.ncc_replay.proofs.Lines.{cluster_says, cluster_none_says}
use Rattle.ncc_replay.proofs.line.parse_cluster.Goals as goal

pub returns-in-Some-clause-says : goal.returns-in-Some-clause-says
returns-in-Some-clause-says c =
    cluster_says c.args.line.now c.cut.result.0.now (words_in c.cut.result.1) c.in-Some.setup c.cut.ensures.words
    (c.is_cluster.ensures.0 c.if-not-is_cluster.false) c.in-Some.ensures.some

pub returns-in-None-clause-bad : goal.returns-in-None-clause-bad
returns-in-None-clause-bad c = λ cause h.
    cluster_none_says c.args.line.now c.cut.result.0.now (words_in c.cut.result.1) cause c.cut.ensures.words c.cut.ensures.first
    (c.is_cluster.ensures.0 c.if-not-is_cluster.false) c.in-None.ensures.none h
