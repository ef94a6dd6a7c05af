use Rattle.std.proofs.Common.{ap, ◌∙◌, sym, ◌∷◌, take, ◌+◌}
use Rattle.std.proofs.lemmas.List.{take_rest}
use Rattle.ncc_replay.specs.Reading.{words_between}
use Rattle.ncc_replay.proofs.Words.{cut_some, cut_none}
use Rattle.ncc_replay.proofs.line.cut.Goals as goal

pub returns-in-Some-clause-words : goal.returns-in-Some-clause-words
returns-in-Some-clause-words c =
    (cut_some c.args.line.now c.in-Some.end (sym c.in-Some.ensures)).1
    ∙ ap (λ l. take c.in-Some.end c.args.line.now ∷ words_between l) (sym (take_rest c.args.line.now (c.in-Some.end + 1)))

pub returns-in-None-clause-words : goal.returns-in-None-clause-words
returns-in-None-clause-words c = cut_none c.args.line.now (sym c.in-None.ensures)
