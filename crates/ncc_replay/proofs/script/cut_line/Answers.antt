use Rattle.std.proofs.Common.{ap, sym, ◌∙◌, ◌∷◌, ◌+◌, take, drop, add-one}
use Rattle.std.proofs.lemmas.List.{take_rest}
use Rattle.ncc_replay.specs.Script.{lines_of}
use Rattle.ncc_replay.proofs.Scripts.{line_at, line_alone, lines_end, no_more}
use Rattle.ncc_replay.proofs.script.cut_line.Goals as goal

pub returns-in-Some-clause-lines : goal.returns-in-Some-clause-lines
returns-in-Some-clause-lines c =
    line_at c.args.text.now c.in-Some.at (sym c.in-Some.ensures)
    ∙ ap (λ l. take c.in-Some.at c.args.text.now ∷ lines_of l) (ap (λ n. drop n c.args.text.now) (sym (add-one c.in-Some.at))
    ∙ sym (take_rest c.args.text.now (c.in-Some.at + 1)))

pub returns-in-None-clause-lines : goal.returns-in-None-clause-lines
returns-in-None-clause-lines c =
    line_alone c.args.text.now c.requires (sym c.in-None.ensures)
    ∙ ap (λ l. c.args.text.now ∷ l) (sym (ap lines_of (no_more c.args.text.now) ∙ lines_end))
