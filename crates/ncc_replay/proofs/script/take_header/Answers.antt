use Rattle.std.proofs.Common.{sym, subst, ◌∙◌}
use Rattle.std.proofs.lemmas.Bool.{false≢true}
use Rattle.ncc_replay.specs.Progress.{EndsSo}
use Rattle.ncc_replay.proofs.Scripts.{header_goes, header_ends, error_is}
use Rattle.ncc_replay.proofs.script.take_header.Goals as goal

pub returns-then-is_header-clause-ok : goal.returns-then-is_header-clause-ok
returns-then-is_header-clause-ok c = λ all rest g. header_goes all rest c.args.number c.args.line.now c.requires
    (c.is_header.ensures.0 c.if-is_header.true) g

pub returns-else-is_header-clause-bad : goal.returns-else-is_header-clause-bad
returns-else-is_header-clause-bad c = λ e h all rest g.
    subst (EndsSo all) (error_is _ e h) (header_ends all rest c.args.number c.args.line.now c.requires (λ same. false≢true
    (sym c.if-is_header.false ∙ c.is_header.ensures.1 same)) g)
