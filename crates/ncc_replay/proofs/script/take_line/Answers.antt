use Rattle.std.proofs.Common.{sym, subst, ◌∙◌, arith}
use Rattle.ncc_replay.specs.Progress.{EndsSo}
use Rattle.ncc_replay.proofs.Scripts.{long_ends, skip_goes, is_too_long, is_not_long, error_is}
use Rattle.ncc_replay.proofs.script.take_line.Goals as goal

pub returns-then-line-gt-MAX_LINE-clause-bad : goal.returns-then-line-gt-MAX_LINE-clause-bad
returns-then-line-gt-MAX_LINE-clause-bad c = λ e h all rest g.
    subst (EndsSo all) (error_is _ e h) (long_ends all rest c.args.number c.args.line.now c.args.progress
    (is_too_long c.args.line.now (omega (arith, c.if-line-gt-MAX_LINE.true))) g)

pub returns-then-skips-clause-ok : goal.returns-then-skips-clause-ok
returns-then-skips-clause-ok c = λ all rest g.
    skip_goes all rest c.args.number c.args.line.now c.args.progress
    (is_not_long c.args.line.now (omega (arith, c.if-line-gt-MAX_LINE.false))) (sym c.skips.ensures ∙ c.if-skips.true) g

pub take_counted-requires : goal.take_counted-requires
take_counted-requires c = record {
  short = is_not_long c.args.line.now (omega (arith, c.if-line-gt-MAX_LINE.false));
  kept = sym c.skips.ensures ∙ c.if-skips.false;
}
