use Rattle.std.proofs.Common.{sym, ◌∙◌}
use Rattle.ncc_replay.proofs.Spelling.{parts_none, parts_others, parts_some}
use Rattle.ncc_replay.proofs.report.two_words.Goals as goal

pub returns-in_default-clause-none : goal.returns-in_default-clause-none
returns-in_default-clause-none c = parts_none c.args.params.now c.in_default.ensures.none

pub returns-then-not-are_key_and_value-clause-none : goal.returns-then-not-are_key_and_value-clause-none
returns-then-not-are_key_and_value-clause-none c =
    parts_others c.args.params.now _ _ _ _ c.in-Some.ensures.some (sym c.are_key_and_value.ensures ∙ c.if-not-are_key_and_value.true)

pub returns-clause-some : goal.returns-clause-some
returns-clause-some c =
    parts_some c.args.params.now _ _ _ _ c.in-Some.ensures.some (sym c.are_key_and_value.ensures ∙ c.if-not-are_key_and_value.false)
