use Rattle.std.proofs.Common.{◌≡◌, true, take}
use Rattle.std.specs.List.{list_all}
use Rattle.ncc_session.specs.Checks.{is_text}
use Rattle.ncc_session.proofs.checks.are_texts.Given as goal

-- the values so far are texts
abbrev pub invariant-loop-value : goal.invariant-loop-value
invariant-loop-value l = list_all is_text (take l.value-index l.values) ≡ true
