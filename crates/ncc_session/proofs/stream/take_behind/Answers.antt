use Rattle.std.proofs.Common.{◌∙◌}
use Rattle.ncc_session.proofs.Feeding.{refused_feeds}
use Rattle.ncc_session.proofs.stream.take_behind.Goals as goal

pub returns-in_default-clause-ok : goal.returns-in_default-clause-ok
returns-in_default-clause-ok c =
    refused_feeds _ _ _ _ _ _ _ c.shaken.ensures.same (λ e. c.in_default.not-More (c.shaken.ensures.answer ∙ e))
    (λ e. c.in_default.not-Chosen (c.shaken.ensures.answer ∙ e))
