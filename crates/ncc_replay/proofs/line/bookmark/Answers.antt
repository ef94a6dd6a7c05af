use Rattle.ncc_replay.proofs.Words.{text_utf8}
use Rattle.ncc_replay.proofs.line.bookmark.Goals as goal

pub returns-in_default-clause-bad : goal.returns-in_default-clause-bad
returns-in_default-clause-bad c = λ cause h. (cc, λ b h. c.in_default.ensures.cases.0 (text_utf8 b c.args.word.now h.2))
