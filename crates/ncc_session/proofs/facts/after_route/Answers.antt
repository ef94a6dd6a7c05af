use Rattle.ncc_session.proofs.Addressed.{members_texts}
use Rattle.ncc_session.proofs.facts.after_route.Goals as goal

pub table-requires-clause-texts : goal.table-requires-clause-texts
table-requires-clause-texts c = members_texts c.args.config.now c.requires
