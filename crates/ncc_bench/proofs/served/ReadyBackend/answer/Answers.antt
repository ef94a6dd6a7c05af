use Rattle.ncc_bench.proofs.served.ReadyBackend.answer.Goals as goal

-- the fact that is told at once is past no deadline
pub returns-in-Ok-clause-past : goal.returns-in-Ok-clause-past
returns-in-Ok-clause-past c = c.in-Ok.ensures.past c.args.deadline
