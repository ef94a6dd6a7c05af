use Rattle.ncc_store.proofs.Seen.{node_over}
use Rattle.ncc_store.proofs.overlay.seen.Goals as goal

pub returns-in-Some-clause-node : goal.returns-in-Some-clause-node
returns-in-Some-clause-node c = node_over c.args.written.now.entries _ _ c.as_ref.result c.requires.written c.in-Some.ensures.value
    c.as_ref.ensures.value
