use Rattle.ncc_route.proofs.Numbers.{table_past}
use Rattle.ncc_route.proofs.Texts.{table_texts}
use Rattle.ncc_route.proofs.table.table_of.Goals as goal

pub returns-clause-unknown : goal.returns-clause-unknown
returns-clause-unknown c =
    table_past c.args.members.now c.args.leader c.args.now c.args.ttl c.in_ok-write.write c.in_ok-read.read c.in_ok-route.route
    c.in_ok-write.ensures c.in_ok-read.ensures c.in_ok-route.ensures.equal

pub returns-clause-texts : goal.returns-clause-texts
returns-clause-texts c =
    table_texts c.args.members.now c.args.leader c.args.now c.args.ttl c.in_ok-write.write c.in_ok-read.read c.in_ok-route.route
    c.in_ok-write.ensures c.in_ok-read.ensures c.in_ok-route.ensures.equal c.requires.texts
