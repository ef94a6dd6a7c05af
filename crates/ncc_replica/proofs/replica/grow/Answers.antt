use Rattle.std.proofs.Common.{◌≡◌, ◌+◌, ◌-◌, ◌∙◌, arith, length, rules}
use Rattle.std.proofs.lemmas.List.{take_rest}
use Rattle.ncc_replica.proofs.Judged.{grown_ok}
use Rattle.ncc_replica.proofs.replica.grow.Goals as goal

pub returns-clause-ok : goal.returns-clause-ok
returns-clause-ok c =
    let n : c.len.result ≡ length c.args.log.now.items = first_of (search rules, grind arith) in
    let rest = take_rest c.args.items.now (c.len.result + 1 - c.args.first) in
    grown_ok c.append.result c.args.log.now.items c.args.items.now c.append.new.self.items c.in_ok-copy_items.field-0 c.into_vec-more.result.items
    c.args.first c.len.result c.requires.taken n (c.in_ok-copy_items.ensures.equal ∙ rest) c.into_vec-more.ensures.same c.append.ensures.items
