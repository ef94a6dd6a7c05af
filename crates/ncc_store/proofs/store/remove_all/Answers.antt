use Rattle.std.proofs.Common.{rules, length, ◌≡◌}
use Rattle.std.proofs.lemmas.Fn.{filter_same}
use Rattle.std.proofs.lemmas.List.{nil_from_length}
use Rattle.ncc_store.proofs.Searched.{none_gone}
use Rattle.ncc_store.proofs.store.remove_all.Goals as goal

pub returns-then-not-is_empty-clause-items : goal.returns-then-not-is_empty-clause-items
returns-then-not-is_empty-clause-items c = filter_same _ _ _ (λ x b f' k. search rules) _ _ c.retain.ensures.filtered

pub returns-else-not-is_empty-clause-items : goal.returns-else-not-is_empty-clause-items
returns-else-not-is_empty-clause-items c =
    let none : length c.args.gone.now ≡ 0 = search rules in
    none_gone c.args.nodes.now.items c.args.gone.now (nil_from_length c.args.gone.now none)
