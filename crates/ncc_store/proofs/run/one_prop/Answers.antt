use Rattle.std.proofs.Common.{◌≡◌, [], ap, sym, subst, ◌∙◌}
use Rattle.std.proofs.lemmas.List.Elements.{All-nil}
use Rattle.ncc_store.specs.Props.{Props, ArePlain, put}
use Rattle.ncc_store.proofs.Plain.{plain_answer, plain_put}
use Rattle.ncc_store.proofs.run.one_prop.Goals as goal

pub returns-clause-plain : goal.returns-clause-plain
returns-clause-plain c =
    let e : c.put.new.self ≡ put [] c.args.key.now c.args.value = c.in_ok-put.ensures
    ∙ ap (λ (ps : Props). put ps c.args.key.now c.args.value) c.new-draft.ensures in
    plain_answer c.into_dict.result c.put.new.self c.into_dict.ensures.same (subst ArePlain (sym e) (plain_put [] c.args.key.now
    c.args.value (All-nil _)))
