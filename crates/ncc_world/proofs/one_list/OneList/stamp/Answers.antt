use Rattle.std.proofs.Common.{◌∙◌, ap, arith, List, [], get_or}
use Rattle.ncc_tx.specs.declared.entry.Item.{Item}
use Rattle.ncc_tx.specs.State.{stamps}
use Rattle.ncc_apply.specs.View.{stamp_of}
use Rattle.ncc_world.proofs.one_list.OneList.stamp.Goals as goal

pub returns-then-count-eq0 : goal.returns-then-count-eq0
returns-then-count-eq0 c = record {
  stamp = λ s lists k. absurd (omega (arith, c.if-count-eq0.true, c.count.ensures.count s lists k, k.some));
}

pub returns : goal.returns
returns c = record {
  stamp = λ s lists k.
      let none : List Item = [] in
      c.stamp.ensures.stamp (get_or lists 0 none) (c.shelf.ensures.stands s lists k)
      ∙ ap (λ (l : List Item). stamp_of c.args.place (stamps l)) k.first;
}
