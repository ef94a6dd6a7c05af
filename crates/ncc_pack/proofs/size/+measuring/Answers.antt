use Rattle.std.proofs.Common.{length, ◌∙◌, rules, arith}
use denote.Param.Weighed.{at_most}
use Rattle.ncc_pack.specs.Spells.{lists, dicts}
use Rattle.ncc_pack.specs.Short.{text, short, head}
use Rattle.ncc_pack.specs.declared.value.Value.{the_lemmas}
use Rattle.ncc_pack.specs.declared.value.NodeValue.{the_lemmas as node_lemmas}
use Rattle.ncc_pack.proofs.Loops.{spelled_more, pairs_more, item_fits, pair_parts, node_labels, node_props, value_list, value_dict}
use Rattle.ncc_pack.proofs.Loops.{value_node, text_size, bytes_size}
use Rattle.ncc_pack.proofs.Sizes.{goes_on, pair_goes_on}
use Rattle.ncc_pack.proofs.size.+measuring.Goals as goal

pub values_len-value_len-requires : goal.values_len-value_len-requires
values_len-value_len-requires t c = (
  grind (arith, at_most),
  item_fits _ _ _ _ c.as_slice-value-items.ensures.same c.loop-value-test.true
      c.value-item.is c.requires,
)

pub dict_len-text_len-requires : goal.dict_len-text_len-requires
dict_len-text_len-requires t c = (pair_parts _ _ _ _ c.as_slice-pair-items.ensures.same c.loop-pair-test.true c.pair-item.is c.requires).0

pub dict_len-value_len-requires : goal.dict_len-value_len-requires
dict_len-value_len-requires t c = (
  search (rules, at_most),
  (pair_parts _ _ _ _ c.as_slice-pair-items.ensures.same c.loop-pair-test.true
      c.pair-item.is c.requires).1,
)

pub node_len-values_len-requires : goal.node_len-values_len-requires
node_len-values_len-requires t c = (search (rules, node_lemmas), node_labels c.args.node.now c.requires)

pub node_len-dict_len-requires : goal.node_len-dict_len-requires
node_len-dict_len-requires t c = (search (rules, node_lemmas), node_props c.args.node.now c.requires)

pub value_len-values_len-requires : goal.value_len-values_len-requires
value_len-values_len-requires t c = (search (rules, the_lemmas), value_list c.in-List.values (rw (← c.in-List.is) c.requires))

pub value_len-dict_len-requires : goal.value_len-dict_len-requires
value_len-dict_len-requires t c = (search (rules, the_lemmas), value_dict c.in-Dict.pairs (rw (← c.in-Dict.is) c.requires))

pub value_len-node_len-requires : goal.value_len-node_len-requires
value_len-node_len-requires t c = (search (rules, the_lemmas), value_node c.in-Node.node (rw (← c.in-Node.is) c.requires))

pub value_len-bytes_len-requires : goal.value_len-bytes_len-requires
value_len-bytes_len-requires t c = bytes_size c.in-Bytes.bytes (rw (← c.in-Bytes.is) c.requires)

pub value_len-text_len-requires : goal.value_len-text_len-requires
value_len-text_len-requires t c = text_size c.in-Text.text (rw (← c.in-Text.is) c.requires)

pub values_len-loop-value-preserved : goal.values_len-loop-value-preserved
values_len-loop-value-preserved t c = c.saturating_add-sum.ensures
    ∙ goes_on c.loop-value.sum c.value_len.result (head lists (length c.args.values.now)) _ _ _ c.loop-value.invariant c.value_len.ensures
    (spelled_more _ _ _ c.loop-value-test.true c.value-item.is)

pub dict_len-loop-pair-preserved : goal.dict_len-loop-pair-preserved
dict_len-loop-pair-preserved t c =
    c.saturating_add-sum.ensures
    ∙ pair_goes_on c.loop-pair.sum c.saturating_add.result c.text_len.result c.value_len.result (head dicts (length c.args.pairs.now)) _
    (text c.pair-item.result.0) (short c.pair-item.result.1) _ c.loop-pair.invariant c.text_len.ensures.is
    (omega (arith, c.text_len.ensures.small)) c.value_len.ensures c.saturating_add.ensures
    (pairs_more _ _ _ c.loop-pair-test.true c.pair-item.is)
