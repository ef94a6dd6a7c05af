use Rattle.std.proofs.Common.{◌≡◌, ◌++◌, ◌∙◌, rules, arith, w64, FitsSigned}
use Rattle.std.specs.Prelude.{vec_len}
use Rattle.std.proofs.lemmas.Int.{to_z-of_z}
use denote.Param.Weighed.{at_most}
use Rattle.ncc_pack.specs.Short.{integer}
use Rattle.ncc_pack.specs.declared.value.Value.{the_lemmas}
use Rattle.ncc_pack.specs.declared.value.NodeValue.{the_lemmas as node_lemmas}
use Rattle.ncc_pack.proofs.Loops.{step, step_two, spelled_more, pairs_more, item_fits, pair_parts, node_written, node_labels, node_props}
use Rattle.ncc_pack.proofs.Loops.{value_list, value_dict, value_node, text_size, bytes_size, short_list, short_dict, short_node_value}
use Rattle.ncc_pack.proofs.Room.{node_length, item_room, pair_room, longer, longer_two}
use Rattle.ncc_pack.proofs.write.+encoding.Goals as goal

-- ---- lists

pub put_values-put_value-requires : goal.put_values-put_value-requires
put_values-put_value-requires t c =
    let items = c.as_slice-value-items.ensures.same in (
      grind (arith, at_most),
      (
        item_fits _ _ _ _ items c.loop-value-test.true c.value-item.is c.requires.some,
        item_room c.args.values.now c.as_slice-value-items.result.now c.loop-value.value-index c.value-item.result c.len.result
            (vec_len c.args.into.now) (vec_len c.put_list_head.new.into) (vec_len c.loop-value.into) _ _ _
            items c.loop-value-test.true c.value-item.is c.len.ensures.length c.requires.room c.put_list_head.ensures.len
            c.put_list_head.ensures.capacity c.loop-value.invariant.1 c.loop-value.invariant.2,
      ),
    )

pub put_values-loop-value-preserved : goal.put_values-loop-value-preserved
put_values-loop-value-preserved t c =
    let more = spelled_more _ _ _ c.loop-value-test.true c.value-item.is in (
      step _ _ _ _ _ _ c.put_value.ensures.items c.loop-value.invariant.0 more,
      longer _ _ _ _ _ _ c.loop-value.invariant.1 c.put_value.ensures.len more,
      omega (arith, c.loop-value.invariant.2, c.put_value.ensures.capacity),
    )

-- ---- dictionaries

pub put_dict-put_text-requires-clause-small : goal.put_dict-put_text-requires-clause-small
put_dict-put_text-requires-clause-small t c = (pair_parts _ _ _ _ c.as_slice-pair-items.ensures.same c.loop-pair-test.true c.pair-item.is
    c.requires.some).0

pub put_dict-put_text-requires-clause-room : goal.put_dict-put_text-requires-clause-room
put_dict-put_text-requires-clause-room t c =
    let room = pair_room c.args.pairs.now c.as_slice-pair-items.result.now c.loop-pair.pair-index c.pair-item.result c.len.result
    (vec_len c.args.into.now) (vec_len c.put_dict_head.new.into) (vec_len c.loop-pair.into) _ _ _
    c.as_slice-pair-items.ensures.same c.loop-pair-test.true c.pair-item.is c.len.ensures.length c.requires.room c.put_dict_head.ensures.len
    c.put_dict_head.ensures.capacity c.loop-pair.invariant.1 c.loop-pair.invariant.2 in
    omega (arith, room)

pub put_dict-put_value-requires : goal.put_dict-put_value-requires
put_dict-put_value-requires t c =
    let room = pair_room c.args.pairs.now c.as_slice-pair-items.result.now c.loop-pair.pair-index c.pair-item.result c.len.result
    (vec_len c.args.into.now) (vec_len c.put_dict_head.new.into) (vec_len c.loop-pair.into) _ _ _
    c.as_slice-pair-items.ensures.same c.loop-pair-test.true c.pair-item.is c.len.ensures.length c.requires.room c.put_dict_head.ensures.len
    c.put_dict_head.ensures.capacity c.loop-pair.invariant.1 c.loop-pair.invariant.2 in (
      search (rules, at_most),
      (
        (pair_parts _ _ _ _ c.as_slice-pair-items.ensures.same c.loop-pair-test.true c.pair-item.is c.requires.some).1,
        omega (arith, room, c.put_text.ensures.len, c.put_text.ensures.capacity),
      ),
    )

pub put_dict-loop-pair-preserved : goal.put_dict-loop-pair-preserved
put_dict-loop-pair-preserved t c =
    let more = pairs_more _ _ _ c.loop-pair-test.true c.pair-item.is in (
      step_two _ _ _ _ _ _ _ _ c.put_value.ensures.items c.put_text.ensures.items c.loop-pair.invariant.0 more,
      longer_two _ _ _ _ _ _ _ _ c.loop-pair.invariant.1 c.put_text.ensures.len c.put_value.ensures.len more,
      omega (arith, c.loop-pair.invariant.2, c.put_text.ensures.capacity, c.put_value.ensures.capacity),
    )

-- ---- nodes

pub put_node-put_values-requires : goal.put_node-put_values-requires
put_node-put_values-requires t c =
    let fits : FitsSigned w64 c.args.node.now.id = search rules in
    let put = rw (to_z-of_z w64 c.args.node.now.id fits) at c.put_integer.ensures.len in (
      search (rules, node_lemmas),
      (
        node_labels c.args.node.now c.requires.some,
        omega (
          arith,
          c.requires.room,
          node_length c.args.node.now,
          c.append.ensures.len,
          c.append.ensures.capacity,
          put,
          c.put_integer.ensures.capacity,
        ),
      ),
    )

pub put_node-put_dict-requires : goal.put_node-put_dict-requires
put_node-put_dict-requires t c =
    let fits : FitsSigned w64 c.args.node.now.id = search rules in
    let put = rw (to_z-of_z w64 c.args.node.now.id fits) at c.put_integer.ensures.len in (
      search (rules, node_lemmas),
      (
        node_props c.args.node.now c.requires.some,
        omega (
          arith,
          c.requires.room,
          node_length c.args.node.now,
          c.append.ensures.len,
          c.append.ensures.capacity,
          put,
          c.put_integer.ensures.capacity,
          c.put_values.ensures.len,
          c.put_values.ensures.capacity,
        ),
      ),
    )

pub put_node-returns-clause-items : goal.put_node-returns-clause-items
put_node-returns-clause-items t c =
    let fits : FitsSigned w64 c.args.node.now.id = search rules in
    let put : c.put_integer.new.into.items ≡ c.append.new.into.items ++ integer c.args.node.now.id =
    rw (to_z-of_z w64 c.args.node.now.id fits) at c.put_integer.ensures.items in
    c.put_dict.ensures.items ∙ node_written c.args.node.now c.args.into.now.items c.append.new.into.items c.put_integer.new.into.items
    c.put_values.new.into.items c.append.ensures.items put c.put_values.ensures.items

pub put_node-returns-clause-len : goal.put_node-returns-clause-len
put_node-returns-clause-len t c =
    let fits : FitsSigned w64 c.args.node.now.id = search rules in
    let put = rw (to_z-of_z w64 c.args.node.now.id fits) at c.put_integer.ensures.len in
    omega (arith, node_length c.args.node.now, c.append.ensures.len, put, c.put_values.ensures.len, c.put_dict.ensures.len)

-- ---- values

pub put_value-put_values-requires : goal.put_value-put_values-requires
put_value-put_values-requires t c = (
  search (rules, the_lemmas),
  (value_list c.in-List.values (rw (← c.in-List.is) c.requires.some), rw (← short_list c.in-List.values, ← c.in-List.is) c.requires.room),
)

pub put_value-put_dict-requires : goal.put_value-put_dict-requires
put_value-put_dict-requires t c = (
  search (rules, the_lemmas),
  (value_dict c.in-Dict.pairs (rw (← c.in-Dict.is) c.requires.some), rw (← short_dict c.in-Dict.pairs, ← c.in-Dict.is) c.requires.room),
)

pub put_value-put_node-requires : goal.put_value-put_node-requires
put_value-put_node-requires t c = (
  search (rules, the_lemmas),
  (
    value_node c.in-Node.node (rw (← c.in-Node.is) c.requires.some),
    rw
        (← short_node_value c.in-Node.node, ← c.in-Node.is) c.requires.room,
  ),
)

pub put_value-put_text-requires-clause-small : goal.put_value-put_text-requires-clause-small
put_value-put_text-requires-clause-small t c = text_size c.in-Text.written (rw (← c.in-Text.is) c.requires.some)

pub put_value-put_bytes-requires-clause-small : goal.put_value-put_bytes-requires-clause-small
put_value-put_bytes-requires-clause-small t c = bytes_size c.in-Bytes.written (rw (← c.in-Bytes.is) c.requires.some)
