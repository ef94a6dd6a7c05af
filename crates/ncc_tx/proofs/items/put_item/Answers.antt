use Rattle.std.proofs.Common.{◌≡◌, ◌++◌, arith}
use Rattle.std.specs.Int.{w64, to_be_bytes}
use Rattle.std.proofs.lemmas.Result.{on_ok_weaker}
use Rattle.ncc_tx.proofs.ItemBytes.{allowed_short, item_put}
use Rattle.ncc_tx.proofs.items.put_item.Goals as goal

pub returns-clause-ok : goal.returns-clause-ok
returns-clause-ok c =
    let short = allowed_short c.args.item.now.entry c.requires in
    on_ok_weaker c.put_entry.result
    (λ e. item_put c.args.into.now.items c.extend_from_slice.new.self.items c.extend_from_slice-2.new.self.items
    c.put_entry.new.into.items c.entry_len-size.result c.args.item.now
    (cc (c.in_ok-extend_from_slice.ensures.items, c.to_be_bytes.ensures)) (cc (
      c.in_ok-extend_from_slice-2.ensures.items,
      c.to_be_bytes-2.ensures,
    )) e (grind (arith, short, c.entry_len-size.ensures.length)))
    c.put_entry.ensures.ok
