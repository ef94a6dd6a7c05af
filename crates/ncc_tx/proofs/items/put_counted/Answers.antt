use Rattle.std.proofs.Common.{◌≡◌, length, refl}
use Rattle.std.proofs.lemmas.Result.{on_ok_weaker}
use Rattle.ncc_tx.proofs.ItemBytes.{counted_put}
use Rattle.ncc_tx.proofs.items.put_counted.Goals as goal

pub returns-clause-ok : goal.returns-clause-ok
returns-clause-ok c =
    on_ok_weaker c.put_items.result
    (λ e. counted_put c.args.into.now.items c.extend_from_slice.new.self.items c.put_items.new.into.items
    (length c.args.items.now) c.args.items.now
    (cc (c.in_ok-extend_from_slice.ensures.items, c.to_be_bytes.ensures)) e refl)
    c.put_items.ensures.ok
