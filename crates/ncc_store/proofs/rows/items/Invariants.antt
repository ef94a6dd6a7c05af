use Rattle.std.proofs.Common.{◌≡◌, drop}
use Rattle.std.specs.Option.{option_copied}
use Rattle.ncc_store.specs.Rows.{items}
use Rattle.ncc_store.proofs.Returns.{with_front}
use Rattle.ncc_store.proofs.rows.items.Given as goal

abbrev pub invariant-loop-next : goal.invariant-loop-next
invariant-loop-next l = with_front l.values (items l.params (option_copied l.node) (drop l.next-index l.next-items))
    ≡ items l.params (option_copied l.node) l.list
