use Rattle.std.proofs.Common.{List, sym, subst}
use Rattle.std.specs.Prelude.{IsTrue}
use Rattle.std.specs.List.{All}
use Rattle.ncc_tx.specs.declared.entry.Item.{Item}
use Rattle.ncc_tx.specs.Spelled.{entry_fits}
use Rattle.ncc_tx.proofs.ItemBytes.{all_fit}
use Rattle.ncc_member.proofs.Bounds.{append_fits, without_items}
use Rattle.ncc_member.proofs.room.most_of.Goals as goal

pub items_len-requires : goal.items_len-requires
items_len-requires c =
    let fits = append_fits c.args.body.now c.in-Append.term c.in-Append.prev c.in-Append.prev_term c.in-Append.commit c.in-Append.items
    c.requires.within c.in-Append.is in
    record {
      fit = subst (λ (l : List Item). All (λ i. IsTrue (entry_fits i.entry)) l) (sym c.as_slice.ensures.same)
          (all_fit c.in-Append.items fits.entries);
    }

pub returns-in-VoteAsk : goal.returns-in-VoteAsk
returns-in-VoteAsk c = record { most = without_items c.args.body.now c.in-VoteAsk.is }
