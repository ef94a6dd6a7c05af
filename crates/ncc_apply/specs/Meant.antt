-- What two lists that a shelf stands for have in common.
use Rattle.std.proofs.Common.{◌≡◌, ◌∙◌, suc, List, [], ◌∷◌, length, refl, sym, ap}
use Rattle.ncc_store.specs.Graph.{Graph}
use Rattle.ncc_tx.specs.declared.entry.Item.{Item}
use Rattle.ncc_tx.specs.State.{after, stamps, stamps_from}
use Rattle.ncc_apply.specs.View.{Alike}
use Rattle.ncc_apply.specs.Shelf.{Shown, Stands}

each_from : (g : Graph) (h : List Item) → length (stamps_from g h) ≡ length h
unfolding stamps_from
each_from g [] = refl
each_from g (i ∷ is) = ap suc (each_from (after g i.entry) is)

-- one stamp for each item
pub one_each : (h : List Item) → length (stamps h) ≡ length h
one_each h = each_from _ h

pub alike : (s : Shown) (g h : List Item) → Stands s g → Stands s h → Alike g h
alike s g h a b = record {
  length = sym (one_each g) ∙ ap length (sym a.stamps ∙ b.stamps) ∙ one_each h;
  stamps = sym a.stamps ∙ b.stamps;
  state = sym a.graph ∙ b.graph;
}
