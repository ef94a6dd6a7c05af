use Rattle.std.proofs.Common.{option_copied, to_z-of_z, refl, sym, ◌∙◌}
use Rattle.std.proofs.lemmas.List.Elements.{All-head, All-rest, All-same, All-filter}
use Rattle.ncc_store.specs.Exec.{taken}
use Rattle.ncc_store.specs.Pattern.{wanted_of}
use Rattle.ncc_store.specs.Layers.{IsNodeAt}
use Rattle.ncc_store.proofs.Seen.{node_in}
use Rattle.ncc_store.proofs.Scanned.{made_more, made_done}
use Rattle.ncc_store.proofs.overlay.add_made.Goals as goal

pub loop-made-init : goal.loop-made-init
loop-made-init c = record {
  can_next = tt;
  finite = tt;
  stand = All-same (λ e. IsNodeAt e.0 e.1) c.into_iter-made-iterator.result _ (c.into_iter-made-iterator.ensures.into_iter_gives
      ∙ c.range-made-items.ensures.between tt) (All-filter _ (λ e. IsNodeAt e.0 e.1) c.args.written.now.entries c.requires);
  so_far = refl;
}

pub add_taken-requires : goal.add_taken-requires
add_taken-requires c = node_in c.in-Some.field-0-0.now c.in-Some.made.now c.as_ref.result (All-head (λ e. IsNodeAt e.0 e.1) _ _
    (All-same (λ e. IsNodeAt e.0 e.1) _ _ (sym c.in-Some.ensures.steps) c.loop-made.invariant.stand)) c.as_ref.ensures.value

pub loop-made-preserved : goal.loop-made-preserved
loop-made-preserved c = record {
  can_next = tt;
  finite = tt;
  stand = All-rest (λ e. IsNodeAt e.0 e.1) _ _ _ c.in-Some.ensures.steps c.loop-made.invariant.stand;
  so_far = made_more (taken (option_copied c.args.label) (wanted_of c.args.wanted.now)) _ c.loop-made.made-iterator c.next.new.self _
      c.add_taken.new.found.items c.loop-made.found.items _ c.in-Some.ensures.steps c.in_ok-add_taken.ensures c.as_ref.ensures.value
      c.loop-made.invariant.so_far;
}

pub returns : goal.returns
returns c =
    made_done (taken (option_copied c.args.label) (wanted_of c.args.wanted.now)) _ c.args.next c.args.written.now.entries
    c.into_iter-made-iterator.result c.loop-made.made-iterator c.loop-made.found.items c.args.found.now.items
    c.in-None.ensures.steps.0 (c.into_iter-made-iterator.ensures.into_iter_gives ∙ c.range-made-items.ensures.between tt)
    (to_z-of_z c.ranges.next) c.loop-made.invariant.so_far
