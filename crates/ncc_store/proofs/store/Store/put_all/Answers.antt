use Rattle.std.proofs.Common.{rules, arith, ◌≡◌, ℤ, length, take_at, ◌++◌, List, SFits, to_z, of_z, to_z-of_z, w64, filter, not, true}
use Rattle.std.proofs.Common.{false, int_lt, int_eq, sym, ap, ap₂, subst, ◌∙◌}
use Rattle.std.specs.List.{list_any}
use Rattle.std.specs.Bool.{beq}
use Rattle.ncc_store.specs.declared.node.StoredNode.{StoredNode}
use Rattle.ncc_store.specs.Graph.{replaced}
use Rattle.ncc_store.specs.Delta.{IsOver, applied}
use Rattle.ncc_store.proofs.Deltas.{put_in_steps}
use Rattle.ncc_store.proofs.Earlier.{legal_applied}
use Rattle.ncc_store.proofs.Legal.{legal_same}
use Rattle.ncc_store.proofs.store.Store.put_all.Goals as goal

next_is : (c : goal.After-drop-made-2) → to_z w64 (of_z w64 c.args.delta.now.next) ≡ c.args.delta.now.next
next_is c = let f : SFits w64 c.args.delta.now.next = search rules in to_z-of_z f

nodes_are : (c : goal.After-drop-made-2) → c.append.new.self.items
    ≡ (applied c.args.delta.now (record { next = c.self.inside.next; nodes = c.self.inside.nodes.items })).nodes
nodes_are c =
    let same_length : length c.renew.new.nodes ≡ c.reserve.new.self.len = omega arith in
    let a : c.append.new.self.items ≡ c.remove_all.new.nodes.items ++ c.in_ok-made.made.items = search rules in
    let b : c.remove_all.new.nodes.items ≡ filter (λ n. not (list_any (int_eq n.id) c.args.delta.now.gone)) c.renew.new.nodes =
    c.remove_all.ensures.items ∙ ap₂ (λ (is : List ℤ) (ns : List StoredNode). filter (λ n. not (list_any (int_eq n.id) is)) ns)
    c.as_slice-3.ensures.same (take_at c.renew.new.nodes _ c.reserve.new.self.len same_length) in
    let d : c.renew.new.nodes ≡ replaced c.in_ok-changed.changed.items c.self.inside.nodes.items = search rules in
    let e : c.in_ok-changed.changed.items ≡ filter (λ n. beq false (not (int_lt n.id c.self.inside.next))) c.args.delta.now.put =
    search rules in
    let f : c.in_ok-made.made.items ≡ filter (λ n. beq true (not (int_lt n.id c.self.inside.next))) c.args.delta.now.put = search rules in
    put_in_steps c.args.delta.now (record { next = c.self.inside.next; nodes = c.self.inside.nodes.items }) _ _ _ _ _ c.self.invariant
    c.requires.over.put a b d e f

pub invariant_of-self-2 : goal.invariant_of-self-2
invariant_of-self-2 c =
    legal_same _ _ _ _ (next_is c) (nodes_are c) (legal_applied (record {
      next = c.self.inside.next;
      nodes =
          c.self.inside.nodes.items;
    }) c.args.delta.now c.self.invariant (subst (λ g. IsOver g c.args.delta.now) (sym c.self.view_is)
    c.requires.over))

pub returns-clause-ok : goal.returns-clause-ok
returns-clause-ok c = ap₂ (λ i ns. record { next = i; nodes = ns }) (next_is c) (nodes_are c) ∙ ap (applied c.args.delta.now) c.self.view_is
