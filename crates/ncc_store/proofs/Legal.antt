-- Graphs that are legal.
use Rattle.std.proofs.Common.{◌≡◌, ℤ, pos, ◌≤ℤ◌, List, [], sym, ap₂, subst}
use Rattle.std.proofs.lemmas.List.Elements.{All-nil}
use Rattle.ncc_store.specs.declared.node.StoredNode.{StoredNode}
use Rattle.ncc_store.specs.Graph.{IsGraph, last_id}
use Rattle.ncc_store.proofs.Placed.{ascends_nil}

pub legal_same : (next : ℤ) (nodes : List StoredNode) (n : ℤ) (ns : List StoredNode) → next ≡ n → nodes ≡ ns
    → IsGraph (record { next = n; nodes = ns }) → IsGraph (record { next = next; nodes = nodes })
legal_same next nodes n ns e f h = subst IsGraph (ap₂ (λ (i : ℤ) (xs : List StoredNode). record { next = i; nodes = xs }) (sym e) (sym f)) h

pub legal_empty : (next : ℤ) (nodes : List StoredNode) (n : ℤ) → next ≡ n → nodes ≡ [] → pos 0 ≤ℤ n → n ≤ℤ last_id
    → IsGraph (record { next = next; nodes = nodes })
legal_empty next nodes n e f low high = legal_same next nodes n [] e f (record {
  placed = record {
    low = low;
    high = high;
    ascending =
        ascends_nil;
    below = All-nil _;
  };
  nodes = All-nil _;
})
