-- What the test of validity means, and how the store of a history grows.
use Rattle.std.proofs.Common.{◌≡◌, refl, sym, ◌∙◌, ap, IsTrue, ◌↔◌, List, [], ◌∷◌, ◌++◌, map, Ok, Err, subst}
use Rattle.ncc_pack.specs.declared.value.Value.{Value}
use Rattle.ncc_store.specs.declared.step.Step.{Step}
use Rattle.ncc_store.specs.Graph.{Graph}
use Rattle.ncc_store.specs.Sum.{Answer}
use Rattle.ncc_store.specs.Exec.{Ended, call_of, exec}
use Rattle.ncc_tx.specs.declared.entry.Entry.TheVariants as e
use Rattle.ncc_tx.specs.declared.entry.Item.{Item}
use Rattle.ncc_tx.specs.State.{after, gives, stamp_at, stamps_from, state_from, valid, RunsTo}
use Rattle.ncc_tx.proofs.Decided.{lists_decided}

abbrev Told : Type 0
Told = List (List (List Value))

pub grows : (g : Graph) (h : List Item) (i : Item) → state_from g (h ++ i ∷ []) ≡ after (state_from g h) i.entry
unfolding state_from
grows g [] i = refl
grows g (x ∷ h) i = grows (after g x.entry) h i

pub stamped : (g : Graph) (h : List Item) (i : Item) → stamps_from g (h ++ i ∷ []) ≡ stamps_from g h ++ stamp_at (state_from g h) i ∷ []
unfolding state_from stamps_from
stamped g [] i = refl
stamped g (x ∷ h) i = ap (λ l. stamp_at g x ∷ l) (stamped (after g x.entry) h i)

-- ---- validity

abbrev run_to : Told → Graph → Answer Ended
run_to told g = Ok (record { rows = told; graph = g })

-- a run with these rows, where the test says so
gave : (told : Told) (run : Answer Ended) → IsTrue (gives told run) → (end : Graph) × (run ≡ run_to told end)
gave told (Ok r) test = (r.graph, sym (ap (λ (rows : Told). run_to rows r.graph) ((lists_decided told r.rows).0 test)))
gave told (Err f) test = absurd (cc)

gives_again : (told : Told) (end : Graph) → IsTrue (gives told (run_to told end))
gives_again told end = (lists_decided told told).1 refl

pub means : (g : Graph) (steps : List Step) (told : Told) → IsTrue (valid g (e.Tx steps told)) ↔ RunsTo g steps told
means g steps told = (
  gave told (exec g (map call_of steps)),
  λ r. subst (λ (run : Answer Ended). IsTrue (gives told run)) (sym r.1) (gives_again told r.0),
)
