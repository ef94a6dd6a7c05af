-- When an entry is valid at a store, the store that a history leaves, and the stamps of its places.
use Rattle.std.specs.Prelude.{◌≡◌, Bool, true, false, if◌then◌else◌, map, pos, List, [], ◌∷◌, Ok, Err}
use Rattle.ncc_pack.specs.declared.value.Value.{Value}
use Rattle.ncc_store.specs.declared.step.Step.{Step}
use Rattle.ncc_store.specs.Graph.{Graph, empty}
use Rattle.ncc_store.specs.Sum.{Answer}
use Rattle.ncc_store.specs.Exec.{Ended, call_of, exec}
use Rattle.ncc_tx.specs.declared.entry.Entry.{Entry}
use Rattle.ncc_tx.specs.declared.entry.Entry.TheVariants as e
use Rattle.ncc_tx.specs.declared.entry.Item.{Item}
use Rattle.ncc_tx.specs.declared.stamp.Stamp.{Stamp}
use Rattle.ncc_tx.specs.Equal.{equal_lists}

-- a run without a fault gives the rows that were told
abbrev pub gives : List (List (List Value)) → Answer Ended → Bool
gives told (Ok r) = equal_lists told r.rows
gives told (Err f) = false

abbrev pub valid : Graph → Entry → Bool
valid g e.Noop = true
valid g (e.Tx steps told) = gives told (exec g (map call_of steps))

-- running the steps gives these rows for them, and no fault
abbrev pub RunsTo : Graph → List Step → List (List (List Value)) → Type 0
RunsTo g steps told = (end : Graph) × (exec g (map call_of steps) ≡ Ok (record { rows = told; graph = end }))

-- the store after a run
abbrev pub ended : Graph → Answer Ended → Graph
ended g (Ok r) = r.graph
ended g (Err f) = g

abbrev pub run_of : Graph → Entry → Graph
run_of g e.Noop = g
run_of g (e.Tx steps told) = ended g (exec g (map call_of steps))

-- a valid entry is run, and any other changes nothing
abbrev pub after : Graph → Entry → Graph
after g x = if valid g x then run_of g x else g

-- the store after the items of a history, one by one
unfoldable pub state_from : Graph → List Item → Graph
state_from g [] = g
state_from g (i ∷ is) = state_from (after g i.entry) is

-- the store that a history leaves: it begins with next id 0 and no node
abbrev pub state : List Item → Graph
state h = state_from (empty (pos 0)) h

-- the stamp of an item: its term, and whether its entry is valid at the store before it
abbrev pub stamp_at : Graph → Item → Stamp
stamp_at before i = record { term = i.term; valid = valid before i.entry }

-- of each item in turn, at the store that those before it leave
unfoldable pub stamps_from : Graph → List Item → List Stamp
stamps_from g [] = []
stamps_from g (i ∷ is) = stamp_at g i ∷ stamps_from (after g i.entry) is

abbrev pub stamps : List Item → List Stamp
stamps h = stamps_from (empty (pos 0)) h
