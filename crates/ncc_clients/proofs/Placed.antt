-- The rows that a member tells are within the limits of a step's rows: the store that a list leaves is in order.
use Rattle.std.proofs.Common.{◌≡◌, inl, inr, ℕ, ◌-◌, Bool, true, false, IsTrue, Option, Some, None, Ok, Err, List, [], ◌∷◌, length, map}
use Rattle.std.proofs.Common.{refl, subst, arith}
use Rattle.std.specs.Prelude.{if◌then◌else◌, slice_get, pos}
use Rattle.std.specs.Int.Signed.{≤ℤ_refl}
use Rattle.std.proofs.lemmas.Int.{ints}
use Rattle.std.proofs.lemmas.Option.{slice_get_cases}
use Rattle.std.specs.List.{All}
use Rattle.std.specs.List.Sorted.{IsStrictlySortedBy}
use Rattle.ncc_store.specs.declared.call.Call.{Call}
use Rattle.ncc_store.specs.Graph.{Graph, IsPlaced, empty}
use Rattle.ncc_store.specs.Rows.{rows_keep}
use Rattle.ncc_store.specs.Exec.{Ended, call_of, exec}
use Rattle.ncc_store.specs.Sum.{Answer}
use Rattle.ncc_store.proofs.Limits.{all_keep}
use Rattle.ncc_store.proofs.Lasting.{stays_placed}
use Rattle.ncc_tx.specs.declared.entry.Entry.{Entry}
use Rattle.ncc_tx.specs.declared.entry.Entry.TheVariants as e
use Rattle.ncc_tx.specs.declared.entry.Item.{Item}
use Rattle.ncc_tx.specs.State.{state, state_from, after, run_of, valid, ended}
use Rattle.ncc_session.specs.Question.{Row}
use Rattle.ncc_clients.specs.Run.{last_rows}

placed_none : IsPlaced (empty (pos 0))
unfolding IsStrictlySortedBy
placed_none = record { low = ≤ℤ_refl (pos 0); high = omega (arith, ints); ascending = tt; below = λ k d h. absurd (omega arith) }

placed_by : (b : Bool) (g x : Graph) → IsPlaced g → IsPlaced x → IsPlaced (if b then x else g)
placed_by true g x h k = k
placed_by false g x h k = h

placed_ended : (g : Graph) (r : Answer Ended) (calls : List Call) → exec g calls ≡ r → IsPlaced g → IsPlaced (ended g r)
placed_ended g (Ok end) calls e h = stays_placed g calls end h e
placed_ended g (Err fault) calls e h = h

placed_run : (g : Graph) (entry : Entry) → IsPlaced g → IsPlaced (run_of g entry)
placed_run g e.Noop h = h
placed_run g (e.Tx steps told) h = placed_ended g (exec g (map call_of steps)) (map call_of steps) refl h

placed_from : (g : Graph) (h : List Item) → IsPlaced g → IsPlaced (state_from g h)
unfolding state_from
placed_from g [] k = k
placed_from g (i ∷ is) k = placed_from (after g i.entry) is (placed_by (valid g i.entry) g (run_of g i.entry) k (placed_run g i.entry k))

placed_state : (h : List Item) → IsPlaced (state h)
placed_state h = placed_from _ h placed_none

kept_at : (lists : List (List Row)) (n : ℕ) (rows : List Row) → slice_get lists n ≡ Some rows → All (λ rows. IsTrue (rows_keep rows)) lists
    → IsTrue (rows_keep rows)
kept_at lists n rows e all = elim (slice_get_cases lists n).1 [
  | inl c ↦ (
      let s : c.0 ≡ rows = (let a = c.2 in cc) in
      subst (λ (r : List Row). IsTrue (rows_keep r)) s (subst (λ (r : List Row). IsTrue (rows_keep r)) c.3 (all n c.0 c.1)))
  | inr c ↦ absurd (let a = c.1 in cc)
]

last_keep : (lists : List (List Row)) (o : Option (List Row)) → slice_get lists (length lists - 1) ≡ o
    → All (λ rows. IsTrue (rows_keep rows)) lists
    → IsTrue (rows_keep (last_rows lists))
last_keep lists None e all = rw (e, last_rows) refl
last_keep lists (Some rows) e all = rw (e, last_rows) (kept_at lists (length lists - 1) rows e all)

pub rows_are_kept : (list : List Item) (calls : List Call) (end : Ended) → exec (state list) calls ≡ Ok end
    → rows_keep (last_rows end.rows) ≡ true
rows_are_kept list calls end e =
    last_keep end.rows (slice_get end.rows (length end.rows - 1)) refl (all_keep (state list) calls end (placed_state list) e)
