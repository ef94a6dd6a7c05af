-- What a shelf answers fits the question, and a late answer names a moment past the deadline.
use Rattle.std.proofs.Common.{◌≡◌, inl, inr, ℕ, ◌+◌, ◌-◌, Bool, true, false, T, IsTrue, Option, Some, None, Ok, Err, List, [], ◌∷◌}
use Rattle.std.proofs.Common.{length, map, refl, subst, arith}
use Rattle.std.specs.Prelude.{if◌then◌else◌, nat_le, slice_get, pos, ◌==◌}
use Rattle.std.specs.Int.Signed.{≤ℤ_refl}
use Rattle.std.proofs.Math.Dec.{eqb_refl}
use Rattle.std.proofs.lemmas.Int.{ints}
use Rattle.std.proofs.lemmas.Option.{slice_get_cases}
use Rattle.std.specs.List.Sorted.{IsStrictlySortedBy}
use Rattle.ncc_store.specs.declared.call.Call.{Call}
use Rattle.ncc_store.proofs.Limits.{all_keep}
use Rattle.ncc_store.proofs.Lasting.{stays_placed}
use Rattle.ncc_session.specs.declared.ask.Fact.TheVariants as f
use Rattle.std.specs.List.{All}
use Rattle.ncc_store.specs.Graph.{Graph, IsPlaced, empty}
use Rattle.ncc_store.specs.Rows.{rows_keep}
use Rattle.ncc_store.specs.Exec.{Ended, call_of, exec}
use Rattle.ncc_store.specs.Sum.{Answer}
use Rattle.ncc_tx.specs.declared.entry.Entry.{Entry}
use Rattle.ncc_tx.specs.declared.entry.Entry.TheVariants as e
use Rattle.ncc_tx.specs.declared.entry.Item.{Item}
use Rattle.ncc_tx.specs.State.{state, state_from, after, run_of, valid, ended}
use Rattle.ncc_session.specs.declared.ask.Ask.{Ask}
use Rattle.ncc_session.specs.declared.ask.Ask.TheVariants as a
use Rattle.ncc_session.specs.Question.{Row, fits, fits_enter, fits_run, fits_leave, some_writes, ends_writing}
use Rattle.ncc_session.specs.Core.{question_of, leave_of}
use Rattle.ncc_session.specs.Turns.{MayAsk}
use Rattle.ncc_server.specs.Shelved.{last_rows, ran, placed, left, fact_by}

-- ---- lists

by_test : (b : Bool) → T b → b ≡ true
by_test true t = refl
by_test false t = absurd t

same : (n : ℕ) → (n == n) ≡ true
same n = by_test (n == n) (eqb_refl n)

kept_at : (lists : List (List Row)) (n : ℕ) (rows : List Row) → slice_get lists n ≡ Some rows → All (λ rows. IsTrue (rows_keep rows)) lists
    → IsTrue (rows_keep rows)
kept_at lists n rows e all = elim (slice_get_cases lists n).1 [
  | inl c ↦ (
      let s : c.0 ≡ rows = (let a = c.2 in cc) in
      subst (λ (r : List Row). IsTrue (rows_keep r)) s (subst (λ (r : List Row). IsTrue (rows_keep r)) c.3 (all n c.0 c.1)))
  | inr c ↦ absurd (let a = c.1 in cc)
]

-- ---- the store that a history leaves is in order

placed_none : IsPlaced (empty (pos 0))
unfolding IsStrictlySortedBy
placed_none = record { low = ≤ℤ_refl (pos 0); high = omega (arith, ints); ascending = tt; below = λ k d h. absurd (omega arith) }

placed_by : (b : Bool) (g x : Graph) → IsPlaced g → IsPlaced x → IsPlaced (if b then x else g)
placed_by true g x h k = k
placed_by false g x h k = h

placed_ended : (g : Graph) (r : Answer Ended) (calls : List Call) → exec g calls ≡ r → IsPlaced g → IsPlaced (ended g r)
placed_ended g (Ok end) calls e h = stays_placed g calls end h e
placed_ended g (Err fault) calls e h = h

placed_run : (g : Graph) (entry : Entry) → IsPlaced g → IsPlaced (run_of g entry)
placed_run g e.Noop h = h
placed_run g (e.Tx steps told) h = placed_ended g (exec g (map call_of steps)) (map call_of steps) refl h

placed_from : (g : Graph) (h : List Item) → IsPlaced g → IsPlaced (state_from g h)
unfolding state_from
placed_from g [] k = k
placed_from g (i ∷ is) k = placed_from (after g i.entry) is (placed_by (valid g i.entry) g (run_of g i.entry) k (placed_run g i.entry k))

placed_state : (h : List Item) → IsPlaced (state h)
placed_state h = placed_from _ h placed_none

-- ---- each answer fits

entered_by : (b : Bool) (at need deadline : ℕ) → IsTrue (fits_enter need (if b then f.Entered at else f.Late need at (deadline + 1)))
entered_by true at need deadline = refl
entered_by false at need deadline = same need

last_keep : (lists : List (List Row)) (o : Option (List Row)) → slice_get lists (length lists - 1) ≡ o
    → All (λ rows. IsTrue (rows_keep rows)) lists
    → IsTrue (rows_keep (last_rows lists))
last_keep lists None e all = rw (e, last_rows) refl
last_keep lists (Some rows) e all = rw (e, last_rows) (kept_at lists (length lists - 1) rows e all)

ran_fits : (g : Graph) (at : ℕ) (calls : List Call) (r : Answer Ended) → exec g calls ≡ r → IsPlaced g → IsTrue (fits_run calls (ran at r))
ran_fits g at calls (Ok end) e h = last_keep end.rows (slice_get end.rows (length end.rows - 1)) refl (all_keep g calls end h e)
ran_fits g at calls (Err fault) e h = refl

placed_fits : (place : ℕ) (b : Bool) → IsTrue (fits_leave true (placed place b))
placed_fits place true = refl
placed_fits place false = refl

left_by : (h : List Item) (entry : Entry) (b : Bool) → IsTrue (fits_leave b (left h entry b))
left_by h entry true = placed_fits (length h + 1) (valid (state h) entry)
left_by h entry false = refl

left_fits : (h : List Item) (entry : Entry) → MayAsk (leave_of entry) → IsTrue (fits (leave_of entry) (left h entry (ends_writing
    (leave_of entry))))
left_fits h e.Noop m = absurd m
left_fits h (e.Tx steps told) m = left_by h (e.Tx steps told) (some_writes (map call_of steps))

pub shelf_fits : (h : List Item) (deadline : ℕ) (ask : Ask) → MayAsk (question_of ask)
    → IsTrue (fits (question_of ask) (fact_by h deadline ask))
shelf_fits h deadline (a.Enter need) m = entered_by (nat_le need (length h)) (length h) need deadline
shelf_fits h deadline (a.Run steps) m =
    ran_fits (state h) (length h) (map call_of steps) (exec (state h) (map call_of steps)) refl (placed_state h)
shelf_fits h deadline (a.Leave entry) m = left_fits h entry m
shelf_fits h deadline a.Route m = refl
