-- What a member tells a connection answers its question.
use Rattle.std.proofs.Common.{◌≡◌, inl, inr, ℕ, ◌-◌, Bool, true, false, IsTrue, Option, Some, None, Ok, Err, List, [], ◌∷◌, cond, not, ◌&&◌}
use Rattle.std.proofs.Common.{length, map, refl, sym, ◌∙◌, ap, subst, arith, get_or}
use Rattle.std.specs.Prelude.{if◌then◌else◌, slice_get, pos, ◌==◌}
use Rattle.std.specs.Int.Signed.{≤ℤ_refl}
use Rattle.std.proofs.lemmas.Int.{ints}
use Rattle.std.proofs.lemmas.Option.{slice_get_cases}
use Rattle.std.specs.List.Sorted.{IsStrictlySortedBy}
use Rattle.std.specs.List.{All}
use Rattle.ncc_wait.specs.Waiting.{outcome_of}
use Rattle.ncc_wait.specs.declared.outcomes.Outcome.{Outcome}
use Rattle.ncc_wait.specs.declared.outcomes.Outcome.TheVariants.{Ready, NotYet, Late as IsLate}
use Rattle.ncc_store.specs.declared.call.Call.{Call}
use Rattle.ncc_store.proofs.Limits.{all_keep}
use Rattle.ncc_store.proofs.Lasting.{stays_placed}
use Rattle.ncc_store.specs.Graph.{Graph, IsPlaced, empty}
use Rattle.ncc_store.specs.Rows.{rows_keep}
use Rattle.ncc_store.specs.Exec.{Ended, call_of, exec}
use Rattle.ncc_store.specs.Sum.{Answer}
use Rattle.ncc_tx.specs.declared.entry.Entry.{Entry}
use Rattle.ncc_tx.specs.declared.entry.Entry.TheVariants as e
use Rattle.ncc_tx.specs.declared.entry.Item.{Item}
use Rattle.ncc_tx.specs.declared.stamp.Stamp.{Stamp}
use Rattle.ncc_tx.specs.State.{state, stamps, state_from, after, run_of, valid, ended}
use Rattle.ncc_apply.specs.View.{stamp_of}
use Rattle.ncc_session.specs.declared.ask.Fact.{Fact}
use Rattle.ncc_session.specs.declared.ask.Fact.TheVariants as f
use Rattle.ncc_session.specs.Question.{Question, enter, run, leave, leave_noop, route, Row, fits, fits_run, fits_leave, some_writes, last_writes}
use Rattle.ncc_session.specs.Talk.{asked, fits_at}
use Rattle.ncc_clients.specs.Run.{Client, Placing, waits, tells, reply, reply_by, question_of, deadline_of, answers, enters, ran, last_rows, leaves, lands, found, found_at}
use Rattle.ncc_world.specs.declared.setup.Setup.{Setup}
use Rattle.ncc_world.specs.declared.seen.ConnSeen.{ConnSeen}
use Rattle.ncc_world.specs.declared.served.Served.{Served}
use Rattle.ncc_world.specs.Setting.{cluster_of, lists_of}
use Rattle.ncc_world.specs.Happening.{WorldRun}
use Rattle.ncc_world.specs.World.{IsClient, asked_by}
use Rattle.ncc_world.proofs.Rooms.{eq_yes}
use Rattle.ncc_world.proofs.Keeping.{asked_is}
use Rattle.ncc_world.proofs.Turning.{reply_some}

kept_at : (lists : List (List Row)) (n : ℕ) (rows : List Row) → slice_get lists n ≡ Some rows → All (λ rows. IsTrue (rows_keep rows)) lists
    → IsTrue (rows_keep rows)
kept_at lists n rows e all = elim (slice_get_cases lists n).1 [
  | inl c ↦ (
      let s : c.0 ≡ rows = (let a = c.2 in cc) in
      subst (λ (r : List Row). IsTrue (rows_keep r)) s (subst (λ (r : List Row). IsTrue (rows_keep r)) c.3 (all n c.0 c.1)))
  | inr c ↦ absurd (let a = c.1 in cc)
]

placed_none : IsPlaced (empty (pos 0))
unfolding IsStrictlySortedBy
placed_none = record { low = ≤ℤ_refl (pos 0); high = omega (arith, ints); ascending = tt; below = λ k d h. absurd (omega arith) }

placed_by : (b : Bool) (g x : Graph) → IsPlaced g → IsPlaced x → IsPlaced (if b then x else g)
placed_by true g x h k = k
placed_by false g x h k = h

placed_ended : (g : Graph) (r : Answer Ended) (calls : List Call) → exec g calls ≡ r → IsPlaced g → IsPlaced (ended g r)
placed_ended g (Ok end) calls e h = stays_placed g calls end h e
placed_ended g (Err fault) calls e h = h

placed_run : (g : Graph) (entry : Entry) → IsPlaced g → IsPlaced (run_of g entry)
placed_run g e.Noop h = h
placed_run g (e.Tx steps told) h = placed_ended g (exec g (map call_of steps)) (map call_of steps) refl h

placed_from : (g : Graph) (h : List Item) → IsPlaced g → IsPlaced (state_from g h)
unfolding state_from
placed_from g [] k = k
placed_from g (i ∷ is) k = placed_from (after g i.entry) is (placed_by (valid g i.entry) g (run_of g i.entry) k (placed_run g i.entry k))

last_keep : (lists : List (List Row)) (o : Option (List Row)) → slice_get lists (length lists - 1) ≡ o
    → All (λ rows. IsTrue (rows_keep rows)) lists
    → IsTrue (rows_keep (last_rows lists))
last_keep lists None e all = rw (e, last_rows) refl
last_keep lists (Some rows) e all = rw (e, last_rows) (kept_at lists (length lists - 1) rows e all)

ran_fits : (g : Graph) (at : ℕ) (calls : List Call) (r : Answer Ended) → exec g calls ≡ r → IsPlaced g → IsTrue (fits_run calls (ran at r))
ran_fits g at calls (Ok end) e h = last_keep end.rows (slice_get end.rows (length end.rows - 1)) refl (all_keep g calls end h e)
ran_fits g at calls (Err fault) e h = refl

told_by : (q : Question) (g fact : Fact) → IsTrue (fits q g) → tells g ≡ tells fact → IsTrue (fits q fact)
told_by q g fact h e = let same : g ≡ fact = cc in subst (λ (x : Fact). IsTrue (fits q x)) same h

enter_fits : (at need now : ℕ) (o : Outcome) (fact : Fact) → enters at need now o ≡ tells fact → IsTrue (fits (enter need) fact)
enter_fits at need now Ready fact e = told_by (enter need) (f.Entered at) fact refl e
enter_fits at need now NotYet fact e = absurd (cc)
enter_fits at need now IsLate fact e = told_by (enter need) (f.Late need at now) fact (eq_yes need need refl) e

run_by : (leads last : Bool) (calls : List Call) (g fact : Fact) → last_writes calls ≡ last → IsTrue (fits (run calls) g)
    → cond (last && not leads) (tells f.Elsewhere) (tells g) ≡ tells fact → IsTrue (fits (run calls) fact)
run_by leads false calls g fact w h e = told_by (run calls) g fact h e
run_by true true calls g fact w h e = told_by (run calls) g fact h e
run_by false true calls g fact w h e = told_by (run calls) f.Elsewhere fact w e

found_fits : (calls : List Call) (told : List (List Row)) (p : Placing) (a b : Bool) (found : ℕ) → some_writes calls ≡ true
    → IsTrue (fits (leave calls told) (if a then (if b then f.Placed p.place else f.Stale p.place) else f.Replaced p.place p.term found))
found_fits calls told p true true found w = ap (λ (x : Bool). fits_leave x (f.Placed p.place)) w
found_fits calls told p true false found w = ap (λ (x : Bool). fits_leave x (f.Stale p.place)) w
found_fits calls told p false b found w = ap (λ (x : Bool). fits_leave x (f.Replaced p.place p.term found)) w

lands_fits : (calls : List Call) (told : List (List Row)) (list : List Item) (now : ℕ) (p : Placing) (o : Outcome) (st : Option Stamp)
    (fact : Fact) → some_writes calls ≡ true → stamp_of p.place (stamps list) ≡ st → lands list now p o ≡ tells fact
    → IsTrue (fits (leave calls told) fact)
lands_fits calls told list now p Ready None fact w s e = absurd (let k : waits ≡ tells fact = ap (found p) (sym s) ∙ e in cc)
lands_fits calls told list now p Ready (Some x) fact w s e =
    told_by (leave calls told) (found_at p x) fact (found_fits calls told p (x.term == p.term) x.valid x.term w) (ap (found p) (sym s) ∙ e)
lands_fits calls told list now p NotYet st fact w s e = absurd (cc)
lands_fits calls told list now p IsLate st fact w s e =
    told_by (leave calls told) (f.Unsure p.place (length list) now) fact
    (ap (λ (x : Bool). fits_leave x (f.Unsure p.place (length list) now)) w) e

leave_fits : (calls : List Call) (told : List (List Row)) (list : List Item) (now deadline : ℕ) (b : Bool) (placing : Option Placing) (fact : Fact)
    → some_writes calls ≡ b → leaves list now deadline b placing ≡ tells fact → IsTrue (fits (leave calls told) fact)
leave_fits calls told list now deadline false placing fact w e =
    told_by (leave calls told) (f.Done (length list)) fact (ap (λ (x : Bool). fits_leave x (f.Done (length list))) w) e
leave_fits calls told list now deadline true None fact w e = absurd (cc)
leave_fits calls told list now deadline true (Some p) fact w e =
    lands_fits calls told list now p (outcome_of (length list) p.place now deadline) (stamp_of p.place (stamps list)) fact w refl e

pub answer_fits : (s : Setup) (r : WorldRun) (c : Client) (q : Question) (fact : Fact) → answers (cluster_of s) r c q ≡ tells fact
    → IsTrue (fits q fact)
answer_fits s r c (enter need) fact e = enter_fits _ need r.now _ fact e
answer_fits s r c (run calls) fact e =
    let list : List Item = get_or (lists_of r.members) (c.member - 1) [] in
    run_by ((cluster_of s).leads r.members c.member) (last_writes calls) calls (ran (length list) (exec (state list) calls)) fact refl
    (ran_fits (state list) (length list) calls (exec (state list) calls) refl (placed_from _ list placed_none)) e
answer_fits s r c (leave calls told) fact e =
    leave_fits calls told (get_or (lists_of r.members) (c.member - 1) []) r.now (deadline_of (cluster_of s) c) (some_writes calls) c.placing fact refl e
answer_fits s r c leave_noop fact e = told_by leave_noop (f.Done (length (get_or (lists_of r.members) (c.member - 1) []))) fact refl e
answer_fits s r c route fact e = told_by route (f.Routed ((cluster_of s).leader r.members c.member)) fact refl e

-- so it does at the session
asked_open : (v : Served) (b : Bool) (q : Question) (fact : Fact) → v.closed ≡ b → asked_by v ≡ Some q → IsTrue (fits q fact) → IsTrue (fits_at (asked v.conn) fact)
asked_open v true q fact w e h = absurd (let k : None ≡ Some q = ap (λ (x : Bool). cond x None (asked v.conn)) (sym w) ∙ e in cc)
asked_open v false q fact w e h =
    subst (λ (o : Option Question). IsTrue (fits_at o fact)) (sym (ap (λ (x : Bool). cond x None (asked v.conn)) (sym w) ∙ e)) h

pub fits_here : (s : Setup) (v : Served) (seen : ConnSeen) (c : Client) (q : Question) (fact : Fact) → IsClient s v seen c
    → question_of (cluster_of s) c ≡ Some q → IsTrue (fits q fact) → IsTrue (fits_at (asked v.conn) fact)
fits_here s v seen c q fact k e h = asked_open v v.closed q fact refl (asked_is s v seen c k.kept ∙ e) h

told_question : (s : Setup) (r : WorldRun) (v : Served) (seen : ConnSeen) (c : Client) (fact : Fact) (o : Option Question)
    → question_of (cluster_of s) c ≡ o → IsClient s v seen c → reply (cluster_of s) r c ≡ tells fact → IsTrue (fits_at (asked v.conn) fact)
unfolding reply
told_question s r v seen c fact None e k h = absurd (let z : waits ≡ tells fact = ap (λ (o : Option Question). reply_by (cluster_of s) r c o) (sym e) ∙ h in cc)
told_question s r v seen c fact (Some q) e k h =
    fits_here s v seen c q fact k e (answer_fits s r c q fact (reply_some s r c q e ∙ h))

pub told_fits : (s : Setup) (r : WorldRun) (v : Served) (seen : ConnSeen) (c : Client) (fact : Fact) → IsClient s v seen c
    → reply (cluster_of s) r c ≡ tells fact → IsTrue (fits_at (asked v.conn) fact)
told_fits s r v seen c fact k h = told_question s r v seen c fact (question_of (cluster_of s) c) refl k h
