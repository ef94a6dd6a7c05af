-- A counter that is raised through a link that breaks during COMMIT.
use Rattle.std.proofs.Common.{◌≡◌, ℕ, List, [], ◌∷◌, ◌++◌, refl, ap, ◌∙◌, arith}
use Rattle.std.specs.Prelude.{Option, Some, None, Ok, pos, codes}
use Rattle.rand_core.specs.Pcg32Seed.{pcg32_seed}
use Rattle.rand_core.specs.Steps.{word_bytes, u32_at}
use Rattle.ncc_pack.specs.declared.value.Value.{Value}
use Rattle.ncc_pack.specs.declared.value.Value.TheVariants as v
use Rattle.ncc_chunk.specs.Messages.{front_by, parts_by, messages_of, rest_of, is_too_long}
use Rattle.ncc_driver.specs.declared.standing.Core.{Core}
use Rattle.ncc_driver.specs.declared.standing.Asked.TheVariants as a
use Rattle.ncc_driver.specs.declared.standing.Stage.{Stage}
use Rattle.ncc_driver.specs.declared.standing.Stage.TheVariants as stage
use Rattle.ncc_driver.specs.declared.link.Item.TheVariants.{Message}
use Rattle.ncc_driver.specs.declared.action.Action.{Action}
use Rattle.ncc_driver.specs.declared.action.Action.TheVariants.{Sleep, Receive, Finish}
use Rattle.ncc_driver.specs.declared.action.Input.TheVariants as i
use Rattle.ncc_driver.specs.declared.answers.Told.TheVariants as says
use Rattle.ncc_driver.specs.Work.{Row}
use Rattle.ncc_driver.specs.Works.{add_steps, counted}
use Rattle.ncc_driver.specs.Requests.{asks, closes, pull, commit, run}
use Rattle.ncc_driver.specs.State.{words_of, new_core}
use Rattle.ncc_driver.specs.Answers.{message_of}
use Rattle.ncc_driver.specs.Attempts.{place_in}
use Rattle.ncc_driver.specs.Session.{State, Ran, Moved, new_state, begins, on, same, ahead}
use Rattle.ncc_driver.specs.Worked.{n1, config, five_minutes, success, table, record_of, null, committed, second, comes, count_up}
use Rattle.ncc_driver.specs.Worked.{reads_count, up_to_begin, up_to_commit, commit_at, BrokenCommit}
use Rattle.ncc_driver.proofs.WorkedReading.{one_writer, one_tells, success_tells, null_tells, number_tells, second_tells}
use Rattle.ncc_driver.proofs.WorkedRuns.{runs, first_runs, last_runs, one_work, answer_of, hears_one}
use Rattle.ncc_driver.proofs.WorkedAttempts.{serving, stands, greeted, attempt_there}
use Rattle.ncc_driver.proofs.WorkedWorks.{framed, second_named}

-- a transaction of the counter, from BEGIN's answer to COMMIT
module _ (now : ℕ) (c : Core) (read set : ℕ) (x : Value) where
  abbrev served : Stage → List Row → Core
  served st rows = record (serving c (one_writer n1 now 300) n1 st) { rows = rows }

  abbrev came1 : List ℕ
  came1 = greeted ++ framed success

  abbrev came2 : List ℕ
  came2 = came1 ++ framed success

  abbrev came3 : List ℕ
  came3 = came2 ++ framed (record_of read)

  abbrev came4 : List ℕ
  came4 = came3 ++ framed success

  abbrev came5 : List ℕ
  came5 = came4 ++ framed success

  abbrev came6 : List ℕ
  came6 = came5 ++ framed (record_of set)

  abbrev got : List Row
  got = (x ∷ []) ∷ []

  abbrev wrote : List Row
  wrote = (v.Int (pos set) ∷ []) ∷ []

  -- where it awaits the answer of COMMIT
  abbrev committing : State
  committing = stands (served (stage.Awaits a.Commit) wrote) (Some (got ∷ wrote ∷ [])) (came6 ++ framed success) 9

  abbrev raises : List Action
  raises =
      asks (run (codes "MATCH (n:Counter {k: $k}) SET n.v = $old + $d RETURN n.v")
      ((codes "k", v.Text (codes "c")) ∷ (codes "old", counted x) ∷ (codes "d", v.Int (pos 1)) ∷ []))

  transacts : (more : List Moved) (rest : Ran) → message_of a.Pull now [] (record_of read) ≡ says.Row (x ∷ [])
      → message_of a.Pull now [] (record_of set) ≡ says.Row (v.Int (pos set) ∷ [])
      → runs config count_up committing more ≡ rest
      → runs config count_up (stands (serving c (one_writer n1 now 300) n1 (stage.Awaits a.Begin)) None greeted 2)
      (up_to_commit now read set more)
      ≡ ahead (reads_count ++ asks pull ++ Receive ∷ raises ++ asks pull ++ Receive ∷ asks commit) rest
  unfolding messages_of is_too_long rest_of parts_by front_by
  transacts more rest reads sets h =
      let s0 = stands (served (stage.Awaits a.Begin) []) None greeted 2 in
      let s1 = stands (served (stage.Awaits a.Run) []) (Some []) came1 3 in
      let s2 = stands (served (stage.Awaits a.Pull) []) (Some []) came2 4 in
      let s3 = stands (served (stage.Awaits a.Pull) got) (Some []) came3 5 in
      let s4 = stands (served (stage.Awaits a.Run) got) (Some (got ∷ [])) came4 6 in
      let s5 = stands (served (stage.Awaits a.Pull) []) (Some (got ∷ [])) came5 7 in
      let s6 = stands (served (stage.Awaits a.Pull) wrote) (Some (got ∷ [])) came6 8 in
      first_runs config count_up s0 (comes now success) _ _ _
      (hears_one config count_up now s0 (framed success) a.Begin (Message success) says.Done refl refl (success_tells a.Begin now []))
      (first_runs config count_up s1 (comes now success) _ _ _
      (hears_one config count_up now s1 (framed success) a.Run (Message success) says.Done refl refl (success_tells a.Run now []))
      (first_runs config count_up s2 (comes now (record_of read)) _ _ _
      (hears_one config count_up now s2 (framed (record_of read)) a.Pull (Message (record_of read)) (says.Row (x ∷ [])) refl refl reads)
      (first_runs config count_up s3 (comes now success) _ _ _
      (hears_one config count_up now s3 (framed success) a.Pull (Message success) says.Done refl refl (success_tells a.Pull now got))
      (first_runs config count_up s4 (comes now success) _ _ _
      (hears_one config count_up now s4 (framed success) a.Run (Message success) says.Done refl refl (success_tells a.Run now got))
      (first_runs config count_up s5 (comes now (record_of set)) _ _ _
      (hears_one config count_up now s5 (framed (record_of set)) a.Pull (Message (record_of set)) (says.Row (v.Int (pos set) ∷ []))
      refl refl sets)
      (first_runs config count_up s6 (comes now success) _ _ _
      (hears_one config count_up now s6 (framed success) a.Pull (Message success) says.Done refl refl (success_tells a.Pull now wrote))
      h))))))

-- ---- the run

abbrev started : State
started = begins 0 (new_state config)

-- where the first attempt awaits COMMIT's answer, and what the loss of its link leads to
abbrev broken : State
broken = committing 0 started.place.core null 1 v.Null

abbrev asleep : Ran
asleep = on config count_up 0 broken i.Lost

-- where the second awaits it, and what the answer leads to
abbrev again : State
again = committing 2000 asleep.state.place.core 1 2 (v.Int (pos 1))

abbrev ended : Ran
ended = answer_of config count_up 2000 again (framed (committed second)) a.Commit (says.Committed second)

ends_there : runs config count_up again (comes 2000 (committed second) ∷ []) ≡ ahead ended.actions (same ended.state)
unfolding begins on new_core words_of pcg32_seed word_bytes u32_at messages_of is_too_long rest_of parts_by front_by
ends_there =
    first_runs config count_up again (comes 2000 (committed second)) [] ended (same ended.state)
    (hears_one config count_up 2000 again (framed (committed second)) a.Commit (Message (committed second)) (says.Committed second)
    refl refl
    (second_tells 2000 again.place.core.rows))
    (last_runs config count_up ended.state)

second_attempt : runs config count_up asleep.state (up_to_begin i.Woken 2000 n1 five_minutes
    (up_to_commit 2000 1 2 (comes 2000 (committed second) ∷ [])))
    ≡ ahead (commit_at 1) (ahead ended.actions (same ended.state))
unfolding begins on new_core words_of pcg32_seed word_bytes u32_at messages_of is_too_long rest_of parts_by front_by
second_attempt =
    attempt_there (add_steps (codes "c") (pos 1)) 2000 asleep.state.place.core 300 n1 (table n1 five_minutes) asleep.state i.Woken _ _
    refl refl refl refl (one_tells 2000) refl
    (transacts 2000 asleep.state.place.core 1 2 (v.Int (pos 1)) _ _ (number_tells 2000 1 (omega arith)) (number_tells 2000 2 (omega arith))
    ends_there)

first_attempt : (more : List Moved) (rest : Ran) → runs config count_up asleep.state more ≡ rest
    → runs config count_up started (up_to_begin i.Start 0 n1 five_minutes (up_to_commit 0 null 1 ((i.Lost, 0) ∷ more)))
    ≡ ahead (commit_at 0) (ahead asleep.actions rest)
unfolding begins on new_core words_of pcg32_seed word_bytes u32_at messages_of is_too_long rest_of parts_by front_by
first_attempt more rest h =
    attempt_there (add_steps (codes "c") (pos 1)) 0 started.place.core 300 n1 (table n1 five_minutes) started i.Start _ _
    refl refl refl refl (one_tells 0) refl
    (transacts 0 started.place.core null 1 v.Null _ _ (null_tells 0) (number_tells 0 1 (omega arith))
    (first_runs config count_up broken (i.Lost, 0) more asleep rest refl h))

pub broken_commit : BrokenCommit
unfolding begins on new_core words_of pcg32_seed word_bytes u32_at messages_of is_too_long rest_of parts_by front_by
broken_commit =
    one_work config _ _ (first_attempt _ _ second_attempt)
    ∙ ap (λ (place : Option ℕ). commit_at 0 ++ Sleep 828 ∷ commit_at 1 ++ closes
    ++ Finish (Ok (record { attempts = 2; place = place; bookmark = second; rows = (v.Int (pos 2) ∷ []) ∷ [] })) ∷ [])
    (ap place_in second_named)
