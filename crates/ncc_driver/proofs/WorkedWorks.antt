-- Works through one router and one server.
use Rattle.std.proofs.Common.{◌≡◌, ℕ, List, [], ◌∷◌, ◌++◌, length, drop, refl, ap, ◌∙◌, arith}
use Rattle.std.specs.Prelude.{Option, Some, None, Ok, codes}
use Rattle.rand_core.specs.Pcg32Seed.{pcg32_seed}
use Rattle.rand_core.specs.Steps.{word_bytes, u32_at}
use Rattle.ncc_chunk.specs.Messages.{front_by, parts_by, messages_of, rest_of, is_too_long}
use Rattle.ncc_driver.specs.declared.standing.Core.{Core}
use Rattle.ncc_driver.specs.declared.standing.Leg.TheVariants.{Routing, Working}
use Rattle.ncc_driver.specs.declared.standing.Asked.TheVariants as a
use Rattle.ncc_driver.specs.declared.standing.Stage.TheVariants as stage
use Rattle.ncc_driver.specs.declared.link.Item.TheVariants.{Shaken, Message}
use Rattle.ncc_driver.specs.declared.action.Input.TheVariants as i
use Rattle.ncc_driver.specs.declared.answers.Told.{Told}
use Rattle.ncc_driver.specs.declared.answers.Told.TheVariants as says
use Rattle.ncc_driver.specs.Works.{put_steps}
use Rattle.ncc_driver.specs.State.{words_of, new_core}
use Rattle.ncc_driver.specs.Answers.{message_of}
use Rattle.ncc_driver.specs.Session.{State, Ran, items_of, Moved, new_state, begins, on, same, ahead}
use Rattle.ncc_pack.specs.declared.value.Value.TheVariants as v
use Rattle.base64.specs.Rfc4648.{encode_symbols}
use Rattle.ncc_bookmark.specs.Spelling.{payload, text_of}
use Rattle.ncc_bookmark.specs.Reading.{point_named}
use Rattle.ncc_bookmark.proofs.Naming.{point_of_spelled}
use Rattle.ncc_driver.specs.declared.action.Action.TheVariants.{Finish}
use Rattle.ncc_driver.specs.Requests.{shakes, asks, closes, pull, commit}
use Rattle.ncc_driver.specs.Attempts.{place_in}
use Rattle.ncc_driver.specs.Worked.{second, committed, no_time, put_done, shaken, puts, NextWorkPresents, TableEnds, NoTimeServesOnce}
use Rattle.ncc_driver.specs.Worked.{n2, config, put_pair, success, five_minutes, table, failure, ignored, comes, put_asked}
use Rattle.ncc_driver.specs.Worked.{begin_at, up_to_begin}
use Rattle.ncc_driver.specs.Worked.{TransientKeepsTable, NoLeaderDropsTable, OtherCodesEnd, IgnoredIsBad}
use Rattle.ncc_driver.proofs.WorkedReading.{one_writer, two_tells, brief_tells, success_tells, failure_tells, ignored_tells, second_tells}
use Rattle.ncc_driver.proofs.WorkedRuns.{runs, first_runs, last_runs, one_work, two_works, answer_of, hears_one}
use Rattle.ncc_driver.proofs.WorkedAttempts.{serving, stands, greeted, attempt_there}

-- where the put stands before its start
abbrev started : State
started = begins 0 (new_state config)

abbrev core : Core
core = started.place.core

-- where it awaits the answer of RUN, with a table of so many seconds
abbrev running : ℕ → State
running seconds =
    stands (serving core (one_writer n2 0 seconds) n2 (stage.Awaits a.Run)) (Some []) (greeted ++ 0 ∷ 3 ∷ success ++ 0 ∷ 0 ∷ []) 3

-- SUCCESS of BEGIN
run_then : (seconds : ℕ) (more : List Moved) (rest : Ran) → runs config put_pair (running seconds) more ≡ rest
    → runs config put_pair (stands (serving core (one_writer n2 0 seconds) n2 (stage.Awaits a.Begin)) None greeted 2)
    (comes 0 success ∷ more)
    ≡ ahead put_asked rest
unfolding on messages_of is_too_long rest_of parts_by front_by
run_then seconds more rest h =
    let s = stands (serving core (one_writer n2 0 seconds) n2 (stage.Awaits a.Begin)) None greeted 2 in
    first_runs config put_pair s (comes 0 success) more _ rest
    (hears_one config put_pair 0 s (0 ∷ 3 ∷ success ++ 0 ∷ 0 ∷ []) a.Begin (Message success) says.Done refl refl
    (success_tells a.Begin 0 []))
    h

through : (seconds : ℕ) (ttl : List ℕ) (more : List Moved) (rest : Ran)
    → message_of a.Route 0 [] (table n2 ttl) ≡ says.Routed (one_writer n2 0 seconds)
    → drop 2 (items_of (greeted ++ 0 ∷ length (table n2 ttl) ∷ table n2 ttl ++ 0 ∷ 0 ∷ [])) ≡ Message (table n2 ttl) ∷ []
    → runs config put_pair (running seconds) more ≡ rest
    → runs config put_pair started (up_to_begin i.Start 0 n2 ttl (comes 0 success ∷ more)) ≡ ahead (begin_at n2 ++ put_asked) rest
unfolding on begins new_core
through seconds ttl more rest tells item h =
    attempt_there (put_steps (codes "a") (codes "x")) 0 core seconds n2 (table n2 ttl) started i.Start (comes 0 success ∷ more)
    (ahead put_asked rest) refl refl refl refl tells item (run_then seconds more rest h)

-- ---- answers of RUN

-- RUN is answered by this
answer_run : (answer : List ℕ) (told : Told) (more : List Moved) (rest : Ran) → message_of a.Run 0 [] answer ≡ told
    → drop 3 (items_of ((running 300).came ++ (0 ∷ length answer ∷ answer ++ 0 ∷ 0 ∷ []))) ≡ Message answer ∷ []
    → let r = answer_of config put_pair 0 (running 300) (0 ∷ length answer ∷ answer ++ 0 ∷ 0 ∷ []) a.Run told in
    runs config put_pair r.state more ≡ rest
    → runs config put_pair started (up_to_begin i.Start 0 n2 five_minutes (comes 0 success ∷ comes 0 answer ∷ more))
    ≡ ahead (begin_at n2 ++ put_asked) (ahead r.actions rest)
unfolding messages_of is_too_long rest_of parts_by front_by
answer_run answer told more rest tells item h =
    let bytes = 0 ∷ length answer ∷ answer ++ 0 ∷ 0 ∷ [] in
    through 300 five_minutes (comes 0 answer ∷ more) _ (two_tells 0) refl
    (first_runs config put_pair (running 300) (comes 0 answer) more (answer_of config put_pair 0 (running 300) bytes a.Run told) rest
    (hears_one config put_pair 0 (running 300) bytes a.Run (Message answer) told refl item tells) h)

woken : (s : State) (now : ℕ) → let r = on config put_pair now s i.Woken in runs config put_pair s ((i.Woken, now) ∷ []) ≡ ahead
    r.actions (same r.state)
woken s now =
    let r = on config put_pair now s i.Woken in
    first_runs config put_pair s (i.Woken, now) [] r (same r.state) refl (last_runs config put_pair r.state)

abbrev replication : List ℕ
replication = codes "Neo.TransientError.Cluster.ReplicationFailure"

abbrev leaderless : List ℕ
leaderless = codes "Neo.ClientError.Cluster.NotALeader"

abbrev syntax_error : List ℕ
syntax_error = codes "Neo.ClientError.Statement.SyntaxError"

pub transient_keeps_table : TransientKeepsTable
unfolding begins on new_core words_of pcg32_seed word_bytes u32_at messages_of is_too_long rest_of parts_by front_by
transient_keeps_table =
    one_work config _ _ (answer_run (failure replication) (says.Failed replication) ((i.Woken, 828) ∷ []) _
    (failure_tells a.Run 0 [] replication refl (omega arith) refl) refl (woken _ 828))

pub no_leader_drops_table : NoLeaderDropsTable
unfolding begins on new_core words_of pcg32_seed word_bytes u32_at messages_of is_too_long rest_of parts_by front_by
no_leader_drops_table =
    one_work config _ _ (answer_run (failure leaderless) (says.Failed leaderless) ((i.Woken, 828) ∷ []) _
    (failure_tells a.Run 0 [] leaderless refl (omega arith) refl) refl (woken _ 828))

pub other_codes_end : OtherCodesEnd
unfolding begins on new_core words_of pcg32_seed word_bytes u32_at messages_of is_too_long rest_of parts_by front_by
other_codes_end =
    one_work config _ _ (answer_run (failure syntax_error) (says.Failed syntax_error) [] _
    (failure_tells a.Run 0 [] syntax_error refl (omega arith) refl) refl (last_runs config put_pair _))

pub ignored_is_bad : IgnoredIsBad
unfolding begins on new_core words_of pcg32_seed word_bytes u32_at messages_of is_too_long rest_of parts_by front_by
ignored_is_bad =
    one_work config _ _ (answer_run ignored says.Bad [] _ (ignored_tells a.Run 0 []) refl (last_runs config put_pair _))

-- ---- a put that is committed, and the next one

pub second_named : point_named second ≡ Some (record { cluster = 1; place = 2 })
unfolding text_of payload encode_symbols
second_named = point_of_spelled second (record { cluster = 1; place = 2 }) (record { cluster = omega arith; place = omega arith }) refl

-- the bytes of a link on which this came behind the greeting
abbrev behind_greeting : List ℕ → List ℕ
behind_greeting bytes = greeted ++ bytes

abbrev pub framed : List ℕ → List ℕ
framed message = 0 ∷ length message ∷ message ++ 0 ∷ 0 ∷ []

-- where a put stands that was committed
abbrev committed_core : ℕ → Core
committed_core seconds = record (serving core (one_writer n2 0 seconds) n2 stage.Rests) { bookmarks = v.Text second ∷ [] }

abbrev rested : ℕ → State
rested seconds =
    stands (committed_core seconds) (Some ([] ∷ []))
    ((((greeted ++ framed success) ++ framed success) ++ framed success) ++ framed (committed second)) 6

commits_put : (seconds : ℕ)
    → runs config put_pair (running seconds) (comes 0 success ∷ comes 0 success ∷ comes 0 (committed second) ∷ [])
    ≡ record {
      state = rested seconds;
      actions = asks pull ++ asks commit ++ closes
          ++ Finish (Ok (record { attempts = 1; place = place_in (point_named second); bookmark = second; rows = [] })) ∷ [];
    }
unfolding new_core begins messages_of is_too_long rest_of parts_by front_by
commits_put seconds =
    let pulling = stands (serving core (one_writer n2 0 seconds) n2 (stage.Awaits a.Pull)) (Some [])
    ((greeted ++ framed success) ++ framed success) 4 in
    let committing = stands (serving core (one_writer n2 0 seconds) n2 (stage.Awaits a.Commit)) (Some ([] ∷ []))
    (((greeted ++ framed success) ++ framed success) ++ framed success) 5 in
    first_runs config put_pair (running seconds) (comes 0 success) _ _ _
    (hears_one config put_pair 0 (running seconds) (framed success) a.Run (Message success) says.Done refl refl (success_tells a.Run 0 []))
    (first_runs config put_pair pulling (comes 0 success) _ _ _
    (hears_one config put_pair 0 pulling (framed success) a.Pull (Message success) says.Done refl refl (success_tells a.Pull 0 []))
    (first_runs config put_pair committing (comes 0 (committed second)) [] _ _
    (hears_one config put_pair 0 committing (framed (committed second)) a.Commit (Message (committed second)) (says.Committed second)
    refl refl
    (second_tells 0 []))
    (last_runs config put_pair (rested seconds))))

-- the first work of two
put_done_by : (seconds : ℕ) (ttl : List ℕ) → message_of a.Route 0 [] (table n2 ttl) ≡ says.Routed (one_writer n2 0 seconds)
    → drop 2 (items_of (greeted ++ framed (table n2 ttl))) ≡ Message (table n2 ttl) ∷ []
    → runs config put_pair started
    (up_to_begin i.Start 0 n2 ttl (comes 0 success ∷ comes 0 success ∷ comes 0 success ∷ comes 0 (committed second) ∷ []))
    ≡ record { state = rested seconds; actions = put_done }
put_done_by seconds ttl tells item =
    through seconds ttl (comes 0 success ∷ comes 0 success ∷ comes 0 (committed second) ∷ []) _ tells item (commits_put seconds)
    ∙ ap (λ (place : Option ℕ). record {
      state = rested seconds;
      actions = begin_at n2 ++ put_asked ++ asks pull ++ asks commit ++ closes
          ++ Finish (Ok (record { attempts = 1; place = place; bookmark = second; rows = [] })) ∷ [];
    }) (ap place_in second_named)

-- the next work, up to the answer of HELLO, where the server or the router answers
next_opens : (s : State) (now : ℕ) (asked : State) (first : Ran) → on config put_pair now s i.Start ≡ first
    → on config put_pair now first.state i.Connected ≡ record { state = asked; actions = shakes }
    → (answered : Ran) → on config put_pair now asked (i.Bytes (0 ∷ 0 ∷ 4 ∷ 4 ∷ [])) ≡ answered
    → (greeting : Ran) → on config put_pair now answered.state (i.Bytes (framed success)) ≡ greeting
    → runs config put_pair s ((i.Start, now) ∷ (i.Connected, now) ∷ shaken now ∷ comes now success ∷ [])
    ≡ ahead first.actions (ahead shakes (ahead answered.actions (ahead greeting.actions (same greeting.state))))
next_opens s now asked first e f answered g greeting h =
    first_runs config put_pair s (i.Start, now) _ first _ e
    (first_runs config put_pair first.state (i.Connected, now) _ (record { state = asked; actions = shakes }) _ f
    (first_runs config put_pair asked (shaken now) _ answered _ g
    (first_runs config put_pair answered.state (comes now success) [] greeting _ h (last_runs config put_pair greeting.state))))

pub next_work_presents : NextWorkPresents
unfolding begins on new_core words_of pcg32_seed word_bytes u32_at messages_of is_too_long rest_of parts_by front_by
next_work_presents =
    let s = begins 299_999 (rested 300) in
    let first = on config put_pair 299_999 s i.Start in
    let asked = (on config put_pair 299_999 first.state i.Connected).state in
    let answered = answer_of config put_pair 299_999 asked (0 ∷ 0 ∷ 4 ∷ 4 ∷ []) (a.Shake Working) says.Done in
    two_works config (puts 0 _) (puts 299_999 _) _ _ (put_done_by 300 five_minutes (two_tells 0) refl)
    (next_opens s 299_999 asked first refl refl answered
    (hears_one config put_pair 299_999 asked (0 ∷ 0 ∷ 4 ∷ 4 ∷ []) (a.Shake Working) (Shaken (0 ∷ 0 ∷ 4 ∷ 4 ∷ [])) says.Done refl refl refl)
    (answer_of config put_pair 299_999 answered.state (framed success) (a.Hello Working) says.Done)
    (hears_one config put_pair 299_999 answered.state (framed success) (a.Hello Working) (Message success) says.Done refl refl
    (success_tells (a.Hello Working) 299_999 [])))

pub table_ends : TableEnds
unfolding begins on new_core words_of pcg32_seed word_bytes u32_at messages_of is_too_long rest_of parts_by front_by
table_ends =
    let s = begins 300_000 (rested 300) in
    let first = on config put_pair 300_000 s i.Start in
    let asked = (on config put_pair 300_000 first.state i.Connected).state in
    let answered = answer_of config put_pair 300_000 asked (0 ∷ 0 ∷ 4 ∷ 4 ∷ []) (a.Shake Routing) says.Done in
    two_works config (puts 0 _) (puts 300_000 _) _ _ (put_done_by 300 five_minutes (two_tells 0) refl)
    (next_opens s 300_000 asked first refl refl answered
    (hears_one config put_pair 300_000 asked (0 ∷ 0 ∷ 4 ∷ 4 ∷ []) (a.Shake Routing) (Shaken (0 ∷ 0 ∷ 4 ∷ 4 ∷ [])) says.Done refl refl refl)
    (answer_of config put_pair 300_000 answered.state (framed success) (a.Hello Routing) says.Done)
    (hears_one config put_pair 300_000 answered.state (framed success) (a.Hello Routing) (Message success) says.Done refl refl
    (success_tells (a.Hello Routing) 300_000 [])))

pub no_time_serves_once : NoTimeServesOnce
unfolding begins on new_core words_of pcg32_seed word_bytes u32_at messages_of is_too_long rest_of parts_by front_by
no_time_serves_once =
    let s = begins 0 (rested 0) in
    let first = on config put_pair 0 s i.Start in
    let asked = (on config put_pair 0 first.state i.Connected).state in
    let answered = answer_of config put_pair 0 asked (0 ∷ 0 ∷ 4 ∷ 4 ∷ []) (a.Shake Routing) says.Done in
    two_works config (puts 0 _) (puts 0 _) _ _ (put_done_by 0 no_time (brief_tells 0) refl)
    (next_opens s 0 asked first refl refl answered
    (hears_one config put_pair 0 asked (0 ∷ 0 ∷ 4 ∷ 4 ∷ []) (a.Shake Routing) (Shaken (0 ∷ 0 ∷ 4 ∷ 4 ∷ [])) says.Done refl refl refl)
    (answer_of config put_pair 0 answered.state (framed success) (a.Hello Routing) says.Done)
    (hears_one config put_pair 0 answered.state (framed success) (a.Hello Routing) (Message success) says.Done refl refl
    (success_tells (a.Hello Routing) 0 [])))
