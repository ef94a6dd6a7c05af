-- Worked runs: what a session is told, and what it then wants done.
use Rattle.std.specs.Prelude.{◌≡◌, ℕ, ◌+◌, pos, length, true, List, [], ◌∷◌, ◌++◌, Some, Ok, Err, codes}
use Rattle.ncc_pack.specs.declared.value.Value.TheVariants as v
use Rattle.ncc_route.specs.declared.auth.Auth.TheVariants.{Nobody}
use Rattle.ncc_driver.specs.declared.config.SessionConfig.{SessionConfig}
use Rattle.ncc_driver.specs.declared.action.Action.{Action}
use Rattle.ncc_driver.specs.declared.action.Action.TheVariants.{Connect, Sleep, Receive, Finish}
use Rattle.ncc_driver.specs.declared.action.Input.{Input}
use Rattle.ncc_driver.specs.declared.action.Input.TheVariants as i
use Rattle.ncc_driver.specs.declared.action.Last.TheVariants as last
use Rattle.ncc_driver.specs.declared.action.WorkError.TheVariants as e
use Rattle.ncc_driver.specs.Work.{Job, job_by}
use Rattle.ncc_driver.specs.Works.{put_steps, add_steps}
use Rattle.ncc_driver.specs.Requests.{shakes, asks, closes, hello, route, begin, run, pull, commit}
use Rattle.ncc_driver.specs.Session.{Moved, Begun, acts}

abbrev pub n1 : List ℕ
n1 = codes "n1:7687"

abbrev pub n2 : List ℕ
n2 = codes "n2:7687"

-- One router is known, nobody logs in, and the seed is 7: its words leave 205 and 28 behind multiples of 401.
abbrev pub config : SessionConfig
config = record { routers = v.Text n1 ∷ []; auth = Nobody; seed = 7; bookmarks = [] }

abbrev pub put_pair : Job
put_pair = job_by true (put_steps (codes "a") (codes "x"))

-- a work that puts a pair, begun at a moment
abbrev pub puts : ℕ → List Moved → Begun
puts began inputs = record { job = put_pair; began = began; inputs = inputs }

abbrev pub lost_link : ℕ → Action
lost_link attempts = Finish (Err (e.RetriesSpent attempts last.LinkLost))

-- ---- attempts that come to nothing

-- A router that is not reached: the first delay is 1,000, the next one 2,000, each varied by a word.
abbrev pub DelaysDouble : Type 0
DelaysDouble =
    acts config (puts 0 ((i.Start, 0) ∷ (i.Lost, 0) ∷ (i.Woken, 1005) ∷ (i.Lost, 1005) ∷ []) ∷ [])
    ≡ Connect n1 ∷ Sleep 1005 ∷ Connect n1 ∷ Sleep 2661 ∷ []

-- A work that was begun at 5 is tried again at 30,004, and no more at 30,005.
abbrev pub SpentAtThirtySeconds : Type 0
SpentAtThirtySeconds =
    (acts config (puts 5 ((i.Start, 5) ∷ (i.Lost, 30_004) ∷ []) ∷ []) ≡ Connect n1 ∷ Sleep 31_009 ∷ [])
    × (acts config (puts 5 ((i.Start, 5) ∷ (i.Lost, 30_005) ∷ []) ∷ []) ≡ Connect n1 ∷ lost_link 1 ∷ [])

-- The next work counts its attempts anew and begins with the first delay; its word is the second one, since giving up took none.
abbrev pub NextWorkBeginsAnew : Type 0
NextWorkBeginsAnew =
    acts config
    (puts 0 ((i.Start, 0) ∷ (i.Lost, 0) ∷ (i.Woken, 40_000) ∷ (i.Lost, 40_000) ∷ [])
    ∷ puts 50_000 ((i.Start, 50_000) ∷ (i.Lost, 50_000) ∷ []) ∷ [])
    ≡ Connect n1 ∷ Sleep 1005 ∷ Connect n1 ∷ lost_link 2 ∷ Connect n1 ∷ Sleep 50_828 ∷ []

-- Two routers take turns.
abbrev pub RoutersTakeTurns : Type 0
RoutersTakeTurns =
    acts (record config { routers = v.Text n1 ∷ v.Text n2 ∷ [] })
    (puts 0 ((i.Start, 0) ∷ (i.Lost, 0) ∷ (i.Woken, 1005) ∷ (i.Lost, 1005) ∷ (i.Woken, 2661) ∷ []) ∷ [])
    ≡ Connect n1 ∷ Sleep 1005 ∷ Connect n2 ∷ Sleep 2661 ∷ Connect n1 ∷ []

-- Inputs that are not waited for are passed over.
abbrev pub OthersArePassedOver : Type 0
OthersArePassedOver =
    acts config (puts 0 ((i.Lost, 0) ∷ (i.Woken, 0) ∷ (i.Start, 0) ∷ (i.Start, 0) ∷ (i.Bytes (0 ∷ []), 0) ∷ (i.Woken, 0) ∷ []) ∷ [])
    ≡ Connect n1 ∷ []

-- ---- the handshake

-- Its answer may come in pieces, each of which asks for more.
abbrev pub HandshakeInPieces : Type 0
HandshakeInPieces =
    acts config (puts 0 ((i.Start, 0) ∷ (i.Connected, 0) ∷ (i.Bytes (0 ∷ []), 0) ∷ (i.Bytes (0 ∷ 4 ∷ []), 0) ∷ (
      i.Bytes
          (4 ∷ []),
      0,
    ) ∷ []) ∷ [])
    ≡ Connect n1 ∷ shakes ++ Receive ∷ Receive ∷ asks (hello Nobody n1)

-- A server that speaks no version of the proposals
abbrev pub AnotherVersion : Type 0
AnotherVersion =
    acts config (puts 0 ((i.Start, 0) ∷ (i.Connected, 0) ∷ (i.Bytes (0 ∷ 0 ∷ 0 ∷ 0 ∷ []), 0) ∷ []) ∷ [])
    ≡ Connect n1 ∷ shakes ++ closes ++ Finish (Err (e.BadReply 0)) ∷ []

-- ---- answers, byte by byte

-- a text of less than 16 bytes
abbrev pub text : List ℕ → List ℕ
text t = (0x80 + length t) ∷ t

-- a text of less than 256 bytes
abbrev pub long_text : List ℕ → List ℕ
long_text t = 0xD0 ∷ length t ∷ t

-- SUCCESS with no metadata
abbrev pub success : List ℕ
success = 0xB1 ∷ 0x70 ∷ 0xA0 ∷ []

-- SUCCESS of ROUTE: this ttl, and this address for writing
abbrev pub table : List ℕ → List ℕ → List ℕ
table address ttl =
    0xB1 ∷ 0x70 ∷ 0xA1 ∷ text (codes "rt") ++ 0xA2 ∷ text (codes "ttl") ++ ttl ++ text (codes "servers") ++ 0x91 ∷ 0xA2
    ∷ text (codes "addresses") ++ 0x91 ∷ text address ++ text (codes "role") ++ text (codes "WRITE")

-- 300 seconds, and none
abbrev pub five_minutes : List ℕ
five_minutes = 0xC9 ∷ 1 ∷ 44 ∷ []

abbrev pub no_time : List ℕ
no_time = 0 ∷ []

-- RECORD of one value in one byte: null, or a number from 0 to 127
abbrev pub record_of : ℕ → List ℕ
record_of byte = 0xB1 ∷ 0x71 ∷ 0x91 ∷ byte ∷ []

abbrev pub null : ℕ
null = 0xC0

-- SUCCESS of COMMIT
abbrev pub committed : List ℕ → List ℕ
committed bookmark = 0xB1 ∷ 0x70 ∷ 0xA1 ∷ text (codes "bookmark") ++ long_text bookmark

-- FAILURE
abbrev pub failure : List ℕ → List ℕ
failure code = 0xB1 ∷ 0x7F ∷ 0xA1 ∷ text (codes "code") ++ long_text code

abbrev pub ignored : List ℕ
ignored = 0xB0 ∷ 0x7E ∷ []

-- the bookmark of place 2 of cluster 1
abbrev pub second : List ℕ
second = codes "ncc:AQAAAAAAAAABAAAAAAAAAAIA"

-- a message of less than 256 bytes in its chunk, as it comes at a moment
abbrev pub comes : ℕ → List ℕ → Moved
comes now message = (i.Bytes (0 ∷ length message ∷ message ++ 0 ∷ 0 ∷ []), now)

-- the answer of the handshake
abbrev pub shaken : ℕ → Moved
shaken now = (i.Bytes (0 ∷ 0 ∷ 4 ∷ 4 ∷ []), now)

-- ---- attempts that come to a transaction

-- An attempt that begins with this input, asks the router n1, is told this address, and is answered there up to HELLO.
abbrev pub up_to_begin : Input → ℕ → List ℕ → List ℕ → List Moved → List Moved
up_to_begin start now address ttl more =
    (start, now) ∷ (i.Connected, now) ∷ shaken now ∷ comes now success ∷ comes now (table address ttl) ∷ (i.Connected, now) ∷ shaken now
    ∷ comes now success ∷ more

-- what it does until it has asked BEGIN
abbrev pub begin_at : List ℕ → List Action
begin_at address =
    Connect n1 ∷ shakes ++ asks (hello Nobody n1) ++ asks (route n1) ++ closes ++ Connect address ∷ shakes ++ asks (hello Nobody address)
    ++ asks (begin [] true)

abbrev pub put_asked : List Action
put_asked =
    asks (run (codes "MERGE (n:Pair {k: $k}) SET n.v = $v") ((codes "k", v.Text (codes "a")) ∷ (codes "v", v.Text (codes "x")) ∷ []))

-- a put whose RUN is answered by this, and then more
abbrev pub run_answered : List ℕ → List Moved → List Begun
run_answered answer more = puts 0 (up_to_begin i.Start 0 n2 five_minutes (comes 0 success ∷ comes 0 answer ∷ more)) ∷ []

-- A code that may be tried again keeps the table, so the next attempt goes to its server; the delay is varied by the second word.
abbrev pub TransientKeepsTable : Type 0
TransientKeepsTable =
    acts config (run_answered (failure (codes "Neo.TransientError.Cluster.ReplicationFailure")) ((i.Woken, 828) ∷ []))
    ≡ begin_at n2 ++ put_asked ++ closes ++ Sleep 828 ∷ Connect n2 ∷ []

-- NotALeader drops it, so the next attempt asks the router.
abbrev pub NoLeaderDropsTable : Type 0
NoLeaderDropsTable =
    acts config (run_answered (failure (codes "Neo.ClientError.Cluster.NotALeader")) ((i.Woken, 828) ∷ []))
    ≡ begin_at n2 ++ put_asked ++ closes ++ Sleep 828 ∷ Connect n1 ∷ []

-- Another code ends the work.
abbrev pub OtherCodesEnd : Type 0
OtherCodesEnd =
    acts config (run_answered (failure (codes "Neo.ClientError.Statement.SyntaxError")) [])
    ≡ begin_at n2 ++ put_asked ++ closes ++ Finish (Err (e.Refused 1 (codes "Neo.ClientError.Statement.SyntaxError"))) ∷ []

-- IGNORED answers no RUN: HELLO's answer was message 0, BEGIN's message 1, and this one is message 2.
abbrev pub IgnoredIsBad : Type 0
IgnoredIsBad = acts config (run_answered ignored []) ≡ begin_at n2 ++ put_asked ++ closes ++ Finish (Err (e.BadReply 2)) ∷ []

-- ---- a work that is committed, and the next one

-- a put whose table has this ttl, and which is committed at place 2, and a put that is begun and started at a moment
abbrev pub two_puts : List ℕ → ℕ → List Begun
two_puts ttl later =
    puts 0 (up_to_begin i.Start 0 n2 ttl (comes 0 success ∷ comes 0 success ∷ comes 0 success ∷ comes 0 (committed second) ∷ []))
    ∷ puts later ((i.Start, later) ∷ (i.Connected, later) ∷ shaken later ∷ comes later success ∷ []) ∷ []

abbrev pub put_done : List Action
put_done =
    begin_at n2 ++ put_asked ++ asks pull ++ asks commit ++ closes
    ++ Finish (Ok (record { attempts = 1; place = Some 2; bookmark = second; rows = [] })) ∷ []

-- Before the table's end the next work goes to its server, and presents the bookmark.
abbrev pub NextWorkPresents : Type 0
NextWorkPresents =
    acts config (two_puts five_minutes 299_999)
    ≡ put_done ++ Connect n2 ∷ shakes ++ asks (hello Nobody n2) ++ asks (begin (v.Text second ∷ []) true)

-- At its end the next work asks the router.
abbrev pub TableEnds : Type 0
TableEnds =
    acts config (two_puts five_minutes 300_000)
    ≡ put_done ++ Connect n1 ∷ shakes ++ asks (hello Nobody n1) ++ asks (route n1)

-- A table with ttl 0 serves the attempt that got it, and no later one.
abbrev pub NoTimeServesOnce : Type 0
NoTimeServesOnce =
    acts config (two_puts no_time 0)
    ≡ put_done ++ Connect n1 ∷ shakes ++ asks (hello Nobody n1) ++ asks (route n1)

-- ---- a link that breaks during COMMIT

abbrev pub count_up : Job
count_up = job_by true (add_steps (codes "c") (pos 1))

abbrev pub reads_count : List Action
reads_count = asks (run (codes "MERGE (n:Counter {k: $k}) RETURN n.v") ((codes "k", v.Text (codes "c")) ∷ []))

abbrev pub sets_count : ℕ → List Action
sets_count old =
    asks (run (codes "MATCH (n:Counter {k: $k}) SET n.v = $old + $d RETURN n.v")
    ((codes "k", v.Text (codes "c")) ∷ (codes "old", v.Int (pos old)) ∷ (codes "d", v.Int (pos 1)) ∷ []))

-- The transaction of an attempt that reads this and sets the next number, up to COMMIT.
abbrev pub up_to_commit : ℕ → ℕ → ℕ → List Moved → List Moved
up_to_commit now read set more =
    comes now success ∷ comes now success ∷ comes now (record_of read) ∷ comes now success ∷ comes now success
    ∷ comes now (record_of set) ∷ comes now success ∷ more

abbrev pub commit_at : ℕ → List Action
commit_at old = begin_at n1 ++ reads_count ++ asks pull ++ Receive ∷ sets_count old ++ asks pull ++ Receive ∷ asks commit

-- A counter is made and set to 1, and the link breaks before COMMIT is answered: 828 milliseconds later the work runs again from its
-- start, reads 1, sets 2, and is committed at place 2.
abbrev pub BrokenCommit : Type 0
BrokenCommit =
    acts config (record {
      job = count_up;
      began = 0;
      inputs = up_to_begin i.Start 0 n1 five_minutes (up_to_commit 0 null 1 ((i.Lost, 0)
          ∷ up_to_begin i.Woken 2000 n1 five_minutes (up_to_commit 2000 1 2 (comes 2000 (committed second) ∷ []))));
    } ∷ [])
    ≡ commit_at 0 ++ Sleep 828 ∷ commit_at 1 ++ closes
    ++ Finish (Ok (record { attempts = 2; place = Some 2; bookmark = second; rows = (v.Int (pos 2) ∷ []) ∷ [] })) ∷ []
