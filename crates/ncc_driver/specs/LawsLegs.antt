-- What is sent on a link, and what a success rests on.
use Rattle.std.specs.Prelude.{◌≡◌, ◌⊎◌, ℕ, Bool, true, false, List, [], ◌∷◌, ◌++◌, map, drop, Result, Ok, codes, IsTrue}
use Rattle.std.specs.List.{Contains}
use Rattle.ncc_pack.specs.declared.value.Value.{Value}
use Rattle.ncc_pack.specs.declared.value.Value.TheVariants as v
use Rattle.ncc_bolt.specs.Fields.{Pairs}
use Rattle.ncc_bolt.specs.Reading.{response_at}
use Rattle.ncc_bolt.specs.Writing.{short_request}
use Rattle.ncc_bolt.specs.declared.message.Request.{Request}
use Rattle.ncc_bolt.specs.declared.message.Request.TheVariants as r
use Rattle.ncc_bolt.specs.declared.message.Response.TheVariants as s
use Rattle.ncc_chunk.specs.Chunked.{chunked}
use Rattle.ncc_chunk.specs.Messages.{messages_of}
use Rattle.ncc_route.specs.declared.auth.Auth.{Auth}
use Rattle.ncc_driver.specs.declared.config.SessionConfig.{SessionConfig}
use Rattle.ncc_driver.specs.declared.action.Action.{Action}
use Rattle.ncc_driver.specs.declared.action.Action.TheVariants.{Connect, Send, Finish}
use Rattle.ncc_driver.specs.declared.action.WorkDone.{WorkDone}
use Rattle.ncc_driver.specs.declared.action.WorkError.{WorkError}
use Rattle.ncc_driver.specs.declared.work.WorkStep.{WorkStep}
use Rattle.ncc_driver.specs.declared.work.WorkStep.TheVariants as w
use Rattle.ncc_driver.specs.Work.{Row, Job}
use Rattle.ncc_driver.specs.Requests.{shake_bytes, hello, route, begin, run, pull, commit}
use Rattle.ncc_driver.specs.Attempts.{place_of}
use Rattle.ncc_driver.specs.Session.{Begun, session, acts}
use Rattle.ncc_driver.specs.Laws.{presented}
use Rattle.ncc_driver.specs.LawsAnswers.{Has}

-- ---- the requests of a link

-- of a link to a router
abbrev pub routing_leg : Auth → List ℕ → List Request
routing_leg auth address = hello auth address ∷ route address ∷ []

-- of a step of a work, and what follows it: nothing follows COMMIT
abbrev pub step_asked : WorkStep → List Request → List Request
step_asked (w.Run query params) more = run query params ∷ pull ∷ more
step_asked w.Commit more = commit ∷ []

-- of a work's steps behind the rows that were told, where the next steps tell these rows, one list a step
abbrev pub steps_asked : Job → List (List Row) → List (List Row) → List Request
steps_asked job told [] = step_asked (job.steps told) []
steps_asked job told (rows ∷ more) = step_asked (job.steps told) (steps_asked job (told ++ rows ∷ []) more)

-- of a link of a transaction that presents these bookmarks, and whose steps tell these rows
abbrev pub working_leg : Auth → List ℕ → List Value → Job → List (List Row) → List Request
working_leg auth address bookmarks job told = hello auth address ∷ begin bookmarks job.writes ∷ steps_asked job [] told

-- the first of these, or the first of these and then GOODBYE
pub record IsPart (requests whole : List Request) : Type 0 where
  pub front : List Request
  pub rest : List Request
  pub split : whole ≡ front ++ rest
  pub is : (requests ≡ front) ⊎ (requests ≡ front ++ r.Goodbye ∷ [])

-- ---- what is sent on a link

-- a request in its chunks
abbrev pub wire : Request → List ℕ
wire request = chunked (short_request request)

-- the handshake, and then requests
abbrev pub on_link : List Request → List (List ℕ)
on_link requests = shake_bytes ∷ map wire requests

-- This was sent on a link to the address, in a work that presents these bookmarks, thing by thing: nothing yet, or the handshake and a part
-- of what a router is asked, or the handshake and a part of a transaction of the work.
pub data IsLeg (auth : Auth) (address : List ℕ) (bookmarks : List Value) (job : Job) : List (List ℕ) → Type 0 where
  Silent : IsLeg auth address bookmarks job []
  Routes : (requests : List Request) → IsPart requests (routing_leg auth address) → IsLeg auth address bookmarks job (on_link requests)
  Works : (requests : List Request) (told : List (List Row)) → IsPart requests (working_leg auth address bookmarks job told)
      → IsLeg auth address bookmarks job (on_link requests)

-- ---- what a work sends

-- In this work, behind these earlier ones, this is done.
abbrev pub DoneIn : SessionConfig → List Begun → Begun → List Action → Type 0
DoneIn config works work done = acts config (works ++ work ∷ []) ≡ acts config works ++ done

-- what a work presents behind earlier ones: the bookmark of the last success among them, or where there is none, the given ones
abbrev pub presented_behind : SessionConfig → List Begun → List Value
presented_behind config works = presented config.bookmarks (acts config works)

-- all that is sent by these actions
abbrev pub sends : List Action → List (List ℕ)
sends [] = []
sends (Send bytes ∷ actions) = bytes ∷ sends actions
sends (action ∷ actions) = sends actions

-- no link is opened
abbrev pub opens_none : List Action → Bool
opens_none [] = true
opens_none (Connect address ∷ actions) = false
opens_none (action ∷ actions) = opens_none actions

-- Behind each Connect of a work, and up to any moment before the next one, what was sent is that of such a link: to the address of the
-- Connect, and with what the work presents.
abbrev pub SendsByLegs : Type 0
SendsByLegs =
    (config : SessionConfig) (works : List Begun) (work : Begun) (front : List Action) (address : List ℕ) (leg back : List Action)
    → DoneIn config works work (front ++ Connect address ∷ leg ++ back) → IsTrue (opens_none leg)
    → IsLeg config.auth address (presented_behind config works) work.job (sends leg)

-- A work sends nothing before its first Connect.
abbrev pub SendsOnLinks : Type 0
SendsOnLinks =
    (config : SessionConfig) (works : List Begun) (work : Begun) (front back : List Action)
    → DoneIn config works work (front ++ back) → IsTrue (opens_none front) → sends front ≡ []

-- what was sent since the last Connect, if this was before
abbrev pub sent_since : List (List ℕ) → List Action → List (List ℕ)
sent_since before [] = before
sent_since before (Connect address ∷ actions) = sent_since [] actions
sent_since before (Send bytes ∷ actions) = sent_since (before ++ bytes ∷ []) actions
sent_since before (action ∷ actions) = sent_since before actions

-- The same of each moment of a work: what it sent since its last Connect is that of such a link.
abbrev pub SendsByLegsSince : Type 0
SendsByLegsSince =
    (config : SessionConfig) (works : List Begun) (work : Begun) (front back : List Action) → DoneIn config works work (front ++ back)
    → (address : List ℕ) × IsLeg config.auth address (presented_behind config works) work.job (sent_since [] front)

-- ---- the end of a work

-- Nothing is done in a work behind its end.
abbrev pub EndsLast : Type 0
EndsLast =
    (config : SessionConfig) (works : List Begun) (work : Begun) (front : List Action) (end : Result WorkDone WorkError)
    (back : List Action)
    → DoneIn config works work (front ++ Finish end ∷ back) → back ≡ []

-- What a success rests on: on the last link a whole transaction of the work was sent, COMMIT too, and among the messages that came on it
-- is a SUCCESS with this bookmark; the place is that which the bookmark's text names, of whatever cluster.
pub record IsCommitted (config : SessionConfig) (bookmarks : List Value) (job : Job) (sent : List (List ℕ)) (came : List ℕ)
    (done : WorkDone) : Type 0 where
  pub address : List ℕ
  pub told : List (List Row)
  pub ends : job.steps told ≡ w.Commit
  pub sent_is : sent ≡ on_link (working_leg config.auth address bookmarks job told ++ r.Goodbye ∷ [])
  pub message : List ℕ
  pub came_is : Contains (messages_of (drop 4 came)) message
  pub meta : Pairs
  pub reads : response_at message ≡ Ok (s.Success meta)
  pub bookmark_is : Has meta (codes "bookmark") (v.Text done.bookmark)
  pub place_is : done.place ≡ place_of done.bookmark

abbrev pub CommitsByAnswer : Type 0
CommitsByAnswer =
    (config : SessionConfig) (works : List Begun) (work : Begun) (front : List Action) (done : WorkDone) (back : List Action)
    → DoneIn config works work (front ++ Finish (Ok done) ∷ back)
    → IsCommitted config (presented_behind config works) work.job (sent_since [] front)
    (session config (works ++ work ∷ [])).state.came done
