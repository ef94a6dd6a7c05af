-- A client that opens at most one transaction, and one that asks for a routing table alone: what their sessions ask and tell them.
use Rattle.std.specs.Prelude.{◌≡◌, ◌⊎◌, ◌<◌, ◌≤◌, ℕ, IsTrue, List, [], ◌∷◌, ◌++◌, length, drop, codes, Some, Ok}
use Rattle.std.specs.List.{AllByRecursion, Contains, flat_map}
use Rattle.ncc_pack.specs.declared.value.Value.TheVariants as v
use Rattle.ncc_bolt.specs.Fields.{Pairs}
use Rattle.ncc_bolt.specs.Reading.{response_at}
use Rattle.ncc_bolt.specs.Writing.{fits_request, short_request}
use Rattle.ncc_bolt.specs.declared.message.Request.{Request}
use Rattle.ncc_bolt.specs.declared.message.Request.TheVariants as r
use Rattle.ncc_bolt.specs.declared.message.Response.TheVariants as s
use Rattle.ncc_bookmark.specs.Spelling.{text_of}
use Rattle.ncc_chunk.specs.Chunked.{chunked}
use Rattle.ncc_chunk.specs.Chunks.{limit}
use Rattle.ncc_chunk.specs.Messages.{messages_of}
use Rattle.ncc_store.specs.declared.call.Call.{Call}
use Rattle.ncc_session.specs.declared.config.ConnConfig.{ConnConfig}
use Rattle.ncc_session.specs.declared.ask.Fact.{Fact}
use Rattle.ncc_session.specs.declared.ask.Fact.TheVariants as f
use Rattle.ncc_session.specs.Checks.{under}
use Rattle.ncc_session.specs.Question.{Question, enter, leave, route, Row, Output, bytes_of, questions_of}
use Rattle.ncc_session.specs.Session.{session}
use Rattle.ncc_session.specs.Transactions.{Presents, IsGreatest}

-- ---- what a client sends

-- the handshake that proposes 4.4 alone: 60 60 B0 17 and four proposals
abbrev pub shake : List ℕ
shake = 0x60 ∷ 0x60 ∷ 0xB0 ∷ 0x17 ∷ 0 ∷ 0 ∷ 4 ∷ 4 ∷ 0 ∷ 0 ∷ 0 ∷ 0 ∷ 0 ∷ 0 ∷ 0 ∷ 0 ∷ 0 ∷ 0 ∷ 0 ∷ 0 ∷ []

-- the request has a spelling, which a message has room for
abbrev pub CanBeSent : Request → Type 0
CanBeSent request = IsTrue (fits_request request) × (length (short_request request) ≤ limit)

-- nothing; or a message that is too long, and whatever stands behind it
abbrev pub IsUnread : List ℕ → Type 0
IsUnread behind =
    (behind ≡ []) ⊎ ((message : List ℕ) × (more : List ℕ) × (limit < length message) × (behind ≡ chunked message ++ more))

-- a handshake and these requests are sent, behind which nothing is read, and these bytes of it have come in, or all
pub record Sent (requests : List Request) (bytes : List ℕ) : Type 0 where
  pub can : AllByRecursion CanBeSent requests
  pub behind : List ℕ
  pub unread : IsUnread behind
  pub rest : List ℕ
  pub begins : bytes ++ rest ≡ shake ++ (flat_map (λ request. chunked (short_request request)) requests ++ behind)

-- nothing more, or GOODBYE, which may come at any point and is the last
abbrev pub MayLeave : List Request → Type 0
MayLeave [] = Unit {0}
MayLeave (r.Goodbye ∷ []) = Unit {0}
MayLeave _ = ⊥

-- any number of RUN and PULL, and COMMIT
abbrev pub AreSteps : List Request → Type 0
AreSteps (r.Run query params extra ∷ requests) = AreSteps requests
AreSteps (r.Pull extra ∷ requests) = AreSteps requests
AreSteps (r.Commit ∷ requests) = MayLeave requests
AreSteps requests = MayLeave requests

-- BEGIN with this dictionary, and steps
abbrev pub IsTransaction : Pairs → List Request → Type 0
IsTransaction extra (r.Begin given ∷ requests) = (given ≡ extra) × AreSteps requests
IsTransaction extra requests = MayLeave requests

-- ROUTE
abbrev pub IsRouting : List Request → Type 0
IsRouting (r.Route routing bookmarks extra ∷ requests) = MayLeave requests
IsRouting requests = MayLeave requests

-- HELLO, and what follows it
abbrev pub LogsIn : (List Request → Type 0) → List Request → Type 0
LogsIn Follows (r.Hello extra ∷ requests) = Follows requests
LogsIn Follows requests = MayLeave requests

-- The bytes are those of a client that opens at most one transaction, which begins with this dictionary.
abbrev pub Transacts : Pairs → List ℕ → Type 0
Transacts extra bytes = (requests : List Request) × LogsIn (IsTransaction extra) requests × Sent requests bytes

-- The bytes are those of a client that asks for a routing table at most.
abbrev pub Routes : List ℕ → Type 0
Routes bytes = (requests : List Request) × LogsIn IsRouting requests × Sent requests bytes

-- ---- what is asked

-- a question that does not ask to enter
abbrev pub AsksElse : Question → Type 0
AsksElse (enter need) = ⊥
AsksElse _ = Unit {0}

-- Nothing is asked; or first to enter, and not again: what that needs is the greatest place that the dictionary presents, 0 for none.
abbrev pub AsksOnce : ℕ → Pairs → List Question → Type 0
AsksOnce cluster extra [] = Unit {0}
AsksOnce cluster extra (enter need ∷ questions) =
    ((places : List ℕ) × Presents cluster extra places × IsGreatest need places) × AllByRecursion AsksElse questions
AsksOnce cluster extra _ = ⊥

-- The session of a client that opens at most one transaction asks to enter at most once, before all else.
abbrev pub EntersOnce : Type 0
EntersOnce =
    (config : ConnConfig) (extra : Pairs) (bytes : List ℕ) (facts : List Fact) → Transacts extra bytes
    → AsksOnce config.members.cluster extra (questions_of (session config bytes facts).written)

-- ---- what is told

-- the messages that a session wrote, behind the four bytes that answer the handshake
abbrev pub answers_in : List Output → List (List ℕ)
answers_in written = messages_of (drop 4 (bytes_of written))

-- the message is a SUCCESS with this text under `bookmark`
abbrev pub TellsBookmark : List ℕ → List ℕ → Type 0
TellsBookmark message text =
    (meta : Pairs) × (response_at message ≡ Ok (s.Success meta)) × (under (codes "bookmark") meta ≡ Some (v.Text text))

-- a question asked whether a transaction is done
abbrev pub WasEnded : List Question → Type 0
WasEnded questions = (calls : List Call) × (told : List (List Row)) × Contains questions (leave calls told)

-- it was told that it is, at this place
abbrev pub WasDoneAt : List Fact → ℕ → Type 0
WasDoneAt facts place = Contains facts (f.Placed place) ⊎ Contains facts (f.Done place)

-- A bookmark that a session of any client tells is that of its cluster with the place of a fact by which it was told that a transaction
-- is done.
abbrev pub TellsItsBookmark : Type 0
TellsItsBookmark =
    (config : ConnConfig) (bytes : List ℕ) (facts : List Fact) (message text : List ℕ)
    → Contains (answers_in (session config bytes facts).written) message → TellsBookmark message text
    → WasEnded (questions_of (session config bytes facts).written)
    × (place : ℕ) × WasDoneAt facts place × (text ≡ text_of (record { cluster = config.members.cluster; place = place }))

-- The session of a client that asks for a routing table at most asks nothing else, and tells no bookmark.
abbrev pub RoutesAlone : Type 0
RoutesAlone =
    (config : ConnConfig) (bytes : List ℕ) (facts : List Fact) → Routes bytes
    → AllByRecursion (λ question. question ≡ route) (questions_of (session config bytes facts).written)
    × ((message text : List ℕ) → Contains (answers_in (session config bytes facts).written) message → TellsBookmark message text → ⊥)
