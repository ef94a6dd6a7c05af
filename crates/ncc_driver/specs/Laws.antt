-- What holds of every session, whatever it is told: how the bytes of answers were cut, what is presented, and what is waited for.
use Rattle.std.specs.Prelude.{◌≡◌, ℕ, Bool, true, false, not, List, [], ◌∷◌, ◌++◌, map, filter, Ok}
use Rattle.ncc_pack.specs.declared.value.Value.{Value}
use Rattle.ncc_pack.specs.declared.value.Value.TheVariants as v
use Rattle.ncc_bolt.specs.Fields.{Pairs}
use Rattle.ncc_bolt.specs.declared.message.Request.TheVariants as r
use Rattle.ncc_driver.specs.declared.config.SessionConfig.{SessionConfig}
use Rattle.ncc_driver.specs.declared.standing.Stage.{Stage}
use Rattle.ncc_driver.specs.declared.standing.Stage.TheVariants as stage
use Rattle.ncc_driver.specs.declared.action.Action.{Action}
use Rattle.ncc_driver.specs.declared.action.Action.TheVariants.{Connect, Close, Receive, Finish}
use Rattle.ncc_driver.specs.declared.action.Input.{Input}
use Rattle.ncc_driver.specs.declared.action.Input.TheVariants as i
use Rattle.ncc_driver.specs.Work.{Job}
use Rattle.ncc_driver.specs.Requests.{sent, begin}
use Rattle.ncc_driver.specs.Session.{State, Moved, Begun, same, on, session, acts}

-- ---- how the bytes of answers were cut

abbrev pub one_byte : ℕ → ℕ → Moved
one_byte now byte = (i.Bytes (byte ∷ []), now)

-- A piece is cut into its bytes; an empty one vanishes.
abbrev pub cut_input : Input → ℕ → List Moved
cut_input (i.Bytes bytes) now = map (one_byte now) bytes
cut_input input now = (input, now) ∷ []

abbrev pub cut_inputs : List Moved → List Moved
cut_inputs [] = []
cut_inputs (x ∷ xs) = cut_input x.0 x.1 ++ cut_inputs xs

abbrev pub cut_work : Begun → Begun
cut_work work = record { job = work.job; began = work.began; inputs = cut_inputs work.inputs }

-- Byte by byte they are the same: the same works, told the same, and between two other inputs the same bytes at the same moments.
abbrev pub CutOtherwise : List Begun → List Begun → Type 0
CutOtherwise works others = map cut_work works ≡ map cut_work others

-- What came on a link counts while an answer is awaited.
abbrev pub SameLink : Stage → State → State → Type 0
SameLink (stage.Awaits asked) s t = (s.came ≡ t.came) × (s.taken ≡ t.taken)
SameLink _ s t = Unit {0}

-- Two sessions stand at the same place, and the same came on their links.
pub record Alike (s t : State) : Type 0 where
  pub place : s.place ≡ t.place
  pub link : SameLink s.place.core.stage s t

abbrev pub is_receive : Action → Bool
is_receive Receive = true
is_receive _ = false

abbrev pub but_receives : List Action → List Action
but_receives actions = filter (λ action. not (is_receive action)) actions

-- Cut otherwise, the bytes lead to the same, and to the same actions in the same order, but for Receives.
abbrev pub CutsChangeOnlyReceives : Type 0
CutsChangeOnlyReceives =
    (config : SessionConfig) (works others : List Begun) → CutOtherwise works others
    → Alike (session config works).state (session config others).state
    × (but_receives (acts config works) ≡ but_receives (acts config others))

-- A piece may be cut in two anywhere in any work, and an empty piece may come anywhere.
abbrev pub told_these : Begun → List Moved → Begun
told_these work inputs = record { job = work.job; began = work.began; inputs = inputs }

abbrev pub PiecesMayBeCut : Type 0
PiecesMayBeCut =
    (before after : List Begun) (work : Begun) (xs ys : List Moved) (front back : List ℕ) (now : ℕ)
    → CutOtherwise (before ++ told_these work (xs ++ (i.Bytes (front ++ back), now) ∷ ys) ∷ after)
    (before ++ told_these work (xs ++ (i.Bytes front, now) ∷ (i.Bytes back, now) ∷ ys) ∷ after)

abbrev pub EmptyPiecesMayCome : Type 0
EmptyPiecesMayCome =
    (before after : List Begun) (work : Begun) (xs ys : List Moved) (now : ℕ)
    → CutOtherwise (before ++ told_these work (xs ++ ys) ∷ after) (before ++ told_these work (xs ++ (i.Bytes [], now) ∷ ys) ∷ after)

-- Sessions that stand alike answer each input alike.
abbrev pub AlikeActAlike : Type 0
AlikeActAlike =
    (config : SessionConfig) (job : Job) (now : ℕ) (s t : State) (input : Input) → Alike s t
    → let x = on config job now s input in let y = on config job now t input in
    Alike x.state y.state × (x.actions ≡ y.actions)

-- ---- what is presented

-- behind these actions: the bookmark of the last success among them, and where there is none, the given ones
abbrev pub presented : List Value → List Action → List Value
presented given [] = given
presented given (Finish (Ok done) ∷ actions) = presented (v.Text done.bookmark ∷ []) actions
presented given (action ∷ actions) = presented given actions

-- Wherever a BEGIN is sent, with whatever metadata, it presents the bookmark of the last success before it, or before the first
-- the configuration's.
abbrev pub PresentsLast : Type 0
PresentsLast =
    (config : SessionConfig) (works : List Begun) (front back : List Action) (extra : Pairs)
    → acts config works ≡ front ++ sent (r.Begin extra) ∷ back
    → (writes : Bool) × (sent (r.Begin extra) ≡ sent (begin (presented config.bookmarks front) writes))

-- What a session will present is the bookmark of its last success.
abbrev pub KeepsLast : Type 0
KeepsLast =
    (config : SessionConfig) (works : List Begun)
    → (session config works).state.place.core.bookmarks ≡ presented config.bookmarks (acts config works)

-- ---- what is waited for

abbrev pub is_awaited : Stage → Input → Bool
is_awaited stage.Begun i.Start = true
is_awaited stage.Sleeps i.Woken = true
is_awaited (stage.Joins leg) i.Connected = true
is_awaited (stage.Joins leg) i.Lost = true
is_awaited (stage.Awaits asked) (i.Bytes bytes) = true
is_awaited (stage.Awaits asked) i.Lost = true
is_awaited _ input = false

-- At an input that is not waited for nothing is done and nothing changed.
abbrev pub OthersChangeNothing : Type 0
OthersChangeNothing =
    (config : SessionConfig) (job : Job) (now : ℕ) (s : State) (input : Input) → is_awaited s.place.core.stage input ≡ false
    → on config job now s input ≡ same s

-- whether a link is there behind these actions, if one was there before: from its Connect to its Close
abbrev pub linked_by : Bool → List Action → Bool
linked_by linked [] = linked
linked_by linked (Connect address ∷ actions) = linked_by true actions
linked_by linked (Close ∷ actions) = linked_by false actions
linked_by linked (action ∷ actions) = linked_by linked actions

-- A link that is lost is there no more.
abbrev pub unless_lost : Input → Bool → Bool
unless_lost i.Lost linked = false
unless_lost input linked = linked

-- Lost is waited for exactly while a link is there.
abbrev pub LostWhileLinked : Type 0
LostWhileLinked =
    (config : SessionConfig) (job : Job) (now : ℕ) (s : State) (input : Input)
    → let r = on config job now s input in
    is_awaited r.state.place.core.stage i.Lost ≡ linked_by (unless_lost input (is_awaited s.place.core.stage i.Lost)) r.actions
