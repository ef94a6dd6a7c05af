-- What the works of a session read: all that its earlier works were told that they committed.
use Rattle.std.specs.Prelude.{◌≡◌, ℕ, ◌<◌, ◌≤◌, Option, Some, None, Result, Ok, Err}
use Rattle.std.specs.List.{Contains}
use Rattle.ncc_session.specs.declared.ask.Fact.{Fact}
use Rattle.ncc_session.specs.declared.ask.Fact.TheVariants.{Entered, Rows}
use Rattle.ncc_driver.specs.declared.action.WorkDone.{WorkDone}
use Rattle.ncc_driver.specs.declared.action.WorkError.{WorkError}
use Rattle.ncc_clients.specs.declared.told.Told.{Told}
use Rattle.ncc_clients.specs.Links.{Linked, Ended}
use Rattle.ncc_clients.specs.Run.{Run}

-- the place of the bookmark of a work that was committed, where it is one of this project's
abbrev pub committed_at : Result WorkDone WorkError → Option ℕ
committed_at (Ok done) = done.place
committed_at (Err error) = None

-- It stands at this place or behind it: a transaction entered there, or its rows are those of a beginning that holds the place.
abbrev pub Holds : ℕ → Fact → Type 0
Holds place (Entered at) = place ≤ at
Holds place (Rows at rows) = place ≤ at
Holds place _ = Unit {0}

-- a connection of a later work of the same session
pub record IsLater (e : Ended) (l : Linked) : Type 0 where
  pub session : l.session ≡ e.session
  pub later : e.work < l.work

-- Where a work ended in success with a place, each transaction of a later work of its session enters at that place or behind it, and reads
-- a beginning of the history that holds it.
abbrev pub SessionsReadTheirWrites : {S : Type 0} → Run S → Type 0
SessionsReadTheirWrites end =
    (e : Ended) (place : ℕ) (l : Linked) (t : Told) → Contains end.driving.ended e → committed_at e.result ≡ Some place
    → Contains end.driving.linked l → IsLater e l → Contains end.told t → t.conn ≡ l.conn → Holds place t.fact
