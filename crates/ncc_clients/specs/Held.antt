-- A session of a driver as its callers see it: what it keeps, which session of a run it stands for, and what each call makes of that.
use Rattle.std.specs.Prelude.{◌≡◌, ℕ, ◌+◌, Bool, true, List, [], ◌∷◌, ◌++◌, Option, Some, None}
use Rattle.ncc_driver.specs.declared.standing.Stage.{Stage}
use Rattle.ncc_driver.specs.declared.action.Action.{Action}
use Rattle.ncc_driver.specs.declared.action.Action.TheVariants.{Connect, Send, Close, Sleep, Finish}
use Rattle.ncc_driver.specs.Fitting.{end_fits}
use Rattle.ncc_driver.specs.State.{BehindAt}
use Rattle.ncc_driver.specs.Session.{Begun, told_in}
use Rattle.ncc_driver.specs.Talk.{Held as Session, Stands, StandsAt}
use Rattle.ncc_clients.specs.Links.{Link, Driver, Lifted, Parcel, bytes_in, requests_in}
use Rattle.ncc_clients.specs.Drives.{sends, knows, more}
use Rattle.ncc_clients.specs.declared.task.Task.{Task}
use Rattle.ncc_clients.specs.declared.driver.Effect.{Effect}
use Rattle.ncc_clients.specs.declared.driver.Effect.TheVariants.{Nothing, Joins, Parts, Sleeps, Ends}
use Rattle.ncc_clients.specs.Task.{job_of, stands}

-- what a session of a driver keeps
pub record Held : Type 0 where
  pub session : Session
  pub task : Option Task
  pub link : Option Link
  pub wakes : Option ℕ

-- when the last of these works began; 0 where there is none
unfoldable pub began_in : List Begun → ℕ
began_in [] = 0
began_in (w ∷ []) = w.began
began_in (w ∷ u ∷ ws) = began_in (u ∷ ws)

-- The last work stands behind some rows that fit, from where it was started.
abbrev pub StandsStill : Stage → Option Task → Type 0
StandsStill stage None = Unit {0}
StandsStill stage (Some task) = StandsAt stage (stands task)

-- The work is the last one of these, and stands behind the rows of the running attempt.
pub record IsLast (held : Held) (d : Driver) (task : Task) : Type 0 where
  pub before : List Begun
  pub last : Begun
  pub works_are : d.works ≡ before ++ last ∷ []
  pub job_is : last.job ≡ job_of task
  pub behind : BehindAt held.session.core.stage (stands task) (told_in d.config (before ++ last ∷ []))

abbrev pub HasTask : Held → Driver → Option Task → Type 0
HasTask held d None = d.works ≡ []
HasTask held d (Some task) = IsLast held d task

-- It stands for a session of a run; of what that session wants done these actions are left to do.
pub record IsDriver (held : Held) (d : Driver) (left : List Action) : Type 0 where
  pub out : List Action
  pub session_is : Stands held.session d.config d.works out
  pub left_is : held.session.queue ≡ left
  pub task_is : HasTask held d held.task
  pub still : StandsStill held.session.core.stage held.task
  pub link_is : held.link ≡ d.link
  pub wakes_is : held.wakes ≡ d.wakes

-- It stands for a session of some run that has all done that it wants.
abbrev pub IsLive : Held → Type 0
IsLive held = (d : Driver) × IsDriver held d []

-- ---- actions: the part of a session's own link, and what is left to do of it

abbrev pub without_link : Driver → Driver
without_link d = record d { link = None }

abbrev pub own : Driver → Action → Driver
own d (Send bytes) = record d { link = sends bytes d.link }
own d Close = without_link d
own d _ = d

abbrev pub parts_by : Option Link → Effect
parts_by None = Nothing
parts_by (Some link) = Parts link.conn (bytes_in link.up)

abbrev pub effect_of : Driver → Action → Effect
effect_of d (Connect address) = Joins address
effect_of d Close = parts_by d.link
effect_of d (Sleep until) = Sleeps until
effect_of d (Finish ended) = Ends ended
effect_of d _ = Nothing

-- What is said of the end of a work has a spelling; the other effects say nothing of one.
abbrev pub effect_fits : Effect → Bool
effect_fits (Ends ended) = end_fits ended
effect_fits _ = true

-- ---- what the calls make of it

-- The last work was told one thing more.
abbrev pub Hears : Held → Held → Driver → List Begun → Type 0
Hears old new d works = IsDriver old d [] → IsDriver new (knows d works) (more d works)

-- The first action that is left is done at its link.
pub record Does (held : Held) (d : Driver) (left : List Action) (effect : Effect) : Type 0 where
  pub action : Action
  pub behind : List Action
  pub first_is : left ≡ action ∷ behind
  pub done : IsDriver held (own d action) behind
  pub effect_is : effect ≡ effect_of d action

-- what goes up on a link, and what stays there
abbrev pub lifted : (List Parcel → Lifted) → Option Link → Lifted
lifted lift None = record { moved = []; left = [] }
lifted lift (Some link) = lift link.up

abbrev pub with_up : List Parcel → Option Link → Option Link
with_up up None = None
with_up up (Some link) = Some (record link { up = up })

abbrev pub fallen : ℕ → Option Link → Option Link
fallen count None = None
fallen count (Some link) = Some (record link { down = link.down + count })

abbrev pub conn_in : Option Link → Option ℕ
conn_in None = None
conn_in (Some link) = Some link.conn

-- how many requests wait to go up; none where nothing waits at all
abbrev pub waiting_in : List Parcel → Option ℕ
waiting_in [] = None
waiting_in (p ∷ ps) = Some (requests_in (p ∷ ps))

abbrev pub waiting_on : Option Link → Option ℕ
waiting_on None = None
waiting_on (Some link) = waiting_in link.up
