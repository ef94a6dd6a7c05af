-- What a function of the code makes of a turn.
use Rattle.std.specs.Prelude.{◌≡◌, ℕ, Bool, List, ◌++◌, map}
use Rattle.ncc_store.specs.Exec.{call_of}
use Rattle.ncc_tx.specs.declared.entry.Entry.{Entry}
use Rattle.ncc_tx.specs.declared.entry.Entry.TheVariants as e
use Rattle.ncc_session.specs.Question.{bytes_of}
use Rattle.ncc_session.specs.Core.{Situation}
use Rattle.ncc_session.specs.Turns.{Turned, may_leave}

-- the turn was made: where it leads, and its bytes behind what was there
pub record Took (turn : Turned) (before : List ℕ) (place : Situation) (after : List ℕ) : Type 0 where
  pub place_is : place ≡ turn.place
  pub out_is : after ≡ before ++ bytes_of turn.written

-- the entry of a transaction may be asked for
abbrev pub MayLeave : Entry → Bool → Type 0
MayLeave e.Noop answer = Unit {0}
MayLeave (e.Tx steps told) answer = answer ≡ may_leave (map call_of steps) told
