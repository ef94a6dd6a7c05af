-- What opening asks of the disk: room, a sync, and then a read.
use Rattle.std.proofs.Common.{◌≤◌, Bool, true, [], ◌∷◌, Result, Ok, Err}
use Rattle.std.specs.Prelude.{OnOk}
use Rattle.ncc_base.specs.declared.disk.Disk.{Ghosts}
use Rattle.ncc_base.specs.Disk.{AsksNothing, AsksOneMore, Sync}
use Rattle.ncc_log.specs.Calls.{Asks, Looks}
use Rattle.ncc_log.proofs.Moments.{WentOn, asks_none, asks_on, asks_one}

pub any_ok : {A E : Type 0} (r : Result A E) (P : Type 0) → P → OnOk r P
any_ok (Ok x) P h = h
any_ok (Err e) P h = tt

module _ {D : Type 0} (g : Ghosts D) (law : WentOn g) (old made synced : D) where
  pub synced_asked : (ok : Bool) → g.moment old ≤ g.moment made → AsksNothing (g.moment old) (g.asked_since old) (g.asked_since made) →
      g.went old [] made → AsksOneMore (g.moment made) (Sync ok) (g.asked_since made) (g.asked_since synced)
      → g.went made (Sync ok ∷ []) synced → Asks g old synced (Sync ok ∷ [])
  synced_asked ok later none went one more =
      asks_on g law old made synced [] (Sync ok ∷ []) later (asks_none g old made none went) (asks_one g made synced (Sync ok) one more)

  pub read_asked : g.moment old ≤ g.moment synced → Asks g old synced (Sync true ∷ []) → Looks g synced made → g.told →
      Asks g old made (Sync true ∷ [])
  read_asked later asks looks told = asks_on g law old synced made (Sync true ∷ []) [] later asks (looks.asked told)
