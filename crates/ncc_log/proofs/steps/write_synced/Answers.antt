use Rattle.std.proofs.Common.{ℕ, List, [], ◌∷◌, true, false, subst, sym, arith, length}
use Rattle.ncc_tx.proofs.ItemBytes.{any_error}
use Rattle.ncc_log.specs.Calls.{AsksUntilFailed}
use Rattle.ncc_base.specs.Disk.{Sync, Torn, Write}
use Rattle.ncc_log.proofs.Moments.{asks_on, asks_one, goes_on, started, torn_none}
use Rattle.ncc_log.proofs.steps.write_synced.Goals as goal

pub returns-in_err-write-clause-stopped : goal.returns-in_err-write-clause-stopped
returns-in_err-write-clause-stopped g c =
    any_error c.from_residual.result
    (g.D.Disk.told → AsksUntilFailed g.D.Disk c.args.disk.now c.write.new.self (Write c.args.at c.args.bytes.now true ∷ Sync true ∷ []))
    (λ told. (
      0,
      omega arith,
      asks_one g.D.Disk c.args.disk.now c.write.new.self (Write c.args.at c.args.bytes.now false)
          c.in_err-write.ensures.asked_failed c.in_err-write.ensures.went_failed,
    ))

pub returns-in_err-sync-clause-stopped : goal.returns-in_err-sync-clause-stopped
returns-in_err-sync-clause-stopped g c =
    any_error c.from_residual-in_err-sync.result
    (g.D.Disk.told → AsksUntilFailed g.D.Disk c.args.disk.now c.sync.new.self (Write c.args.at c.args.bytes.now true ∷ Sync true ∷ []))
    (λ told. (
      1,
      omega arith,
      asks_on g.D.Disk g.met.D.Disk.went_on c.args.disk.now c.write.new.self c.sync.new.self
          (Write c.args.at c.args.bytes.now true ∷ []) (Sync false ∷ []) (c.write.ensures.time told).later
          (asks_one g.D.Disk c.args.disk.now c.write.new.self (Write c.args.at c.args.bytes.now true) c.in_ok-write.ensures.asked
          c.in_ok-write.ensures.went)
          (asks_one g.D.Disk c.write.new.self c.sync.new.self (Sync false) c.in_err-sync.ensures.asked_failed
          c.in_err-sync.ensures.went_failed),
    ))

pub returns-clause-asked : goal.returns-clause-asked
returns-clause-asked g c told =
    asks_on g.D.Disk g.met.D.Disk.went_on c.args.disk.now c.write.new.self c.sync.new.self
    (Write c.args.at c.args.bytes.now true ∷ []) (Sync true ∷ []) (c.write.ensures.time told).later
    (asks_one g.D.Disk c.args.disk.now c.write.new.self (Write c.args.at c.args.bytes.now true) c.in_ok-write.ensures.asked
    c.in_ok-write.ensures.went)
    (asks_one g.D.Disk c.write.new.self c.sync.new.self (Sync true) c.in_ok-sync.ensures.asked c.in_ok-sync.ensures.went)

pub returns-clause-any_moment : goal.returns-clause-any_moment
returns-clause-any_moment g c told =
    let at = c.args.at in
    let n : ℕ = length c.args.bytes.now in
    let seen : List ℕ = g.D.Disk.seen c.args.disk.now in
    let images = g.D.Disk.may_leave c.write.new.self in
    let torn = (λ (x : List ℕ) (h : images x).
    let f = c.write.ensures.crash told x h in
    subst (λ (l : List ℕ). Torn at n l x) (c.requires.only told f.0 f.1) f.2) in
    let first = started g.D.Disk.moment g.D.Disk.left_since c.args.disk.now (Torn at n seen)
    (λ x left. subst (Torn at n seen) (sym (c.requires.only told x (g.met.D.Disk.only_now c.args.disk.now x told left)))
    (torn_none at n seen)) in
    let second = goes_on g.D.Disk.moment g.D.Disk.left_since c.args.disk.now c.args.disk.now c.write.new.self (Torn at n seen) images first
    (c.write.ensures.time told) torn in
    goes_on g.D.Disk.moment g.D.Disk.left_since c.args.disk.now c.write.new.self c.sync.new.self (Torn at n seen)
    (g.D.Disk.may_leave c.sync.new.self) second (c.sync.ensures.time told) (λ x h. torn x (c.sync.ensures.no_more told x h))
