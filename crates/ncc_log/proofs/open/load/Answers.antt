use Rattle.std.proofs.Common.{◌≤◌, true, false, inl, inr, [], ◌∷◌, arith}
use Rattle.ncc_base.specs.Disk.{Sync}
use Rattle.ncc_tx.proofs.ItemBytes.{any_error}
use Rattle.ncc_log.specs.Calls.{Asks, AsksOneSync}
use Rattle.ncc_log.proofs.Loaded.{any_ok, read_asked, synced_asked}
use Rattle.ncc_log.proofs.open.load.Goals as goal

pub returns-in_err-sync-clause-asked_err : goal.returns-in_err-sync-clause-asked_err
returns-in_err-sync-clause-asked_err g c =
    any_error c.from_residual-in_err-sync.result (g.D.Disk.told → AsksOneSync g.D.Disk c.args.disk.now c.sync.new.self)
    (λ told. inr (inl (synced_asked g.D.Disk g.met.D.Disk.went_on c.args.disk.now c.reserve.new.self c.sync.new.self false
    (c.reserve.ensures.time told).later c.reserve.ensures.asked c.reserve.ensures.went c.in_err-sync.ensures.asked_failed
    c.in_err-sync.ensures.went_failed)))

pub returns-clause-asked : goal.returns-clause-asked
returns-clause-asked g c =
    any_ok c.read_journal.result (g.D.Disk.told → Asks g.D.Disk c.args.disk.now c.read_journal.new.disk (Sync true ∷ []))
    (λ told.
    let later : g.D.Disk.moment c.args.disk.now ≤ g.D.Disk.moment c.sync.new.self =
    omega (arith, (c.reserve.ensures.time told).later, (c.sync.ensures.time told).later) in
    read_asked g.D.Disk g.met.D.Disk.went_on c.args.disk.now c.read_journal.new.disk c.sync.new.self later
    (synced_asked g.D.Disk g.met.D.Disk.went_on c.args.disk.now c.reserve.new.self c.sync.new.self true
    (c.reserve.ensures.time told).later c.reserve.ensures.asked c.reserve.ensures.went c.in_ok-sync.ensures.asked
    c.in_ok-sync.ensures.went) c.read_journal.ensures.looks told)

pub returns-clause-asked_err : goal.returns-clause-asked_err
returns-clause-asked_err g c =
    any_error c.read_journal.result (g.D.Disk.told → AsksOneSync g.D.Disk c.args.disk.now c.read_journal.new.disk)
    (λ told.
    let later : g.D.Disk.moment c.args.disk.now ≤ g.D.Disk.moment c.sync.new.self =
    omega (arith, (c.reserve.ensures.time told).later, (c.sync.ensures.time told).later) in
    inr (inr (read_asked g.D.Disk g.met.D.Disk.went_on c.args.disk.now c.read_journal.new.disk c.sync.new.self later
    (synced_asked g.D.Disk g.met.D.Disk.went_on c.args.disk.now c.reserve.new.self c.sync.new.self true
    (c.reserve.ensures.time told).later c.reserve.ensures.asked c.reserve.ensures.went c.in_ok-sync.ensures.asked
    c.in_ok-sync.ensures.went) c.read_journal.ensures.looks told)))
