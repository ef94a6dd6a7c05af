use Rattle.std.proofs.Common.{[], ◌∷◌, suc, ◌+◌, length, true, arith}
use Rattle.ncc_tx.proofs.ItemBytes.{any_error}
use Rattle.ncc_log.specs.Calls.{AsksUntilFailed, gated, stopped}
use Rattle.ncc_base.specs.Disk.{Sync, Write}
use Rattle.ncc_log.proofs.Crash.{torn_behind, torn_gate}
use Rattle.ncc_log.proofs.Moments.{asks_on, joins, weaker}
use Rattle.ncc_log.proofs.steps.put_body.Goals as goal

pub returns-in_err-write_synced-clause-any_moment : goal.returns-in_err-write_synced-clause-any_moment
returns-in_err-write_synced-clause-any_moment g c told =
    weaker g.D.Disk.moment g.D.Disk.left_since c.args.disk.now c.write_synced.new.disk _ _
    (c.write_synced.ensures.any_moment told)
    (torn_behind c.args.gate (g.D.Disk.seen c.args.disk.now) c.args.body.now (c.requires.closed told) (length c.args.body.now))

pub returns-in_err-write_synced-2-clause-any_moment : goal.returns-in_err-write_synced-2-clause-any_moment
returns-in_err-write_synced-2-clause-any_moment g c told =
    joins g.D.Disk.moment g.D.Disk.left_since c.args.disk.now c.write_synced.new.disk c.write_synced-2.new.disk _ _ _
    (c.write_synced.ensures.any_moment told) (c.write_synced-2.ensures.any_moment told)
    (torn_behind c.args.gate (g.D.Disk.seen c.args.disk.now) c.args.body.now (c.requires.closed told) (length c.args.body.now))
    (λ f. torn_gate c.args.gate (g.D.Disk.seen c.args.disk.now) c.args.body.now (c.requires.closed told)
    (g.D.Disk.seen c.write_synced.new.disk) f (c.in_ok-write_synced.ensures.done told))

pub returns-clause-any_moment : goal.returns-clause-any_moment
returns-clause-any_moment g c told =
    joins g.D.Disk.moment g.D.Disk.left_since c.args.disk.now c.write_synced.new.disk c.write_synced-2.new.disk _ _ _
    (c.write_synced.ensures.any_moment told) (c.write_synced-2.ensures.any_moment told)
    (torn_behind c.args.gate (g.D.Disk.seen c.args.disk.now) c.args.body.now (c.requires.closed told) (length c.args.body.now))
    (λ f. torn_gate c.args.gate (g.D.Disk.seen c.args.disk.now) c.args.body.now (c.requires.closed told)
    (g.D.Disk.seen c.write_synced.new.disk) f (c.in_ok-write_synced.ensures.done told))

pub returns-clause-asked : goal.returns-clause-asked
returns-clause-asked g c told =
    asks_on g.D.Disk g.met.D.Disk.went_on c.args.disk.now c.write_synced.new.disk c.write_synced-2.new.disk
    (Write (c.args.gate + 1) c.args.body.now true ∷ Sync true ∷ []) (Write c.args.gate (1 ∷ []) true ∷ Sync true ∷ [])
    (c.write_synced.ensures.any_moment told).later (c.in_ok-write_synced.ensures.asked told) (c.in_ok-write_synced-2.ensures.asked told)

pub returns-in_err-write_synced-2-clause-stopped : goal.returns-in_err-write_synced-2-clause-stopped
returns-in_err-write_synced-2-clause-stopped g c =
    any_error c.from_residual-in_err-write_synced-2.result
    (g.D.Disk.told → AsksUntilFailed g.D.Disk c.args.disk.now c.write_synced-2.new.disk (gated c.args.gate c.args.body.now))
    (λ told.
    let s = c.in_err-write_synced-2.ensures.stopped told in (
      suc (suc s.0),
      omega (arith, s.1),
      asks_on g.D.Disk g.met.D.Disk.went_on c.args.disk.now c.write_synced.new.disk c.write_synced-2.new.disk
          (Write (c.args.gate + 1) c.args.body.now true ∷ Sync true ∷ [])
          (stopped s.0 (Write c.args.gate (1 ∷ []) true ∷ Sync true ∷ [])) (c.write_synced.ensures.any_moment told).later
          (c.in_ok-write_synced.ensures.asked told) s.2,
    ))
