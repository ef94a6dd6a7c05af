use Rattle.std.proofs.Common.{true, false}
use Rattle.ncc_base.proofs.Calls.{durable_by, on_err, on_ok, no_more_by, seen_by_sync, stays_by, went_sync}
use Rattle.ncc_base.proofs.mem_disk.MemDiskDisk.sync.Goals as goal

pub returns-clause-durable : goal.returns-clause-durable
returns-clause-durable c = on_ok c.make_sync.result _ c.make_sync.ensures.ok
    (λ e t. durable_by c.args.self.now.device _ c.make_sync.ensures.device e)

pub returns-clause-seen : goal.returns-clause-seen
returns-clause-seen c t = seen_by_sync c.args.self.now.device _ c.make_sync.ensures.device

pub returns-clause-no_more : goal.returns-clause-no_more
returns-clause-no_more c t = no_more_by c.args.self.now.device _ c.make_sync.ensures.device

pub returns-clause-same : goal.returns-clause-same
returns-clause-same c = on_err c.make_sync.result _ c.make_sync.ensures.ok
    (λ e t. stays_by c.args.self.now.device _ c.make_sync.ensures.device e)

pub returns-clause-went : goal.returns-clause-went
returns-clause-went c = on_ok c.make_sync.result _ c.make_sync.ensures.ok
    (λ e. went_sync c.args.self.now.device _ true c.make_sync.ensures.device e)

pub returns-clause-went_failed : goal.returns-clause-went_failed
returns-clause-went_failed c = on_err c.make_sync.result _ c.make_sync.ensures.ok
    (λ e. went_sync c.args.self.now.device _ false c.make_sync.ensures.device e)
