use Rattle.std.proofs.Common.{true, false}
use Rattle.ncc_base.proofs.Calls.{crash_of_write, on_err, on_ok, torn_by, went_write, written}
use Rattle.ncc_base.proofs.mem_disk.MemDiskDisk.write.Goals as goal

pub returns-clause-written : goal.returns-clause-written
returns-clause-written c = on_ok c.make_write.result _ c.make_write.ensures.ok
    (λ e t. written c.args.at c.args.bytes.now c.args.self.now.device _ c.make_write.ensures.device e)

pub returns-clause-torn : goal.returns-clause-torn
returns-clause-torn c t = torn_by c.args.at c.args.bytes.now c.args.self.now.device _ c.make_write.ensures.device (c.requires.start t)

pub returns-clause-crash : goal.returns-clause-crash
returns-clause-crash c t = crash_of_write c.args.at c.args.bytes.now c.args.self.now.device _ c.make_write.ensures.device
    (c.requires.start t)

pub returns-clause-went : goal.returns-clause-went
returns-clause-went c = on_ok c.make_write.result _ c.make_write.ensures.ok
    (λ e. went_write c.args.at c.args.bytes.now c.args.self.now.device _ true c.make_write.ensures.device e)

pub returns-clause-went_failed : goal.returns-clause-went_failed
returns-clause-went_failed c = on_err c.make_write.result _ c.make_write.ensures.ok
    (λ e. went_write c.args.at c.args.bytes.now c.args.self.now.device _ false c.make_write.ensures.device e)
