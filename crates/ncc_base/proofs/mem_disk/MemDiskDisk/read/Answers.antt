use Rattle.std.proofs.Common.{refl}
use Rattle.ncc_base.proofs.Calls.{went_same}
use Rattle.ncc_base.proofs.mem_disk.MemDiskDisk.read.Goals as goal

pub returns-in_err-bytes-clause-went : goal.returns-in_err-bytes-clause-went
returns-in_err-bytes-clause-went c = went_same _ _ refl

pub returns-clause-went : goal.returns-clause-went
returns-clause-went c = went_same _ _ refl
