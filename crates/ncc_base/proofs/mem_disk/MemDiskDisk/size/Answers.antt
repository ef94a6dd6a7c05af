use Rattle.std.proofs.Common.{refl}
use Rattle.ncc_base.proofs.Calls.{went_same}
use Rattle.ncc_base.proofs.mem_disk.MemDiskDisk.size.Goals as goal

pub returns-clause-went : goal.returns-clause-went
returns-clause-went c = went_same _ _ refl
