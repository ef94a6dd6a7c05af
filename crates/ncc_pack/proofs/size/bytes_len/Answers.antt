use Rattle.ncc_pack.specs.Spells.{bytes_mark}
use Rattle.ncc_pack.proofs.Sizes.{bytes_is}
use Rattle.ncc_pack.proofs.size.bytes_len.Goals as goal

pub returns-clause-is : goal.returns-clause-is
returns-clause-is c = rw c.len-2.ensures.length (bytes_is c.wide_head_len.result c.args.written.now
    (rw (← c.len.ensures.length) (c.wide_head_len.ensures.is bytes_mark)))
