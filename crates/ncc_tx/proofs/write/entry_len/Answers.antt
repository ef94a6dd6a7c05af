use Rattle.std.proofs.Common.{map}
use Rattle.ncc_store.specs.Exec.{call_of}
use Rattle.ncc_tx.specs.Spelled.{calls_value, told_value}
use Rattle.ncc_tx.proofs.Pairs.{two_adds}
use Rattle.ncc_tx.proofs.write.entry_len.Goals as goal

pub returns-in-Tx : goal.returns-in-Tx
returns-in-Tx c =
    record {
      length = rw c.in-Tx.is (two_adds (calls_value (map call_of c.in-Tx.steps))
          (told_value c.in-Tx.told) c.steps_len.result c.told_len.result c.saturating_add.result c.saturating_add-in-Tx.result
          c.steps_len.ensures c.told_len.ensures c.saturating_add.ensures c.saturating_add-in-Tx.ensures);
    }
