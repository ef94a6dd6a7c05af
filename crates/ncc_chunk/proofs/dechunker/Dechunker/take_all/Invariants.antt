use Rattle.std.proofs.Common.{◌≡◌, ◌≤◌, ◌-◌, length, take}
use Rattle.ncc_chunk.specs.Chunks.{limit}
use Rattle.ncc_chunk.specs.Keeping.{Took}
use Rattle.ncc_chunk.specs.declared.dechunker.Position.TheVariants.{Stopped}
use Rattle.ncc_chunk.proofs.dechunker.Dechunker.take_all.Given as goal

abbrev pub invariant-loop-at : goal.invariant-loop-at
invariant-loop-at l = record {
  within : l.at ≤ length l.piece;
  took : Took l.fn.self (take l.at l.piece) l.self;
  bounded : length l.fn.self.body ≤ limit → length l.self.body ≤ limit;
  stopped : l.fn.self.place ≡ Stopped → l.self ≡ l.fn.self;
}

abbrev pub decreases-loop-at : goal.decreases-loop-at
decreases-loop-at l = length l.piece - l.at
