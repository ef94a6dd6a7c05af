use Rattle.std.proofs.Common.{◌≡◌, ◌<◌, ◌++◌, length}
use Rattle.ncc_chunk.specs.Chunked.{chunks_of}
use Rattle.ncc_pack.specs.Writing.{Begins}
use Rattle.ncc_chunk.proofs.chunking.append.Given as goal

-- what is there and what is left to append are what was there and all of it
abbrev pub invariant-loop-left : goal.invariant-loop-left
invariant-loop-left l = record {
  some : 0 < length l.left;
  kept : Begins l.fn.into l.into;
  whole : l.into ++ chunks_of l.left ≡ l.fn.into ++ chunks_of l.fn.message;
}

abbrev pub decreases-loop-left : goal.decreases-loop-left
decreases-loop-left l = length l.left
