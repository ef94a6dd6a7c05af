use Rattle.std.proofs.Common.{◌≡◌, ◌≢◌, ◌++◌, ℕ, List, take}
use Rattle.ncc_chunk.specs.declared.handshake.Shake.TheVariants.{More}
use Rattle.ncc_chunk.specs.Handshake.{answer_to, handshake_of}
use Rattle.ncc_chunk.proofs.handshake.Handshake.feed.Given as goal

-- what was taken of the piece so far, and that more was wanted each time
abbrev pub invariant-loop-i : goal.invariant-loop-i
invariant-loop-i l = record {
  taken : l.self ≡ l.fn.self ++ take l.i l.piece;
  handshake : (stream : List ℕ) → l.fn.self ≡ handshake_of stream → l.self ≡ handshake_of (stream ++ take l.i l.piece);
  settled : answer_to l.fn.self ≢ More → l.i ≡ 0;
}
