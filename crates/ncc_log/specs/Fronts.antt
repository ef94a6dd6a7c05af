-- What stands in a payload before its items.
use Rattle.std.specs.Prelude.{ℕ, ◌+◌, ◌<◌, ◌≤◌, List, length, take, drop}
use Rattle.std.specs.Int.{w32, w64, from_be_bytes}
use Rattle.std.proofs.Common.{get_or}
use Rattle.ncc_tx.specs.declared.entry.Saved.{Saved}
use Rattle.ncc_tx.specs.Kept.{max_items, max_vote, term_limit}
use Rattle.ncc_log.specs.declared.records.Front.{Front}

-- the numbers that these bytes begin with
abbrev pub front_at : List ℕ → Front
front_at b = record {
  term = from_be_bytes w64 (take 8 b);
  vote = get_or b 8 0;
  keep = from_be_bytes w64 (take 8 (drop 9 b));
  count = from_be_bytes w32 (take 4 (drop 17 b));
}

-- its numbers are those of a change that may stand behind this part
pub record FrontMayStand (s : Saved) (f : Front) : Type 0 where
  pub rises : s.term ≤ f.term
  pub term : f.term < term_limit
  pub vote : f.vote ≤ max_vote
  pub keep : f.keep ≤ length s.log
  pub few : f.keep + f.count ≤ max_items
