use Rattle.std.proofs.Common.{◌≡◌, false, length}
use denote.Shadow.{shadow}
use denote.Text.{Utf8}
use Rattle.ncc_cypher.specs.Body.{body_at}
use Rattle.ncc_cypher.specs.Piece.{rest_of}
use Rattle.ncc_cypher.proofs.text.past_body.Given as goal

abbrev pub invariant-loop-behind : goal.invariant-loop-behind
invariant-loop-behind l = record {
  same : rest_of (body_at l.quote false l.rest) ≡ rest_of (body_at l.quote false l.text);
  text : shadow (Utf8 l.rest);
}

abbrev pub decreases-loop-behind : goal.decreases-loop-behind
decreases-loop-behind l = length l.rest
