use Rattle.std.proofs.Common.{◌≡◌, false, length}
use denote.Shadow.{shadow}
use denote.Text.{Utf8}
use Rattle.ncc_cypher.specs.Body.{body_at, with_front}
use Rattle.ncc_cypher.proofs.text.text_of.Given as goal

abbrev pub invariant-loop-out : goal.invariant-loop-out
invariant-loop-out l = record {
  same : with_front l.out (body_at l.quote false l.rest) ≡ body_at l.quote false l.text;
  text : shadow (Utf8 l.rest);
}

abbrev pub decreases-loop-out : goal.decreases-loop-out
decreases-loop-out l = length l.rest
