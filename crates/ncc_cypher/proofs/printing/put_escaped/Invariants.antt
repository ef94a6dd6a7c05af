use Rattle.std.proofs.Common.{◌≡◌, ◌++◌, length}
use denote.Shadow.{shadow}
use denote.Text.{Utf8}
use Rattle.ncc_cypher.specs.Print.{escaped}
use Rattle.ncc_cypher.proofs.printing.put_escaped.Given as goal

-- what is printed and what is left are the whole
abbrev pub invariant-loop-after : goal.invariant-loop-after
invariant-loop-after l = record {
  same : l.out ++ escaped l.rest ≡ l.fn.out ++ escaped l.text;
  text : shadow (Utf8 l.rest);
}

abbrev pub decreases-loop-after : goal.decreases-loop-after
decreases-loop-after l = length l.rest
